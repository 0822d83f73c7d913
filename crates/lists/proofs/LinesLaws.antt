-- The record of a token and the line behind it, of whatever Next gives. Assumes nothing.
use Prim.Native.Nat.{ℕ, zero, suc, ◌+◌, ◌≤◌, ◌<◌}
use native.Mathlib.Omega.{arith}
use native.Mathlib.Nat.{suc-add}
use mathlib.Core.Path.{◌≡◌, refl, sym, ◌∙◌, ap}
use mathlib.Core.Bool.{true, false}
use mathlib.Core.List.{List, [], ◌∷◌}
use lib.Dec.{eqb}
use lib.ListN.{length, take, drop, get_or}
use lib.Seq.{slice}
use borrow.Author.Tests.{eq-eqb, ne_eqb, eqb-true, eqb-false, not-true}
use Rattle.keywords.proofs.Logic.{split}
use Rattle.places.specs.declared.Line.{Line}
use Rattle.places.specs.Places.{newline, newlines, line_at}
use Rattle.places.specs.Lines.{line_over, line_of}
use Rattle.places.proofs.LineLaws.{over-clear}
use Rattle.places.proofs.Theorems.{goes-along, column-of}
use Rattle.grammar.specs.Answers.{token}
use Rattle.grammar.specs.Longest.{Source, Next}
use Rattle.grammar.proofs.Tokens.{told}
use Rattle.walks.proofs.WalkLaws.{legal}
use Rattle.lists.specs.Lists.{record_of, longest_text}
use Rattle.lists.specs.Lines.{record_on, has_no_newline, is_clear, line_behind}
use Rattle.lists.proofs.NewlineLaws.{no-newline, one_byte}

-- what `line_behind_token` gives, by its tests
module _ (s : List ℕ) (k start n : ℕ) (line : Line) where
  abbrev b : ℕ
  b = get_or s start 0

  pub one-clear : n ≡ 1 → (b ≡ newline → ⊥) → line ≡ line_behind s k start n line
  unfolding line_behind
  one-clear e other = rw (eq-eqb n 1 e, ne_eqb b newline other)

  pub one-newline : (r : Line) → r ≡ line_over line start (slice start (start + n) s) → n ≡ 1 → b ≡ newline → r ≡ line_behind s k start n line
  unfolding line_behind
  one-newline r o e f = rw (eq-eqb n 1 e, eq-eqb b newline f) o

  pub more-clear : (n ≡ 1 → ⊥) → has_no_newline k b ≡ true → line ≡ line_behind s k start n line
  unfolding line_behind
  more-clear other e = rw (ne_eqb n 1 other, e)

  pub more_bytes : (r : Line) → r ≡ line_over line start (slice start (start + n) s) → (n ≡ 1 → ⊥) → has_no_newline k b ≡ false
      → r ≡ line_behind s k start n line
  unfolding line_behind
  more_bytes r o other e = rw (ne_eqb n 1 other, e) o

take_none : (n : ℕ) → [] ≡ take {A = ℕ} n []
take_none zero = refl
take_none (suc n) = refl

-- n bytes from a place on
part : (f n : ℕ) (l : List ℕ) → slice f (f + n) l ≡ take n (drop f l)
part zero n l = let e : zero + n ≡ n = omega arith in ap (λ (m : ℕ). take m l) e
part (suc f) n [] = rw suc-add (take_none n)
part (suc f) n (x ∷ l) = rw suc-add (part f n l)

module _ (s : Source) (at k start n next d u : ℕ) (g : Next s at (token k start n next d u)) where
  -- a clear token has no 0A in it
  clear : is_clear k n (get_or s.text at 0) ≡ true → newlines (slice at (at + n) s.text) ≡ 0
  clear e =
      let o = told s.profile s.text at k start n next d u g in
      let inside : at < length s.text = omega (arith, o.goes, o.some, o.inside) in
      ap newlines (part at n s.text) ∙
      split (eqb n 1)
      (λ f.
      let other = not-true (eqb (get_or s.text at 0) newline) (rw f at e) in
      ap (λ (m : ℕ). newlines (take m (drop at s.text))) (eqb-true n 1 f) ∙
      one_byte s.text at inside (eqb-false (get_or s.text at 0) newline other))
      (λ f. no-newline s.profile s.text at k start n next d u g (rw f at e))

  -- so the line behind the token is that of the place behind it
  pub behind-token : length s.text ≤ longest_text → line_behind s.text k at n (line_of s.text at) ≡ line_of s.text next
  unfolding line_behind
  behind-token short =
      let o = told s.profile s.text at k start n next d u g in
      let line = line_of s.text at in
      let over : line_over line at (slice at (at + n) s.text) ≡ line_of s.text (at + n) =
      goes-along s.text at (at + n) (omega arith) (omega arith) (omega (arith, o.goes, o.inside)) in
      split (is_clear k n (get_or s.text at 0))
      (λ e. rw e (sym (over-clear line at (slice at (at + n) s.text) (clear e)) ∙ over))
      (λ e. rw e over) ∙
      ap (line_of s.text) (sym o.goes)

  -- and the record made is the token's
  pub record-made : record_on (line_of s.text at) k at n ≡ record_of s.text (legal k start n d u)
  unfolding line_of
  record-made =
      let o = told s.profile s.text at k start n next d u g in
      ap (λ (c : ℕ). record { kind = k; start = at; length = n; line = line_at s.text at; column = c }) (sym (column-of s.text at).1) ∙
      ap (λ (a : ℕ). record_of s.text (legal k a n d u)) (sym o.starts)
