-- Blobs that Next gives: what stands around their H, and when their literal is the one that is written. Assumes nothing.
use Prim.Native.Nat.{ℕ, ◌+◌, ◌-◌, ◌*◌, ◌/◌, ◌%◌, ◌≤◌}
use native.Mathlib.Omega.{arith}
use mathlib.Core.Path.{◌≡◌, refl, sym, ◌∙◌, ap, subst}
use mathlib.Core.Bool.{Bool, true, ◌&&◌, ◌||◌}
use mathlib.Core.List.{List, [], ◌∷◌, ◌++◌}
use lib.Dec.{leb}
use lib.ListN.{length, get_or, take, drop, length-append, length-drop}
use lib.Seq.{length-take-le, take-add, take-take, drop_at, drop-drop, take_at}
use borrow.Author.Tests.{eqb-true, leb-true, lt-ltb, le-ltb}
use Rattle.keywords.specs.Kinds.{kind}
use Rattle.keywords.proofs.Logic.{split, and_left, and_right, every}
use Rattle.words.specs.Bytes.{is, between, is_digit}
use Rattle.grammar.specs.declared.profile.Profile.{Profile}
use Rattle.grammar.specs.Form.{H, one, ◌·◌, many, Many, stop, more, Has, lit}
use Rattle.grammar.specs.Classes.{x}
use Rattle.spans.specs.Spans.{span, IsToken}
use Rattle.spans.proofs.TokenLaws.{inside, span-long, blob-form}
use Rattle.hexdigits.specs.Digits.{worth, digit}
use Rattle.hexdigits.proofs.DigitLaws.{worth-decimal, worth-capital}
use Rattle.blobs.specs.Blobs.{pairs, blob_bytes, hexed, blob_literal}
use Rattle.blobs.proofs.BlobLaws.{worth-below, blob-between}

-- a byte, `'`, pairs of H, and `'`
quote : (w : List ℕ) → Has (lit "'") w → w ≡ 39 ∷ []
quote w ([], v, e, h, n) = absurd h
quote w (b ∷ [], v, e, h, n) = e ∙ rw (eqb-true b 39 h, n)
quote w (b ∷ c ∷ u, v, e, h, n) = absurd h

enclosed : (w : List ℕ) → Has (x · lit "'" · many (one H · one H) · lit "'") w
    → (b : ℕ) × (hs : List ℕ) × (w ≡ b ∷ 39 ∷ hs ++ 39 ∷ []) × Many (Has (one H · one H)) hs
enclosed w ([], v, e, h, r) = absurd h
enclosed w (b ∷ [], v, e, h, (c, u, f, g, (hs, d, i, m, j))) = (b, hs, e ∙ rw (f, i, quote c g, quote d j), m)
enclosed w (b ∷ c ∷ u, v, e, h, r) = absurd h

module _ (p : Profile) (s : List ℕ) (start n : ℕ) (h : IsToken p s start n (kind "TK_BLOB")) where
  pub blob-three : 3 ≤ n
  blob-three =
      let (b, hs, e, m) = enclosed (span s start n) (blob-form p s start n h) in
      omega (arith, span-long p s start n (kind "TK_BLOB") h, ap length e, length-append hs (39 ∷ []))

  -- the H as the code takes them
  pub blob-part : pairs (take (start + n - 1 - (start + 2)) (drop (start + 2) s)) ≡ blob_bytes (span s start n)
  unfolding blob_bytes
  blob-part =
      let three = blob-three in
      let l = drop start s in
      let room : start + n ≤ length s = (inside p s start n (kind "TK_BLOB") h).0 in
      let long : length l ≡ length s - start = length-drop start s in
      let count : start + n - 1 - (start + 2) ≡ n - 3 = omega arith in
      let two : 2 + (n - 2) ≡ n = omega arith in
      let rest : drop 2 (take n l) ≡ take (n - 2) (drop 2 l) =
      ap (λ (m : ℕ). drop 2 (take m l)) (sym two) ∙ ap (drop 2) (take-add 2 (n - 2) l) ∙ drop_at (take 2 l) (take (n - 2) (drop 2 l)) 2 (length-take-le 2 l (omega arith)) in
      let behind : drop 2 l ≡ drop (start + 2) s = drop-drop 2 start s in
      ap pairs (sym (rw (span-long p s start n (kind "TK_BLOB") h, rest, behind, count) (take-take (n - 3) (n - 2) (drop (start + 2) s) (omega arith))))

-- as it is written: small `x`, and H that are digits or capitals
abbrev pub is_plain : ℕ → Bool
is_plain b = is_digit b || between "A" "F" b

abbrev pub as_written : List ℕ → Bool
as_written w = is "x" (get_or w 0 0) && every is_plain (take (length w - 3) (drop 2 w))

digit-worth : (b : ℕ) → is_plain b ≡ true → digit (worth b) ≡ b
unfolding digit is_digit
digit-worth b t =
    split (is_digit b)
    (λ e.
    let l = leb-true 48 b (and_left (leb 48 b) (leb b 57) e) in
    let h = leb-true b 57 (and_right (leb 48 b) (leb b 57) e) in
    rw (← worth-decimal b e, lt-ltb (b - 48) 10 (omega arith)) (omega arith))
    (λ e.
    let f : between "A" "F" b ≡ true = rw e at t in
    let l = leb-true 65 b (and_left (leb 65 b) (leb b 70) f) in
    let h = leb-true b 70 (and_right (leb 65 b) (leb b 70) f) in
    rw (← worth-capital b e l h, le-ltb (b - 65 + 10) 10 (omega arith), lt-ltb (b - 65 + 10) 16 (omega arith)) (omega arith))

-- pairs of such H, read and written again
pair-again : (u v : List ℕ) → Has (one H · one H) u → every is_plain (u ++ v) ≡ true → (every is_plain v ≡ true → hexed (pairs v) ≡ v)
    → hexed (pairs (u ++ v)) ≡ u ++ v
unfolding pairs hexed
pair-again u v ([], l, d, h, k) t g = absurd h
pair-again u v (a ∷ b ∷ w, l, d, h, k) t g = absurd h
pair-again u v (a ∷ [], [], d, h, k) t g = absurd k
pair-again u v (a ∷ [], b ∷ c ∷ w, d, h, k) t g = absurd k
pair-again u v (a ∷ [], b ∷ [], d, h, k) t g =
    let m = worth-below b in
    let high : (worth a * 16 + worth b) / 16 ≡ worth a = omega arith in
    let low : (worth a * 16 + worth b) % 16 ≡ worth b = omega arith in
    let all : every is_plain (a ∷ b ∷ v) ≡ true = rw d at t in
    let rest = and_right (is_plain a) (every is_plain (b ∷ v)) all in
    let first = digit-worth a (and_left (is_plain a) (every is_plain (b ∷ v)) all) in
    let second = digit-worth b (and_left (is_plain b) (every is_plain v) rest) in
    rw d (rw (high, low, first, second, g (and_right (is_plain b) (every is_plain v) rest)))

pairs-again : {w : List ℕ} → Many (Has (one H · one H)) w → every is_plain w ≡ true → hexed (pairs w) ≡ w
unfolding pairs hexed
pairs-again stop t = refl
pairs-again (more {u} {v} e h m) t = rw e (pair-again u v h (rw e at t) (pairs-again m))

pub blob-again : (p : Profile) (s : List ℕ) (start n : ℕ) → IsToken p s start n (kind "TK_BLOB") → as_written (span s start n) ≡ true
    → blob_literal (blob_bytes (span s start n)) ≡ span s start n
unfolding blob_literal
blob-again p s start n h t =
    let (b, hs, e, m) = enclosed (span s start n) (blob-form p s start n h) in
    let w = b ∷ 39 ∷ hs ++ 39 ∷ [] in
    let between = take (length w - 3) (hs ++ 39 ∷ []) in
    let all : is "x" b && every is_plain between ≡ true = subst (λ (l : List ℕ). as_written l ≡ true) e t in
    let small : b ≡ 120 = eqb-true b 120 (and_left (is "x" b) (every is_plain between) all) in
    let them : between ≡ hs = take_at hs (39 ∷ []) (length w - 3) (omega (arith, length-append hs (39 ∷ []))) in
    let plain : every is_plain hs ≡ true = ap (every is_plain) (sym them) ∙ and_right (is "x" b) (every is_plain between) all in
    rw (e, blob-between b hs, pairs-again m plain, small)
