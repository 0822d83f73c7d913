-- A token's bytes by themselves are the same token. Assumes nothing.
use Prim.Native.Nat.{ℕ, ◌+◌}
use native.Mathlib.Omega.{arith}
use mathlib.Core.Path.{◌≡◌, sym, ◌∙◌, ap, subst}
use mathlib.Core.Bool.{false}
use mathlib.Core.List.{List}
use mathlib.Core.Logic.{inr}
use lib.ListN.{length, take, drop}
use lib.Seq.{length-take-le, take_all}
use Rattle.keywords.specs.Kinds.{kind}
use Rattle.grammar.specs.declared.profile.Profile.{Profile}
use Rattle.grammar.specs.Classes.{Class, rules, malformed}
use Rattle.grammar.specs.Answers.{token, answer}
use Rattle.grammar.specs.Longest.{anywhere, Stands, Longest, Gives}
use Rattle.grammar.proofs.Lexemes as Lexemes
use Rattle.grammar.proofs.Theorems.{sound, one_class, look-ahead}
use Rattle.grammar.proofs.Tokens.{told, whole-token}
use Rattle.stream.proofs.Shift.{shift-answer}
use Rattle.stream.specs.Calls.{shift}
use Rattle.spans.specs.Spans.{span, IsTokenWith, IsToken, IsName}
use Rattle.spans.proofs.TokenLaws.{inside}
use Rattle.strings.proofs.LexemeLaws.{first_byte}

module _ (p : Profile) where
  -- what stands in a class does so by itself
  stands-alone : (c : Class) (s : List ℕ) (n : ℕ) → Stands (anywhere (rules p)) c s n → Stands (anywhere (rules p)) c (take n s) n
  stands-alone c s n h =
      let meets = (Lexemes.anywhere-meets (rules p) (sound p) c s n).0 h in
      let same : take n (take n s) ≡ take n s = take_all n (take n s) (omega (arith, length-take-le n s h.0)) in
      (Lexemes.anywhere-meets (rules p) (sound p) c (take n s) n).1
      (omega (arith, length-take-le n s h.0), subst (λ (w : List ℕ). Lexemes.Meets (rules p) (sound p) c w (λ r. Unit {0})) (sym same) meets.1)

  longest-alone : (c : Class) (s : List ℕ) (n : ℕ) → Longest (rules p) s c n → Longest (rules p) (take n s) c n
  longest-alone c s n h =
      let st = stands-alone c s n ((look-ahead p s c n).0 h).stands in
      (look-ahead p (take n s) c n).1
      (record {
        stands = st;
        longest = λ d m x. omega (arith, x.0, length-take-le n s h.stands.0);
        alone = λ d x. one_class p (take n s) n d c x st;
      })

  -- and gives the same token there
  answer-alone : (c : Class) (at : ℕ) (w : List ℕ) (k start n next d u : ℕ) → malformed c ≡ false → token k start n next d u ≡ answer c at w
      → (length w ≡ n) × (token k 0 n (0 + n) d u ≡ answer c 0 w)
  answer-alone c at w k start n next d u l e =
      let (j, a, b, f, x) = whole-token c 0 w l in
      let g : token k start n next d u ≡ shift at (token j 0 (length w) (0 + length w) a b) = e ∙ shift-answer c at w ∙ ap (shift at) f in
      let long : length w ≡ n = cc in
      let kinds : k ≡ j = cc in
      let digits : d ≡ a = cc in
      let underscores : u ≡ b = cc in
      (long, rw (kinds, digits, underscores, ← long) (sym f))

  pub token-alone : (s : List ℕ) (at k start n next d u : ℕ) → Gives (rules p) s at (token k start n next d u)
      → Gives (rules p) (take n (drop at s)) 0 (token k 0 n (0 + n) d u)
  token-alone s at k start n next d u g =
      let t = told p s at k start n next d u g in
      let w = take n (drop at s) in
      let (long, same) = answer-alone t.class at w k start n next d u t.legal t.gives in
      let whole : take n w ≡ w = take_all n w (omega arith) in
      let some = t.some in
      inr (inr (omega arith, (t.class, n, longest-alone t.class (drop at s) n t.longest, same ∙ ap (answer t.class 0) (sym whole))))

-- of a span that is a token
module _ (p : Profile) (s : List ℕ) (start n : ℕ) where
  pub number-alone : (k d : ℕ) → IsTokenWith p s start n k d → IsTokenWith p (span s start n) 0 n k d
  unfolding IsTokenWith
  number-alone k d (u, g) = (u, token-alone p s start k start n (start + n) d u g)

  pub is-alone : (k : ℕ) → IsToken p s start n k → IsToken p (span s start n) 0 n k
  unfolding IsToken
  is-alone k (d, h) = (d, number-alone k d h)

  pub name-alone : IsName p s start n → IsName p (span s start n) 0 n
  unfolding IsName
  name-alone (h, q) =
      (is-alone (kind "TK_ID") h, rw (first_byte s start n (inside p s start n (kind "TK_ID") h).1) q)
