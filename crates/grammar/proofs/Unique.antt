-- A text has at most one longest lexeme, and Next at most one answer, whatever the rules are. Assumes nothing.
use Prim.Native.Nat.{ℕ}
use native.Mathlib.Omega.{arith}
use mathlib.Core.Path.{◌≡◌, sym, ◌∙◌, ap, subst}
use mathlib.Core.List.{List}
use mathlib.Core.Logic.{inl, inr}
use lib.ListN.{take, drop}
use Rattle.grammar.specs.Classes.{Class, Rule}
use Rattle.grammar.specs.Answers.{Answer, answer}
use Rattle.grammar.specs.Longest.{Stands, Longest, Lexeme, Gives}

pub longest-unique : {rs : List Rule} {s : List ℕ} {c d : Class} {n m : ℕ} → Longest rs s c n → Longest rs s d m → (c ≡ d) × (n ≡ m)
longest-unique {rs} {s} {c} {d} {n} {m} x y =
    let a = x.longest d m y.stands in
    let b = y.longest c n x.stands in
    let e : n ≡ m = omega arith in
    (y.alone c (subst (Stands rs c s) e x.stands), e)

lexeme-unique : (rs : List Rule) (s : List ℕ) (at : ℕ) (a b : Answer) → Lexeme rs s at a → Lexeme rs s at b → a ≡ b
lexeme-unique rs s at a b (c, n, x, p) (d, m, y, q) =
    let (e, f) = longest-unique x y in
    p ∙ ap (λ (c : Class). answer c at (take n s)) e ∙ ap (λ (n : ℕ). answer d at (take n s)) f ∙ sym q

pub gives-unique : (rs : List Rule) (s : List ℕ) (at : ℕ) (a b : Answer) → Gives rs s at a → Gives rs s at b → a ≡ b
gives-unique rs s at a b (inl (h, p)) (inl (k, q)) = p ∙ sym q
gives-unique rs s at a b (inl (h, p)) (inr (inl (k, q))) = absurd (omega arith)
gives-unique rs s at a b (inl (h, p)) (inr (inr (k, q))) = absurd (omega arith)
gives-unique rs s at a b (inr (inl (h, p))) (inl (k, q)) = absurd (omega arith)
gives-unique rs s at a b (inr (inl (h, p))) (inr (inl (k, q))) = p ∙ sym q
gives-unique rs s at a b (inr (inl (h, p))) (inr (inr (k, q))) = absurd (omega arith)
gives-unique rs s at a b (inr (inr (h, p))) (inl (k, q)) = absurd (omega arith)
gives-unique rs s at a b (inr (inr (h, p))) (inr (inl (k, q))) = absurd (omega arith)
gives-unique rs s at a b (inr (inr (h, p))) (inr (inr (k, q))) = lexeme-unique rs (drop at s) at a b p q
