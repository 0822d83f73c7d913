-- What a call that reads owes, from what it found. Assumes nothing.
use Prim.Native.Nat.{ℕ, ◌+◌, ◌-◌}
use native.Mathlib.Omega.{arith}
use mathlib.Core.Path.{◌≡◌, refl, sym, ◌∙◌, ap, subst}
use mathlib.Core.List.{List}
use mathlib.Core.Logic.{inl}
use lib.ListN.{take, drop}
use Rattle.std.specs.Prelude.{Option, Some, None, Result, Ok, Err, IsErrAnd}
use Rattle.std.specs.Option.{ok_or}
use Rattle.std.specs.Result.{result_ok}
use Rattle.std.proofs.lemmas.Result.{err_from_is_err_and}
use Rattle.grammar.specs.declared.profile.Profile.{Profile}
use Rattle.buffers.specs.Buffers.{Said, refused_as}
use Rattle.spans.specs.Spans.{span, IsTokenWith, IsToken, Finds, Reads, ReadsBytes}

-- the span as the code takes it
pub part-is : (s : List ℕ) (start n : ℕ) → take (start + n - start) (drop start s) ≡ span s start n
part-is s start n = let e : start + n - start ≡ n = omega arith in ap (λ (m : ℕ). take m (drop start s)) e

pub not-that : {That : Type 0} {v : Said} → (That → ⊥) → Reads That v (refused_as "NotThatLiteral")
not-that h = inl (h, refl)

pub no_bytes : {That : Type 0} {v old : List ℕ} → (That → ⊥) → ReadsBytes That v old (refused_as "NotThatLiteral") old
no_bytes h = inl (h, refl, refl)

-- `ok_or` of what a search answers, and `?`: the token goes on, or its error is handed out
module _ {E : Type 0} {o : Option ℕ} {r : Result ℕ E} (part : o ≡ result_ok r) where
  module _ (p : Profile) (s : List ℕ) (start n k : ℕ) (f : Finds p s start n k o) where
    pub goes-on : {d : ℕ} → r ≡ Ok d → IsTokenWith p s start n k d
    goes-on e = subst (Finds p s start n k) (part ∙ ap result_ok e) f

    pub no-such : {e : E} → r ≡ Err e → IsToken p s start n k → ⊥
    no-such e = subst (Finds p s start n k) (part ∙ ap result_ok e) f

pub handed-out : {E X : Type 0} (o : Option ℕ) {r : Result ℕ E} {e f : E} {q : Result X E} → r ≡ ok_or o e → r ≡ Err f → IsErrAnd q (λ y. y ≡ f) → q ≡ Err e
handed-out None {e = e} {f = f} v w h = let x : e ≡ f = cc in let (y, i, j) = err_from_is_err_and _ h in i ∙ ap Err (j ∙ sym x)
handed-out (Some d) v w h = absurd (let z : ◌≡◌ {A = ℕ} 0 1 = cc in omega arith)
