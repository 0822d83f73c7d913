-- For readers. `put-unique`: two results of `put` or `put_byte`, and two rows, that meet a contract are equal. `inside`: a text that is
-- found stands in the row, behind its head. Assumes nothing.
use Prim.Native.Nat.{ℕ, ◌+◌, ◌≤◌}
use native.Mathlib.Omega.{arith}
use mathlib.Core.Path.{◌≡◌, refl, sym, ◌∙◌}
use mathlib.Core.Bool.{Bool, true, false, cond}
use mathlib.Core.List.{List}
use lib.Dec.{ltb}
use lib.ListN.{length}
use borrow.Author.Tests.{ltb-false}
use Rattle.std.specs.declared.result.Result.{Result}
use Rattle.std.specs.declared.result.Result.TheVariants.{Ok, Err}
use Rattle.rows.specs.declared.input.Text.{Text}
use Rattle.rows.specs.declared.input.NoText.{NoText}
use Rattle.rows.specs.declared.input.NoText.TheVariants.{Short, Bad}
use Rattle.rows.specs.Out.{Row, Gives}
use Rattle.rows.specs.Records.{number_at, longest_record, record_at}

pub put-unique : (x : Row) (row row' : List ℕ) (n n' : ℕ) → Gives x row n → Gives x row' n' → (row ≡ row') × (n ≡ n')
put-unique x row row' n n' (p, q) (p', q') = (p ∙ sym p', q ∙ sym q')

pub inside : (row : List ℕ) (text : Text) → Ok text ≡ record_at row → (text.start ≤ text.end) × (text.end ≤ length row)
unfolding record_at
inside row text e = by-head (ltb (length row) 8) e
  where
    n : ℕ
    n = number_at row 4

    by-text : (b : Bool) → ltb (length row) (8 + n) ≡ b → Ok text ≡ cond b (Err (Short (8 + n))) (Ok (record { offset = number_at row 0; start = 8; end = 8 + n }))
        → (text.start ≤ text.end) × (text.end ≤ length row)
    by-text true q p = let z : ◌≡◌ {A = ℕ} 0 1 = cc in absurd (omega arith)
    by-text false q p =
        let l = ltb-false (length row) (8 + n) q in
        let s : text.start ≡ 8 = cc in
        let t : text.end ≡ 8 + n = cc in
        (omega arith, omega arith)

    rest : Result Text NoText
    rest = cond (ltb (length row) (8 + n)) (Err (Short (8 + n))) (Ok (record { offset = number_at row 0; start = 8; end = 8 + n }))

    by_length : (b : Bool) → Ok text ≡ cond b (Err Bad) rest → (text.start ≤ text.end) × (text.end ≤ length row)
    by_length true p = let z : ◌≡◌ {A = ℕ} 0 1 = cc in absurd (omega arith)
    by_length false p = by-text (ltb (length row) (8 + n)) refl p

    by-head : (b : Bool) → Ok text ≡ cond b (Err (Short 8)) (cond (ltb longest_record n) (Err Bad) rest) → (text.start ≤ text.end) × (text.end ≤ length row)
    by-head true p = let z : ◌≡◌ {A = ℕ} 0 1 = cc in absurd (omega arith)
    by-head false p = by_length (ltb longest_record n) p
