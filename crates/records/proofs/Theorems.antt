-- For readers. `read-written`: records that were written are read back. `written_read`: what is read, and what is left over, are the
-- numbers again. `many`, `left`: how many records a list has, and how many numbers are in none. `front_read`: records at the front of a
-- list are read first. `put-unique`: the contract of `put` leaves one answer and one list. Assumes nothing.
use Prim.Native.Nat.{ℕ, suc, ◌*◌, ◌/◌, ◌%◌, ◌<◌}
use native.Mathlib.Omega.{arith}
use mathlib.Core.Path.{◌≡◌, refl, sym, ◌∙◌, ap}
use mathlib.Core.Bool.{Bool}
use mathlib.Core.List.{List, [], ◌∷◌, ◌++◌, append-nil}
use lib.ListN.{length, drop, length-drop}
use Rattle.records.specs.declared.Record.{Record}
use Rattle.records.specs.Records.{record_of, numbers_of, width, numbers_of_all, read_back, left_over, at_front, is_free, with_record}

-- a list of numbers has fewer than a record, or a record's and a list behind them
pub by-records : {P : List ℕ → Type 0} → ((l : List ℕ) → length l < width → P l)
    → ((r : Record) (l : List ℕ) → P l → P (numbers_of r ++ l)) → (l : List ℕ) → P l
by-records few more (k ∷ start ∷ n ∷ line ∷ column ∷ l) = more (record_of k start n line column) l (by-records few more l)
by-records few more [] = few [] (omega arith)
by-records few more (a ∷ []) = few (a ∷ []) (omega arith)
by-records few more (a ∷ b ∷ []) = few (a ∷ b ∷ []) (omega arith)
by-records few more (a ∷ b ∷ c ∷ []) = few (a ∷ b ∷ c ∷ []) (omega arith)
by-records few more (a ∷ b ∷ c ∷ d ∷ []) = few (a ∷ b ∷ c ∷ d ∷ []) (omega arith)

few-none : (l : List ℕ) → length l < width → read_back l ≡ []
unfolding read_back
few-none (k ∷ start ∷ n ∷ line ∷ column ∷ l) h = absurd (omega arith)
few-none [] h = refl
few-none (a ∷ []) h = refl
few-none (a ∷ b ∷ []) h = refl
few-none (a ∷ b ∷ c ∷ []) h = refl
few-none (a ∷ b ∷ c ∷ d ∷ []) h = refl

-- records in front of a list are read first
pub read-before : (rs : List Record) (l : List ℕ) → read_back (numbers_of_all rs ++ l) ≡ rs ++ read_back l
unfolding read_back numbers_of_all
read-before [] l = refl
read-before (r ∷ rs) l = ap (λ (x : List Record). r ∷ x) (read-before rs l)

pub front_read : (rs : List Record) (old : List ℕ) → read_back (at_front rs old) ≡ rs ++ read_back (drop (width * length rs) old)
front_read rs old = read-before rs (drop (width * length rs) old)

pub read-written : (rs : List Record) → read_back (numbers_of_all rs) ≡ rs
unfolding read_back
read-written rs = ap read_back (sym (append-nil (numbers_of_all rs))) ∙ read-before rs [] ∙ append-nil rs

suc-five : (n : ℕ) → width * suc n ≡ suc (suc (suc (suc (suc (width * n)))))
suc-five n = omega arith

-- one record in front leaves over what was left over
left_behind : (r : Record) (l : List ℕ) → left_over (numbers_of r ++ l) ≡ left_over l
unfolding left_over read_back
left_behind r l = rw (suc-five (length (read_back l)))

pub written_read : (l : List ℕ) → numbers_of_all (read_back l) ++ left_over l ≡ l
unfolding left_over numbers_of_all read_back
written_read = by-records few more
  where
    few : (l : List ℕ) → length l < width → numbers_of_all (read_back l) ++ left_over l ≡ l
    few l h = rw (few-none l h)

    more : (r : Record) (l : List ℕ) → numbers_of_all (read_back l) ++ left_over l ≡ l
        → numbers_of_all (read_back (numbers_of r ++ l)) ++ left_over (numbers_of r ++ l) ≡ numbers_of r ++ l
    more r l i = rw (left_behind r l) (ap (λ (x : List ℕ). numbers_of r ++ x) i)

pub many : (l : List ℕ) → length (read_back l) ≡ length l / width
unfolding read_back
many = by-records (λ l h. rw (few-none l h) (omega arith)) (λ r l i. omega (arith, i))

pub left : (l : List ℕ) → length (left_over l) ≡ length l % width
unfolding left_over
left l = length-drop (width * length (read_back l)) l ∙ omega (arith, many l)

pub put-unique : (old : List ℕ) (at : ℕ) (r : Record) (a b : Bool) (new new' : List ℕ)
    → (a ≡ is_free old at) × (new ≡ with_record old at r) → (b ≡ is_free old at) × (new' ≡ with_record old at r) → (a ≡ b) × (new ≡ new')
put-unique old at r a b new new' (p, q) (u, v) = (p ∙ sym u, q ∙ sym v)
