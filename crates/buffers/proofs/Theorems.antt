-- For readers. A call that is lent a buffer says one thing and leaves one buffer; where it says a length, the result stands at the front.
-- Assumes nothing.
use Prim.Native.Nat.{ℕ}
use native.Mathlib.Omega.{arith}
use mathlib.Core.Path.{◌≡◌, refl, sym, ◌∙◌, ap}
use mathlib.Core.List.{List}
use lib.Dec.{leb}
use lib.ListN.{length, take, drop}
use lib.Seq.{take_at}
use Rattle.keywords.proofs.Logic.{split}
use Rattle.std.specs.Prelude.{Result, Ok, Err}
use Rattle.buffers.specs.declared.written.NoRoom.{NoRoom}
use Rattle.buffers.specs.Buffers.{Said, filled, refused_as, said_of, before, Fills}

pub fills-unique : {v old new new' : List ℕ} {a b : Said} → Fills v old a new → Fills v old b new' → (a ≡ b) × (new ≡ new')
fills-unique f g = (f.answers ∙ sym g.answers, f.holds ∙ sym g.holds)

-- two answers that say the same are the same
pub written_same : (r q : Result ℕ NoRoom) → said_of r ≡ said_of q → r ≡ q
written_same (Ok n) (Ok m) e = let f : n ≡ m = cc in ap Ok f
written_same (Ok n) (Err q) e = absurd (let z : ◌≡◌ {A = ℕ} 0 1 = cc in omega arith)
written_same (Err r) (Ok m) e = absurd (let z : ◌≡◌ {A = ℕ} 0 1 = cc in omega arith)
written_same (Err r) (Err q) e = refl

pub written-unique : {v old new new' : List ℕ} (r q : Result ℕ NoRoom) → Fills v old (said_of r) new → Fills v old (said_of q) new' → (r ≡ q) × (new ≡ new')
written-unique r q f g = let u = fills-unique f g in (written_same r q u.0, u.1)

-- the first n bytes of the buffer are the result
pub written-part : {v old new : List ℕ} {n : ℕ} → Fills v old (filled n) new → (n ≡ length v) × (take n new ≡ v)
written-part {v} {old} {new} {n} f =
    split (leb (length v) (length old))
    (λ e.
    let l : filled n ≡ filled (length v) = f.answers ∙ rw e in
    let m : n ≡ length v = cc in
    let h : new ≡ before v old = f.holds ∙ rw e in
    (m, ap (λ (x : List ℕ). take n x) h ∙ take_at v (drop (length v) old) n (sym m)))
    (λ e. let l : filled n ≡ refused_as "NoRoom" = f.answers ∙ rw e in absurd (let z : ◌≡◌ {A = ℕ} 0 1 = cc in omega arith))
