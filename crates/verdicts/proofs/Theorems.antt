-- For readers. `given-unique`: the contract of `give` leaves one status and one index. `pairing-unique`: that of `give_pairing` one status and
-- one value. Assumes nothing.
use Prim.Native.Nat.{ℕ}
use mathlib.Core.Path.{◌≡◌, sym, ◌∙◌}
use Rattle.agreeing.specs.Agreeing.{Verdict}
use Rattle.brackets.specs.Brackets.{Outcome}
use Rattle.verdicts.specs.Verdicts.{GaveVerdict}
use Rattle.verdicts.specs.Pairing.{GavePairing}

pub given-unique : (v : Verdict) (k l m n : ℕ) → GaveVerdict v k m → GaveVerdict v l n → (k ≡ l) × (m ≡ n)
given-unique v k l m n (a, b) (c, d) = (a ∙ sym c, b ∙ sym d)

pub pairing-unique : (o : Outcome) (k l m n : ℕ) → GavePairing o k m → GavePairing o l n → (k ≡ l) × (m ≡ n)
pairing-unique o k l m n (a, b) (c, d) = (a ∙ sym c, b ∙ sym d)
