-- `names::name_of` meets its contract: antt computes the bytes of the code's texts and finds the names' in their order. Assumes nothing.
use native.Mathlib.Omega.{arith}
use Rattle.std.proofs.Common.{Bor, List, ℕ}
use lib.ListN.{get_or-map}
use Rattle.names.proofs.NameLaws.{name_at, row_at, name-fits, name-none, row-none}
use Rattle.names.proofs.name_of.Goals as goal

pub returns-then-kind-lt176 : goal.returns-then-kind-lt176
returns-then-kind-lt176 c =
    let k = c.args.kind in
    record {
      named = rw (← get_or-map {A = Bor (List ℕ)} (λ t. t.now) _ k _) (name_at k);
      fits = rw (← get_or-map {A = Bor (List ℕ)} (λ t. t.now) _ k _) (name-fits k);
      row = rw (← get_or-map {A = Bor (List ℕ)} (λ t. t.now) _ k _) (row_at k);
    }

pub returns-else-kind-lt176 : goal.returns-else-kind-lt176
returns-else-kind-lt176 c =
    let h = c.if-kind-lt176.false in
    record { named = name-none _ h; fits = omega arith; row = row-none _ h }
