-- `keywords::find` meets its contract. The loop's invariant: the words of the group from k on decide the kind. Assumes nothing.
use Prim.Native.Nat.{◌+◌, ◌*◌}
use Rattle.keywords.specs.Stored.{start_of}
use Rattle.keywords.proofs.StoredLaws.{Left}
use Rattle.keywords.proofs.find.Given as goal

abbrev pub invariant-loop-k : goal.invariant-loop-k
invariant-loop-k l = Left (28 * l.n + l.a) l.row l.k (start_of (28 * l.n + l.a + 1))
