-- `blobs::reading::pair` meets its contract: two H are worth less than 256. Assumes nothing.
use native.Mathlib.Omega.{arith}
use Rattle.blobs.proofs.BlobLaws.{worth-below}
use Rattle.blobs.proofs.reading.pair.Goals as goal

pub overflow_mul-result : goal.overflow_mul-result
overflow_mul-result c = let a = c.args in omega (arith, c.worth.ensures, worth-below a.high, worth-below a.low)

pub overflow_add-result : goal.overflow_add-result
overflow_add-result c =
    let a = c.args in
    omega (arith, c.worth.ensures, c.worth-2.ensures, worth-below a.high, worth-below a.low)
