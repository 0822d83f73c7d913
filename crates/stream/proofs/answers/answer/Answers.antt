-- `stream::answers::answer` meets its contract. Assumes nothing.
use Prim.Native.Nat.{ℕ, ◌+◌, ◌*◌, ◌≤◌, ◌<◌}
use native.Mathlib.Omega.{arith}
use mathlib.Core.List.{List}
use lib.ListN.{length, take, length-take}
use mir.Val.{Fits}
use mir.Syntax.{w64}
use Rattle.stream.proofs.AnswerLaws.{token-fits, end_fits, refusal-fits, token-answers, end-answers, refusal-answers}
use Rattle.stream.proofs.answers.answer.Goals as goal
use Rattle.stream.proofs.answers.answer.Goals.{Start}

-- an offset of the row, told from the text's beginning
fits : (last at held : ℕ) (row : List ℕ) → last ≤ 4294967295 → length row * 1 < 9223372036854775808 → at ≤ length (take held row) → Fits w64 (last + at)
fits last at held row l r i = record { fits = omega (arith, length-take held row) }

pub overflow_add-result : goal.overflow_add-result
overflow_add-result c = fits _ _ _ _ c.last_end-last.ensures.1 (goal.at.overflow_add-result c).Start.well_formed.1.0.1 (token-fits _ _ _ _ _ _ _ _ c.in-Token.ensures).0

pub overflow_add-result-in-Token : goal.overflow_add-result-in-Token
overflow_add-result-in-Token c = fits _ _ _ _ c.last_end-last.ensures.1 (goal.at.overflow_add-result-in-Token c).Start.well_formed.1.0.1 (token-fits _ _ _ _ _ _ _ _ c.in-Token.ensures).1

pub overflow_add-result-in-End : goal.overflow_add-result-in-End
overflow_add-result-in-End c = fits _ _ _ _ c.last_end-last.ensures.1 (goal.at.overflow_add-result-in-End c).Start.well_formed.1.0.1 (end_fits _ _ _ c.in-End.ensures)

pub overflow_add-result-in-Refused : goal.overflow_add-result-in-Refused
overflow_add-result-in-Refused c = fits _ _ _ _ c.last_end-last.ensures.1 (goal.at.overflow_add-result-in-Refused c).Start.well_formed.1.0.1 (refusal-fits _ _ _ _ _ _ c.in-Refused.ensures).0

pub overflow_add-result-in-Refused-2 : goal.overflow_add-result-in-Refused-2
overflow_add-result-in-Refused-2 c = fits _ _ _ _ c.last_end-last.ensures.1 (goal.at.overflow_add-result-in-Refused-2 c).Start.well_formed.1.0.1 (refusal-fits _ _ _ _ _ _ c.in-Refused.ensures).1

pub returns-in-Token : goal.returns-in-Token
returns-in-Token c = token-answers _ _ _ _ _ c.last_end-last.ensures.0 _ _ _ _ _ _ c.in-Token.ensures c.pass.ensures

pub returns-in-End : goal.returns-in-End
returns-in-End c = end-answers _ _ _ _ _ c.last_end-last.ensures.0 _ c.in-End.ensures c.close.ensures

pub returns-in-Refused : goal.returns-in-Refused
returns-in-Refused c = refusal-answers _ _ _ _ _ c.last_end-last.ensures.0 _ _ _ _ c.in-Refused.ensures c.close-in-Refused.ensures
