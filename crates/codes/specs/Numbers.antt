-- An answer as C gets it: a status, and beside it a value, a span, an offset, and how many digits and underscores a number has. Assumes
-- nothing.
use Rattle.std.specs.Prelude.{ℕ}
use Rattle.grammar.specs.Answers.{Answer, token, end, refusal}
use Rattle.codes.specs.declared.answers.Numbers.{Numbers}

-- the numbers of an answer that is no token
abbrev pub five : ℕ → ℕ → ℕ → ℕ → ℕ → Numbers
five status value start n next = record { status = status; value = value; start = start; length = n; next = next; digits = 0; underscores = 0 }

-- those of a token, whose status is 100
abbrev pub of_token : ℕ → ℕ → ℕ → ℕ → ℕ → ℕ → Numbers
of_token value start n next d u = record { status = 100; value = value; start = start; length = n; next = next; digits = d; underscores = u }

-- End has status 0 and the empty span at its offset, a refusal its number
abbrev pub of_answer : ℕ → Answer → Numbers
of_answer value (token kind start n next d u) = of_token value start n next d u
of_answer value (end offset) = five 0 value offset 0 offset
of_answer value (refusal number start n offset) = five number value start n offset

-- the kind, 0 where there is no token
abbrev pub kind_given : Answer → ℕ
kind_given (token kind start n next d u) = kind
kind_given (end offset) = 0
kind_given (refusal number start n offset) = 0
