-- What a stream says at a place of a text, and when that is settled. Assumes nothing.
use Rattle.std.specs.Prelude.{ℕ, ◌≡◌, cond, List, ◌++◌, ◌⊎◌, leb, length, take, drop}
use Rattle.grammar.specs.declared.profile.Profile.{Profile}
use Rattle.grammar.specs.Classes.{Class, rules}
use Rattle.grammar.specs.Answers.{Answer, end, answer}
use Rattle.grammar.specs.Longest.{Longest}
use Rattle.intake.specs.Takes.{limit}
use Rattle.stream.specs.Refusals.{own}

-- what a lexeme of n bytes at an offset gives: the answer of its class, legal or malformed, or over the limit a refusal at its start
abbrev pub within : ℕ → ℕ → Answer → Answer
within n at a = cond (leb n limit) a (own "LexemeTooLong" at)

abbrev pub Lexeme : Profile → List ℕ → ℕ → Answer → Type 0
Lexeme p s at a = (c : Class) × (n : ℕ) × Longest (rules p) s c n × (a ≡ within n at (answer c at (take n s)))

-- what is said at an offset of the text, if no byte is to follow: at its end End, else what the longest lexeme gives
abbrev pub Says : Profile → List ℕ → ℕ → Answer → Type 0
Says p s at a = ((at ≡ length s) × (a ≡ end at)) ⊎ Lexeme p (drop at s) at a

-- no continuation alters it, the empty one included
abbrev pub Settled : Profile → List ℕ → ℕ → Type 0
Settled p s at = (t : List ℕ) (a : Answer) → Says p (s ++ t) at a → Says p s at a

-- some continuation alters it
abbrev pub Open : Profile → List ℕ → ℕ → Type 0
Open p s at = (t : List ℕ) × (a : Answer) × (b : Answer) × Says p s at a × Says p (s ++ t) at b × (a ≡ b → ⊥)
