-- When what a text begins with is settled. Assumes nothing.
use Rattle.std.specs.Prelude.{ℕ, List, ◌++◌}
use Rattle.grammar.specs.declared.profile.Profile.{Profile}
use Rattle.grammar.specs.Classes.{Class, rules}
use Rattle.grammar.specs.Answers.{Answer}
use Rattle.grammar.specs.Longest.{Longest, Gives}

-- whatever follows the text, its longest lexeme is that of the text alone
abbrev pub Settled : Profile → List ℕ → Type 0
Settled p w = (t : List ℕ) (c : Class) (n : ℕ) → Longest (rules p) (w ++ t) c n → Longest (rules p) w c n

-- and so is what Next gives at its beginning
abbrev pub Final : Profile → List ℕ → Type 0
Final p w = (t : List ℕ) (a : Answer) → Gives (rules p) (w ++ t) 0 a → Gives (rules p) w 0 a
