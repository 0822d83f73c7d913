-- The grammar's definitions give, under the profile Turso, the answers of the fixed list's walks. Assumes nothing.
use Prim.Native.Nat.{ℕ, zero, suc}
use Prim.Native.String
use Prim.Native.String.{String}
use mathlib.Core.Path.{◌≡◌, refl}
use mathlib.Core.Bool.{Bool, true, cond}
use mathlib.Core.List.{List}
use lib.ListN.{length}
use lib.Text.{eqt}
use Rattle.keywords.specs.Words.{word_list}
use Rattle.keywords.proofs.Logic.{every}
use Rattle.words.specs.Bytes.{is_digit, is_hexdigit, is_identifier_start, is_identifier_continue, is_blank}
use Rattle.words.specs.Word.{upper, kind_of}
use Rattle.grammar.specs.declared.profile.Profile.TheVariants.{Turso}
use Rattle.grammar.specs.Classes.{operators, rules}
use Rattle.grammar.specs.Answers.{Answer, answer}
use Rattle.grammar.specs.Texts.{offset}
use Rattle.grammar.proofs.Model.{next}
use Rattle.trial.specs.Lines.{Line, unhex, shown, is_token}
use Rattle.trial.specs.Rows.{rows}

-- the answers of a walk of at most n tokens, as the list writes them
abbrev walked : ℕ → List ℕ → ℕ → String
walked zero s at = ""
walked (suc n) s at =
    let a = next (rules Turso) s at in
    let more = String.◌++◌ (shown a) (String.◌++◌ " " (walked n s (offset a))) in
    cond (is_token a) more (shown a)

abbrev agrees : Line → Bool
agrees l = let s = unhex l.text in eqt (walked (suc (length s)) s l.from) l.answers

pub agree : every agrees rows ≡ true
unfolding rows rules operators is_digit is_hexdigit is_identifier_start is_identifier_continue is_blank answer kind_of upper word_list
agree = refl
