-- What the eaters answer, over the text that is left: `head` for the cursor's `peek`, the rest for the contracts of private functions;
-- that of `next` does not rest on it. Assumes nothing.
use Rattle.std.specs.Prelude.{ℕ, ◌+◌, cond, Option, Some, None, Result, Ok, Err, List, [], ◌∷◌, drop}
use Rattle.keywords.specs.Kinds.{kind}
use Rattle.words.specs.Bytes.{is}
use Rattle.grammar.specs.Form.{Set, D, H, byte, no, holds}
use Rattle.grammar.specs.Runs.{char, sees, over}
use Rattle.lexer.specs.declared.cursor.Cursor.{Cursor}
use Rattle.lexer.specs.declared.digits.Tally.{Tally}
use Rattle.lexer.specs.declared.lexed.Lexed.{Lexed}
use Rattle.lexer.specs.declared.lexed.Lexed.TheVariants.{Token}
use Rattle.lexer.specs.declared.digits.Span.{Span}

abbrev pub cursor : ℕ → Cursor
cursor n = record { at = n }

abbrev pub tally : ℕ → ℕ → ℕ → Tally
tally i n u = record { cursor = cursor i; digits = n; underscores = u }

abbrev pub span : ℕ → ℕ → Span
span g e = record { from = cursor g; to = cursor e }

unfoldable pub head : List ℕ → Option ℕ
head [] = None
head (b ∷ s) = Some b

-- behind the next byte b, or at the end if there is none
abbrev pub Past : Type 0
Past = Result Cursor Cursor

unfoldable pub past : ℕ → ℕ → List ℕ → Past
past b at s =
    let stop = over (no (byte b)) at s in
    cond (sees (byte b) (drop stop s)) (Ok (cursor (stop + 1))) (Err (cursor stop))

-- the token of one byte, or of two where the second is there
abbrev pub one_or_two : ℕ → ℕ → ℕ → ℕ → List ℕ → Lexed
one_or_two one b two at s = cond (sees (byte b) (drop (at + 1) s)) (Token two at 2 (cursor (at + 2)) 0 0) (Token one at 1 (cursor (at + 1)) 0 0)

-- behind a run, with what was counted, or where it goes wrong
abbrev pub Digits : Type 0
Digits = Result Tally Span

-- Digits of a set from place i on, in a group that starts at g, behind n digits and u underscores: a `_` before a digit starts another
-- group, any other is bad.
unfoldable pub groups : Set → ℕ → ℕ → ℕ → ℕ → List ℕ → Digits
groups t g i n u [] = Ok (tally i n u)
groups t g i n u (b ∷ s) =
    cond (holds t b) (groups t g (i + 1) (n + 1) u s)
    (cond (is "_" b) (cond (sees t s) (groups t (i + 1) (i + 1) n (u + 1) s) (Err (span g (i + 1)))) (Ok (tally i n u)))

-- Hexadecimal digits, of which one comes before every `_`.
unfoldable pub hex_groups : ℕ → ℕ → ℕ → List ℕ → Digits
hex_groups i n u s = cond (sees (char "_") s) (Err (span i i)) (groups H i i n u s)

-- the runs from a place on, with what was counted before it
abbrev pub digit_run : Tally → List ℕ → Digits
digit_run a s = groups D a.cursor.at a.cursor.at a.digits a.underscores (drop a.cursor.at s)

abbrev pub hex_run : Tally → List ℕ → Digits
hex_run a s = hex_groups a.cursor.at a.digits a.underscores (drop a.cursor.at s)

-- the kind of what a quote closes
abbrev pub quote_kind : ℕ → ℕ
quote_kind b = cond (is "'" b) (kind "TK_STRING") (kind "TK_ID")
