-- Strings, blobs, numbers, comments, parameters, quoted names and operators as SQLite's published pages have them (sqlite3-doc 3.40.1), in
-- the pages' words. The pages do not say which bytes a digit, a name or a blank has: these are document 01's. Assumes nothing.
use Rattle.std.specs.Prelude.{ℕ, ◌≡◌, List, [], ◌↔◌, ◌⊎◌, take, drop}
use Rattle.grammar.specs.declared.profile.Profile.{Profile}
use Rattle.grammar.specs.Form.{D, H, S, C, blank, no, ◌or◌, ◌except◌, one_of}
use Rattle.grammar.specs.Form.{Form, never, anything, one, ◌·◌, ◌∣◌, ◌but◌, many, Has, lit, run, some, opt, without}
use Rattle.grammar.specs.Classes.{Class, Rule, by}
use Rattle.grammar.specs.Longest.{Stands, Opens}

-- lang_expr.html, section 3, Literal Values (Constants)

-- 'A string constant is formed by enclosing the string in single quotes ('). A single quote within the string can be encoded by
-- putting two single quotes in a row'
abbrev pub string : Form
string = lit "'" · many (one (no (one_of "'")) ∣ lit "''") · lit "'"

-- 'BLOB literals are string literals containing hexadecimal data and preceded by a single "x" or "X" character.'
abbrev pub blob : Form
blob = (lit "x" ∣ lit "X") · lit "'" · run H · lit "'"

-- The diagram numeric-literal: digits, perhaps `.` and perhaps more digits, or `.` and digits; then perhaps `E` or `e`, perhaps a
-- sign, and digits. Or `0x` (the text beside it: '"0x" or "0X"') and hexadecimal digits.
abbrev pub digits : Form
digits = some D

abbrev pub exponent : Form
exponent = (lit "E" ∣ lit "e") · opt (lit "+" ∣ lit "-") · digits

abbrev pub numeric_literal : Form
numeric_literal =
    (digits · opt (lit "." · opt digits) ∣ lit "." · digits) · opt exponent ∣
    (lit "0x" ∣ lit "0X") · some H

-- 'If a numeric literal has a decimal point or an exponentiation clause [..], then it is a floating point literal. Otherwise is it
-- is an integer literal.' (Left out: a value outside -9223372036854775808 to 9223372036854775807 makes a floating point literal too.
-- That is no matter of form.)
abbrev pub integer : Form
integer = numeric_literal but (anything · lit "." · anything ∣ digits · exponent)

abbrev pub floating_point : Form
floating_point = numeric_literal but integer

-- lang_comment.html, the diagram comment-syntax

-- `--`, anything except newline, then newline; or then end of input
abbrev pub line_comment : Form
line_comment = lit "--" · run (no (one_of "\n")) · lit "\n"

abbrev pub line_to_end : Form
line_to_end = lit "--" · run (no (one_of "\n"))

-- `/*`, anything except `*/`, then `*/`; or then end of input
abbrev pub block_comment : Form
block_comment = lit "/*" · without "*/" · lit "*/"

abbrev pub block_to_end : Form
block_to_end = lit "/*" · without "*/"

-- lang_expr.html, section 4, Parameters

abbrev pub identifier_name : Form
identifier_name = one S · run C

-- `?NNN`: 'A question mark followed by a number NNN' (Left out: its bounds, which are no matter of form.) `?`: 'A question mark that
-- is not followed by a number' (Left out: what follows.)
abbrev pub question_mark : Form
question_mark = lit "?" · opt digits

-- `:AAAA` and `@AAAA`: 'A colon followed by an identifier name'; 'An "at" sign works exactly like a colon'
abbrev pub colon_or_at : Form
colon_or_at = (lit ":" ∣ lit "@") · identifier_name

-- `$AAAA`: 'A dollar-sign followed by an identifier name [..]. The identifier name in this case can include one or more occurrences
-- of "::" and a suffix enclosed in "(...)" containing any text at all.' It is read so: what is left without the pairs is an
-- identifier name.
abbrev pub name_with_pairs : Form
name_with_pairs = many (lit "::") · one S · many (one C ∣ lit "::")

abbrev pub dollar : Form
dollar = lit "$" · name_with_pairs · opt (lit "(" · anything · lit ")")

abbrev pub parameter : Form
parameter = question_mark ∣ colon_or_at ∣ dollar

-- What document 01 leaves out of these: a suffix that holds a `)` or a blank.
abbrev pub suffix_body : Form
suffix_body = run (no (one_of ")" or blank))

abbrev pub other_suffix : Form
other_suffix = lit "$" · name_with_pairs · lit "(" · (anything but suffix_body) · lit ")"

-- What it adds: names whose first byte but for pairs is a digit or `$` (after `:` only behind a pair; request 7: there too); and, after
-- `:` and `@` too, pairs and a suffix.
abbrev pub suffix : Form
suffix = lit "(" · suffix_body · lit ")"

abbrev pub other_first : Profile → Form
other_first p = (one (one_of "$@") ∣ by p (lit ":" · lit "::") (lit ":")) · many (lit "::") · one (C except S) · many (one C ∣ lit "::") · opt suffix

abbrev pub more_after_colon : Form
more_after_colon = one (one_of ":@") · name_with_pairs · opt suffix but colon_or_at

abbrev pub added : Profile → Form
added p = other_first p ∣ more_after_colon

-- lang_keywords.html: 'A keyword in double-quotes is an identifier.' 'A keyword enclosed in square brackets is an identifier.' 'A keyword
-- enclosed in grave accents (ASCII code 96) is an identifier.' What else may stand there it does not say. It is read so: anything but
-- the byte that closes; that one doubled, as in a string, but for `]`.
abbrev pub in_double_quotes : Form
in_double_quotes = lit "\"" · many (one (no (one_of "\"")) ∣ lit "\"\"") · lit "\""

abbrev pub in_grave_accents : Form
in_grave_accents = lit "`" · many (one (no (one_of "`")) ∣ lit "``") · lit "`"

abbrev pub in_square_brackets : Form
in_square_brackets = lit "[" · without "]" · lit "]"

-- lang_expr.html, section 2, Operators: those that are no words; and the marks of other diagrams
abbrev pub operators : Form
operators =
    lit "~" ∣ lit "+" ∣ lit "-" ∣ lit "||" ∣ lit "->" ∣ lit "->>" ∣ lit "*" ∣ lit "/" ∣ lit "%" ∣ lit "&" ∣ lit "|" ∣ lit "<<" ∣ lit ">>" ∣
    lit "<" ∣ lit ">" ∣ lit "<=" ∣ lit ">=" ∣ lit "=" ∣ lit "==" ∣ lit "<>" ∣ lit "!="

abbrev pub marks : Form
marks = lit "(" ∣ lit ")" ∣ lit "," ∣ lit "." ∣ lit ";"

-- what is an operator besides: `]`, and by document 01 alone four more
abbrev pub not_on_page : Profile → Form
not_on_page p = lit "]" ∣ by p (lit "[" ∣ lit ":" ∣ lit "&&" ∣ lit "@>") never

-- a `_` that does not stand between two digits
abbrev pub loose_underscore : Form
loose_underscore =
    lit "_" · anything ∣ anything · one (no D) · lit "_" · anything ∣ anything · lit "_" · one (no D) · anything ∣ anything · lit "_"

-- How a class and the pages' forms may relate. The class has just the texts of the form; just those and, with `_`, others; or those of
-- one form, and those of another where the text ends behind them.
abbrev pub Same : List Rule → Class → Form → Type 0
Same rs c f = (s : List ℕ) (n : ℕ) → Stands rs c s n ↔ Opens f s n

abbrev pub SameWithoutUnderscore : List Rule → Class → Form → Type 0
SameWithoutUnderscore rs c f = (s : List ℕ) (n : ℕ) → (Stands rs c s n × Has (without "_") (take n s)) ↔ Opens f s n

abbrev pub SameOrToEnd : List Rule → Class → Form → Form → Type 0
SameOrToEnd rs c f g = (s : List ℕ) (n : ℕ) → Stands rs c s n ↔ (Opens f s n ⊎ (Opens g s n × (drop n s ≡ [])))
