-- The classes of document 01, line by line and in its order: which texts stand in each, and what may follow them there. Request 7 has a
-- second profile, nearer SQLite: what it changes stands beside what document 01 has, in the same line (`by`). Assumes nothing.
use Rattle.std.specs.Prelude.{Bool, true, false, List, [], ◌∷◌}
use Rattle.keywords.specs.Words.{Entry, entry}
use Rattle.grammar.specs.declared.profile.Profile.{Profile}
use Rattle.grammar.specs.declared.profile.Profile.TheVariants.{Turso, Sqlite}
use Rattle.grammar.specs.Form.{Set, none, D, H, S, C, blank, control, byte, no, ◌or◌, any, ◌except◌, one_of, Form, never, empty, one, ◌·◌, ◌∣◌, ◌but◌}
use Rattle.grammar.specs.Form.{many, text, lit, run, some, opt, through, without}

pub data Class : Type 0 where
  -- legal
  blank_run line_comment block_comment operator string quoted_name integer float blob parameter word illegal : Class
  -- malformed
  unrecognized bang open_quote open_blob odd_blob bad_parameter : Class
  underscore word_after_integer word_after_fraction no_exponent word_after_exponent : Class
  no_hexdigit underscore_after_x hex_underscore word_after_hex : Class

-- whether document 01 has it among the malformed lexemes
unfoldable pub malformed : Class → Bool
malformed blank_run = false
malformed line_comment = false
malformed block_comment = false
malformed operator = false
malformed string = false
malformed quoted_name = false
malformed integer = false
malformed float = false
malformed blob = false
malformed parameter = false
malformed word = false
malformed illegal = false
malformed unrecognized = true
malformed bang = true
malformed open_quote = true
malformed open_blob = true
malformed odd_blob = true
malformed bad_parameter = true
malformed underscore = true
malformed word_after_integer = true
malformed word_after_fraction = true
malformed no_exponent = true
malformed word_after_exponent = true
malformed no_hexdigit = true
malformed underscore_after_x = true
malformed hex_underscore = true
malformed word_after_hex = true

-- a form of a class, and the bytes that may follow it there; the end of the text always may
pub record Rule : Type 0 where
  pub class : Class
  pub form : Form
  pub next : Set

infix 70 ◌is◌
abbrev pub ◌is◌ : Class → Form → Rule
c is f = record { class = c; form = f; next = any }

infix 70 ◌is◌before◌
abbrev pub ◌is◌before◌ : Class → Form → Set → Rule
c is f before t = record { class = c; form = f; next = t }

-- what document 01 has, for the profile Turso, and what request 7 has in its place, for Sqlite
abbrev pub by : {A : Type 0} → Profile → A → A → A
by Turso a b = a
by Sqlite a b = b

-- Dig = D+ ( `_` D+ )*
abbrev pub dig : Form
dig = some D · many (lit "_" · some D)

abbrev pub e : Form
e = one (one_of "eE")

abbrev pub sign : Form
sign = opt (one (one_of "+-"))

-- Exp = `e` or `E`, optional sign, optional `_`, Dig.
-- 7: `_` directly after `e` or its sign counts as any other byte that is no digit.
abbrev pub exp : Profile → Form
exp p = e · sign · by p (opt (lit "_")) empty · dig

-- a byte that can go on there
abbrev pub exponent_start : Profile → Set
exponent_start p = by p (D or one_of "_") D

abbrev pub x : Form
x = one (one_of "xX")

abbrev pub zero_x : Form
zero_x = lit "0" · x

-- `0x` or `0X` H+ ( `_` H+ )*
abbrev pub hex_integer : Form
hex_integer = zero_x · some H · many (lit "_" · some H)

-- a quote and a body in which that quote appears only doubled
abbrev pub opened : Set → Form
opened q = one q · many (one (no q) ∣ one q · one q)

-- C bytes and `::` pairs
abbrev pub pieces : Form
pieces = many (one C ∣ lit "::")

abbrev pub pairs : Form
pairs = many (lit "::")

-- `$`, `@` or `:` and the run of a name: C bytes and pairs with at least one C, after `:` beginning with S or a pair.
-- 7: `:` behaves as `@` does.
abbrev pub named : Profile → Form
named p = one (one_of "$@") · (pieces but pairs) ∣ lit ":" · (by p ((one S ∣ lit "::") · pieces) pieces but pairs)

-- `(` and bytes that are neither `)` nor blank
abbrev pub paren : Form
paren = lit "(" · run (no (one_of ")" or blank))

-- 7: `[` and bytes that are no `]`
abbrev pub bracket : Form
bracket = lit "[" · run (no (one_of "]"))

-- a number up to its `e`: Dig, Dig `.`, Dig `.` Dig or `.` Dig
abbrev pub front : Form
front = dig ∣ dig · lit "." ∣ dig · lit "." · dig ∣ lit "." · dig

-- a number that ends in a Dig
abbrev pub in_dig : Profile → Form
in_dig p = dig ∣ dig · lit "." · dig ∣ lit "." · dig ∣ front · exp p

-- a byte that starts nothing else: controls but blanks, `\ ^ { }`, 7F
abbrev pub U : Set
U = (control except blank) or one_of "\\^{}" or byte 0x7F

unfoldable pub operators : List Entry
operators =
    entry "(" "TK_LP" ∷ entry ")" "TK_RP" ∷ entry ";" "TK_SEMI" ∷ entry "+" "TK_PLUS" ∷ entry "*" "TK_STAR" ∷
    entry "%" "TK_REM" ∷ entry "," "TK_COMMA" ∷ entry "~" "TK_BITNOT" ∷ entry "[" "TK_LBRACKET" ∷ entry "]" "TK_RBRACKET" ∷
    entry "-" "TK_MINUS" ∷ entry "/" "TK_SLASH" ∷ entry "<" "TK_LT" ∷ entry ">" "TK_GT" ∷ entry "|" "TK_BITOR" ∷
    entry "&" "TK_BITAND" ∷ entry "." "TK_DOT" ∷ entry ":" "TK_COLON" ∷ entry "=" "TK_EQ" ∷
    entry "->" "TK_PTR" ∷ entry "->>" "TK_PTR" ∷ entry "==" "TK_EQ" ∷ entry "<=" "TK_LE" ∷ entry "<<" "TK_LSHIFT" ∷
    entry "<>" "TK_NE" ∷ entry ">=" "TK_GE" ∷ entry ">>" "TK_RSHIFT" ∷ entry "!=" "TK_NE" ∷ entry "||" "TK_CONCAT" ∷
    entry "&&" "TK_ARRAY_OVERLAP" ∷ entry "@>" "TK_ARRAY_CONTAINS" ∷
    []

-- a word of a list
abbrev pub among : List Entry → Form
among [] = never
among (o ∷ os) = text o.word ∣ among os

-- Each comment has the line of document 01 for the rules below it and, behind a 7, the sentence of request 7 that changes them. A rule
-- without `before` says nothing of what follows.
unfoldable pub rules : Profile → List Rule
rules p =
    -- Legal. Blank run; `--` to and with the next 0A or to the end; `/*` to and with the next `*/` that begins after these two
    -- bytes, or to the end.
    blank_run is some blank ∷
    line_comment is lit "--" · through "\n" ∷
    line_comment is lit "--" · without "\n" before none ∷
    block_comment is lit "/*" · through "*/" ∷
    block_comment is lit "/*" · without "*/" before none ∷
    -- Operators. 7: `[` is no operator any more; `:` behaves as `@` does; `&&` is two tokens and `@>` starts with a bare `@`.
    operator is among operators but by p never (lit "[" ∣ lit ":" ∣ lit "&&" ∣ lit "@>") ∷
    -- `'` body `'`; with `"` or a backtick a name. In the body that quote appears only doubled.
    string is opened (one_of "'") · lit "'" ∷
    -- 7: `[` up to the first `]` is TK_ID.
    quoted_name is opened (one_of "\"") · lit "\"" ∣ opened (one_of "`") · lit "`" ∣ by p never (bracket · lit "]") ∷
    -- Integer: Dig; `0x` or `0X` H+ ( `_` H+ )*.
    integer is dig ∣ hex_integer ∷
    -- Float: Dig `.`; Dig `.` Exp; Dig `.` Dig with or without Exp; Dig Exp; `.` Dig with or without Exp.
    float is dig · lit "." ∣ dig · lit "." · exp p ∣ dig · lit "." · dig · opt (exp p) ∣ dig · exp p ∣ lit "." · dig · opt (exp p) ∷
    -- Blob: `x` or `X`, `'`, an even number of H, `'`.
    blob is x · lit "'" · many (one H · one H) · lit "'" ∷
    -- Parameter: `?` D*; `$`, `@` or `:` and a name, which ends in at most one `(`...`)` holding no `)` and no blank.
    parameter is lit "?" · run D ∣ named p · opt (paren · lit ")") ∷
    -- Word: S C*.
    word is one S · run C ∷
    -- `#` C*: a token of kind TK_ILLEGAL.
    illegal is lit "#" · run C ∷
    -- Malformed. U: a byte that starts nothing above or below, on to the next blank or the end.
    unrecognized is one U · run (no blank) before blank ∷
    -- `!` alone. A quote and body never closed. 7: unclosed (`[`) is UnterminatedLiteral to the end.
    bang is lit "!" before no (one_of "=") ∷
    open_quote is opened (one_of "'") ∣ opened (one_of "\"") ∣ opened (one_of "`") ∣ by p never bracket before none ∷
    -- `x'` H* with no quote after it. Odd number of H, closed.
    open_blob is x · lit "'" · run H before no (one_of "'") ∷
    odd_blob is x · lit "'" · one H · many (one H · one H) · lit "'" ∷
    -- `$`, `@` alone or with pairs only; `:` with one or more pairs only; a name whose `(` part meets a blank or the end.
    -- 7: a lone `:` is UnrecognizedToken; `@>` starts with a bare `@`, refused.
    bad_parameter is one (one_of "$@") · pairs ∣ lit ":" · by p (lit "::" · pairs) pairs before no C ∷
    bad_parameter is named p · paren before blank ∷
    -- (A trailing S or `_` below belongs to the malformed lexeme even if its span is shorter. In the next five rules the number does
    -- not begin with `0x` or `0X`, since no Dig goes past that 0, and `e` is its first `e` or `E`.)
    -- `_` after a Dig (or after `e` and sign) with no D next. 7: refusal 3 directly after `e` and sign goes.
    underscore is (in_dig p ∣ by p (front · e · sign) never) · lit "_" before no D ∷
    -- Dig and an S that isn't `_`, `e`, `E`, nor `x`/`X` after a lone 0. `.` Dig (or Dig `.` Dig) and such an S (`x` included).
    word_after_integer is dig · one (S except one_of "_eE") but zero_x ∷
    word_after_fraction is (lit "." · dig ∣ dig · lit "." · dig) · one (S except one_of "_eE") ∷
    -- `e` and sign with neither D nor `_` next. An Exp and an S other than `_`. 7: `1e_5` and `1e_` are BadExponentPart (1,1).
    no_exponent is front · e · sign before no (exponent_start p) ∷
    word_after_exponent is front · exp p · one (S except one_of "_") ∷
    -- `0x` with neither H nor `_` next. `0x_`. An `_` after a hex integer without H next. Hex integer and an S that is neither
    -- H nor `_`.
    no_hexdigit is zero_x before no (H or one_of "_") ∷
    underscore_after_x is zero_x · lit "_" ∷
    hex_underscore is hex_integer · lit "_" before no H ∷
    word_after_hex is hex_integer · one (S except (H or one_of "_")) ∷
    []
