-- Texts and what Next, walked over them, must give: those of document 01, with its numbers, and some that are easy to get wrong; and
-- openings of texts that do not stand in a class, because of what follows. Assumes nothing.
use Rattle.std.specs.Prelude.{ℕ, ◌+◌, List, [], ◌∷◌}
use Prim.Native.String.{String}
use Rattle.keywords.specs.Kinds.{kind}
use Rattle.keywords.specs.Text.{bytes}
use Rattle.grammar.specs.declared.profile.Profile.{Profile}
use Rattle.grammar.specs.declared.profile.Profile.TheVariants.{Turso, Sqlite}
use Rattle.grammar.specs.Classes.{Class, line_comment, block_comment, unrecognized, bang, open_quote, open_blob, bad_parameter, underscore}
use Rattle.grammar.specs.Classes.{no_exponent, no_hexdigit, hex_underscore, Rule}
use Rattle.grammar.specs.Answers.{Answer, token, end, refusal}
use Rattle.grammar.specs.Longest.{Gives}

-- the offset that an answer leaves
abbrev pub offset : Answer → ℕ
offset (token k start n next d u) = next
offset (end at) = at
offset (refusal k start n at) = at

-- Next gives these answers one after the other
abbrev pub Walks : List Rule → List ℕ → ℕ → List Answer → Type 0
Walks rs s at [] = Unit {0}
Walks rs s at (a ∷ l) = Gives rs s at a × Walks rs s (offset a) l

pub record Row : Type 0 where
  pub profile : Profile
  pub text : List ℕ
  pub from : ℕ
  pub answers : List Answer

-- from the beginning: under the profile Turso, and under Sqlite
infix 70 ◌gives◌
abbrev pub ◌gives◌ : String → List Answer → Row
t gives l = record { profile = Turso; text = bytes t; from = 0; answers = l }

infix 70 ◌sqlite_gives◌
abbrev pub ◌sqlite_gives◌ : String → List Answer → Row
t sqlite_gives l = record { profile = Sqlite; text = bytes t; from = 0; answers = l }

-- a token by its kind's name
abbrev pub tk : String → ℕ → ℕ → Answer
tk name start n = token (kind name) start n (start + n) 0 0

-- a number, with how many digits and underscores it has
abbrev pub num : String → ℕ → ℕ → ℕ → ℕ → Answer
num name start n d u = token (kind name) start n (start + n) d u

unfoldable pub table : List Row
table =
    -- marked P
    "" gives (end 0 ∷ []) ∷
    "1.a" gives (num "TK_FLOAT" 0 2 1 0 ∷ tk "TK_ID" 2 1 ∷ end 3 ∷ []) ∷
    "1.5a" gives (refusal 4 1 2 0 ∷ []) ∷
    "12_x" gives (refusal 3 1 2 0 ∷ []) ∷
    "1_2" gives (num "TK_INTEGER" 0 3 2 1 ∷ end 3 ∷ []) ∷
    "0x_1" gives (refusal 3 2 0 0 ∷ []) ∷
    "1e_5" gives (num "TK_FLOAT" 0 4 2 1 ∷ end 4 ∷ []) ∷
    "::a" gives (tk "TK_COLON" 0 1 ∷ tk "TK_VARIABLE" 1 2 ∷ end 3 ∷ []) ∷
    ":::" gives (refusal 1 0 3 0 ∷ []) ∷
    "'''" gives (refusal 2 0 3 0 ∷ []) ∷
    "/*/" gives (tk "TK_NONE" 0 3 ∷ end 3 ∷ []) ∷
    "x'1'" gives (refusal 1 0 4 0 ∷ []) ∷
    "5.e-1" gives (num "TK_FLOAT" 0 5 2 0 ∷ end 5 ∷ []) ∷
    -- the others of 'Texts and what they give' that speak of Next
    "1_2_x" gives (refusal 3 2 2 0 ∷ []) ∷
    "1e+" gives (refusal 5 1 2 0 ∷ []) ∷
    "0x1g" gives (refusal 3 0 3 0 ∷ []) ∷
    ".e5" gives (tk "TK_DOT" 0 1 ∷ tk "TK_ID" 1 2 ∷ end 3 ∷ []) ∷
    "$a:::b" gives (tk "TK_VARIABLE" 0 4 ∷ tk "TK_VARIABLE" 4 2 ∷ end 6 ∷ []) ∷
    "$a(b c)" gives (refusal 1 0 4 0 ∷ []) ∷
    "#ab" gives (tk "TK_ILLEGAL" 0 3 ∷ end 3 ∷ []) ∷
    record { profile = Turso; text = 0x0B ∷ 0x41 ∷ 0x20 ∷ []; from = 0; answers = refusal 1 0 2 2 ∷ tk "TK_NONE" 2 1 ∷ end 3 ∷ [] } ∷
    "SELECT 1.e-1;\n" gives
    (tk "TK_SELECT" 0 6 ∷ tk "TK_NONE" 6 1 ∷ num "TK_FLOAT" 7 5 2 0 ∷ tk "TK_SEMI" 12 1 ∷ tk "TK_NONE" 13 1 ∷ end 14 ∷ []) ∷
    -- every operator
    "();+*%,~[]-/>|<&.:=" gives
    (tk "TK_LP" 0 1 ∷ tk "TK_RP" 1 1 ∷ tk "TK_SEMI" 2 1 ∷ tk "TK_PLUS" 3 1 ∷ tk "TK_STAR" 4 1 ∷ tk "TK_REM" 5 1 ∷
    tk "TK_COMMA" 6 1 ∷ tk "TK_BITNOT" 7 1 ∷ tk "TK_LBRACKET" 8 1 ∷ tk "TK_RBRACKET" 9 1 ∷ tk "TK_MINUS" 10 1 ∷
    tk "TK_SLASH" 11 1 ∷ tk "TK_GT" 12 1 ∷ tk "TK_BITOR" 13 1 ∷ tk "TK_LT" 14 1 ∷ tk "TK_BITAND" 15 1 ∷
    tk "TK_DOT" 16 1 ∷ tk "TK_COLON" 17 1 ∷ tk "TK_EQ" 18 1 ∷ end 19 ∷ []) ∷
    "->->>==<=<<<>>=>>!=||&&@>" gives
    (tk "TK_PTR" 0 2 ∷ tk "TK_PTR" 2 3 ∷ tk "TK_EQ" 5 2 ∷ tk "TK_LE" 7 2 ∷ tk "TK_LSHIFT" 9 2 ∷ tk "TK_NE" 11 2 ∷
    tk "TK_GE" 13 2 ∷ tk "TK_RSHIFT" 15 2 ∷ tk "TK_NE" 17 2 ∷ tk "TK_CONCAT" 19 2 ∷ tk "TK_ARRAY_OVERLAP" 21 2 ∷
    tk "TK_ARRAY_CONTAINS" 23 2 ∷ end 25 ∷ []) ∷
    -- easy to get wrong
    ":2" gives (tk "TK_COLON" 0 1 ∷ num "TK_INTEGER" 1 1 1 0 ∷ end 2 ∷ []) ∷
    "'a''b'" gives (tk "TK_STRING" 0 6 ∷ end 6 ∷ []) ∷
    "\"a\"\"b\"" gives (tk "TK_ID" 0 6 ∷ end 6 ∷ []) ∷
    "x'12'" gives (tk "TK_BLOB" 0 5 ∷ end 5 ∷ []) ∷
    "x'1g'" gives (refusal 2 0 3 0 ∷ []) ∷
    "-- a\n->>" gives (tk "TK_NONE" 0 5 ∷ tk "TK_PTR" 5 3 ∷ end 8 ∷ []) ∷
    "0X1_F" gives (num "TK_INTEGER" 0 5 2 1 ∷ end 5 ∷ []) ∷
    "0x" gives (refusal 6 0 2 0 ∷ []) ∷
    "0x1_2_" gives (refusal 3 4 2 0 ∷ []) ∷
    "00x" gives (refusal 3 0 2 0 ∷ []) ∷
    "1e_5_" gives (refusal 3 3 2 0 ∷ []) ∷
    "1e5a" gives (refusal 5 1 2 0 ∷ []) ∷
    "!" gives (refusal 7 0 1 0 ∷ []) ∷
    "?1a" gives (tk "TK_VARIABLE" 0 2 ∷ tk "TK_ID" 2 1 ∷ end 3 ∷ []) ∷
    "returning" gives (tk "TK_RETURNING" 0 9 ∷ end 9 ∷ []) ∷
    -- how many digits and underscores a number has, and that no other token has any
    "0x1_F" gives (num "TK_INTEGER" 0 5 2 1 ∷ end 5 ∷ []) ∷
    "1.5e+1_0" gives (num "TK_FLOAT" 0 8 4 1 ∷ end 8 ∷ []) ∷
    "5." gives (num "TK_FLOAT" 0 2 1 0 ∷ end 2 ∷ []) ∷
    "?12" gives (tk "TK_VARIABLE" 0 3 ∷ end 3 ∷ []) ∷
    "0xE1e" gives (num "TK_INTEGER" 0 5 3 0 ∷ end 5 ∷ []) ∷
    ".5_6e-_7" gives (num "TK_FLOAT" 0 8 3 2 ∷ end 8 ∷ []) ∷
    "1_2.3_4e_5_6" gives (num "TK_FLOAT" 0 12 6 4 ∷ end 12 ∷ []) ∷
    "a1_2" gives (tk "TK_ID" 0 4 ∷ end 4 ∷ []) ∷
    -- from elsewhere than the beginning
    record { profile = Turso; text = bytes "a"; from = 1; answers = end 1 ∷ [] } ∷
    record { profile = Turso; text = bytes "a"; from = 2; answers = refusal 8 0 0 2 ∷ [] } ∷
    -- request 7: what it changes
    "[" sqlite_gives (refusal 2 0 1 0 ∷ []) ∷
    "[]" sqlite_gives (tk "TK_ID" 0 2 ∷ end 2 ∷ []) ∷
    "[a]]" sqlite_gives (tk "TK_ID" 0 3 ∷ tk "TK_RBRACKET" 3 1 ∷ end 4 ∷ []) ∷
    "[a" sqlite_gives (refusal 2 0 2 0 ∷ []) ∷
    "[a 'b" sqlite_gives (refusal 2 0 5 0 ∷ []) ∷
    "]" sqlite_gives (tk "TK_RBRACKET" 0 1 ∷ end 1 ∷ []) ∷
    ":2" sqlite_gives (tk "TK_VARIABLE" 0 2 ∷ end 2 ∷ []) ∷
    ":" sqlite_gives (refusal 1 0 1 0 ∷ []) ∷
    "::a" sqlite_gives (refusal 1 0 1 0 ∷ []) ∷
    ":::a" sqlite_gives (tk "TK_VARIABLE" 0 4 ∷ end 4 ∷ []) ∷
    ":$" sqlite_gives (tk "TK_VARIABLE" 0 2 ∷ end 2 ∷ []) ∷
    ":>" sqlite_gives (refusal 1 0 1 0 ∷ []) ∷
    "&&" sqlite_gives (tk "TK_BITAND" 0 1 ∷ tk "TK_BITAND" 1 1 ∷ end 2 ∷ []) ∷
    "&" sqlite_gives (tk "TK_BITAND" 0 1 ∷ end 1 ∷ []) ∷
    "@>" sqlite_gives (refusal 1 0 1 0 ∷ []) ∷
    "1e_5" sqlite_gives (refusal 5 1 1 0 ∷ []) ∷
    "1e_" sqlite_gives (refusal 5 1 1 0 ∷ []) ∷
    "1e+_1" sqlite_gives (refusal 5 1 2 0 ∷ []) ∷
    "1e_1e" sqlite_gives (refusal 5 1 1 0 ∷ []) ∷
    "1_2" sqlite_gives (num "TK_INTEGER" 0 3 2 1 ∷ end 3 ∷ []) ∷
    "1e1_1" sqlite_gives (num "TK_FLOAT" 0 5 3 1 ∷ end 5 ∷ []) ∷
    "$a::b(c)" sqlite_gives (tk "TK_VARIABLE" 0 8 ∷ end 8 ∷ []) ∷
    -- and what it leaves, so that each class has a lexeme under either profile
    "a\t--b\n/*c*/'d'x'0f'#e" sqlite_gives
    (tk "TK_ID" 0 1 ∷ tk "TK_NONE" 1 1 ∷ tk "TK_NONE" 2 4 ∷ tk "TK_NONE" 6 5 ∷ tk "TK_STRING" 11 3 ∷ tk "TK_BLOB" 14 5 ∷
    tk "TK_ILLEGAL" 19 2 ∷ end 21 ∷ []) ∷
    "{a b" sqlite_gives (refusal 1 0 2 2 ∷ tk "TK_NONE" 2 1 ∷ tk "TK_ID" 3 1 ∷ end 4 ∷ []) ∷
    "!" sqlite_gives (refusal 7 0 1 0 ∷ []) ∷
    "x'1g'" sqlite_gives (refusal 2 0 3 0 ∷ []) ∷
    "x'1'" sqlite_gives (refusal 1 0 4 0 ∷ []) ∷
    "1e5_a" sqlite_gives (refusal 3 2 2 0 ∷ []) ∷
    "1a" sqlite_gives (refusal 3 0 1 0 ∷ []) ∷
    "1.5a" sqlite_gives (refusal 4 1 2 0 ∷ []) ∷
    "1e5a" sqlite_gives (refusal 5 1 2 0 ∷ []) ∷
    "0x" sqlite_gives (refusal 6 0 2 0 ∷ []) ∷
    "0x_1" sqlite_gives (refusal 3 2 0 0 ∷ []) ∷
    "0x1_" sqlite_gives (refusal 3 2 2 0 ∷ []) ∷
    "0x1g" sqlite_gives (refusal 3 0 3 0 ∷ []) ∷
    []

-- the first n bytes of a text do not stand in the class
pub record Unfit : Type 0 where
  pub profile : Profile
  pub class : Class
  pub text : List ℕ
  pub length : ℕ

abbrev pub unfit : Class → String → ℕ → Unfit
unfit c t n = record { profile = Turso; class = c; text = bytes t; length = n }

abbrev pub sqlite_unfit : Class → String → ℕ → Unfit
sqlite_unfit c t n = record { profile = Sqlite; class = c; text = bytes t; length = n }

-- one for each condition on what follows
unfoldable pub unfits : List Unfit
unfits =
    unfit line_comment "--a\n" 3 ∷
    unfit block_comment "/*a*/" 3 ∷
    unfit unrecognized "{a" 1 ∷
    unfit bang "!=" 1 ∷
    unfit open_quote "'a'" 2 ∷
    unfit open_blob "x'12'" 4 ∷
    unfit bad_parameter "$a" 1 ∷
    unfit bad_parameter ":::a" 3 ∷
    unfit bad_parameter "$a(b)" 4 ∷
    unfit underscore "1_2" 2 ∷
    unfit no_exponent "1e5" 2 ∷
    unfit no_exponent "1e_" 2 ∷
    unfit no_hexdigit "0x1" 2 ∷
    unfit no_hexdigit "0x_" 2 ∷
    unfit hex_underscore "0x1_2" 4 ∷
    sqlite_unfit open_quote "[a]" 2 ∷
    sqlite_unfit bad_parameter ":a" 1 ∷
    sqlite_unfit no_exponent "1e5" 2 ∷
    []
