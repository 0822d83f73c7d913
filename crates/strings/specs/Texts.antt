-- Strings and quoted names with their bytes: some that are easy to get wrong. Assumes nothing.
use Rattle.std.specs.Prelude.{ℕ, List, [], ◌∷◌}
use Prim.Native.Char.{Char, code}
use Prim.Native.String.{String}
use Rattle.keywords.specs.Text.{bytes}

pub record Row : Type 0 where
  pub text : List ℕ
  pub bytes : List ℕ

abbrev pub row : String → String → Row
row t v = record { text = bytes t; bytes = bytes v }

abbrev pub reads : List Row
reads =
    row "''" "" ∷
    row "'abc'" "abc" ∷
    row "'it''s'" "it's" ∷
    row "''''" "'" ∷
    row "''''''" "''" ∷
    row "'\"\"'" "\"\"" ∷
    row "\"a\"\"b\"" "a\"b" ∷
    row "`a``b\"\"c`" "a`b\"\"c" ∷
    -- request 7's: no doubling, of `[` as little as of a quote
    row "[]" "" ∷
    row "[a b]" "a b" ∷
    row "[a[[b\"\"]" "a[[b\"\"" ∷
    []

-- the quote, the bytes and their literal
pub record Written : Type 0 where
  pub quote : ℕ
  pub bytes : List ℕ
  pub text : List ℕ

abbrev pub written : Char → String → String → Written
written q v t = record { quote = code q; bytes = bytes v; text = bytes t }

abbrev pub writes : List Written
writes =
    written "'" "" "''" ∷
    written "'" "it's" "'it''s'" ∷
    written "'" "'" "''''" ∷
    written "'" "\"" "'\"'" ∷
    written "\"" "a\"b'c" "\"a\"\"b'c\"" ∷
    []
