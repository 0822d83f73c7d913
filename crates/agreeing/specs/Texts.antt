-- A table of texts with lists of records, and the verdict on each: examples, which whatever meets the contract of `check_list` gives
-- (`check-texts`). Assumes nothing.
use Rattle.std.specs.Prelude.{ℕ, List, [], ◌∷◌}
use Prim.Native.String.{String}
use Rattle.keywords.specs.Kinds.{kind}
use Rattle.keywords.specs.Text.{bytes}
use Rattle.grammar.specs.declared.profile.Profile.TheVariants.{Turso, Sqlite}
use Rattle.grammar.specs.Longest.{Source, source}
use Rattle.records.specs.declared.Record.{Record}
use Rattle.records.specs.Records.{record_of}
use Rattle.agreeing.specs.Agreeing.{Verdict, accepted, refused}

pub record CheckRow : Type 0 where
  pub source : Source
  pub records : List Record
  pub verdict : Verdict

-- under the profile Turso, and under Sqlite
abbrev pub check_row : String → List Record → Verdict → CheckRow
check_row t rs v = record { source = source Turso (bytes t); records = rs; verdict = v }

abbrev pub sqlite_check : String → List Record → Verdict → CheckRow
sqlite_check t rs v = record { source = source Sqlite (bytes t); records = rs; verdict = v }

abbrev five : String → ℕ → ℕ → ℕ → ℕ → Record
five k start n line column = record_of (kind k) start n line column

-- those of "a\n b"
abbrev a : Record
a = five "TK_ID" 0 1 1 1

abbrev blank : Record
blank = five "TK_NONE" 1 2 1 2

abbrev b : Record
b = five "TK_ID" 3 1 2 2

unfoldable pub checks : List CheckRow
checks =
    -- an empty list is right for an empty text, and for no other
    check_row "" [] accepted ∷
    check_row "a" [] (refused 16 0) ∷
    check_row "" (a ∷ []) (refused 16 0) ∷
    -- the list that List writes, blanks included
    check_row "a\n b" (a ∷ blank ∷ b ∷ []) accepted ∷
    check_row "a\n b" (a ∷ b ∷ []) (refused 16 1) ∷
    -- each of the five numbers
    check_row "a\n b" (a ∷ blank ∷ five "TK_STRING" 3 1 2 2 ∷ []) (refused 16 2) ∷
    check_row "a\n b" (a ∷ blank ∷ five "TK_ID" 2 1 2 2 ∷ []) (refused 16 2) ∷
    check_row "a\n b" (a ∷ five "TK_NONE" 1 1 1 2 ∷ b ∷ []) (refused 16 1) ∷
    check_row "a\n b" (a ∷ blank ∷ five "TK_ID" 3 1 1 2 ∷ []) (refused 16 2) ∷
    check_row "a\n b" (a ∷ blank ∷ five "TK_ID" 3 1 2 4 ∷ []) (refused 16 2) ∷
    -- nothing about a record is trusted: sums that would wrap in 32 bits are other numbers, no more
    check_row "a" (five "TK_ID" 4294967295 2 1 1 ∷ []) (refused 16 0) ∷
    check_row "a\n b" (a ∷ five "TK_NONE" 1 4294967298 1 2 ∷ b ∷ []) (refused 16 1) ∷
    -- one is missing, one is surplus
    check_row "a\n b" (a ∷ blank ∷ []) (refused 16 2) ∷
    check_row "a\n b" (a ∷ blank ∷ b ∷ b ∷ []) (refused 16 3) ∷
    -- a text with a refusal: the number of those that agree before it
    check_row "!" [] (refused 16 0) ∷
    check_row "a!" [] (refused 16 0) ∷
    check_row "a!" (a ∷ []) (refused 16 1) ∷
    check_row "a!" (a ∷ five "TK_NE" 1 1 1 2 ∷ []) (refused 16 1) ∷
    -- request 7: the bracketed name is one lexeme, or three
    sqlite_check "[a]" (five "TK_ID" 0 3 1 1 ∷ []) accepted ∷
    check_row "[a]" (five "TK_ID" 0 3 1 1 ∷ []) (refused 16 0) ∷
    check_row "[a]" (five "TK_LBRACKET" 0 1 1 1 ∷ five "TK_ID" 1 1 1 2 ∷ five "TK_RBRACKET" 2 1 1 3 ∷ []) accepted ∷
    []
