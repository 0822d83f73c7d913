-- Texts and what List and a slice must give for them: those of document 01, and some that are easy to get wrong. Assumes nothing.
use Rattle.std.specs.Prelude.{ℕ, List, [], ◌∷◌, ◌++◌, replicate}
use Prim.Native.String.{String}
use Rattle.keywords.specs.Kinds.{kind}
use Rattle.keywords.specs.Text.{bytes}
use Rattle.grammar.specs.declared.profile.Profile.TheVariants.{Turso, Sqlite}
use Rattle.grammar.specs.Answers.{Answer, end, refusal}
use Rattle.grammar.specs.Longest.{Source, source}
use Rattle.records.specs.Records.{record_of, numbers_of}
use Rattle.lists.specs.Parts.{PartAnswer, given, paused}

-- a list of so many numbers 9 is lent
pub record ListRow : Type 0 where
  pub source : Source
  pub from : ℕ
  pub lent : List ℕ
  pub answer : Answer
  pub records : ℕ
  pub left : List ℕ

-- under the profile Turso, and under Sqlite
abbrev pub list_row : String → ℕ → ℕ → Answer → ℕ → List ℕ → ListRow
list_row t from n a records left = record { source = source Turso (bytes t); from = from; lent = replicate n 9; answer = a; records = records; left = left }

abbrev pub sqlite_list : String → ℕ → ℕ → Answer → ℕ → List ℕ → ListRow
sqlite_list t from n a records left =
    record { source = source Sqlite (bytes t); from = from; lent = replicate n 9; answer = a; records = records; left = left }

-- a record's numbers, from its kind's name
abbrev pub five : String → ℕ → ℕ → ℕ → ℕ → List ℕ
five k start n line column = numbers_of (record_of (kind k) start n line column)

unfoldable pub lists : List ListRow
lists =
    -- two records: a list with a number to spare, just enough, one short, and none
    list_row "a;" 0 11 (end 2) 2 (five "TK_ID" 0 1 1 1 ++ five "TK_SEMI" 1 1 1 2 ++ replicate 1 9) ∷
    list_row "a;" 0 10 (end 2) 2 (five "TK_ID" 0 1 1 1 ++ five "TK_SEMI" 1 1 1 2) ∷
    list_row "a;" 0 9 (refusal 10 1 0 1) 1 (five "TK_ID" 0 1 1 1 ++ replicate 4 9) ∷
    list_row "a;" 0 0 (refusal 10 0 0 0) 0 [] ∷
    -- from a later offset; at the end and past it
    list_row "a;b" 2 5 (end 3) 1 (five "TK_ID" 2 1 1 3) ∷
    list_row "a;" 2 0 (end 2) 0 [] ∷
    list_row "a;" 3 2 (refusal 8 0 0 3) 0 (replicate 2 9) ∷
    -- a refusal where the list is full, with the offset of Next: behind class U its end
    list_row "+1.5a" 0 5 (refusal 4 2 2 1) 1 (five "TK_PLUS" 0 1 1 1) ∷
    list_row "+{a b" 0 6 (refusal 1 1 2 3) 1 (five "TK_PLUS" 0 1 1 1 ++ replicate 1 9) ∷
    -- request 7: `:2` is two tokens or one parameter, `&&` one or two
    list_row ":2" 0 10 (end 2) 2 (five "TK_COLON" 0 1 1 1 ++ five "TK_INTEGER" 1 1 1 2) ∷
    sqlite_list ":2" 0 10 (end 2) 1 (five "TK_VARIABLE" 0 2 1 1 ++ replicate 5 9) ∷
    list_row "&&" 0 5 (end 2) 1 (five "TK_ARRAY_OVERLAP" 0 2 1 1) ∷
    sqlite_list "&&" 0 5 (refusal 10 1 0 1) 1 (five "TK_BITAND" 0 1 1 1) ∷
    -- request 1: a 0A does not count for the token that starts with it, and counts for the next; each one of a run counts; 0D does not
    list_row "a\n;" 0 15 (end 3) 3 (five "TK_ID" 0 1 1 1 ++ five "TK_NONE" 1 1 1 2 ++ five "TK_SEMI" 2 1 2 1) ∷
    list_row "\n\n ;" 0 10 (end 4) 2 (five "TK_NONE" 0 3 1 1 ++ five "TK_SEMI" 3 1 3 2) ∷
    list_row "a\r\n;" 0 15 (end 4) 3 (five "TK_ID" 0 1 1 1 ++ five "TK_NONE" 1 2 1 2 ++ five "TK_SEMI" 3 1 2 1) ∷
    -- a 0A in a comment, in a string, in quoted names
    list_row "--\n;" 0 10 (end 4) 2 (five "TK_NONE" 0 3 1 1 ++ five "TK_SEMI" 3 1 2 1) ∷
    list_row "/*\n*/;" 0 10 (end 6) 2 (five "TK_NONE" 0 5 1 1 ++ five "TK_SEMI" 5 1 2 3) ∷
    list_row "'\n';" 0 10 (end 4) 2 (five "TK_STRING" 0 3 1 1 ++ five "TK_SEMI" 3 1 2 2) ∷
    list_row "\"\n\"`\n`;" 0 15 (end 7) 3 (five "TK_ID" 0 3 1 1 ++ five "TK_ID" 3 3 2 2 ++ five "TK_SEMI" 6 1 3 2) ∷
    sqlite_list "[\n];" 0 10 (end 4) 2 (five "TK_ID" 0 3 1 1 ++ five "TK_SEMI" 3 1 2 2) ∷
    -- from a later offset both count from the text's beginning, also where it lies inside a token of the text
    list_row "a\nb;" 2 10 (end 4) 2 (five "TK_ID" 2 1 2 1 ++ five "TK_SEMI" 3 1 2 2) ∷
    list_row "'\n';" 2 5 (refusal 2 2 2 2) 0 (replicate 5 9) ∷
    list_row "'a\nb';" 3 5 (refusal 2 4 2 4) 1 (five "TK_ID" 3 1 2 1) ∷
    []

-- a call with an allowance, lent a list of so many numbers 9
pub record PartRow : Type 0 where
  pub source : Source
  pub from : ℕ
  pub allowance : ℕ
  pub lent : List ℕ
  pub answer : PartAnswer
  pub records : ℕ
  pub spent : ℕ
  pub left : List ℕ

abbrev pub part_row : String → ℕ → ℕ → ℕ → PartAnswer → ℕ → ℕ → List ℕ → PartRow
part_row t from allowance n a records spent left =
    record {
      source = source Turso (bytes t);
      from = from;
      allowance = allowance;
      lent = replicate n 9;
      answer = a;
      records = records;
      spent = spent;
      left = left;
    }

abbrev pub sqlite_part : String → ℕ → ℕ → ℕ → PartAnswer → ℕ → ℕ → List ℕ → PartRow
sqlite_part t from allowance n a records spent left =
    record {
      source = source Sqlite (bytes t);
      from = from;
      allowance = allowance;
      lent = replicate n 9;
      answer = a;
      records = records;
      spent = spent;
      left = left;
    }

unfoldable pub parts : List PartRow
parts =
    -- no allowance: the end, an offset past it and a refusal come first
    part_row "" 0 0 5 (given (end 0)) 0 0 (replicate 5 9) ∷
    part_row "a" 1 0 5 (given (end 1)) 0 0 (replicate 5 9) ∷
    part_row "a" 2 0 5 (given (refusal 8 0 0 2)) 0 0 (replicate 5 9) ∷
    part_row "!" 0 0 5 (given (refusal 7 0 1 0)) 0 0 (replicate 5 9) ∷
    part_row "a b" 0 0 10 (paused 0 0 0) 0 0 (replicate 10 9) ∷
    -- a blank costs one, gets no record, and is a lexeme that one can be paused at; not so the end
    part_row "a b" 0 1 10 (paused 1 0 1) 1 1 (five "TK_ID" 0 1 1 1 ++ replicate 5 9) ∷
    part_row "a b" 0 2 10 (paused 2 0 2) 1 2 (five "TK_ID" 0 1 1 1 ++ replicate 5 9) ∷
    part_row "a b" 0 3 10 (given (end 3)) 2 3 (five "TK_ID" 0 1 1 1 ++ five "TK_ID" 2 1 1 3) ∷
    part_row "a b" 0 4 10 (given (end 3)) 2 3 (five "TK_ID" 0 1 1 1 ++ five "TK_ID" 2 1 1 3) ∷
    -- a full list: Paused comes first; the lexeme that has no place is not spent; blanks and comments pass; a refusal comes first
    part_row "a b" 0 2 5 (paused 2 0 2) 1 2 (five "TK_ID" 0 1 1 1) ∷
    part_row "a b" 0 3 5 (given (refusal 10 2 0 2)) 1 2 (five "TK_ID" 0 1 1 1) ∷
    part_row "a  /**/" 0 9 5 (given (end 7)) 1 3 (five "TK_ID" 0 1 1 1) ∷
    part_row "  a" 0 9 4 (given (refusal 10 2 0 2)) 0 1 (replicate 4 9) ∷
    part_row "a" 0 1 0 (given (refusal 10 0 0 0)) 0 0 [] ∷
    part_row "a!" 0 1 5 (given (refusal 7 1 1 1)) 1 1 (five "TK_ID" 0 1 1 1) ∷
    part_row "a 1.5a" 0 2 6 (given (refusal 4 3 2 2)) 1 2 (five "TK_ID" 0 1 1 1 ++ replicate 1 9) ∷
    -- going on at the offset of one that was paused: line and column count from the text's beginning
    part_row "a\n b" 1 2 6 (given (end 4)) 1 2 (five "TK_ID" 3 1 2 2 ++ replicate 1 9) ∷
    -- request 7: the bracketed name is one lexeme, or three and more
    part_row "[a;] ;" 0 3 11 (given (refusal 10 2 0 2)) 2 2 (five "TK_LBRACKET" 0 1 1 1 ++ five "TK_ID" 1 1 1 2 ++ replicate 1 9) ∷
    sqlite_part "[a;] ;" 0 3 11 (given (end 6)) 2 3 (five "TK_ID" 0 4 1 1 ++ five "TK_SEMI" 5 1 1 6 ++ replicate 1 9) ∷
    []
