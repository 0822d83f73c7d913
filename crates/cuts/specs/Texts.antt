-- Texts and what the cut must give for them: those of document 01, and some that are easy to get wrong. Assumes nothing.
use Rattle.std.specs.Prelude.{ℕ, true, false, List, [], ◌∷◌}
use Prim.Native.String.{String}
use Rattle.keywords.specs.Text.{bytes}
use Rattle.grammar.specs.declared.profile.Profile.TheVariants.{Turso, Sqlite}
use Rattle.grammar.specs.Longest.{Source, source}
use Rattle.cuts.specs.Cuts.{CutAnswer, cut, opened, ended, refused}

pub record CutRow : Type 0 where
  pub source : Source
  pub from : ℕ
  pub answer : CutAnswer

-- under the profile Turso, and under Sqlite
abbrev pub cut_row : String → ℕ → CutAnswer → CutRow
cut_row t from a = record { source = source Turso (bytes t); from = from; answer = a }

abbrev pub sqlite_cut : String → ℕ → CutAnswer → CutRow
sqlite_cut t from a = record { source = source Sqlite (bytes t); from = from; answer = a }

unfoldable pub cuts : List CutRow
cuts =
    -- document 01's
    cut_row "a;b" 0 (cut 0 2 true 2) ∷
    cut_row "a;b" 2 (opened 2 1 3) ∷
    cut_row "';'" 0 (opened 0 3 3) ∷
    -- nothing but TK_NONE before the semicolon, and before the end
    cut_row ";" 0 (cut 0 1 false 1) ∷
    cut_row " --;\n;" 0 (cut 0 6 false 6) ∷
    cut_row "" 0 (ended 0 0 0) ∷
    cut_row "a; /*;" 2 (ended 6 0 6) ∷
    -- no semicolons: inside a name, a parameter, a string with a doubled quote
    cut_row "\";\" $a(;) 'a'';'" 0 (opened 0 16 16) ∷
    -- a refusal before the semicolon, with the offset given; one behind it; an offset past the end
    cut_row "a b! ;" 2 (refused 7 3 1 2) ∷
    cut_row "a;1.5a" 0 (cut 0 2 true 2) ∷
    cut_row "a" 3 (refused 8 0 0 3) ∷
    -- request 7: a semicolon in `[a;b]` is one of a name, and a lone `:` is refused
    cut_row "[a;b];" 0 (cut 0 3 true 3) ∷
    sqlite_cut "[a;b];" 0 (cut 0 6 true 6) ∷
    cut_row "a:;" 0 (cut 0 3 true 3) ∷
    sqlite_cut "a:;" 0 (refused 1 1 1 0) ∷
    -- request 3's: a trigger whole, with TEMP and TEMPORARY, after EXPLAIN and EXPLAIN QUERY PLAN, with comments and blanks between all words
    cut_row "create trigger a begin select 1; end;b" 0 (cut 0 37 true 37) ∷
    cut_row "create temp trigger a begin select 1; end;" 0 (cut 0 42 true 42) ∷
    cut_row "create temporary trigger a begin select 1; end;" 0 (cut 0 47 true 47) ∷
    cut_row "explain create trigger a begin select 1; end;" 0 (cut 0 45 true 45) ∷
    cut_row "explain query plan create trigger a begin select 1; end;" 0 (cut 0 56 true 56) ∷
    cut_row "--;\nexplain/*;*/query plan --\n create /**/ temp\ttrigger a; --;\n end /*;*/;b" 0 (cut 0 74 true 74) ∷
    -- no ending, and END that follows no semicolon, in a CASE and in a name's place
    cut_row "create trigger a begin select 1; end" 0 (opened 0 36 36) ∷
    cut_row "create trigger a begin select case when 1 then 2 end; end;" 0 (cut 0 58 true 58) ∷
    cut_row "create trigger end;" 0 (opened 0 19 19) ∷
    -- END that directly follows a semicolon, at once and after an empty statement; directly followed by another token; in quotes
    cut_row "create trigger;end;" 0 (cut 0 19 true 19) ∷
    cut_row "create trigger a;;end;b" 0 (cut 0 22 true 22) ∷
    cut_row "create trigger a;end end;b" 0 (opened 0 26 26) ∷
    cut_row "create trigger a;'end';\"end\";" 0 (opened 0 29 29) ∷
    -- no trigger's head: TEMP alone and twice, QUERY without PLAN, a quoted name, a table of that name, not the first tokens
    cut_row "create temp;" 0 (cut 0 12 true 12) ∷
    cut_row "create temp temp trigger a;end;" 0 (cut 0 27 true 27) ∷
    cut_row "explain query create trigger a;end;" 0 (cut 0 31 true 31) ∷
    cut_row "\"create\" trigger a;end;" 0 (cut 0 19 true 19) ∷
    cut_row "create table trigger(a);end;" 0 (cut 0 24 true 24) ∷
    cut_row "a create trigger a;end;" 0 (cut 0 19 true 19) ∷
    -- the first tokens from the offset on; a refusal behind an inner semicolon, and one behind the statement
    cut_row "a;create trigger a;end;" 2 (cut 2 21 true 23) ∷
    cut_row "create trigger a;!;end;" 0 (refused 7 17 1 0) ∷
    cut_row "create trigger a;end;!" 0 (cut 0 21 true 21) ∷
    -- request 7: the first `;end;` is the name's under Sqlite; a trigger under it
    cut_row "create trigger [;end;];end;" 0 (cut 0 21 true 21) ∷
    sqlite_cut "create trigger [;end;];end;" 0 (cut 0 27 true 27) ∷
    sqlite_cut "explain create trigger [a;] begin select :2; end;b" 0 (cut 0 49 true 49) ∷
    []
