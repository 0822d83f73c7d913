-- For private functions: a token's record from the line on which it stands, and the line behind it. Assumes nothing.
use Rattle.std.specs.Prelude.{ℕ, ◌+◌, ◌-◌, Bool, cond, not, ◌||◌, ◌&&◌, List, eqb, ltb, get_or}
use Rattle.std.proofs.Math.Seq.{slice}
use Rattle.keywords.specs.Kinds.{kind}
use Rattle.records.specs.declared.Record.{Record}
use Rattle.places.specs.declared.Line.{Line}
use Rattle.places.specs.Places.{newline}
use Rattle.places.specs.Lines.{line_over}

-- by its kind, start and length
abbrev pub record_on : Line → ℕ → ℕ → ℕ → Record
record_on l k start n = record { kind = k; start = start; length = n; line = l.number; column = start - l.start + 1 }

-- the greatest byte with which a quoted name begins
abbrev pub backtick : ℕ
backtick = 0x60

-- no token of this kind that begins with this byte has a 0A: blanks, comments and strings have kinds below TK_ID, quoted names TK_ID
abbrev pub has_no_newline : ℕ → ℕ → Bool
has_no_newline k first = ltb (kind "TK_ID") k || (eqb k (kind "TK_ID") && ltb backtick first)

-- the same of a token of n bytes, which is seen at once where it has one byte only
abbrev pub is_clear : ℕ → ℕ → ℕ → Bool
is_clear k n first = cond (eqb n 1) (not (eqb first newline)) (has_no_newline k first)

-- the line behind a token, whose bytes are gone through unless it is clear
unfoldable pub line_behind : List ℕ → ℕ → ℕ → ℕ → Line → Line
line_behind s k start n l = cond (is_clear k n (get_or s start 0)) l (line_over l start (slice start (start + n) s))
