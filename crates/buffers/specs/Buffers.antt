-- What the calls that read and write literals say, and a result in a lent buffer. Assumes nothing.
use Rattle.std.specs.Prelude.{ℕ, ◌≡◌, cond, List, ◌++◌, leb, ℤ, length, drop, Result, Ok, Err}
use Prim.Native.String.{String}
use Rattle.buffers.specs.declared.written.NoRoom.{NoRoom}
use Rattle.buffers.specs.Refusals.{literal_refusal}

-- an integer, so many bytes at the buffer's front, or a refusal by its number
pub data Said : Type 0 where
  valued : ℤ → Said
  filled : ℕ → Said
  refused : ℕ → Said

abbrev pub refused_as : String → Said
refused_as name = refused (literal_refusal name)

-- what a call that writes answers
abbrev pub said_of : Result ℕ NoRoom → Said
said_of (Ok n) = filled n
said_of (Err e) = refused_as "NoRoom"

-- bytes at the front of the buffer; the bytes behind them stay
abbrev pub before : List ℕ → List ℕ → List ℕ
before v old = v ++ drop (length v) old

-- what is said of a result v and a lent buffer, and the buffer afterwards: NoRoom exactly when v is longer, with the buffer untouched
pub record Fills (v old : List ℕ) (said : Said) (new : List ℕ) : Type 0 where
  pub answers : said ≡ cond (leb (length v) (length old)) (filled (length v)) (refused_as "NoRoom")
  pub holds : new ≡ cond (leb (length v) (length old)) (before v old) old
