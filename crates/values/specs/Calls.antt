-- What the calls owe: a status, and what stands afterwards where the value or the count is lent, as the call below says it; where a number is
-- no profile's a status of its own, and everything lent as it was. Assumes nothing.
use Rattle.std.specs.Prelude.{ℕ, ◌≡◌, List, ℤ, Result}
use Rattle.grammar.specs.declared.profile.Profile.{Profile}
use Rattle.buffers.specs.Buffers as Buffers
use Rattle.buffers.specs.Buffers.{Said, valued, filled, refused}
use Rattle.buffers.specs.declared.written.NoRoom.{NoRoom}
use Rattle.spans.specs.Spans as Spans
use Rattle.spans.specs.declared.answers.ReadError.{ReadError}
use Rattle.integers.specs.Calls as Integers
use Rattle.integers.specs.declared.reading.IntegerError.{IntegerError}
use Rattle.codes.specs.Profiles.{profile_of, unknown_profile, Under}

-- the status where a value was read, or a literal written
abbrev pub done : ℕ
done = 104

-- a refusal's is its number
abbrev pub status_of : Said → ℕ
status_of (valued v) = done
status_of (filled n) = done
status_of (refused number) = number

-- the value afterwards, and the count: only what is read or written is set
abbrev pub value_after : ℤ → Said → ℤ
value_after old (valued v) = v
value_after old (filled n) = old
value_after old (refused number) = old

abbrev pub count_after : ℕ → Said → ℕ
count_after old (valued v) = old
count_after old (filled n) = n
count_after old (refused number) = old

-- the status, with the value before and after; and so with a count
abbrev pub GaveValue : Said → ℤ → ℕ → ℤ → Type 0
GaveValue said old status new = (status ≡ status_of said) × (new ≡ value_after old said)

abbrev pub GaveCount : Said → ℕ → ℕ → ℕ → Type 0
GaveCount said old status new = (status ≡ status_of said) × (new ≡ count_after old said)

-- an integer is read from a span, with the value before and after
abbrev pub ReadIntegerCall : List ℕ → ℕ → ℕ → ℕ → ℤ → ℕ → ℤ → Type 0
ReadIntegerCall s start n profile old status new =
    Under (profile_of profile) (λ p. (r : Result ℤ IntegerError) × Integers.ReadsInteger p s start n r × GaveValue (Integers.said_of r) old status new)
    ((status ≡ unknown_profile) × (new ≡ old))

-- what a call below owes that reads bytes: under a profile, from a span, its answer, with the buffer before and after
abbrev pub BytesReader : Type 1
BytesReader = Profile → List ℕ → ℕ → ℕ → List ℕ → Result ℕ ReadError → List ℕ → Type 0

-- bytes are read from a span, of the literal that the call below reads; with the buffer and the count before and after
abbrev pub ReadBytesCall : BytesReader → List ℕ → ℕ → ℕ → ℕ → List ℕ → ℕ → ℕ → List ℕ → ℕ → Type 0
ReadBytesCall Reads s start n profile buffer count status buffer' count' =
    Under (profile_of profile) (λ p. (r : Result ℕ ReadError) × Reads p s start n buffer r buffer' × GaveCount (Spans.said_of r) count status count')
    ((status ≡ unknown_profile) × (buffer' ≡ buffer) × (count' ≡ count))

-- what a call below owes that writes the literal of a value: its answer, with the buffer before and after
abbrev pub LiteralWriter : Type 1
LiteralWriter = List ℕ → Result ℕ NoRoom → List ℕ → Type 0

-- a literal is written, with the buffer and the count before and after
abbrev pub WriteCall : LiteralWriter → List ℕ → ℕ → ℕ → List ℕ → ℕ → Type 0
WriteCall Writes buffer count status buffer' count' =
    (r : Result ℕ NoRoom) × Writes buffer r buffer' × GaveCount (Buffers.said_of r) count status count'
