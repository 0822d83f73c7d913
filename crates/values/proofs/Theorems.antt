-- For readers. Two results that meet a call's contract are equal: the status, the value or the count, and the buffer. Assumes nothing.
use Prim.Native.Nat.{ℕ}
use mathlib.Core.Path.{◌≡◌, sym, ◌∙◌, ap}
use mathlib.Core.List.{List}
use lib.IntN.{ℤ}
use Rattle.grammar.specs.declared.profile.Profile.{Profile}
use Rattle.buffers.specs.Buffers as Buffers
use Rattle.buffers.specs.Buffers.{Said}
use Rattle.std.specs.Prelude.{Result}
use Rattle.buffers.specs.declared.written.NoRoom.{NoRoom}
use Rattle.spans.specs.Spans as Spans
use Rattle.spans.specs.declared.answers.ReadError.{ReadError}
use Rattle.integers.specs.Calls as Integers
use Rattle.integers.specs.Calls.{WritesInteger}
use Rattle.integers.proofs.Theorems as integers
use Rattle.strings.specs.Calls.{ReadsString, ReadsName, WritesString, WritesName}
use Rattle.strings.proofs.Theorems as strings
use Rattle.blobs.specs.Calls.{ReadsBlob, WritesBlob}
use Rattle.blobs.proofs.Theorems as blobs
use Rattle.codes.specs.Profiles.{profile_of}
use Rattle.codes.proofs.CodeLaws.{by-profile}
use Rattle.values.specs.Calls.{status_of, value_after, count_after, GaveValue, GaveCount, ReadIntegerCall, BytesReader, ReadBytesCall, LiteralWriter, WriteCall}

-- of answers that say the same the same is given
same-value : (a b : Said) (old : ℤ) (k l : ℕ) (v w : ℤ) → a ≡ b → GaveValue a old k v → GaveValue b old l w → (k ≡ l) × (v ≡ w)
same-value a b old k l v w e x y = (x.0 ∙ ap status_of e ∙ sym y.0, x.1 ∙ ap (value_after old) e ∙ sym y.1)

same_count : (a b : Said) (old k l m n : ℕ) → a ≡ b → GaveCount a old k m → GaveCount b old l n → (k ≡ l) × (m ≡ n)
same_count a b old k l m n e x y = (x.0 ∙ ap status_of e ∙ sym y.0, x.1 ∙ ap (count_after old) e ∙ sym y.1)

pub read-integer-unique : (s : List ℕ) (start n profile : ℕ) (old : ℤ) (k l : ℕ) (v w : ℤ)
    → ReadIntegerCall s start n profile old k v → ReadIntegerCall s start n profile old l w → (k ≡ l) × (v ≡ w)
read-integer-unique s start n profile old k l v w =
    by-profile (profile_of profile) _ _ _ _ _
    (λ p x y. same-value _ _ old k l v w (ap Integers.said_of (integers.read-unique p s start n x.0 y.0 x.1 y.1)) x.2 y.2)
    (λ x y. (x.0 ∙ sym y.0, x.1 ∙ sym y.1))

-- of a call below that reads bytes two answers are one, with one buffer; of the call above it two results are one
abbrev OneRead : BytesReader → Type 0
OneRead Reads =
    (p : Profile) (s : List ℕ) (start n : ℕ) (old new new' : List ℕ) (r q : Result ℕ ReadError)
    → Reads p s start n old r new → Reads p s start n old q new' → (r ≡ q) × (new ≡ new')

abbrev pub OneReadCall : BytesReader → Type 0
OneReadCall Reads =
    (s : List ℕ) (start n profile : ℕ) (old : List ℕ) (count k l : ℕ) (new new' : List ℕ) (i j : ℕ)
    → ReadBytesCall Reads s start n profile old count k new i → ReadBytesCall Reads s start n profile old count l new' j
    → (k ≡ l) × (new ≡ new') × (i ≡ j)

read-unique : (Reads : BytesReader) → OneRead Reads → OneReadCall Reads
read-unique Reads one s start n profile old count k l new new' i j =
    by-profile (profile_of profile) _ _ _ _ _
    (λ p x y.
    let (e, f) = one p s start n old new new' x.0 y.0 x.1 y.1 in
    let (g, h) = same_count _ _ count k l i j (ap Spans.said_of e) x.2 y.2 in
    (g, f, h))
    (λ x y. (x.0 ∙ sym y.0, x.1 ∙ sym y.1, x.2 ∙ sym y.2))

pub read-string-unique : OneReadCall ReadsString
read-string-unique = read-unique ReadsString strings.read-string-unique

pub read-name-unique : OneReadCall ReadsName
read-name-unique = read-unique ReadsName strings.read-name-unique

pub read-blob-unique : OneReadCall ReadsBlob
read-blob-unique = read-unique ReadsBlob blobs.read-blob-unique

-- and so where a literal is written
abbrev OneWritten : LiteralWriter → Type 0
OneWritten Writes = (old new new' : List ℕ) (r q : Result ℕ NoRoom) → Writes old r new → Writes old q new' → (r ≡ q) × (new ≡ new')

abbrev pub OneWriteCall : LiteralWriter → Type 0
OneWriteCall Writes =
    (old : List ℕ) (count k l : ℕ) (new new' : List ℕ) (i j : ℕ) → WriteCall Writes old count k new i → WriteCall Writes old count l new' j
    → (k ≡ l) × (new ≡ new') × (i ≡ j)

write-unique : (Writes : LiteralWriter) → OneWritten Writes → OneWriteCall Writes
write-unique Writes one old count k l new new' i j x y =
    let (e, f) = one old new new' x.0 y.0 x.1 y.1 in
    let (g, h) = same_count _ _ count k l i j (ap Buffers.said_of e) x.2 y.2 in
    (g, f, h)

pub write-integer-unique : (v : ℤ) → OneWriteCall (WritesInteger v)
write-integer-unique v = write-unique (WritesInteger v) (integers.written-unique v)

pub write-string-unique : (v : List ℕ) → OneWriteCall (WritesString v)
write-string-unique v = write-unique (WritesString v) (strings.write-string-unique v)

pub write-name-unique : (v : List ℕ) → OneWriteCall (WritesName v)
write-name-unique v = write-unique (WritesName v) (strings.write-name-unique v)

pub write-blob-unique : (v : List ℕ) → OneWriteCall (WritesBlob v)
write-blob-unique v = write-unique (WritesBlob v) (blobs.write-blob-unique v)
