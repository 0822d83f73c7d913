-- For readers. A span is found to be one thing; a call that reads says one thing, and leaves one buffer. Assumes nothing.
use Prim.Native.Nat.{ℕ}
use native.Mathlib.Omega.{arith}
use mathlib.Core.Path.{◌≡◌, refl, sym, ◌∙◌, ap}
use mathlib.Core.List.{List}
use mathlib.Core.Logic.{inl, inr}
use Rattle.grammar.specs.declared.profile.Profile.{Profile}
use Rattle.grammar.specs.Classes.{rules}
use Rattle.grammar.proofs.Unique.{gives-unique}
use Rattle.buffers.specs.Buffers.{Said}
use Rattle.buffers.proofs.Theorems.{fills-unique}
use Rattle.std.specs.Prelude.{Option, Some, None, Result, Ok, Err}
use Rattle.spans.specs.declared.answers.ReadError.{ReadError}
use Rattle.spans.specs.declared.answers.ReadError.TheVariants.{NotThatLiteral, NoRoom}
use Rattle.spans.specs.Spans.{IsTokenWith, Finds, Reads, ReadsBytes, said_of}
use Rattle.spans.proofs.TokenLaws.{some-digits}

pub found-unique : (p : Profile) (s : List ℕ) (start n k : ℕ) (r q : Option ℕ) → Finds p s start n k r → Finds p s start n k q → r ≡ q
unfolding IsTokenWith
found-unique p s start n k (Some d) (Some e) (u, g) (v, h) = let f = gives-unique (rules p) s start _ _ g h in let same : d ≡ e = cc in ap Some same
found-unique p s start n k (Some d) None g h = absurd (h (some-digits p s start n k d g))
found-unique p s start n k None (Some e) g h = absurd (g (some-digits p s start n k e h))
found-unique p s start n k None None g h = refl

pub reads-unique : {That : Type 0} {v a b : Said} → Reads That v a → Reads That v b → a ≡ b
reads-unique (inl (h, e)) (inl (i, f)) = e ∙ sym f
reads-unique (inl (h, e)) (inr (i, f)) = absurd (h i)
reads-unique (inr (h, e)) (inl (i, f)) = absurd (i h)
reads-unique (inr (h, e)) (inr (i, f)) = e ∙ sym f

-- two answers that say the same are the same
pub read_same : (r q : Result ℕ ReadError) → said_of r ≡ said_of q → r ≡ q
read_same (Ok n) (Ok m) e = let f : n ≡ m = cc in ap Ok f
read_same (Ok n) (Err NotThatLiteral) e = absurd (let z : ◌≡◌ {A = ℕ} 0 1 = cc in omega arith)
read_same (Ok n) (Err NoRoom) e = absurd (let z : ◌≡◌ {A = ℕ} 0 1 = cc in omega arith)
read_same (Err NotThatLiteral) (Ok m) e = absurd (let z : ◌≡◌ {A = ℕ} 0 1 = cc in omega arith)
read_same (Err NotThatLiteral) (Err NotThatLiteral) e = refl
read_same (Err NotThatLiteral) (Err NoRoom) e = absurd (let z : ◌≡◌ {A = ℕ} 11 13 = cc in omega arith)
read_same (Err NoRoom) (Ok m) e = absurd (let z : ◌≡◌ {A = ℕ} 0 1 = cc in omega arith)
read_same (Err NoRoom) (Err NotThatLiteral) e = absurd (let z : ◌≡◌ {A = ℕ} 13 11 = cc in omega arith)
read_same (Err NoRoom) (Err NoRoom) e = refl

pub bytes-unique : {That : Type 0} {v old new new' : List ℕ} (r q : Result ℕ ReadError) → ReadsBytes That v old (said_of r) new → ReadsBytes That v old (said_of q) new'
    → (r ≡ q) × (new ≡ new')
bytes-unique r q (inl (h, e, x)) (inl (i, f, y)) = (read_same r q (e ∙ sym f), x ∙ sym y)
bytes-unique r q (inl (h, e, x)) (inr (i, f)) = absurd (h i)
bytes-unique r q (inr (h, f)) (inl (i, e, x)) = absurd (i h)
bytes-unique r q (inr (h, f)) (inr (i, g)) = let u = fills-unique f g in (read_same r q u.0, u.1)
