-- For readers: the test of a run of digits for a missing digit before a `_`, which the Rust makes of decimal digits when it has eaten the
-- `_`, of hexadecimal ones before. `never-holds`: of decimal digits it holds on no text and at no offset, so that it is left out here.
-- `no-text-tells`: with it, whatever it answered, the run would answer the same. `hex-holds`, `hex-tells`: of hexadecimal digits it holds
-- in `0x_1`, whose run is refused there, and would go on to the end without it. Assumes nothing.
use Prim.Native.Nat.{ℕ, zero, suc, ◌+◌, ◌-◌, ◌<◌}
use native.Mathlib.Omega.{arith}
use mathlib.Core.Path.{◌≡◌, refl, sym, ◌∙◌}
use mathlib.Core.Bool.{true, cond}
use mathlib.Core.List.{List}
use lib.Dec.{eqb}
use lib.ListN.{drop, length}
use borrow.Author.Tests.{eqb-true}
use Rattle.std.specs.Prelude.{Ok, Err}
use Rattle.keywords.specs.Text.{bytes}
use Rattle.keywords.proofs.Logic.{split}
use Rattle.words.specs.Bytes.{is_hexdigit, is_digit}
use Rattle.grammar.specs.Form.{Set, D, H}
use Rattle.grammar.specs.Runs.{char, sees, run_length, moved, over}
use Rattle.grammar.proofs.Seen.{moved-one, over-on, seen-in}
use Rattle.lexer.specs.Eaten.{tally, groups, hex_groups, Digits, span}
use Rattle.lexer.proofs.GroupLaws.{group-read, group-bad, group-more}

-- digits of a set, none or some, from a place on, and a `_` behind them
abbrev pub Parted : Set → List ℕ → ℕ → Type 0
Parted t s start = sees (char "_") (drop (over t start s) s) ≡ true

-- The test: the cursor is where the group starts. Of decimal digits it is made when the cursor has passed the `_`,
abbrev pub DecimalTest : List ℕ → ℕ → Type 0
DecimalTest s start = Parted D s start × (start ≡ moved (over D start s) s)

-- of hexadecimal ones when it has not.
abbrev pub HexTest : List ℕ → ℕ → Type 0
HexTest s start = Parted H s start × (start ≡ over H start s)

-- Behind the `_` is behind the start.
pub never-holds : (s : List ℕ) (start : ℕ) → DecimalTest s start → ⊥
never-holds s start (seen, here) =
    let digits = over D start s in
    omega (arith, here, moved-one (char "_") s digits seen, over-on D s start digits refl)

-- The Rust's run of decimal digits, line by line, with the counts d and u carried along. Its test, in a group that starts at a place, answers
-- x of that place; n bounds the groups, and one too many answers so as well.
abbrev pub rust_run : ℕ → (ℕ → Digits) → List ℕ → ℕ → ℕ → ℕ → Digits
rust_run zero x s start d u = x start
rust_run (suc n) x s start d u =
    let end = over D start s in
    let next = moved end s in
    let more = d + (end - start) in
    cond (sees (char "_") (drop end s))
    (cond (eqb start next) (x start) (cond (sees D (drop next s)) (rust_run n x s next more (u + 1)) (Err (span start next))))
    (Ok (tally end more u))

module _ (x : ℕ → Digits) (s : List ℕ) where
  abbrev AsPromised : ℕ → ℕ → ℕ → ℕ → Type 0
  AsPromised n start d u = rust_run n x s start d u ≡ groups D start start d u (drop start s)

  parted : (n start d u : ℕ) → Parted D s start → AsPromised n (moved (over D start s) s) (d + (over D start s - start)) (u + 1)
      → AsPromised (suc n) start d u
  parted n start d u seen rest =
      let end = over D start s in
      let next = moved end s in
      let behind = moved-one (char "_") s end seen in
      split (eqb start next)
      (λ here. absurd (never-holds s start (seen, eqb-true start next here)))
      (λ on. split (sees D (drop next s))
      (λ more. rw (seen, on, more) (rest ∙ sym (group-more D s start end d u refl seen next behind more)))
      (λ none. rw (seen, on, none) (sym (group-bad D s start end d u refl seen next behind none))))

  runs : (n start d u : ℕ) → length s - start < n → AsPromised n start d u
  runs zero start d u l = absurd (omega (arith, l))
  runs (suc n) start d u l =
      let end = over D start s in
      split (sees (char "_") (drop end s))
      (λ seen. parted n start d u seen
      (runs n (moved end s) _ _ (omega (arith, l, moved-one (char "_") s end seen, over-on D s start end refl, seen-in (char "_") s end seen))))
      (λ none. rw none (sym (group-read D s start end d u refl none)))

-- Whatever the test answered, the run answers what `eat_while_number_digit` promises.
pub no-text-tells : (x : ℕ → Digits) (s : List ℕ) (start d u : ℕ) → rust_run (suc (length s)) x s start d u ≡ groups D start start d u (drop start s)
no-text-tells x s start d u = runs x s (suc (length s)) start d u (omega arith)

-- Behind `0x`, where that number's run begins.
pub hex-holds : HexTest (bytes "0x_1") 2
unfolding sees over run_length is_hexdigit is_digit
hex-holds = (refl, refl)

-- The run there as it is promised, and without the test.
pub hex-tells : (hex_groups 2 0 0 (drop 2 (bytes "0x_1")) ≡ Err (span 2 2)) × (groups H 2 2 0 0 (drop 2 (bytes "0x_1")) ≡ Ok (tally 4 1 1))
unfolding hex_groups groups sees is_hexdigit is_digit
hex-tells = (refl, refl)
