-- `integers::reading::read_integer` meets its contract: the span is an integer with so many digits, or none. Assumes nothing.
use Prim.Native.Nat.{◌+◌, ◌≤◌}
use native.Mathlib.Omega.{arith}
use lib.ListN.{length}
use Rattle.keywords.specs.Kinds.{kind}
use Rattle.spans.specs.Spans.{IsTokenWith}
use Rattle.spans.proofs.TokenLaws.{inside, some-digits}
use Rattle.spans.proofs.ReadingLaws.{not-that, goes-on, no-such, handed-out}
use Rattle.integers.specs.Calls.{ReadsInteger}
use Rattle.integers.proofs.ReadingLaws.{number_fits, part-read}
use Rattle.integers.proofs.reading.read_integer.Goals as goal
use Rattle.integers.proofs.reading.read_integer.Goals.{In_ok-digits}

pub returns-in_err-digits : goal.returns-in_err-digits
unfolding ReadsInteger
returns-in_err-digits c =
    rw (handed-out _ c.ok_or.ensures.value c.in_err-digits.was c.from_residual.ensures.1)
    (not-that (no-such c.ok_or.ensures.ok_part _ _ _ _ _ c.find.ensures c.in_err-digits.was))

token : (c : In_ok-digits) → IsTokenWith c.args.profile c.args.text.now c.args.start c.args.length (kind "TK_INTEGER") c.in_ok-digits.digits
token c = goes-on c.ok_or.ensures.ok_part _ _ _ _ _ c.find.ensures c.in_ok-digits.was

ends : (c : In_ok-digits) → c.args.start + c.args.length ≤ length c.args.text.now
ends c = (inside _ _ _ _ _ (some-digits _ _ _ _ _ _ (token c))).0

pub overflow_add-end : goal.overflow_add-end
overflow_add-end c = omega (arith, ends (goal.at.overflow_add-end c).In_ok-digits)

pub slice_bounds-value_of-end : goal.slice_bounds-value_of-end
slice_bounds-value_of-end c = ends (goal.at.slice_bounds-value_of-end c).In_ok-digits

pub value_of-requires : goal.value_of-requires
value_of-requires c =
    let fits = number_fits _ _ _ _ _ (token (goal.at.value_of-requires c).In_ok-digits) in record { lexeme_bound = fits.0; lexeme_bound_2 = fits.1 }

pub returns : goal.returns
returns c = part-read _ _ _ _ _ (token (goal.at.returns c).In_ok-digits) _ c.value_of.ensures
