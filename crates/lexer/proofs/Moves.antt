-- A token leads on: the next cursor lies behind the one given, and not behind the text's end. Assumes nothing.
use Prim.Native.Nat.{ℕ, ◌≤◌, ◌<◌}
use native.Mathlib.Omega.{arith}
use mathlib.Core.List.{List}
use lib.ListN.{length}
use Rattle.grammar.specs.declared.profile.Profile.{Profile}
use Rattle.grammar.proofs.Tokens.{told}
use Rattle.lexer.specs.declared.cursor.Cursor.{Cursor}
use Rattle.lexer.specs.declared.lexed.Lexed.TheVariants.{Token}
use Rattle.lexer.specs.Values.{LexesUnder}

pub moves : (π : Profile) (s : List ℕ) (at k start n : ℕ) (next : Cursor) (d u : ℕ) → LexesUnder π s at (Token k start n next d u)
    → (at < next.at) × (next.at ≤ length s)
unfolding LexesUnder
moves π s at k start n next d u h =
    let t = told π s at k start n next.at d u h in
    let g = t.goes in
    let p = t.some in
    (omega arith, t.inside)
