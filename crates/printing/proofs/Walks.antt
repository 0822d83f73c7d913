-- Behind a token a walk has moved on, and not out of the text. Assumes nothing.
use Prim.Native.Nat.{ℕ, ◌≤◌, ◌<◌}
use mathlib.Core.Path.{◌≡◌, subst}
use mathlib.Core.List.{List}
use lib.ListN.{length}
use Rattle.grammar.specs.declared.profile.Profile.{Profile}
use Rattle.lexer.specs.declared.cursor.Cursor.{Cursor}
use Rattle.lexer.specs.declared.lexed.Lexed.{Lexed}
use Rattle.lexer.specs.declared.lexed.Lexed.TheVariants.{Token}
use Rattle.lexer.specs.Values.{LexesUnder}
use Rattle.lexer.proofs.Moves.{moves}

pub advances : (π : Profile) (s : List ℕ) (at : ℕ) {k start n d u : ℕ} {r : Lexed} {next : Cursor} → r ≡ Token k start n next d u
    → LexesUnder π s at r → (at < next.at) × (next.at ≤ length s)
advances π s at e h = moves π s at _ _ _ _ _ _ (subst (LexesUnder π s at) e h)
