-- A text that has the form of a legal class is one token of that class, from its first byte to its last. Assumes nothing.
use Prim.Native.Nat.{ℕ, suc, ◌+◌, ◌<◌}
use native.Mathlib.Omega.{arith}
use mathlib.Core.Path.{◌≡◌, refl, sym, ◌∙◌, ap, subst}
use mathlib.Core.Bool.{false}
use mathlib.Core.List.{List, [], ◌∷◌}
use mathlib.Core.Logic.{inr}
use lib.ListN.{length, take}
use lib.Seq.{take-length}
use Rattle.keywords.specs.Kinds.{kind}
use Rattle.grammar.specs.declared.profile.Profile.{Profile}
use Rattle.grammar.specs.declared.profile.Profile.TheVariants.{Turso, Sqlite}
use Rattle.grammar.specs.Form.{Form, Has, H, one, many, one_of, lit, ◌·◌, ◌∣◌}
use Rattle.grammar.specs.Classes.{Class, rules, ◌is◌, malformed, string, quoted_name, integer, blob, opened, dig, hex_integer, x}
use Rattle.grammar.specs.Answers.{token, answer}
use Rattle.grammar.specs.Longest.{Longest}
use Rattle.grammar.proofs.ClassLaws.{only, one-rule}
use Rattle.grammar.proofs.Lexemes as Lexemes
use Rattle.grammar.proofs.Theorems.{sound, one_class}
use Rattle.grammar.proofs.Tokens.{whole-token}
use Rattle.spans.specs.Spans.{IsTokenWith, IsToken}
use Rattle.spans.proofs.KindLaws.{kind_after, quoted_form}

module _ (p : Profile) where
  longest : (c : Class) (f : Form) → only c (rules p) ≡ (c is f) ∷ [] → (w : List ℕ) → Has f w → Longest (rules p) w c (length w)
  longest c f e w h =
      let st = (one-rule (rules p) c f e w (length w)).1 (omega arith, subst (Has f) (sym (take-length w)) h) in
      let there = Lexemes.stands-anywhere (rules p) (sound p) in
      record {
        stands = st;
        longest = λ d m s. s.0;
        alone = λ d s. one_class p w (length w) d c (there d w (length w) s) (there c w (length w) st);
      }

  given : (c : Class) (k : ℕ) (w : List ℕ) → malformed c ≡ false → kind_after (answer c 0 w) ≡ suc k → 0 < length w → Longest (rules p) w c (length w)
      → IsToken p w 0 (length w) k
  unfolding IsToken IsTokenWith
  given c k w l e o h =
      let (j, d, u, f, x) = whole-token c 0 w l in
      let kinds : j ≡ k = omega (arith, sym (ap kind_after f) ∙ e) in
      let same : token k 0 (length w) (0 + length w) d u ≡ answer c 0 (take (length w) w) = rw (take-length w, ← kinds) (sym f) in
      (d, (u, inr (inr (o, (c, length w, h, same)))))

only_one : (p : Profile) → (only string (rules p) ≡ (string is opened (one_of "'") · lit "'") ∷ []) × (only quoted_name (rules p) ≡ (quoted_name is quoted_form p) ∷ [])
    × (only integer (rules p) ≡ (integer is dig ∣ hex_integer) ∷ []) × (only blob (rules p) ≡ (blob is x · lit "'" · many (one H · one H) · lit "'") ∷ [])
unfolding rules
only_one Turso = (refl, refl, refl, refl)
only_one Sqlite = (refl, refl, refl, refl)

module _ (p : Profile) (w : List ℕ) (o : 0 < length w) where
  pub is-string : Has (opened (one_of "'") · lit "'") w → IsToken p w 0 (length w) (kind "TK_STRING")
  unfolding answer malformed
  is-string h = given p string _ w refl refl o (longest p string _ (only_one p).0 w h)

  pub is-id : Has (quoted_form p) w → IsToken p w 0 (length w) (kind "TK_ID")
  unfolding answer malformed
  is-id h = given p quoted_name _ w refl refl o (longest p quoted_name _ (only_one p).1 w h)

  pub is-integer : Has (dig ∣ hex_integer) w → IsToken p w 0 (length w) (kind "TK_INTEGER")
  unfolding answer malformed
  is-integer h = given p integer _ w refl refl o (longest p integer _ (only_one p).2 w h)

  pub is-blob : Has (x · lit "'" · many (one H · one H) · lit "'") w → IsToken p w 0 (length w) (kind "TK_BLOB")
  unfolding answer malformed
  is-blob h = given p blob _ w refl refl o (longest p blob _ (only_one p).3 w h)
