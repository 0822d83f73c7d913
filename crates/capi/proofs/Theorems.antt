-- For readers. `next-unique`, `list-unique`, `part-unique`, `count-unique`, `cut-unique`, `check-unique`, `pair-unique`: two results that meet
-- a call's contract, and two lists, are equal. The contracts of `sqllex_stream_begin`, `sqllex_stream_offer` and `sqllex_stream_finish` are
-- those of `packets`, and so are their theorems: `begin-unique`, `offer-unique`, `finish-unique` (Theorems.antt there). Assumes nothing.
use Prim.Native.Nat.{ℕ}
use mathlib.Core.Path.{◌≡◌, sym, ◌∙◌, ap, subst}
use mathlib.Core.List.{List}
use Rattle.grammar.specs.Longest.{source}
use Rattle.lexer.proofs.Theorems.{unique}
use Rattle.cuts.proofs.Theorems as cuts
use Rattle.lists.specs.declared.part.Part.{Part}
use Rattle.lists.specs.Lists.{records_in}
use Rattle.lists.specs.Parts.{spent_in}
use Rattle.lists.proofs.Theorems as lists
use Rattle.lists.proofs.PartTheorems as parts
use Rattle.records.specs.declared.Record.{Record}
use Rattle.std.specs.Prelude.{Result}
use Rattle.agreeing.specs.declared.CheckError.{CheckError}
use Rattle.agreeing.specs.Agreeing.{verdict_of}
use Rattle.agreeing.proofs.Theorems as agreeing
use Rattle.brackets.specs.Numbers.{outcome}
use Rattle.codes.specs.declared.answers.Numbers.{Numbers}
use Rattle.codes.specs.Told.{of_next, of_list, of_part, of_cut, written}
use Rattle.codes.specs.Profiles.{profile_of}
use Rattle.codes.proofs.CodeLaws.{by-profile}
use Rattle.packets.specs.Numbers.{seven}
use Rattle.verdicts.specs.Verdicts.{GaveVerdict}
use Rattle.verdicts.proofs.Theorems.{given-unique, pairing-unique}
use Rattle.capi.specs.Calls.{Gave, GavePart, NextCall, ListCall, PartCall, CountCall, CutCall, CheckCall, PairCall}

-- equal answers give the same numbers
same : (x y : Numbers) (m n : ℕ) (k l : List ℕ) → x ≡ y → Gave x m k → Gave y n l → (m ≡ n) × (k ≡ l)
same x y m n k l e (a, b) (c, d) = (a ∙ ap (λ (z : Numbers). z.status) e ∙ sym c, b ∙ ap written e ∙ sym d)

pub next-unique : (s : List ℕ) (at profile : ℕ) (lent : List ℕ) (m n : ℕ) (k l : List ℕ)
    → NextCall s at profile lent m k → NextCall s at profile lent n l → (m ≡ n) × (k ≡ l)
next-unique s at profile lent m n k l =
    by-profile (profile_of profile) _ _ _ _ _
    (λ p x y. same _ _ m n k l (ap of_next (unique p s at x.answer y.answer x.owed y.owed)) x.gave y.gave)
    (λ x y. (x.0 ∙ sym y.0, x.1 ∙ sym y.1))

pub list-unique : (s : List ℕ) (at profile : ℕ) (old lent : List ℕ) (m n : ℕ) (k l new new' : List ℕ)
    → ListCall s at profile old lent m k new → ListCall s at profile old lent n l new' → (m ≡ n) × (k ≡ l) × (new ≡ new')
list-unique s at profile old lent m n k l new new' =
    by-profile (profile_of profile) _ _ _ _ _
    (λ p x y. let (e, w) = lists.list-unique (source p s) at old x.answer y.answer new new' x.owed y.owed in
    let (a, b) = same _ _ m n k l (ap of_list e) x.gave y.gave in
    (a, b, w))
    (λ x y. (x.0 ∙ sym y.0, x.1 ∙ sym y.1, x.2 ∙ sym y.2))

same-part : (r q : Part) (m n : ℕ) (k l : List ℕ) → r ≡ q → GavePart r m k → GavePart q n l → (m ≡ n) × (k ≡ l)
same-part r q m n k l e (a, b) (c, d) =
    (a ∙ ap (λ (p : Part). (of_part p).status) e ∙ sym c, b ∙ ap (λ (p : Part). seven (of_part p) (spent_in p)) e ∙ sym d)

pub part-unique : (s : List ℕ) (at profile allowance : ℕ) (old lent : List ℕ) (m n : ℕ) (k l new new' : List ℕ)
    → PartCall s at profile allowance old lent m k new → PartCall s at profile allowance old lent n l new' → (m ≡ n) × (k ≡ l) × (new ≡ new')
part-unique s at profile allowance old lent m n k l new new' =
    by-profile (profile_of profile) _ _ _ _ _
    (λ p x y. let (e, w) = parts.part-unique (source p s) at allowance old x.answer y.answer new new' x.owed y.owed in
    let (a, b) = same-part x.answer y.answer m n k l e x.gave y.gave in
    (a, b, w))
    (λ x y. (x.0 ∙ sym y.0, x.1 ∙ sym y.1, x.2 ∙ sym y.2))

pub count-unique : (s : List ℕ) (profile : ℕ) (old : List ℕ) (m n : ℕ) (new new' : List ℕ)
    → CountCall s profile old m new → CountCall s profile old n new' → (m ≡ n) × (new ≡ new')
count-unique s profile old m n new new' =
    by-profile (profile_of profile) _ _ _ _ _
    (λ p x y. let (e, w) = lists.list-unique (source p s) 0 old x.answer y.answer new new' x.owed y.owed in
    (x.gave ∙ ap records_in e ∙ sym y.gave, w))
    (λ x y. (x.0 ∙ sym y.0, x.1 ∙ sym y.1))

pub cut-unique : (s : List ℕ) (at profile : ℕ) (lent : List ℕ) (m n : ℕ) (k l : List ℕ)
    → CutCall s at profile lent m k → CutCall s at profile lent n l → (m ≡ n) × (k ≡ l)
cut-unique s at profile lent m n k l =
    by-profile (profile_of profile) _ _ _ _ _
    (λ p x y. same _ _ m n k l (ap of_cut (cuts.cut-unique (source p s) at x.answer y.answer x.owed y.owed)) x.gave y.gave)
    (λ x y. (x.0 ∙ sym y.0, x.1 ∙ sym y.1))

pub check-unique : (s : List ℕ) (profile : ℕ) (records : List Record) (old m n k l : ℕ)
    → CheckCall s profile records old m k → CheckCall s profile records old n l → (m ≡ n) × (k ≡ l)
check-unique s profile records old m n k l =
    by-profile (profile_of profile) _ _ _ _ _
    (λ p x y. let e = agreeing.check-unique _ records y.answer x.answer y.owed x.owed in
    given-unique (verdict_of x.answer) m n k l x.gave (subst (λ (a : Result (Unit {0}) CheckError). GaveVerdict (verdict_of a) n l) e y.gave))
    (λ x y. (x.0 ∙ sym y.0, x.1 ∙ sym y.1))

pub pair-unique : (numbers old : List ℕ) (m n k l : ℕ) (new new' : List ℕ)
    → PairCall numbers old m k new → PairCall numbers old n l new' → (m ≡ n) × (k ≡ l) × (new ≡ new')
pair-unique numbers old m n k l new new' (g, w) (h, z) = let (a, b) = pairing-unique (outcome numbers old) m n k l g h in (a, b, w ∙ sym z)
