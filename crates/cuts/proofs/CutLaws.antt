-- Where `cut` stands in its loop, and what it answers from there. Assumes nothing.
use Prim.Native.Nat.{ℕ, ◌-◌, ◌≤◌}
use mathlib.Core.Path.{◌≡◌, refl, sym, ◌∙◌, ap, subst}
use mathlib.Core.Bool.{Bool, true, false, ◌||◌, true≢false}
use mathlib.Core.List.{List, [], ◌∷◌, ◌++◌, append_assoc, append-nil}
use lib.ListN.{length}
use Rattle.triggers.specs.declared.seen.Seen.{Seen}
use Rattle.triggers.specs.declared.seen.Seen.TheVariants.{Nothing}
use Rattle.triggers.specs.Triggers.{counted}
use Rattle.triggers.specs.Seen.{Tells, Follows, SaysEnd}
use Rattle.triggers.proofs.Theorems.{such_tells}
use Rattle.grammar.specs.Answers.{Answer, token, end, refusal}
use Rattle.grammar.specs.Longest.{Source, Next}
use Rattle.grammar.proofs.Tokens.{end-told}
use Rattle.lexer.specs.declared.cursor.Cursor.{Cursor}
use Rattle.lexer.specs.declared.lexed.Refusal.{Refusal}
use Rattle.lexer.specs.declared.lexed.Lexed.{Lexed}
use Rattle.lexer.specs.declared.lexed.Lexed.TheVariants.{Token, End as Over, Refused as Bad}
use Rattle.lexer.specs.Values.{LexesUnder, number_of}
use Rattle.walks.specs.Walk.{Legal, token_of, not_none, Passes}
use Rattle.walks.proofs.WalkLaws.{legal, token-passes, end-no-token, refusal-no-token, passes-ahead}
use Rattle.cuts.specs.declared.Statement.{Statement}
use Rattle.cuts.specs.declared.Statement.TheVariants.{Cut, Refused}
use Rattle.cuts.specs.Cuts.{CutAnswer, kinds_of, Within, some_not_none, cut_answer, Cutting, values_of, Cuts}

has-one-more : (l : List Legal) (t : Legal) → some_not_none (l ++ (t ∷ [])) ≡ not_none t.kind || some_not_none l
unfolding some_not_none
has-one-more [] t = refl
has-one-more (u ∷ l) t =
    ap (λ (b : Bool). not_none u.kind || b) (has-one-more l t) ∙ or_swap (not_none u.kind) (not_none t.kind) (some_not_none l)
  where
    or_swap : (a b c : Bool) → (a || (b || c)) ≡ (b || (a || c))
    or_swap true true c = refl
    or_swap true false c = refl
    or_swap false true c = refl
    or_swap false false c = refl

-- the kinds of two runs of lexemes, and of one lexeme more
pub kinds-append : (l m : List Legal) → kinds_of (l ++ m) ≡ kinds_of l ++ kinds_of m
unfolding kinds_of
kinds-append [] m = refl
kinds-append (t ∷ l) m =
    ap (λ (k : List ℕ). counted t.kind ++ k) (kinds-append l m) ∙ sym (append_assoc (counted t.kind) (kinds_of l) (kinds_of m))

kinds-one-more : (l : List Legal) (t : Legal) → kinds_of (l ++ (t ∷ [])) ≡ kinds_of l ++ counted t.kind
unfolding kinds_of
kinds-one-more l t = kinds-append l (t ∷ []) ∙ ap (λ (k : List ℕ). kinds_of l ++ k) (append-nil (counted t.kind))

-- the statement did not end; `any` says whether a token came, and `seen` what their kinds are
pub record Uncut (s : Source) (from at : ℕ) (any : Bool) (seen : Seen) : Type 0 where
  pub passed : List Legal
  pub passes : Passes Within s [] from passed at
  pub has : any ≡ some_not_none passed
  pub tells : Tells seen (kinds_of passed)

pub begins : (s : Source) (from : ℕ) → Uncut s from from false Nothing
unfolding Passes some_not_none kinds_of
begins s from = record { passed = []; passes = refl; has = refl; tells = such_tells Nothing }

module _ {s : Source} {from at : ℕ} {any : Bool} {seen : Seen} (v : Uncut s from at any seen) where
  pub ahead : from ≤ at
  ahead = passes-ahead Within s [] from v.passed at v.passes

  pub onward : (k start m : ℕ) (next : Cursor) (d u : ℕ) → LexesUnder s.profile s.text at (Token k start m next d u)
      → (here : Bool) → SaysEnd seen k here → here ≡ false
      → (more : Bool) → more ≡ not_none k || any → (then : Seen) → Follows seen k then → Uncut s from next.at more then
  unfolding LexesUnder SaysEnd Follows
  onward k start m next d u h here says left more e then follows =
      let t = legal k start m d u in
      let passed : Within v.passed t = λ x. true≢false (sym ((says (kinds_of v.passed) v.tells).1 x) ∙ left) in
      record {
        passed = v.passed ++ (t ∷ []);
        passes = token-passes Within s from v.passed at k start m next.at d u v.passes h passed;
        has = e ∙ ap (λ (b : Bool). not_none k || b) v.has ∙ sym (has-one-more v.passed t);
        tells = subst (Tells then) (sym (kinds-one-more v.passed t)) (follows (kinds_of v.passed) v.tells);
      }

  -- the walk ends here
  cutting : (there : Answer) → Next s at there → ((t : Legal) → there ≡ token_of t → Within v.passed t → ⊥)
      → Cutting s from (cut_answer from any there)
  cutting there g stuck =
      record {
        walk = record { passed = v.passed; to = at; passes = v.passes; there = there; gives = g; stops = stuck };
        answers = ap (λ (b : Bool). cut_answer from b there) v.has;
      }

  pub semi-cuts : (k start m : ℕ) (next : Cursor) (d u : ℕ) → LexesUnder s.profile s.text at (Token k start m next d u)
      → (here : Bool) → SaysEnd seen k here → here ≡ true → Cuts s from (Cut from (next.at - from) any next)
  unfolding LexesUnder SaysEnd Cuts
  semi-cuts k start m next d u g here says taken =
      let (semi, ends) = (says (kinds_of v.passed) v.tells).0 taken in
      cutting (token k start m next.at d u) g (λ t p other. let same : t.kind ≡ k = cc in other (same ∙ semi, ends))

  pub refusal-cuts : (why : Refusal) (start m : ℕ) (next given : Cursor) → from ≡ given.at → LexesUnder s.profile s.text at (Bad why start m next)
      → Cuts s from (Refused why start m given)
  unfolding LexesUnder Cuts
  refusal-cuts why start m next given e g =
      subst (λ (a : ℕ). Cutting s from (CutAnswer.refused (number_of why) start m a)) e
      (cutting (refusal (number_of why) start m next.at) g (λ t p other. refusal-no-token (number_of why) start m next.at t p))

  pub end-cuts : (r : Statement) → at ≡ length s.text → Next s at (end at) → values_of r ≡ cut_answer from any (end (length s.text))
      → Cuts s from r
  unfolding Cuts
  end-cuts r l g e =
      subst (Cutting s from) (ap (λ (a : ℕ). cut_answer from any (end a)) l ∙ sym e)
      (cutting (end at) g (λ t p other. end-no-token at t p))

-- the end of the text, which is what is left where neither a token nor a refusal is given
pub only_end : (s : Source) (at : ℕ) (r : Lexed) → LexesUnder s.profile s.text at r
    → ((k start n : ℕ) (next : Cursor) (d u : ℕ) → r ≡ Token k start n next d u → ⊥)
    → ((why : Refusal) (start n : ℕ) (next : Cursor) → r ≡ Bad why start n next → ⊥)
    → (at ≡ length s.text) × Next s at (end at)
unfolding LexesUnder
only_end s at (Token k start n next d u) g p q = absurd (p k start n next d u refl)
only_end s at (Bad why start n next) g p q = absurd (q why start n next refl)
only_end s at (Over next) g p q =
    let (l, o) = end-told s.profile s.text at next.at g in
    (l, subst (λ (a : ℕ). Next s at (end a)) o g)
