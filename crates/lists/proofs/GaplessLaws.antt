-- A walk's lexemes follow one another, each the longest and in one class, up to the end or a malformed one. Assumes nothing.
use Prim.Native.Nat.{ℕ, ◌+◌, ◌≤◌, ◌<◌}
use native.Mathlib.Omega.{arith}
use mathlib.Core.Path.{◌≡◌, refl, sym, ◌∙◌, ap, subst}
use mathlib.Core.Bool.{true, false, true≢false}
use mathlib.Core.List.{List, [], ◌∷◌, ◌++◌}
use mathlib.Core.Logic.{inl, inr}
use lib.Dec.{eqb}
use lib.ListN.{length, take, drop}
use borrow.Author.Tests.{eqb-true, eqb-false}
use Rattle.keywords.proofs.Logic.{split}
use Rattle.grammar.specs.Classes.{Class, malformed}
use Rattle.grammar.specs.Classes.{blank_run, line_comment, block_comment, operator, string, quoted_name, integer, float, blob, parameter, word, illegal}
use Rattle.grammar.specs.Classes.{unrecognized, bang, open_quote, open_blob, odd_blob, bad_parameter, underscore, word_after_integer, word_after_fraction}
use Rattle.grammar.specs.Classes.{no_exponent, word_after_exponent, no_hexdigit, underscore_after_x, hex_underscore, word_after_hex}
use Rattle.grammar.specs.Answers.{Answer, token, end, refusal, answer}
use Rattle.grammar.specs.Longest.{Source, Next}
use Rattle.grammar.proofs.Tokens.{told, whole-token}
use Rattle.walks.specs.Walk.{Legal, token_of, Goes, Always, Passes, Walk}
use Rattle.walks.proofs.WalkLaws.{legal, is-legal, end-no-token, refusal-no-token, passes-most}
use Rattle.lists.specs.Refusals.{list_refusal}
use Rattle.lists.specs.Lists.{HasRoom, list_full, list_answer, Listing}
use Rattle.lists.specs.Parts.{not_blank, Allowed, PartAnswer, part_answer, Parting}
use Rattle.lists.specs.Gapless.{InOneClass, Follow, Each, RunEnds, Ends, Gapless, SliceEnds, GaplessSlice}

module _ (goes : Goes) (s : Source) where
  in-one-class : (at : ℕ) (t : Legal) → Next s at (token_of t) → InOneClass false s at t.length (token_of t)
  in-one-class at t g =
      let o = told s.profile s.text at t.kind t.start t.length (t.start + t.length) t.digits t.underscores g in
      (o.class, o.legal, o.longest, o.gives)

  pub passes-follow : (before : List Legal) (from : ℕ) (l : List Legal) (to : ℕ) → Passes goes s before from l to → Follow from l to
  unfolding Passes Follow
  passes-follow before from [] to p = p
  passes-follow before from (t ∷ l) to (e, g, o, p) =
      let o = told s.profile s.text from t.kind t.start t.length (t.start + t.length) t.digits t.underscores g in
      (e, o.some, passes-follow (before ++ (t ∷ [])) (from + t.length) l to p)

  pub passes-each : (before : List Legal) (from : ℕ) (l : List Legal) (to : ℕ) → Passes goes s before from l to
      → Each s l
  unfolding Passes
  passes-each before from [] to p = tt
  passes-each before from (t ∷ l) to (e, g, o, p) =
      let here = subst (λ (a : ℕ). InOneClass false s a t.length (token_of t)) (sym e) (in-one-class from t g) in
      (here, passes-each (before ++ (t ∷ [])) (from + t.length) l to p)

-- what stops a walk, if no lexeme does
run_ends : (s : Source) (to : ℕ) (there : Answer) → Next s to there → ((t : Legal) → there ≡ token_of t → ⊥) → RunEnds s to there
run_ends s to there (inl h) other = inl h
run_ends s to there (inr (inl h)) other = inr (inl h)
run_ends s to there (inr (inr (h, (c, n, x, e)))) other = inr (inr (n, (c, bad, x, e)))
  where
    w : List ℕ
    w = take n (drop to s.text)

    bad : malformed c ≡ true
    bad =
        split (malformed c)
        (λ m. m)
        (λ m. let (k, d, u, f, x) = whole-token c to w m in absurd (other (legal k to (length w) d u) (e ∙ f)))

-- a walk that passes every lexeme
pub always-ends : (s : Source) (from : ℕ) (w : Walk Always s from) → RunEnds s w.to w.there
always-ends s from w = run_ends s w.to w.there w.gives (λ t e. w.stops t e tt)

-- what stops a walk of List
stop-ends : (s : Source) (numbers : ℕ) (l : List Legal) (to : ℕ) (there : Answer) → Next s to there
    → ((t : Legal) → there ≡ token_of t → HasRoom numbers l t → ⊥) → Ends s numbers l to (list_answer to there)
stop-ends s numbers l to (end offset) g stuck = inl (run_ends s to (end offset) g (end-no-token offset))
stop-ends s numbers l to (refusal k start n offset) g stuck =
    inl (run_ends s to (refusal k start n offset) g (refusal-no-token k start n offset))
stop-ends s numbers l to (token k start n next d u) g stuck =
    let o = told s.profile s.text to k start n next d u g in
    let t = legal k start n d u in
    let same = is-legal s to k start n next d u g in
    inr (t, (o.class, o.legal, o.longest, sym same ∙ o.gives), stuck t same, refl)

pub gapless : (s : Source) (from : ℕ) (old : List ℕ) (a : Answer) (records : ℕ) (new : List ℕ)
    → Listing s from old a records new → Gapless s from old a records new
gapless s from old a records new x =
    let w = x.walk in
    let ends = stop-ends s (length old) w.passed w.to w.there w.gives w.stops in
    record {
      lexemes = w.passed;
      to = w.to;
      follow = passes-follow (HasRoom (length old)) s [] from w.passed w.to w.passes;
      each = passes-each (HasRoom (length old)) s [] from w.passed w.to w.passes;
      ends = subst (Ends s (length old) w.passed w.to) (sym x.answers) ends;
      counted = x.counted;
      written = x.written;
    }

-- what stops a slice at a legal lexeme: its allowance is spent, or it is not, and there is no room for the lexeme's record
slice-held : (s : Source) (room allowance : ℕ) (l : List Legal) (to k start n next d u : ℕ) → length l ≤ allowance
    → Next s to (token k start n next d u)
    → ((t : Legal) → token k start n next d u ≡ token_of t → Allowed not_blank room allowance l t → ⊥)
    → SliceEnds s room allowance l to (part_answer to (eqb (length l) allowance) (token k start n next d u))
slice-held s room allowance l to k start n next d u most g stuck =
    split (eqb (length l) allowance)
    (λ e. rw e (inr (inl (t, one, eqb-true (length l) allowance e, refl))))
    (λ e.
    let unspent : length l < allowance = below (eqb-false (length l) allowance e) in
    rw e (inr (inr (t, one, unspent, keeps unspent, (λ h. stuck t same (unspent, λ b. h)), refl))))
  where
    t : Legal
    t = legal k start n d u

    same : token k start n next d u ≡ token_of t
    same = is-legal s to k start n next d u g

    one : InOneClass false s to n (token_of t)
    one = let o = told s.profile s.text to k start n next d u g in (o.class, o.legal, o.longest, sym same ∙ o.gives)

    below : (length l ≡ allowance → ⊥) → length l < allowance
    below other = omega (arith, other)

    keeps : length l < allowance → not_blank t ≡ true
    keeps unspent = split (not_blank t) (λ e. e) (λ e. absurd (stuck t same (unspent, λ b. absurd (true≢false (sym b ∙ e)))))

slice-ends : (s : Source) (room allowance : ℕ) (l : List Legal) (to : ℕ) (there : Answer) → length l ≤ allowance → Next s to there
    → ((t : Legal) → there ≡ token_of t → Allowed not_blank room allowance l t → ⊥)
    → SliceEnds s room allowance l to (part_answer to (eqb (length l) allowance) there)
slice-ends s room allowance l to (end offset) most g stuck = inl (end offset, run_ends s to (end offset) g (end-no-token offset), refl)
slice-ends s room allowance l to (refusal k start n offset) most g stuck =
    inl (refusal k start n offset, run_ends s to (refusal k start n offset) g (refusal-no-token k start n offset), refl)
slice-ends s room allowance l to (token k start n next d u) most g stuck = slice-held s room allowance l to k start n next d u most g stuck

pub gapless-slice : (s : Source) (from allowance : ℕ) (old : List ℕ) (a : PartAnswer) (records spent : ℕ) (new : List ℕ)
    → Parting s from allowance old a records spent new → GaplessSlice s from allowance old a records spent new
gapless-slice s from allowance old a records spent new x =
    let w = x.walk in
    let goes = Allowed not_blank (length old) allowance in
    let most = passes-most goes allowance (λ b t o. o.0) s [] from w.passed w.to (omega arith) w.passes in
    let ends = slice-ends s (length old) allowance w.passed w.to w.there most w.gives w.stops in
    record {
      lexemes = w.passed;
      to = w.to;
      follow = passes-follow goes s [] from w.passed w.to w.passes;
      each = passes-each goes s [] from w.passed w.to w.passes;
      ends = subst (SliceEnds s (length old) allowance w.passed w.to) (sym x.answers) ends;
      counted = x.counted;
      costs = x.costs;
      written = x.written;
    }

-- the number with which a class refuses, 0 where it does not, is none of List's own
abbrev number_given : Answer → ℕ
number_given (token k start n next d u) = 0
number_given (end offset) = 0
number_given (refusal number start n offset) = number

refuses-with : (c : Class) (at : ℕ) (w : List ℕ) → number_given (answer c at w) < list_refusal "TooLong"
unfolding answer
refuses-with blank_run at w = omega arith
refuses-with line_comment at w = omega arith
refuses-with block_comment at w = omega arith
refuses-with operator at w = omega arith
refuses-with string at w = omega arith
refuses-with quoted_name at w = omega arith
refuses-with integer at w = omega arith
refuses-with float at w = omega arith
refuses-with blob at w = omega arith
refuses-with parameter at w = omega arith
refuses-with word at w = omega arith
refuses-with illegal at w = omega arith
refuses-with unrecognized at w = omega arith
refuses-with bang at w = omega arith
refuses-with open_quote at w = omega arith
refuses-with open_blob at w = omega arith
refuses-with odd_blob at w = omega arith
refuses-with bad_parameter at w = omega arith
refuses-with underscore at w = omega arith
refuses-with word_after_integer at w = omega arith
refuses-with word_after_fraction at w = omega arith
refuses-with no_exponent at w = omega arith
refuses-with word_after_exponent at w = omega arith
refuses-with no_hexdigit at w = omega arith
refuses-with underscore_after_x at w = omega arith
refuses-with hex_underscore at w = omega arith
refuses-with word_after_hex at w = omega arith

pub never-full : (s : Source) (to : ℕ) (a : Answer) → RunEnds s to a → (at : ℕ) → a ≡ list_full at → ⊥
never-full s to a (inl (h, e)) at f = let z : ◌≡◌ {A = ℕ} 8 10 = ap number_given (sym e ∙ f) in omega arith
never-full s to a (inr (inl (h, e))) at f = let z : ◌≡◌ {A = ℕ} 0 10 = ap number_given (sym e ∙ f) in omega arith
never-full s to a (inr (inr (n, (c, bad, x, e)))) at f =
    let small : number_given (answer c to (take n (drop to s.text))) < 9 = refuses-with c to (take n (drop to s.text)) in
    let z : number_given (answer c to (take n (drop to s.text))) ≡ 10 = ap number_given (sym e ∙ f) in
    omega arith
