-- The bytes that each class looks ahead are enough. Assumes nothing.
use Prim.Native.Nat.{ℕ, ◌+◌}
use mathlib.Core.Path.{◌≡◌, refl, subst}
use mathlib.Core.Bool.{Bool, true}
use mathlib.Core.List.{List}
use lib.ListN.{take}
use Rattle.keywords.proofs.Logic.{every}
use Rattle.words.specs.Bytes.{is_digit, is_hexdigit, is_identifier_start, is_identifier_continue, is_blank}
use Rattle.grammar.specs.declared.profile.Profile.{Profile}
use Rattle.grammar.specs.declared.profile.Profile.TheVariants.{Turso, Sqlite}
use Rattle.grammar.specs.Classes.{Class, operators, rules}
use Rattle.grammar.specs.Longest.{Longest}
use Rattle.ahead.specs.Ahead.{Agree, look_ahead}
use Rattle.grammar.proofs.Equivalences.{some-every}
use Rattle.grammar.proofs.States.{State, rule_at, start, after, met, Met}
use Rattle.grammar.proofs.Model.{Right, scan-right}
use Rattle.grammar.proofs.Reach.{reaches, always}
use Rattle.grammar.proofs.Lexemes
use Rattle.grammar.proofs.Theorems.{sound}
use Rattle.ahead.proofs.Tells.{tells, Tells, told-behind, same-found}

-- how far the class of the k-th rule looks ahead
abbrev pub look : Profile → ℕ → ℕ
look p k = look_ahead p (rule_at (rules p) k).class

-- where a rule is met, as many bytes as its class looks ahead tell what is still to come
abbrev is_enough : Profile → State → Bool
is_enough p q = every (λ k. tells (look p k) q) (met q)

-- The computed test, of each profile.
computed : (p : Profile) → reaches 100 (is_enough p) (start (rules p)) ≡ true
unfolding look_ahead rules operators is_digit is_hexdigit is_identifier_start is_identifier_continue is_blank
computed Turso = refl
computed Sqlite = refl

module _ (p : Profile) where
  abbrev Q : List ℕ → State
  Q w = after (start (rules p)) w

  told : (w : List ℕ) (k : ℕ) → Met k (Q w) → Tells (look p k) (Q w)
  told w k m =
      let found = always 100 (is_enough p) (start (rules p)) (computed p) in
      let (j, d, t) = some-every (λ k. tells (look p k) (Q w)) (λ j. j ≡ k) (met (Q w)) (found w).1 m in
      told-behind (look p k) (start (rules p)) w (λ u. (found u).0) (subst (λ (k : ℕ). tells (look p k) (Q w) ≡ true) d t)

  -- Two texts that agree in a lexeme of the class and in as many bytes more as it looks ahead have the same lexeme.
  pub enough : (s t : List ℕ) (c : Class) (n : ℕ) → Longest (rules p) s c n → Agree 0 (n + look_ahead p c) s t → Longest (rules p) t c n
  enough s t c n z e =
      let (k, f, d) = Lexemes.longest-scan (rules p) (sound p) s c n z in
      let r = subst (Right (start (rules p)) s) f (scan-right s (start (rules p))) in
      let h = subst (λ (c : Class). Tells (look_ahead p c) (Q (take n s))) d (told (take n s) k r.1) in
      let g = same-found n (look_ahead p c) s t (start (rules p)) k h e f in
      subst (λ (c : Class). Longest (rules p) t c n) d (Lexemes.scan-longest (rules p) (sound p) t n k g)
