-- Blank runs, comments and operators. Assumes nothing.
use Prim.Native.Nat.{ℕ, ◌+◌, ◌-◌}
use mathlib.Core.Path.{◌≡◌, refl, sym, ◌∙◌}
use mathlib.Core.Bool.{Bool, true, false, cond, ◌&&◌, ◌||◌, true≢false}
use mathlib.Core.List.{List, [], ◌∷◌}
use mathlib.Core.Logic.{◌⊎◌, inl, inr}
use lib.Dec.{eqb}
use lib.ListN.{drop}
use borrow.Author.Tests.{eqb-true}
use Rattle.keywords.specs.Kinds.{kind}
use Rattle.keywords.specs.Text.{bytes}
use Rattle.keywords.specs.Words.{Entry, same, kind_in}
use Rattle.keywords.proofs.SameLaws.{same_true}
use Rattle.keywords.proofs.Logic.{split, and_left, and_right, every}
use Rattle.words.specs.Bytes.{is_digit, is_hexdigit, is_identifier_start, is_identifier_continue, is_blank}
use Rattle.grammar.specs.Form.{Set, none, D, blank, byte, no, ◌or◌}
use Rattle.grammar.specs.declared.profile.Profile.TheVariants.{Turso, Sqlite}
use Rattle.grammar.specs.Classes.{operators, rules}
use Rattle.grammar.specs.Answers.{answer}
use Rattle.grammar.specs.Runs.{char, sees, moved, over}
use Rattle.grammar.proofs.States.{start, after, met}
use Rattle.grammar.proofs.Seen.{moved-end, moved-one, over-stops, at-end, misses-none, inside-misses}
use Rattle.grammar.proofs.Scan.{goes, along}
use Rattle.grammar.proofs.RulePlaces.{blank_run_rule, closed_line_rule, open_line_rule, closed_block_rule, open_block_rule, operator_rule, bang_rule}
use Rattle.grammar.proofs.Reading.{Reads, Ends, EndsUnder, Spelled, behind, begin, reads-eat, reads-while, reads-join, reads-stop}
use Rattle.grammar.proofs.Reading.{spelled-first, spelled-more, spelled-reads, spelled-part, reads_end}
use Rattle.lexer.specs.declared.lexed.Lexed.{Lexed}
use Rattle.lexer.specs.declared.lexed.Lexed.TheVariants.{Token, Refused}
use Rattle.lexer.specs.declared.lexed.Refusal.TheVariants.{ExpectedEqualsSign}
use Rattle.lexer.specs.Eaten.{cursor, one_or_two}
use Rattle.grammar.proofs.Places.{At}
use Rattle.lexer.specs.Values.{Lexes, LexesUnder}
use Rattle.lexer.proofs.EatLaws.{Reached}
use Rattle.lexer.proofs.AnswerLaws.{token-lexes, whole-lexes, two_token, first_token}

-- a blank run
module _ (s : List ℕ) (from d e : ℕ) (h : At blank from s) (f : d ≡ moved from s) (g : e ≡ over blank d s) where
  blanks-end : Ends s from e blank_run_rule
  unfolding behind rules operators is_digit is_hexdigit is_identifier_start is_identifier_continue is_blank
  blanks-end =
      let p = reads-eat (begin s from) blank (behind " ") refl h f in
      let q = reads-while p blank refl g in
      reads-stop q blank blank_run_rule refl refl (over-stops blank s d e g)

  pub blanks-lexed : (r : Lexed) → r ≡ Token (kind "TK_NONE") from (e - from) (cursor e) 0 0 → Lexes s from r
  unfolding rules answer
  blanks-lexed r q = token-lexes blanks-end (kind "TK_NONE") r refl q

-- the bytes that make more of an operator; those of a colon take two bytes to be told, so it has laws of its own
unfoldable pub follow : List ℕ → Set
follow w =
    cond (same w (bytes "-")) (char "-" or char ">")
    (cond (same w (bytes "->")) (char ">")
    (cond (same w (bytes "/")) (char "*")
    (cond (same w (bytes "=")) (char "=")
    (cond (same w (bytes "<")) (char "=" or char "<" or char ">")
    (cond (same w (bytes ">")) (char "=" or char ">")
    (cond (same w (bytes "|")) (char "|") (cond (same w (bytes "&")) (char "&") (cond (same w (bytes ".")) D none))))))))

-- k is the list's one entry
abbrev is_one : ℕ → List ℕ → Bool
is_one k [] = false
is_one k (j ∷ []) = eqb j k
is_one k (j ∷ i ∷ l) = false

one-is : (k : ℕ) (l : List ℕ) → is_one k l ≡ true → l ≡ k ∷ []
one-is k [] e = absurd (true≢false (sym e))
one-is k (j ∷ []) e = rw (eqb-true j k e)
one-is k (j ∷ i ∷ l) e = absurd (true≢false (sym e))

-- some rule is met behind each byte of w, behind the last that of the operators, and only the bytes of `follow` go on
abbrev fits : List ℕ → Bool
fits w = along (start (rules Turso)) w && goes (after (start (rules Turso)) w) (no (follow w)) [] && is_one operator_rule (met (after (start (rules Turso)) w))

abbrev pub is_colon : List ℕ → Bool
is_colon w = same w (bytes ":")

-- all operators, by one computed test
all_fit : every (λ (e : Entry). is_colon e.word || fits e.word) operators ≡ true
unfolding follow rules operators is_digit is_hexdigit is_identifier_start is_identifier_continue is_blank
all_fit = refl

-- w is an operator of the list
unfoldable pub is_operator : List ℕ → List Entry → Bool
is_operator w [] = false
is_operator w (e ∷ l) = same w e.word || is_operator w l

operator-fits : (w : List ℕ) (l : List Entry) → is_colon w ≡ false → every (λ (e : Entry). is_colon e.word || fits e.word) l ≡ true
    → is_operator w l ≡ true
    → fits w ≡ true
unfolding is_operator
operator-fits w [] n a = λ e. absurd (true≢false (sym e))
operator-fits w (x ∷ l) n a =
    let test : Entry → Bool = λ e. is_colon e.word || fits e.word in
    let h = and_left (test x) (every test l) a in
    split (same w x.word)
    (λ e. let d = same_true w x.word e in λ o. (rw (← d, n) at h))
    (λ e. rw e (operator-fits w l n (and_right (test x) (every test l) a)))

module _ {s : List ℕ} {from at : ℕ} {w : List ℕ} (p : Spelled s from at w) (n : is_colon w ≡ false) (o : is_operator w operators ≡ true)
    (m : sees (follow w) (drop at s) ≡ false) where
  operator-ends : Ends s from at operator_rule
  operator-ends =
      let f = operator-fits w operators n all_fit o in
      let q = after (start (rules Turso)) w in
      let a = along (start (rules Turso)) w in
      let g = goes q (no (follow w)) [] in
      let h = and_left (a && g) (is_one operator_rule (met q)) f in
      reads-stop (spelled-reads p (and_left a g h)) (follow w) operator_rule (and_right a g h) (one-is operator_rule (met q) (and_right (a && g) (is_one operator_rule (met q)) f)) m

  pub operator-lexed : (r : Lexed) → r ≡ Token (kind_in operators w) from (at - from) (cursor at) 0 0 → Lexes s from r
  unfolding rules answer
  operator-lexed r e = token-lexes operator-ends (kind_in operators w) r (rw (spelled-part p)) e

-- of one byte, and of two that nothing makes longer
module _ (b : ℕ) (s : List ℕ) (from : ℕ) (h : At (byte b) from s) {at : ℕ} (f : at ≡ moved from s) where
  pub one-lexed : is_colon (b ∷ []) ≡ false → is_operator (b ∷ []) operators ≡ true → sees (follow (b ∷ [])) (drop at s) ≡ false
      → (r : Lexed) → r ≡ Token (kind_in operators (b ∷ [])) from (at - from) (cursor at) 0 0 → Lexes s from r
  one-lexed n o m r q = operator-lexed (spelled-first b s from h f) n o m r q

  pub two-lexed : (d : ℕ) → sees (byte d) (drop at s) ≡ true → {e : ℕ} → e ≡ moved at s
      → is_colon (b ∷ d ∷ []) ≡ false → is_operator (b ∷ d ∷ []) operators ≡ true → follow (b ∷ d ∷ []) ≡ none
      → (r : Lexed) → r ≡ Token (kind_in operators (b ∷ d ∷ [])) from (e - from) (cursor e) 0 0 → Lexes s from r
  two-lexed d i g n o z r q = operator-lexed (spelled-more (spelled-first b s from h f) d i g) n o (rw z (misses-none _)) r q

-- of one, or of two where the second follows
pub one_or_two-lexed : (b d : ℕ) (s : List ℕ) (from : ℕ) → At (byte b) from s
    → is_colon (b ∷ []) ≡ false → is_operator (b ∷ []) operators ≡ true → follow (b ∷ []) ≡ byte d
    → is_colon (b ∷ d ∷ []) ≡ false → is_operator (b ∷ d ∷ []) operators ≡ true → follow (b ∷ d ∷ []) ≡ none
    → (r : Lexed) → r ≡ one_or_two (kind_in operators (b ∷ [])) d (kind_in operators (b ∷ d ∷ [])) from s → Lexes s from r
one_or_two-lexed b d s from h n o x m p y r q =
    let one = sym (moved-one (byte b) s from h) in
    split (sees (byte d) (drop (from + 1) s))
    (λ e. two-lexed b s from h one d e refl m p y r (q ∙ sym (two_token _ d _ from s refl e refl)))
    (λ e. one-lexed b s from h one n o (rw x e) r (q ∙ sym (first_token _ d _ from s refl e)))

-- `--` to and with the newline, or to the end
module _ {s : List ℕ} {from at : ℕ} (p : Spelled s from at (bytes "--")) {stop e : ℕ} (f : stop ≡ over (no (char "\n")) at s) (g : e ≡ moved stop s) where
  in-line : Reads s from stop (behind "--")
  unfolding behind rules operators is_digit is_hexdigit is_identifier_start is_identifier_continue is_blank
  in-line = reads-while (spelled-reads p refl) (no (char "\n")) refl f

  line-closed : sees (char "\n") (drop stop s) ≡ true → Ends s from e closed_line_rule
  unfolding behind rules operators is_digit is_hexdigit is_identifier_start is_identifier_continue is_blank
  line-closed h = reads-stop (reads-eat in-line (char "\n") (behind "--\n") refl h g) none closed_line_rule refl refl (misses-none _)

  line-open : drop stop s ≡ [] → Ends s from stop open_line_rule
  unfolding behind rules operators is_digit is_hexdigit is_identifier_start is_identifier_continue is_blank
  line-open h = reads_end in-line open_line_rule refl h

  pub line-lexed : (r : Lexed) → r ≡ Token (kind "TK_NONE") from (e - from) (cursor e) 0 0 → Lexes s from r
  unfolding rules answer
  line-lexed r q =
      split (sees (char "\n") (drop stop s))
      (λ h. token-lexes (line-closed h) (kind "TK_NONE") r refl q)
      (λ h. let n = at-end (char "\n") (drop stop s) h (over-stops _ _ _ _ f) in
      token-lexes (line-open n) (kind "TK_NONE") r refl (rw (g ∙ moved-end s stop n) at q))

-- `/*` to and with `*/`, or to the end
pub comment-opens : {s : List ℕ} {from at : ℕ} → Spelled s from at (bytes "/*") → Reads s from at (behind "/*")
unfolding behind rules operators is_digit is_hexdigit is_identifier_start is_identifier_continue is_blank
comment-opens p = spelled-reads p refl

module _ {s : List ℕ} {from at : ℕ} (p : Reads s from at (behind "/*")) where
  pub comment-ends : {d : ℕ} → d ≡ over (no (char "*")) at s → sees (char "*") (drop d s) ≡ false → Ends s from d open_block_rule
  unfolding behind rules operators is_digit is_hexdigit is_identifier_start is_identifier_continue is_blank
  comment-ends f h = reads_end (reads-while p (no (char "*")) refl f) open_block_rule refl (at-end (char "*") _ h (over-stops _ _ _ _ f))

  pub comment-star : {d : ℕ} → Reached 42 s at d → Reads s from d (behind "/**")
  unfolding behind rules operators is_digit is_hexdigit is_identifier_start is_identifier_continue is_blank
  comment-star r = reads-eat (reads-while p (no (char "*")) refl r.run) (char "*") (behind "/**") refl r.seen r.next

module _ {s : List ℕ} {from at : ℕ} (p : Reads s from at (behind "/**")) where
  pub comment-closed : sees (char "/") (drop at s) ≡ true → {d : ℕ} → d ≡ moved at s → Ends s from d closed_block_rule
  unfolding behind rules operators is_digit is_hexdigit is_identifier_start is_identifier_continue is_blank
  comment-closed h f = reads-stop (reads-eat p (char "/") (behind "/**/") refl h f) none closed_block_rule refl refl (misses-none _)

  pub comment-more : sees (char "/") (drop at s) ≡ false → Reads s from at (behind "/*")
  unfolding behind rules operators is_digit is_hexdigit is_identifier_start is_identifier_continue is_blank
  comment-more h = reads-join p (behind "/*") (no (char "/")) refl refl (inside-misses (no (no (char "/"))) (char "/") refl _ h)

pub comment-lexed : {s : List ℕ} {from at : ℕ} → Ends s from at closed_block_rule ⊎ Ends s from at open_block_rule → (r : Lexed) → r ≡ Token (kind "TK_NONE") from (at - from) (cursor at) 0 0
    → Lexes s from r
unfolding rules answer
comment-lexed (inl e) r q = token-lexes e (kind "TK_NONE") r refl q
comment-lexed (inr e) r q = token-lexes e (kind "TK_NONE") r refl q

-- `!` alone
module _ {s : List ℕ} {from at : ℕ} (p : Spelled s from at (bytes "!")) (h : sees (char "=") (drop at s) ≡ false) where
  bang-ends : Ends s from at bang_rule
  unfolding behind rules operators is_digit is_hexdigit is_identifier_start is_identifier_continue is_blank
  bang-ends = reads-stop (spelled-reads p refl) (char "=") bang_rule refl refl h

  pub bang-lexed : (r : Lexed) → r ≡ Refused ExpectedEqualsSign from (at - from) (cursor from) → Lexes s from r
  unfolding rules answer
  bang-lexed r q = whole-lexes bang-ends ExpectedEqualsSign r refl q

-- `&` where the profile has nothing that makes it longer
module _ {s : List ℕ} {from at : ℕ} (p : Spelled s from at (bytes "&")) where
  and-ends : EndsUnder Sqlite s from at operator_rule
  unfolding rules operators is_digit is_hexdigit is_identifier_start is_identifier_continue is_blank
  and-ends = reads-stop (spelled-reads p refl) none operator_rule refl refl (misses-none _)

  pub and-lexed : (r : Lexed) → r ≡ Token (kind "TK_BITAND") from (at - from) (cursor at) 0 0 → LexesUnder Sqlite s from r
  unfolding rules answer operators
  and-lexed r q = token-lexes and-ends (kind "TK_BITAND") r (rw (spelled-part p)) q
