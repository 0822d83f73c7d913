-- Request 8: how many bytes behind a lexeme tell that it ends there. Assumes nothing.
use Rattle.std.specs.Prelude.{ℕ, ◌+◌, ◌≡◌, List, [], ◌∷◌, take, drop}
use Prim.Native.String.{String}
use Rattle.keywords.specs.Text.{bytes}
use Rattle.grammar.specs.declared.profile.Profile.{Profile}
use Rattle.grammar.specs.Classes.{Class, blank_run, line_comment, block_comment, operator, string, quoted_name, integer, float, blob, parameter}
use Rattle.grammar.specs.Classes.{word, illegal, unrecognized, bang, open_quote, open_blob, odd_blob, bad_parameter, underscore, word_after_integer}
use Rattle.grammar.specs.Classes.{word_after_fraction, no_exponent, word_after_exponent, no_hexdigit, underscore_after_x, hex_underscore, word_after_hex, by, rules}
use Rattle.grammar.specs.Answers.{Answer, token, end, refusal}
use Rattle.grammar.specs.Longest.{Longest}

-- two texts agree from an offset on in n bytes; where one has fewer left, both end at the same place
abbrev pub Agree : ℕ → ℕ → List ℕ → List ℕ → Type 0
Agree at n s t = take n (drop at s) ≡ take n (drop at t)

-- the place behind an answer's span
abbrev pub span_end : Answer → ℕ
span_end (token k start n next d u) = start + n
span_end (end at) = at
span_end (refusal k start n at) = start + n

-- For each class how many bytes behind a lexeme of it tell, at most, that it ends there, under Turso and under Sqlite. The end of the text
-- tells it too.
unfoldable pub look_ahead : Profile → Class → ℕ
look_ahead p blank_run = 1
look_ahead p line_comment = 1
look_ahead p block_comment = 1
-- `::` behind a `:` makes it a parameter's opening; under Sqlite `:` is no operator
look_ahead p operator = by p 2 1
look_ahead p string = 1
look_ahead p quoted_name = 1
look_ahead p integer = 1
look_ahead p float = 1
look_ahead p blob = 0
look_ahead p parameter = 2
look_ahead p word = 1
look_ahead p illegal = 1
look_ahead p unrecognized = 1
look_ahead p bang = 1
look_ahead p open_quote = 1
look_ahead p open_blob = 1
look_ahead p odd_blob = 0
look_ahead p bad_parameter = 2
look_ahead p underscore = 1
look_ahead p word_after_integer = 0
look_ahead p word_after_fraction = 0
look_ahead p no_exponent = 1
look_ahead p word_after_exponent = 0
look_ahead p no_hexdigit = 1
look_ahead p underscore_after_x = 0
look_ahead p hex_underscore = 1
look_ahead p word_after_hex = 0

-- Bytes behind which a text goes on in one way or in another: a lexeme of the class and one byte fewer than it looks ahead. Going on in
-- the one way the text has that lexeme, going on in the other it has another.
pub record Fork : Type 0 where
  pub class : Class
  pub behind : List ℕ
  pub one : List ℕ
  pub other : List ℕ

abbrev pub fork : Class → String → String → String → Fork
fork c w s t = record { class = c; behind = bytes w; one = bytes s; other = bytes t }

-- one for each class that looks ahead
unfoldable pub forks : Profile → List Fork
forks p =
    fork blank_run " " "a" " " ∷
    fork line_comment "--" "" "a" ∷
    fork block_comment "/*" "" "a" ∷
    by p (fork operator "::" "a" ":") (fork operator "<" "a" "=") ∷
    fork string "'a'" "," "'" ∷
    fork quoted_name "\"a\"" "," "\"" ∷
    fork integer "5" ";" "." ∷
    fork float "5." ";" "e-1" ∷
    fork parameter "$a:" "a" ":" ∷
    fork word "end" ";" "s" ∷
    fork illegal "#" "," "a" ∷
    fork unrecognized "{" " " "a" ∷
    fork bang "!" "a" "=" ∷
    fork open_quote "'a" "" "'" ∷
    fork open_blob "x'0" "g" "'" ∷
    fork bad_parameter "$:" "a" ":" ∷
    fork underscore "1_" "a" "1" ∷
    fork no_exponent "1e" "a" "1" ∷
    fork no_hexdigit "0x" "g" "1" ∷
    fork hex_underscore "0x1_" "g" "1" ∷
    []

-- There are two texts that agree in the first lexeme of the one, which stands in the class, and in j bytes more; the other's is another.
abbrev pub Parts : Profile → Class → ℕ → Type 0
Parts p c j =
    (s : List ℕ) × (t : List ℕ) × (n : ℕ) × Longest (rules p) s c n × (Longest (rules p) t c n → ⊥) × Agree 0 (n + j) s t
