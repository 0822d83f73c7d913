-- Walks of the fixed list (oracle/answers.vec): a text in hexadecimal, an offset, and the answers from there as the list writes them.
-- Assumes nothing.
use Rattle.std.specs.Prelude.{ℕ, zero, suc, ◌+◌, ◌-◌, ◌*◌, ◌/◌, ◌%◌, Bool, true, false, cond, List, [], ◌∷◌, eqb, leb, ltb, get_or}
use Prim.Native.Char.{Char, code}
use Prim.Native.String
use Prim.Native.String.{String}
use Rattle.keywords.specs.Kinds.{kind_names}
use Rattle.grammar.specs.Refusals.{Named, refusals}
use Rattle.grammar.specs.Answers.{Answer, token, end, refusal}

pub record Line : Type 0 where
  pub text : String
  pub from : ℕ
  pub answers : String

abbrev pub line : String → ℕ → String → Line
line t o l = record { text = t; from = o; answers = l }

-- the bytes of a text in hexadecimal
abbrev digit : Char → ℕ
digit c = cond (leb (code c) (code "9")) (code c - code "0") (code c - code "a" + 10)

abbrev pub unhex : String → List ℕ
unhex String.[] = []
unhex (String.◌∷◌ c String.[]) = []
unhex (String.◌∷◌ c (String.◌∷◌ d s)) = (16 * digit c + digit d) ∷ unhex s

-- a number of at most n digits in decimal
abbrev decimal : ℕ → ℕ → String
decimal zero k = ""
decimal (suc n) k =
    let last : String = get_or ("0" ∷ "1" ∷ "2" ∷ "3" ∷ "4" ∷ "5" ∷ "6" ∷ "7" ∷ "8" ∷ "9" ∷ []) (k % 10) "" in
    let all : String = String.◌++◌ (decimal n (k / 10)) last in
    cond (ltb k 10) last all

-- a number behind a comma
abbrev number : ℕ → String
number k = String.◌++◌ "," (decimal 20 k)

abbrev name_in : List Named → ℕ → String
name_in [] k = ""
name_in (r ∷ rs) k = cond (eqb k r.number) r.name (name_in rs k)

abbrev pub shown : Answer → String
shown (token k start n next d u) = String.◌++◌ (get_or kind_names k "") (String.◌++◌ (number start) (number n))
shown (end at) = String.◌++◌ "END" (number at)
shown (refusal k start n at) = String.◌++◌ (name_in refusals k) (String.◌++◌ (number start) (String.◌++◌ (number n) (number at)))

abbrev pub is_token : Answer → Bool
is_token (token k start n next d u) = true
is_token (end at) = false
is_token (refusal k start n at) = false
