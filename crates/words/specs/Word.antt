-- What a word's kind is, and which words are quotable keywords. Assumes nothing.
use Rattle.std.specs.Prelude.{ℕ, ◌-◌, Bool, cond, not, ◌&&◌, List, map, eqb}
use Rattle.keywords.specs.Kinds.{kind}
use Rattle.keywords.specs.Words.{word_list, kind_in}
use Rattle.words.specs.Bytes.{between}

-- an ASCII letter as a capital, every other byte as it is
unfoldable pub upper : ℕ → ℕ
upper b = cond (between "a" "z" b) (b - 32) b

abbrev pub fold : List ℕ → List ℕ
fold w = map upper w

-- the kind of the entry whose word is w folded, else TK_ID
unfoldable pub kind_of : List ℕ → ℕ
kind_of w = kind_in word_list (fold w)

-- the kind is neither TK_ID nor TK_TYPE
unfoldable pub is_quotable : List ℕ → Bool
is_quotable w = not (eqb (kind_of w) (kind "TK_ID")) && not (eqb (kind_of w) (kind "TK_TYPE"))
