-- A word's kind is that of the one entry whose word is this one folded, else TK_ID. Assumes nothing.
use Prim.Native.Nat.{ℕ, ◌<◌}
use mathlib.Core.Path.{◌≡◌, refl}
use mathlib.Core.Bool.{true}
use mathlib.Core.List.{List, [], ◌∷◌, ◌++◌}
use lib.Dec.{eqb}
use lib.ListN.{length, get_or}
use Rattle.keywords.specs.Kinds.{kind}
use Rattle.keywords.specs.Text.{bytes}
use Rattle.keywords.specs.Words.{Entry, entry, word_list}
use Rattle.keywords.proofs.Logic.{every}
use Rattle.keywords.proofs.Theorems.{found, missed}
use Rattle.words.specs.Word.{upper, fold, kind_of}

-- the kind of an entry that stands anywhere in the list
pub listed : (w : List ℕ) (d : Entry) (k : ℕ) → k < length word_list → fold w ≡ (get_or word_list k d).word → kind_of w ≡ (get_or word_list k d).kind
unfolding kind_of
listed w d k h e = rw e (found d k h)

-- and of a word that is no entry's
pub unlisted : (w : List ℕ) (d : Entry) → ((k : ℕ) → k < length word_list → fold w ≡ (get_or word_list k d).word → ⊥) → kind_of w ≡ kind "TK_ID"
unfolding kind_of
unlisted w d n = missed word_list (fold w) d n

-- Words that are easy to get wrong, with the kinds that they must have.
pub table : List Entry
table =
    entry "returning" "TK_RETURNING" ∷
    entry "Restrict" "TK_RESTRICT" ∷
    entry "ORDER" "TK_ORDER" ∷
    entry "optimize" "TK_OPTIMIZE" ∷
    entry "AS" "TK_AS" ∷
    entry "ASC" "TK_ASC" ∷
    entry "AS." "TK_ID" ∷
    entry "" "TK_ID" ∷
    entry "current_timestamp" "TK_CTIME_KW" ∷
    entry "current_timestamps" "TK_ID" ∷
    record { word = bytes "AS" ++ 0 ∷ []; kind = kind "TK_ID" } ∷
    record { word = 0xC1 ∷ 0xD3 ∷ []; kind = kind "TK_ID" } ∷
    record { word = 0xE1 ∷ 0xF3 ∷ []; kind = kind "TK_ID" } ∷
    []

pub examples : every (λ e. eqb (kind_of e.word) e.kind) table ≡ true
unfolding table kind_of upper word_list
examples = refl
