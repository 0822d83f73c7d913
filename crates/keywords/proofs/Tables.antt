-- The code's tables, as lists, and the rule of the stored words: one test, which antt computes, that the lists are those of the word list.
-- Assumes nothing.
use Prim.Native.Nat.{ℕ, suc, ◌+◌, ◌*◌, ◌-◌}
use Prim.Native.String.{String}
use mathlib.Core.Path.{◌≡◌, refl}
use mathlib.Core.Bool.{Bool, true, cond, ◌&&◌}
use mathlib.Core.List.{List, [], ◌∷◌, ◌++◌, map}
use lib.Dec.{eqb}
use lib.ListN.{length, get_or}
use Rattle.keywords.specs.Text.{bytes}
use Rattle.keywords.specs.Words.{Entry, word_list, same}
use Rattle.keywords.specs.Stored.{group, stored, store, skips}
use Rattle.keywords.proofs.Logic.{every}

-- the words, a length or a part of it in a line
abbrev pub letter_list : List ℕ
letter_list =
    bytes "ASBYDOIFINISNOOFONORTO" ++
    bytes "ADDALLANDASCENDFORKEYNOTROWSET" ++
    bytes "CASECASTDESCDROPEACHELSEFAILFROMFULLGLOBINTOJOINLASTLEFTLIKENULLOVERPLANROWSTEMPTHENTIESTYPEVIEWWHENWITH" ++
    bytes "ABORTAFTERALTERBEGINCHECKCROSSFIRSTGROUPINDEXINNERLIMITMATCHNULLSORDEROUTERQUERYRAISERANGERIGHTTABLEUNIONUSINGWHERE" ++
    bytes "ACTIONALWAYSATTACHBEFORECOLUMNCOMMITCREATEDELETEDETACHESCAPEEXCEPTEXISTSFILTERGROUPSHAVINGIGNOREINSERTISNULLOFFSETOTHERS" ++
    bytes "PRAGMAREGEXPRENAMESELECTUNIQUEUPDATEVACUUMVALUESWINDOWWITHIN" ++
    bytes "ANALYZEBETWEENCASCADECOLLATECURRENTDEFAULTEXCLUDEEXPLAINFOREIGNINDEXEDINSTEADNATURALNOTHINGNOTNULLPRIMARYREINDEXRELEASE" ++
    bytes "REPLACETRIGGERVIRTUALWITHOUT" ++
    bytes "CONFLICTDATABASEDEFERREDDISTINCTOPTIMIZERESTRICTROLLBACK" ++
    bytes "EXCLUSIVEFOLLOWINGGENERATEDIMMEDIATEINITIALLYINTERSECTPARTITIONPRECEDINGRECURSIVERETURNINGSAVEPOINTTEMPORARYUNBOUNDED" ++
    bytes "CONCURRENTCONSTRAINTDEFERRABLEREFERENCES" ++
    bytes "TRANSACTION" ++
    bytes "CURRENT_DATECURRENT_TIMEMATERIALIZED" ++
    bytes "AUTOINCREMENT" ++
    bytes "CURRENT_TIMESTAMP"

-- their kinds, a length or a part of it in a line
abbrev pub kind_list : List ℕ
kind_list =
    45 ∷ 52 ∷ 75 ∷ 98 ∷ 101 ∷ 109 ∷ 117 ∷ 123 ∷ 125 ∷ 126 ∷ 157 ∷
    38 ∷ 40 ∷ 44 ∷ 46 ∷ 79 ∷ 90 ∷ 112 ∷ 118 ∷ 148 ∷ 152 ∷
    54 ∷ 55 ∷ 72 ∷ 76 ∷ 77 ∷ 78 ∷ 86 ∷ 92 ∷ 64 ∷ 94 ∷ 108 ∷ 111 ∷ 113 ∷ 64 ∷ 94 ∷ 121 ∷ 130 ∷ 132 ∷ 149 ∷ 154 ∷ 155 ∷ 156 ∷ 160 ∷ 168 ∷ 170 ∷ 173 ∷
    36 ∷ 39 ∷ 41 ∷ 50 ∷ 56 ∷ 64 ∷ 88 ∷ 95 ∷ 102 ∷ 64 ∷ 114 ∷ 115 ∷ 122 ∷ 127 ∷ 64 ∷ 136 ∷ 137 ∷ 138 ∷ 64 ∷ 153 ∷ 162 ∷ 165 ∷ 171 ∷
    37 ∷ 42 ∷ 47 ∷ 49 ∷ 58 ∷ 59 ∷ 63 ∷ 71 ∷ 73 ∷ 80 ∷ 81 ∷ 84 ∷ 87 ∷ 96 ∷ 97 ∷ 99 ∷ 105 ∷ 110 ∷ 124 ∷ 129 ∷
    133 ∷ 94 ∷ 143 ∷ 151 ∷ 163 ∷ 164 ∷ 166 ∷ 167 ∷ 172 ∷ 174 ∷
    43 ∷ 51 ∷ 53 ∷ 57 ∷ 65 ∷ 68 ∷ 82 ∷ 85 ∷ 91 ∷ 103 ∷ 106 ∷ 64 ∷ 119 ∷ 120 ∷ 135 ∷ 141 ∷ 142 ∷ 144 ∷ 159 ∷ 169 ∷ 175 ∷
    61 ∷ 67 ∷ 70 ∷ 74 ∷ 128 ∷ 146 ∷ 147 ∷
    83 ∷ 89 ∷ 93 ∷ 100 ∷ 104 ∷ 107 ∷ 131 ∷ 134 ∷ 139 ∷ 145 ∷ 150 ∷ 154 ∷ 161 ∷
    60 ∷ 62 ∷ 69 ∷ 140 ∷
    158 ∷
    66 ∷ 66 ∷ 116 ∷
    48 ∷
    66 ∷
    []

-- how many words each group has: a line for each length, a digit for each of its groups
abbrev digits : String → List ℕ
digits s = map (λ d. d - 48) (bytes s)

abbrev pub sizes : List ℕ
sizes =
    digits "0000000000000000000000000000" ++
    digits "0000000000000000000000000000" ++
    digits "1101000030000130000100000000" ++
    digits "4000110000100100011000000000" ++
    digits "0022231011030111010401200000" ++
    digits "3120011020011120130120100000" ++
    digits "3132311130000021021022200000" ++
    digits "1131210020000301030101100000" ++
    digits "0013000000000010020000000000" ++
    digits "0000111030000002021110000000" ++
    digits "0021000000000000010000000000" ++
    digits "0000000000000000000100000000" ++
    digits "0020000000001000000000000000" ++
    digits "1000000000000000000000000000" ++
    digits "0000000000000000000000000000" ++
    digits "0000000000000000000000000000" ++
    digits "0000000000000000000000000000" ++
    digits "0010000000000000000000000000"

-- how many words stand before each group
abbrev pub totals : ℕ → List ℕ → List ℕ
totals a [] = []
totals a (n ∷ ns) = a ∷ totals (a + n) ns

abbrev pub starts : ℕ → ℕ
starts x = get_or (totals 0 sizes) x 0

-- the groups from x on have these sizes
unfoldable pub sized : ℕ → List ℕ → Bool
sized x [] = true
sized x (n ∷ ns) = eqb (length (group x)) n && sized (suc x) ns

-- word k, which begins at byte p, and those behind it stand where their lengths and numbers say
unfoldable pub placed : ℕ → ℕ → List Entry → Bool
placed k p [] = true
placed k p (e ∷ es) = let n = length e.word in eqb (n * k) (get_or skips n 0 + p) && placed (suc k) (p + n) es

-- how often a word is among the entries
unfoldable pub times : List ℕ → List Entry → ℕ
times w [] = 0
times w (e ∷ es) = cond (same w e.word) (suc (times w es)) (times w es)

-- the rule of the stored words: the words end to end, their kinds, how many words each group has, where each word stands; and each word of
-- the word list is among them once
pub record Rule : Type 0 where
  pub letters : same store letter_list ≡ true
  pub kinds : same (map (λ e. e.kind) stored) kind_list ≡ true
  pub groups : sized 0 sizes ≡ true
  pub places : placed 0 0 stored ≡ true
  pub once : every (λ e. eqb (times e.word stored) 1) word_list ≡ true

pub rule : Rule
unfolding store stored group word_list sized placed times
rule = record { letters = refl; kinds = refl; groups = refl; places = refl; once = refl }
