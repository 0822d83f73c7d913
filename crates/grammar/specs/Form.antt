-- Sets of bytes, forms of texts, and when a text has a form. Assumes nothing.
use Rattle.std.specs.Prelude.{ℕ, ◌≡◌, Bool, true, false, not, ◌||◌, List, [], ◌∷◌, ◌++◌, ◌⊎◌, eqb, leb}
use Prim.Native.Char.{code}
use Prim.Native.String
use Prim.Native.String.{String}
use Rattle.keywords.specs.Text.{bytes}
use Rattle.words.specs.Bytes.{is_digit, is_hexdigit, is_identifier_start, is_identifier_continue, is_blank}

-- D digit, H hexadecimal digit, S identifier start, C identifier continue, control 00 to 1F, and what is made of them
infixr 95 ◌or◌
pub data Set : Type 0 where
  none D H S C blank control : Set
  byte : ℕ → Set
  no : Set → Set
  ◌or◌ : Set → Set → Set

abbrev pub holds : Set → ℕ → Bool
holds none b = false
holds D b = is_digit b
holds H b = is_hexdigit b
holds S b = is_identifier_start b
holds C b = is_identifier_continue b
holds blank b = is_blank b
holds control b = leb b 0x1F
holds (byte c) b = eqb b c
holds (no s) b = not (holds s b)
holds (s or t) b = holds s b || holds t b

abbrev pub any : Set
any = no none

infix 97 ◌except◌
abbrev pub ◌except◌ : Set → Set → Set
s except t = no (no s or t)

abbrev pub one_of : String → Set
one_of String.[] = none
one_of (String.◌∷◌ c s) = byte (code c) or one_of s

-- binding, the tightest first: except, or, ·, but, ∣
infixr 90 ◌·◌
infix 85 ◌but◌
infixr 80 ◌∣◌
pub data Form : Type 0 where
  never empty anything : Form
  one : Set → Form
  ◌·◌ ◌∣◌ ◌but◌ : Form → Form → Form
  many : Form → Form

-- a text of one byte, which is in the set
abbrev pub Single : Set → List ℕ → Type 0
Single s [] = ⊥
Single s (b ∷ []) = holds s b ≡ true
Single s (b ∷ c ∷ w) = ⊥

-- any number of texts of P, one behind the other
pub data Many (P : List ℕ → Type 0) : List ℕ → Type 0 where
  stop : Many P []
  more : {u v w : List ℕ} → w ≡ u ++ v → P u → Many P v → Many P w

-- w has the form
abbrev pub Has : Form → List ℕ → Type 0
Has never w = ⊥
Has empty w = w ≡ []
Has anything w = Unit {0}
Has (one s) w = Single s w
Has (f · g) w = (u : List ℕ) × (v : List ℕ) × (w ≡ u ++ v) × Has f u × Has g v
Has (f ∣ g) w = Has f w ⊎ Has g w
Has (f but g) w = Has f w × (Has g w → ⊥)
Has (many f) w = Many (Has f) w

-- a given text
abbrev pub text : List ℕ → Form
text [] = empty
text (b ∷ w) = one (byte b) · text w

abbrev pub lit : String → Form
lit t = text (bytes t)

-- any number of bytes of a set; at least one; a form or nothing
abbrev pub run : Set → Form
run s = many (one s)

abbrev pub some : Set → Form
some s = one s · run s

abbrev pub opt : Form → Form
opt f = empty ∣ f

-- to and with the next t: it ends in t, and no shorter opening of it does
abbrev pub through : String → Form
through t = anything · lit t but anything · lit t · one any · anything

-- t nowhere
abbrev pub without : String → Form
without t = anything but anything · lit t · anything
