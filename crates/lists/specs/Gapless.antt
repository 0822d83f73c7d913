-- What the lexemes of List, and of a slice, are: from any offset they follow one another without gap or overlap up to the first refusal or the
-- end; each is the longest opening of the remaining text that stands in any class, legal or malformed; it stands in exactly one, and that
-- class gives the answer. Assumes nothing.
use Rattle.std.specs.Prelude.{ℕ, ◌+◌, ◌<◌, ◌≡◌, Bool, true, false, List, [], ◌∷◌, ◌⊎◌, length, take, drop}
use Rattle.grammar.specs.Classes.{Class, malformed, rules}
use Rattle.grammar.specs.Answers.{Answer, end, past_end, answer}
use Rattle.grammar.specs.Longest.{Every, Longest, Source}
use Rattle.records.specs.Records.{at_front}
use Rattle.walks.specs.Walk.{Legal, token_of}
use Rattle.lists.specs.Lists.{records_of, list_full, HasRoom}
use Rattle.lists.specs.Parts.{PartAnswer, given, paused_at, not_blank, kept}

-- the first n bytes at a place are the longest opening that stands in any class; they stand in exactly one, which is malformed or not, and
-- that class answers a
abbrev pub InOneClass : Bool → Source → ℕ → ℕ → Answer → Type 0
InOneClass bad s at n a =
    (c : Class) × (malformed c ≡ bad) × Longest (rules s.profile) (drop at s.text) c n × (a ≡ answer c at (take n (drop at s.text)))

-- the lexemes follow one another from one place to another, without gap or overlap; none is empty
unfoldable pub Follow : ℕ → List Legal → ℕ → Type 0
Follow from [] to = from ≡ to
Follow from (t ∷ l) to = (t.start ≡ from) × (0 < t.length) × Follow (from + t.length) l to

-- each is legal
abbrev pub Each : Source → List Legal → Type 0
Each s lexemes = Every (λ t. InOneClass false s t.start t.length (token_of t)) lexemes

-- where a run of lexemes ends: past the end of the text, at its end, or at a malformed one, whose class gives the refusal
abbrev pub RunEnds : Source → ℕ → Answer → Type 0
RunEnds s to a = ((length s.text < to) × (a ≡ past_end to)) ⊎ ((to ≡ length s.text) × (a ≡ end to)) ⊎ ((n : ℕ) × InOneClass true s to n a)

-- List ends there too, or at a legal one for which there is no room
abbrev pub Ends : Source → ℕ → List Legal → ℕ → Answer → Type 0
Ends s room lexemes to a =
    RunEnds s to a ⊎
    ((t : Legal) × InOneClass false s to t.length (token_of t) × (HasRoom room lexemes t → ⊥) × (a ≡ list_full to))

-- the whole: the answer and the records written belong to such lexemes, and the list begins with their records
pub record Gapless (s : Source) (from : ℕ) (old : List ℕ) (a : Answer) (records : ℕ) (new : List ℕ) : Type 0 where
  pub lexemes : List Legal
  pub to : ℕ
  pub follow : Follow from lexemes to
  pub each : Each s lexemes
  pub ends : Ends s (length old) lexemes to a
  pub counted : records ≡ length lexemes
  pub written : new ≡ at_front (records_of s.text lexemes) old

-- A slice ends there too; at a legal one, where its allowance is spent; or at one that is not TK_NONE, for which there is no room and
-- which costs nothing
abbrev pub SliceEnds : Source → ℕ → ℕ → List Legal → ℕ → PartAnswer → Type 0
SliceEnds s room allowance lexemes to a =
    ((b : Answer) × RunEnds s to b × (a ≡ given b)) ⊎
    ((t : Legal) × InOneClass false s to t.length (token_of t) × (length lexemes ≡ allowance) × (a ≡ paused_at to)) ⊎
    ((t : Legal) × InOneClass false s to t.length (token_of t) × (length lexemes < allowance) × (not_blank t ≡ true) ×
    (HasRoom room (kept not_blank lexemes) t → ⊥) × (a ≡ given (list_full to)))

-- the whole: the list begins with the records of those that are not TK_NONE, and each is spent
pub record GaplessSlice (s : Source) (from allowance : ℕ) (old : List ℕ) (a : PartAnswer) (records spent : ℕ) (new : List ℕ) : Type 0 where
  pub lexemes : List Legal
  pub to : ℕ
  pub follow : Follow from lexemes to
  pub each : Each s lexemes
  pub ends : SliceEnds s (length old) allowance lexemes to a
  pub counted : records ≡ length (kept not_blank lexemes)
  pub costs : spent ≡ length lexemes
  pub written : new ≡ at_front (records_of s.text (kept not_blank lexemes)) old
