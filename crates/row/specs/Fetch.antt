-- What the fetching of one register's record says.
use Rattle.std.specs.Prelude.{ℕ, ◌≡◌, List, Option, Some, None}
use Rattle.word.specs.Word.{page_in, entry_in}
use Rattle.page_keys.specs.Buffer.{HoldsKey}
use Rattle.index.specs.Slot.{Slot, key_of}
use Rattle.index.specs.Standing.{Steps, SlotAt}
use Rattle.row.specs.Memory.{NoteHolds}
use Rattle.row.specs.declared.fetch.FetchedAt.{FetchedAt}

-- The key of the slot at the word's places is held, its value's place is found, and its entry ends at the place answered.
pub record Fetched (s : List ℕ) (x : Slot) (w : SlotAt s x) (buffer : List ℕ) (r : FetchedAt) : Type 0 where
  pub holds : HoldsKey buffer r.size (key_of x)
  pub value : r.value ≡ x.value
  pub next : r.next ≡ w.past

unfoldable pub FetchSays : List ℕ → ℕ → List ℕ → ℕ → List ℕ → FetchedAt → Type 0
FetchSays s word buffer note buffer' r =
    (x : Slot) (w : SlotAt s x) → page_in word ≡ x.page → entry_in word ≡ x.entry → NoteHolds s note buffer → Fetched s x w buffer' r

-- ---- the way to the entry
-- The buffer holds the key before the entry at `at`, and from there one comes to the entry at `to`, after the key `before`.
pub record Toward (s : List ℕ) (to at : ℕ) (before buffer : List ℕ) (size : ℕ) : Type 0 where
  pub key : List ℕ
  pub holds : HoldsKey buffer size key
  pub steps : Steps s at key to before

-- Where the note held for the buffer as it was, the place `at` is on the way to the slot at these places.
unfoldable pub OnTheWay : List ℕ → ℕ → ℕ → ℕ → List ℕ → ℕ → List ℕ → ℕ → Type 0
OnTheWay s page entry note buffer₀ at buffer size =
    (x : Slot) (w : SlotAt s x) → page ≡ x.page → entry ≡ x.entry → NoteHolds s note buffer₀ → Toward s x.entry at w.before buffer size

-- The way begins at a place, whatever the buffer is; or no slot stands in a page there.
abbrev pub StartSays : List ℕ → ℕ → ℕ → ℕ → Option (ℕ × ℕ) → Type 0
StartSays s page entry note (Some (first, size)) = (buffer : List ℕ) → OnTheWay s page entry note buffer first buffer size
StartSays s page entry note None = (x : Slot) → SlotAt s x → page ≡ x.page → ⊥
