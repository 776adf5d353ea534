-- What stands at the places of a slot: for code that finds a record again in the bytes.
use Rattle.std.specs.Prelude.{ℕ, ◌+◌, ◌≡◌, List, []}
use Rattle.value.specs.Value.{digest_length, value_in}
use Rattle.page.specs.Page.{RawEntry, entry}
use Rattle.page_reader.specs.Place.{Reads, page_start}
use Rattle.tree.specs.OnePage.{key_after}
use Rattle.index.specs.Slot.{Slot, key_of}

-- Entry by entry from one place of a page to another; the first comes after the key j, and the last spells the key k.
pub data Steps (s : List ℕ) : ℕ → List ℕ → ℕ → List ℕ → Type 0 where
  here : {at : ℕ} {k : List ℕ} → Steps s at k at k
  next : {at to : ℕ} {j k : List ℕ} (e : RawEntry) (m : ℕ) → Reads entry s at e m → Steps s m (key_after j e) to k → Steps s at j to k

-- What stands at a slot's places. At its page's place a page begins, with `count` entries, of which the first is at `first`. From there one
-- comes, entry by entry, to the slot's own, after the key `before`. That entry spells the slot's key and ends at `past` with the digest of its
-- value.
pub record SlotAt (s : List ℕ) (x : Slot) : Type 0 where
  pub count : ℕ
  pub first : ℕ
  pub start : Reads page_start s x.page count first
  pub before : List ℕ
  pub steps : Steps s first [] x.entry before
  pub spells : RawEntry
  pub past : ℕ
  pub reads : Reads entry s x.entry spells past
  pub key : key_after before spells ≡ key_of x
  pub val : spells.val ≡ x.item.val
  pub value : x.value + digest_length ≡ past
  pub bytes : value_in s x.value ≡ x.item.val
