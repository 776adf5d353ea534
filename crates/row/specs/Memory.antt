-- Keys held on the way through pages, so that the next one is read from there on and not from its page's first entry.
use Rattle.std.specs.Prelude.{ℕ, ◌+◌, ◌*◌, ◌≤◌, ◌<◌, ◌≡◌, List, [], length, take, drop, get_or}
use Rattle.limits.specs.Limits.{longest_key}
use Rattle.value.specs.Value.{digest_length, value_in}
use Rattle.word.specs.Word.{page_in, entry_in, size_in}
use Rattle.page_reader.specs.Place.{Reads, page_start}
use Rattle.page_keys.specs.Buffer.{HoldsKey}
use Rattle.index.specs.Standing.{Steps}
use Rattle.row.specs.Row.{source_of, record_of_word}
use Rattle.row.specs.declared.recall.Recalled.{Recalled}

-- Entry by entry from the page's first one comes to the place `next`, after a key that the buffer holds.
pub record Reached (s : List ℕ) (first next : ℕ) (buffer : List ℕ) (size : ℕ) : Type 0 where
  pub key : List ℕ
  pub holds : HoldsKey buffer size key
  pub steps : Steps s first [] next key

-- The same from the page that a note is about, to the entry after the key's own. Where that is at 0 nothing is held.
unfoldable pub NoteHolds : List ℕ → ℕ → List ℕ → Type 0
NoteHolds s note buffer =
    0 < entry_in note → (count first : ℕ) → Reads page_start s (page_in note) count first → Reached s first (entry_in note) buffer (size_in note)

-- What holds of the note for its own register holds of the answer for the word's.
unfoldable pub NoteFor : ℕ → ℕ → ℕ → Type 0
NoteFor word note r = (s u buffer : List ℕ) → NoteHolds (source_of s u note) note buffer → NoteHolds (source_of s u word) r buffer

-- The bytes from 256 × j on are the buffer of the j-th note.
abbrev pub buffer_of : List ℕ → ℕ → List ℕ
buffer_of keys j = take longest_key (drop (longest_key * j) keys)

pub record Remembers (s u keys notes : List ℕ) : Type 0 where
  pub size : length keys ≡ longest_key * length notes
  pub holds : (j : ℕ) → j < length notes → NoteHolds (source_of s u (get_or notes j 0)) (get_or notes j 0) (buffer_of keys j)

-- The record of a word was recalled: its key stands in the memory, and its value at a place of its register.
pub record Recalls (s u : List ℕ) (w : ℕ) (keys notes : List ℕ) (r : Recalled) : Type 0 where
  pub remembers : Remembers s u keys notes
  pub room : r.from + r.size ≤ length keys
  pub short : r.size ≤ longest_key
  pub key : take r.size (drop r.from keys) ≡ (record_of_word s u w).key
  pub within : r.value + digest_length ≤ length (source_of s u w)
  pub val : value_in (source_of s u w) r.value ≡ (record_of_word s u w).val
