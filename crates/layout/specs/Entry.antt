-- What is said of the entry of a record.
use Rattle.std.specs.Prelude.{ℕ, ◌^◌, ◌≤◌, ◌<◌, ◌≡◌, List, length, take, leb, Option, is_some, IfSome}
use Rattle.std.proofs.Math.Option as maybe
use Rattle.limits.specs.Limits.{longest_key}
use Rattle.bytestring.specs.Bytes.{front}
use Rattle.page.specs.Page.{entry_bytes}
use Rattle.page_writer.specs.Front.{link_held, entry_length, entry_after}
use Rattle.row.specs.Row.{record_of_word, Stands}
use Rattle.row.specs.Memory.{Remembers}
use Rattle.layout.specs.declared.records.Added.{Added}

-- The word stands for a record of one of two registers.
pub record Asks (s u : List ℕ) (word : ℕ) : Type 0 where
  pub first : length s < 2 ^ 24
  pub second : length u < 2 ^ 24
  pub stands : Stands s u word

-- The memory on the way through a page, and the key before, which is held: it is the first bytes of an array.
pub record Holding (s u keys notes previous : List ℕ) (held : ℕ) : Type 0 where
  pub memory : Remembers s u keys notes
  pub slots : length notes ≡ 128
  pub room : length previous ≡ longest_key
  pub fits : held ≤ longest_key

-- The key of a word's record is held.
pub record KeyHeld (s u : List ℕ) (word : ℕ) (keys notes held : List ℕ) (size : ℕ) : Type 0 where
  pub holding : Holding s u keys notes held size
  pub key : take size held ≡ (record_of_word s u word).key

-- The bytes of its entry after the key before.
abbrev pub bytes_after : List ℕ → List ℕ → ℕ → List ℕ → maybe.Option (List ℕ) → List ℕ
bytes_after s u word before after = entry_bytes (entry_after before (record_of_word s u word).key after (record_of_word s u word).val)

-- That entry stands at the front of what was lent, and its key is held.
pub record EntryWritten (s u : List ℕ) (word : ℕ) (before : List ℕ) (link : Option (List ℕ)) (lent out keys notes held : List ℕ) (r : Added) : Type 0 where
  pub wrote : out ≡ front (bytes_after s u word before (link_held link)) lent
  pub size : r.len ≡ entry_length before (record_of_word s u word).key (is_some link)
  pub next : KeyHeld s u word keys notes held r.held

-- It is written if it has room there.
pub record EntryTried (s u : List ℕ) (word : ℕ) (before : List ℕ) (link : Option (List ℕ)) (lent out keys notes held : List ℕ) (r : Option Added) : Type 0 where
  pub room : is_some r ≡ leb (entry_length before (record_of_word s u word).key (is_some link)) (length lent)
  pub done : IfSome r (EntryWritten s u word before link lent out keys notes held)
  pub memory : Remembers s u keys notes
