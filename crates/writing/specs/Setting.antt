-- What the setting of one record asks for. Contracts inside this crate cite it, and no public contract does.
use Rattle.std.specs.Prelude.{ℕ, ◌*◌, ◌^◌, ◌≤◌, ◌<◌, ◌≡◌, List, length, Result}
use Rattle.limits.specs.Limits.{most, shortest_entry}
use Rattle.index.specs.Accepted.{AcceptedIndex}
use Rattle.row.specs.Row.{source_of, record_of_word, Stands}
use Rattle.row.specs.Search.{SearchSays}

-- So many words are room for one record more than any register as long as s has, unless that is too many: an entry has at least 53 bytes.
abbrev pub RoomForMore : List ℕ → ℕ → Type 0
RoomForMore s words = (k : ℕ) → k < most → shortest_entry * k ≤ length s → k < words

-- A word stands for a record of u, and its key was searched for in the index of the accepted register s, which has room for one word more.
pub record ToSet (s u index : List ℕ) (n : ℕ) (found : Result (ℕ × ℕ) ℕ) (word : ℕ) : Type 0 where
  pub accepted : AcceptedIndex s index n
  pub room : n < most → n < length index
  pub short : length u < 2 ^ 24
  pub source : source_of s u word ≡ u
  pub stands : Stands s u word
  pub searched : SearchSays s index n (record_of_word s u word).key found
