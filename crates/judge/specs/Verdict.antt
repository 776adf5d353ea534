-- The verdict, with the rows of what is accepted.
use Rattle.answer.specs.declared.Refusal.{Refusal}
use Rattle.std.specs.Prelude.{ℕ, ◌*◌, ◌≤◌, ◌≡◌, Bool, List, length, Result, Ok, Err}
use Rattle.limits.specs.Limits.{most, shortest_entry}
use Rattle.tree.specs.Judge.{prefixes_right, refused, judge}
use Rattle.index.specs.Walk.{Walks}
use Rattle.index.specs.Accepted.{AcceptedIndex, ChainRow}
use Rattle.index.specs.declared.walk.WalkState.{WalkState}

-- Whether the prefix lengths of a register that was walked through are right.
unfoldable pub PrefixesSay : List ℕ → List ℕ → WalkState → Bool → Type 0
PrefixesSay s row st r = (index : List ℕ) (w : Walks s index row st) → st.count ≤ most → r ≡ prefixes_right w.root

-- So many words are room for the records of every register as long as s, with `each` words for one: an entry has at least 53 bytes.
abbrev pub RoomFor : List ℕ → ℕ → ℕ → Type 0
RoomFor s each words = (k : ℕ) → k ≤ most → shortest_entry * k ≤ length s → each * k ≤ words

abbrev pub RegisterSays : List ℕ → Result (ℕ × ℕ) Refusal → List ℕ → List ℕ → Type 0
RegisterSays s (Ok (count, n)) index row = AcceptedIndex s index count × ChainRow s row n
RegisterSays s (Err r) index row = judge s ≡ refused r
