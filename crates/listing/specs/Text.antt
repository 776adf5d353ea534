-- What the functions of the listing program write.
use Rattle.std.specs.Prelude.{ℕ, ◌≤◌, ◌<◌, ◌≡◌, List, [], ◌∷◌, ◌++◌, length, take, Option, Some, None}
use Rattle.tree.specs.Record.{Record}
use Rattle.row.specs.Row.{record_of_word}
use Rattle.row.specs.Memory.{Remembers}
use Rattle.promises.specs.Listing.{hexadecimal, space, line_feed, listing}

-- The first n elements of a list: n is at most its length.
abbrev pub IsPrefixLen : ℕ → List ℕ → Type 0
IsPrefixLen n xs = (n ≤ length xs) × (n ≡ length (take n xs))

-- The text stands at the front of the output, or there is no room for it.
abbrev pub TextStands : List ℕ → List ℕ → Option ℕ → Type 0
TextStands out text (Some n) = (n ≡ length text) × (n ≤ length out) × (take n out ≡ text)
TextStands out text None = length out < length text

-- The text is added to whatever stands before the place.
pub record Adds (entry : List ℕ) (at : ℕ) (text exit : List ℕ) (r : Option ℕ) : Type 0 where
  pub adds : (before : List ℕ) → TextStands entry before (Some at) → TextStands exit (before ++ text) r

-- What follows the key in a record's line.
unfoldable pub line_end : List ℕ → List ℕ
line_end value = space ∷ (hexadecimal value ++ (line_feed ∷ []))

abbrev pub line_of : Record → List ℕ
line_of r = r.key ++ line_end r.val

-- The line of the word's record is added, and the memory remembers.
pub record LineSays (s : List ℕ) (word : ℕ) (entry : List ℕ) (at : ℕ) (exit keys notes : List ℕ) (r : Option ℕ) : Type 0 where
  pub line : Adds entry at (line_of (record_of_word s s word)) exit r
  pub remembers : Remembers s s keys notes

-- The text is the listing of every input of which this was read: its first bytes, as many as the buffer holds.
abbrev pub ListsInput : List ℕ → ℕ → List ℕ → Type 0
ListsInput buffer n text = (input : List ℕ) → take n buffer ≡ take (length buffer) input → text ≡ listing input
