-- Words of a row: one more, one less, and those of a second register.
use Rattle.std.specs.Prelude.{ℕ, ◌+◌, ◌-◌, ◌<◌, ◌≡◌, List, ◌∷◌, ◌++◌, take, drop, get_or}
use Rattle.word.specs.Word.{from_second, second_word}
use Rattle.row.specs.Row.{record_of_word, Stands}

-- The first n words of an index are below the second register's, and have become its words.
unfoldable pub BelowSecond : List ℕ → ℕ → Type 0
BelowSecond index n = (i : ℕ) → i < n → get_or index i 0 < from_second

unfoldable pub ToSecond : List ℕ → ℕ → List ℕ → Type 0
ToSecond index n index' = (i : ℕ) → i < n → get_or index' i 0 ≡ second_word (get_or index i 0)

-- Of the first n words, the one at a position is left out.
unfoldable pub LeftOut : List ℕ → ℕ → ℕ → List ℕ → Type 0
LeftOut row n at row' = take (n - 1) row' ≡ take at row ++ drop (at + 1) (take n row)

-- Among the first n words, one more stands at a position.
unfoldable pub Inserted : List ℕ → ℕ → ℕ → ℕ → List ℕ → Type 0
Inserted row n at word row' = take (n + 1) row' ≡ take at row ++ (word ∷ drop at (take n row))

-- Where the second register is these bytes, the word stands for the record of this key and value.
pub record Single (key val bytes : List ℕ) (w : ℕ) : Type 0 where
  pub stands : (s : List ℕ) → Stands s bytes w
  pub spells : (s : List ℕ) → record_of_word s bytes w ≡ record { key = key; val = val }
