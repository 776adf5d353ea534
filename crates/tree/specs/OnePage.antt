-- One page by itself: where its entries begin, and the keys and the records that they spell, one after the other.
use Rattle.std.specs.Prelude.{Bool, true, ◌&&◌, List, [], ◌∷◌, ◌++◌, ℕ, ◌+◌, length, take, eqb}
use Rattle.key.specs.Key.{shared}
use Rattle.page.specs.Number.{array, number_bytes}
use Rattle.page.specs.Page.{RawEntry}
use Rattle.tree.specs.Record.{Record}

-- The first entry follows the page's first three bytes and its count of entries.
abbrev pub entries_start : List RawEntry → ℕ
entries_start es = 3 + length (number_bytes array (length es))

-- The key that an entry spells after the key before it in its page.
abbrev pub key_after : List ℕ → RawEntry → List ℕ
key_after before e = take e.shares before ++ e.remainder

-- Whether the prefix lengths of a row of entries are right, after the key `before`.
unfoldable pub prefixes_of : List ℕ → List RawEntry → Bool
prefixes_of before [] = true
prefixes_of before (e ∷ es) = eqb e.shares (shared before (key_after before e)) && prefixes_of (key_after before e) es

-- The records of a row of entries, after the key `before`.
unfoldable pub records_in : List ℕ → List RawEntry → List Record
records_in before [] = []
records_in before (e ∷ es) = record { key = key_after before e; val = e.val } ∷ records_in (key_after before e) es
