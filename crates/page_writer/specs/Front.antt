-- What the writers write at the front of an output, and how many bytes that takes.
use Rattle.std.specs.Prelude.{ℕ, ◌+◌, ◌-◌, Bool, cond, List, [], ◌∷◌, ◌++◌, length, drop, Some, None, Option as OptionOf}
use Rattle.std.proofs.Math.Option.{Option, none, some}
use Rattle.key.specs.Key.{shared}
use Rattle.page.specs.Number.{plain_number, byte_string, array, number_bytes}
use Rattle.page.specs.Page.{gap_bytes, value_bytes, RawEntry}

-- How many bytes a number takes, whatever it counts.
unfoldable pub number_length : ℕ → ℕ
number_length n = length (number_bytes plain_number n)

-- A gap's link, which the code holds as its digest, if there is one.
abbrev pub link_held : OptionOf (List ℕ) → Option (List ℕ)
link_held (Some digest) = some digest
link_held None = none

-- How many bytes a gap takes.
abbrev pub gap_length : Bool → ℕ
gap_length linked = cond linked 41 1

-- The start of an entry: its key's remainder, and how many bytes the key shares.
unfoldable pub entry_start_bytes : ℕ → List ℕ → List ℕ
entry_start_bytes shares remainder =
    (0xA4 ∷ 0x61 ∷ 0x6B ∷ []) ++ (number_bytes byte_string (length remainder) ++ (remainder ++ ((0x61 ∷ 0x70 ∷ []) ++ number_bytes plain_number shares)))

abbrev pub entry_start_length : ℕ → ℕ → ℕ
entry_start_length shares size = 3 + number_length size + size + 2 + number_length shares

-- The end of an entry: the gap after it, and its value.
unfoldable pub entry_end_bytes : Option (List ℕ) → List ℕ → List ℕ
entry_end_bytes after val = (0x61 ∷ 0x74 ∷ []) ++ (gap_bytes after ++ ((0x61 ∷ 0x76 ∷ []) ++ value_bytes val))

abbrev pub entry_end_length : Bool → ℕ
entry_end_length linked = 2 + gap_length linked + 2 + 41

-- The entry of a key after the previous one in its page: it shares all leading bytes that the two have in common, and the remainder is
-- the rest.
unfoldable pub entry_after : List ℕ → List ℕ → Option (List ℕ) → List ℕ → RawEntry
entry_after previous key after val = record { shares = shared previous key; remainder = drop (shared previous key) key; after = after; val = val }

abbrev pub entry_length : List ℕ → List ℕ → Bool → ℕ
entry_length previous key linked = entry_start_length (shared previous key) (length key - shared previous key) + entry_end_length linked

-- The start of a page, before its entries.
unfoldable pub page_start_bytes : ℕ → List ℕ
page_start_bytes count = (0xA2 ∷ 0x61 ∷ 0x65 ∷ []) ++ number_bytes array count

-- The end of a page, after its entries.
unfoldable pub page_end_bytes : Option (List ℕ) → List ℕ
page_end_bytes left = (0x61 ∷ 0x6C ∷ []) ++ gap_bytes left
