-- Where the values of a register stand in its bytes, counted from 0, in tree order. A value's place is that of its digest.
use Rattle.std.specs.Prelude.{ℕ, ◌+◌, ◌-◌, List, [], ◌∷◌, ◌++◌, length}
use Rattle.value.specs.Value.{digest_length}
use Rattle.page.specs.Page.{entry_bytes}
use Rattle.tree.specs.Tree.{page, Gap, empty, under, Entries, end, entry}
use Rattle.tree.specs.Record.{Spelt}
use Rattle.tree.specs.Table.{SpeltTree, link_of, raw_entries, bytes_of_page, table_under}
use Rattle.tree.specs.OnePage.{entries_start}

-- An entry's bytes end with its value's digest.
abbrev pub length_of_entry : Spelt → Gap Spelt (List ℕ) → ℕ
length_of_entry e g = length (entry_bytes (record { shares = e.shares; remainder = e.remainder; after = link_of g; val = e.val }))

abbrev pub first_entry : Entries Spelt (List ℕ) → ℕ
first_entry es = entries_start (raw_entries es)

-- The places of the values in a tree whose table begins at `at`.
unfoldable mutual
  pub places : ℕ → SpeltTree → List ℕ
  places at (page g es) =
      places_under (at + length (bytes_of_page (page g es))) g
      ++ places_from (at + first_entry es) (at + (length (bytes_of_page (page g es)) + length (table_under g))) es

  pub places_under : ℕ → Gap Spelt (List ℕ) → List ℕ
  places_under at empty = []
  places_under at (under digest p) = places at p

  -- The entries begin at `at`, and the tables under the gaps after them at `below`.
  pub places_from : ℕ → ℕ → Entries Spelt (List ℕ) → List ℕ
  places_from at below end = []
  places_from at below (entry e g es) =
      (at + length_of_entry e g - digest_length)
      ∷ (places_under below g ++ places_from (at + length_of_entry e g) (below + length (table_under g)) es)
