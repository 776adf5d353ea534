-- The records of a register with the places where they stand, in tree order, and the tests on them.
use Rattle.std.specs.Prelude.{ℕ, ◌+◌, ◌-◌, Bool, true, false, not, ◌&&◌, List, [], ◌∷◌, ◌++◌, length, eqb}
use Rattle.value.specs.Value.{digest_length}
use Rattle.key.specs.Key.{less, lawful}
use Rattle.key.specs.Layer.{layer_of}
use Rattle.tree.specs.Tree.{page, Gap, empty, under, Entries, end, entry}
use Rattle.tree.specs.Record.{Record, Spelt, record_of}
use Rattle.tree.specs.Table.{SpeltTree, bytes_of_page, table_under}
use Rattle.tree.specs.Place.{length_of_entry, first_entry}

-- A record, the depth of its page below the root, and the places of its page, of its entry and of its value's digest.
pub record Slot : Type 0 where
  pub depth : ℕ
  pub page : ℕ
  pub entry : ℕ
  pub value : ℕ
  pub item : Record

-- The slots of a tree whose root is so deep and whose table begins at `at`.
unfoldable mutual
  pub slots : ℕ → ℕ → SpeltTree → List Slot
  slots depth at (page g es) =
      slots_under (depth + 1) (at + length (bytes_of_page (page g es))) g
      ++ slots_from depth at (at + first_entry es) (at + length (bytes_of_page (page g es)) + length (table_under g)) [] es

  pub slots_under : ℕ → ℕ → Gap Spelt (List ℕ) → List Slot
  slots_under depth at empty = []
  slots_under depth at (under digest p) = slots depth at p

  -- The entries of the page at `pg` from place `at` on, after the key `before`; the tables under their gaps begin at `below`.
  pub slots_from : ℕ → ℕ → ℕ → ℕ → List ℕ → Entries Spelt (List ℕ) → List Slot
  slots_from depth pg at below before end = []
  slots_from depth pg at below before (entry e g es) =
      record { depth = depth; page = pg; entry = at; value = at + length_of_entry e g - digest_length; item = record_of before e }
      ∷ (slots_under (depth + 1) below g
      ++ slots_from depth pg (at + length_of_entry e g) (below + length (table_under g)) (record_of before e).key es)

abbrev pub key_of : Slot → List ℕ
key_of x = x.item.key

-- Each key keeps the key rule.
unfoldable pub lawful_slots : List Slot → Bool
lawful_slots [] = true
lawful_slots (x ∷ xs) = lawful (key_of x) && lawful_slots xs

-- Each key is greater than the one before it; the first is greater than k.
unfoldable pub rising_after : List ℕ → List Slot → Bool
rising_after k [] = true
rising_after k (x ∷ xs) = less k (key_of x) && rising_after (key_of x) xs

unfoldable pub last_after : List ℕ → List Slot → List ℕ
last_after k [] = k
last_after k (x ∷ xs) = last_after (key_of x) xs

-- Each key stands as deep below the root as its layer is below the root's.
unfoldable pub level_slots : ℕ → List Slot → Bool
level_slots top [] = true
level_slots top (x ∷ xs) = eqb (layer_of (key_of x) + x.depth) top && level_slots top xs

-- A page without entries and without a left link.
unfoldable pub bare : SpeltTree → Bool
bare (page empty end) = true
bare (page empty (entry e g es)) = false
bare (page (under d p) end) = false
bare (page (under d p) (entry e g es)) = false

-- No page below the root is bare.
unfoldable mutual
  pub filled : SpeltTree → Bool
  filled (page g es) = filled_under g && filled_from es

  pub filled_under : Gap Spelt (List ℕ) → Bool
  filled_under empty = true
  filled_under (under digest p) = not (bare p) && filled p

  pub filled_from : Entries Spelt (List ℕ) → Bool
  filled_from end = true
  filled_from (entry e g es) = filled_under g && filled_from es
