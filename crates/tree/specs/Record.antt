-- Records, and how a page spells their keys.
use Rattle.std.specs.Prelude.{ℕ, List, [], ◌++◌, take, drop}
use Rattle.key.specs.Key.{shared}
use Rattle.key.specs.Layer.{layer_of}
use Rattle.tree.specs.Tree.{Page, page, Gap, empty, under, Entries, end, entry, items, Placed}

-- A record is a key and a value.
pub record Record : Type 0 where
  pub key : List ℕ
  pub val : List ℕ

-- An entry as its bytes spell it: how many bytes its key shares with the key before it in the page, the rest of the key, and the value.
pub record Spelt : Type 0 where
  pub shares : ℕ
  pub remainder : List ℕ
  pub val : List ℕ

-- Each key is its prefix, taken from the entry before in the same page, plus its remainder. `before` is the key before in the page.
abbrev pub record_of : List ℕ → Spelt → Record
record_of before e = record { key = take e.shares before ++ e.remainder; val = e.val }

unfoldable mutual
  pub keyed : {D : Type 0} → Page Spelt D → Page Record D
  keyed (page g es) = page (keyed_under g) (keyed_from [] es)

  pub keyed_under : {D : Type 0} → Gap Spelt D → Gap Record D
  keyed_under empty = empty
  keyed_under (under d p) = under d (keyed p)

  pub keyed_from : {D : Type 0} → List ℕ → Entries Spelt D → Entries Record D
  keyed_from before end = end
  keyed_from before (entry e g es) = entry (record_of before e) (keyed_under g) (keyed_from (record_of before e).key es)

-- The prefix length counts all leading bytes shared with the entry before in the same page; it is 0 in the first entry. The remainder is the
-- rest.
abbrev pub spelt_of : List ℕ → Record → Spelt
spelt_of before r = record { shares = shared before r.key; remainder = drop (shared before r.key) r.key; val = r.val }

unfoldable mutual
  pub spelt : {D : Type 0} → Page Record D → Page Spelt D
  spelt (page g es) = page (spelt_under g) (spelt_from [] es)

  pub spelt_under : {D : Type 0} → Gap Record D → Gap Spelt D
  spelt_under empty = empty
  spelt_under (under d p) = under d (spelt p)

  pub spelt_from : {D : Type 0} → List ℕ → Entries Record D → Entries Spelt D
  spelt_from before end = end
  spelt_from before (entry r g es) = entry (spelt_of before r) (spelt_under g) (spelt_from r.key es)

-- The records that a tree spells, in tree order.
abbrev pub records : {D : Type 0} → Page Spelt D → List Record
records t = items (keyed t)

-- A record at the layer of its key, and a key at its layer.
abbrev pub placed : Record → Placed Record
placed r = record { layer = layer_of r.key; item = r }

abbrev pub placed_key : List ℕ → Placed (List ℕ)
placed_key k = record { layer = layer_of k; item = k }
