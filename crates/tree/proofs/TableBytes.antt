-- The table of a set that fits, with values that are strings of bytes, is a string of bytes.
use Prim.Native.Nat.{ℕ, zero, suc}
use mathlib.Core.List.{List, [], ◌∷◌, ◌++◌}
use Rattle.limits.specs.Limits.{deepest}
use Rattle.bytestring.proofs.Tools.{All, all_split, bytes_append, bytes_drop}
use Rattle.bytestring.specs.Bytes.{Bytes}
use Rattle.fips180.proofs.Laws.{bytes_sha256}
use Rattle.key.specs.Key.{shared}
use Rattle.key.proofs.Laws.{lawful_bytes}
use Rattle.page.proofs.AllBytes.{ByteGap, ByteEntry, page_bytes_lem}
use Rattle.tree.specs.Tree.{Page, page, Gap, empty, under, Entries, end, entry, items, items_under, items_from}
use Rattle.tree.specs.Record.{Record, spelt, spelt_under, spelt_from}
use Rattle.tree.specs.Table.{link_of, raw_entries, raw_page, bytes_of_page, table, table_under, table_from, digest_of, tree_of_set, table_of}
use Rattle.tree.proofs.BuildLaws.{Labelled, LabelledUnder, LabelledFrom}
use Rattle.tree.proofs.Tests.{LawfulKey, Fitting}
use Rattle.tree.proofs.Tables.{AllUnder, AllFrom, Good}
use Rattle.tree.proofs.Accept.{labelled_set, items_of_set, tree_is_good}

-- ---- the pages of a tree of records
pub record ByteRecord (r : Record) : Type 0 where
  pub key : Bytes r.key
  pub val : Bytes r.val

-- links carry digests, and these are bytes
link_is_bytes : (g : Gap Record (List ℕ)) → LabelledUnder digest_of g → ByteGap (link_of (spelt_under g))
unfolding Labelled link_of spelt digest_of
link_is_bytes empty k = tt
link_is_bytes (under digest p) k = rw k.0 (bytes_sha256 (bytes_of_page (spelt p)))

entries_are_bytes : (before : List ℕ) (es : Entries Record (List ℕ)) → All ByteRecord (items_from es) → LabelledFrom digest_of es
    → All ByteEntry (raw_entries (spelt_from before es))
unfolding Labelled raw_entries spelt items
entries_are_bytes before end h k = tt
entries_are_bytes before (entry r g es) h k = (
  record { remainder = bytes_drop (shared before r.key) r.key h.0.key; after = link_is_bytes g k.0; val = h.0.val },
  entries_are_bytes r.key es (all_split ByteRecord (items_under g) (items_from es) h.1).1 k.1,
)

mutual
  unfolding Labelled items spelt raw_page bytes_of_page table

  tree_bytes : (t : Page Record (List ℕ)) (d : ℕ) → Good d (spelt t) → Labelled digest_of t → All ByteRecord (items t) → Bytes (table (spelt t))
  tree_bytes (page g es) zero f k h = absurd f
  tree_bytes (page g es) (suc d) f k h =
      let i = all_split ByteRecord (items_under g) (items_from es) h in
      bytes_append (bytes_of_page (spelt (page g es))) (table_under (spelt_under g) ++ table_from (spelt_from [] es))
      (page_bytes_lem (raw_page (spelt (page g es))) f.0 (record { entries = entries_are_bytes [] es i.1 k.1; left = link_is_bytes g k.0 }))
      (bytes_append (table_under (spelt_under g)) (table_from (spelt_from [] es)) (under_bytes g d f.1 k.0 i.0) (from_bytes [] es d f.2 k.1 i.1))

  under_bytes : (g : Gap Record (List ℕ)) (d : ℕ) → AllUnder (Good d) (spelt_under g) → LabelledUnder digest_of g → All ByteRecord (items_under g)
      → Bytes (table_under (spelt_under g))
  under_bytes empty d f k h = tt
  under_bytes (under digest p) d f k h = tree_bytes p d f k.1 h

  from_bytes : (before : List ℕ) (es : Entries Record (List ℕ)) (d : ℕ) → AllFrom (Good d) (spelt_from before es) → LabelledFrom digest_of es
      → All ByteRecord (items_from es) → Bytes (table_from (spelt_from before es))
  from_bytes before end d f k h = tt
  from_bytes before (entry r g es) d f k h =
      let i = all_split ByteRecord (items_under g) (items_from es) h.1 in
      bytes_append (table_under (spelt_under g)) (table_from (spelt_from r.key es)) (under_bytes g d f.0 k.0 i.0) (from_bytes r.key es d f.1 k.1 i.1)

-- ---- the table of a set
byte_records : (rs : List Record) → All LawfulKey rs → All (λ r. Bytes r.val) rs → All ByteRecord rs
byte_records [] h k = tt
byte_records (r ∷ rs) h k = (record { key = lawful_bytes r.key h.0; val = k.0 }, byte_records rs h.1 k.1)

pub table_bytes : (rs : List Record) → Fitting rs → All (λ r. Bytes r.val) rs → Bytes (table_of rs)
unfolding table_of
table_bytes rs f b =
    tree_bytes (tree_of_set rs) deepest (tree_is_good rs f) (labelled_set rs) (rw (items_of_set rs) (byte_records rs f.keys b))
