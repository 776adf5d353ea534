-- How many bytes a table has at least. An entry has at least 53: those before its fields, one for each number and for the gap after it, and
-- its value's link.
use Prim.Native.Nat.{ℕ, zero, suc, ◌+◌, ◌*◌, ◌≤◌}
use mathlib.Core.Path.{◌≡◌, ap}
use mathlib.Core.Bool.{true}
use mathlib.Core.Option.{Option, none, some}
use mathlib.Core.List.{List, [], ◌++◌}
use native.Mathlib.Omega.{arith}
use lib.ListN.{length, length-append}
use lib.Dec.{ltb}
use borrow.Table.Steps.{cases}
use Rattle.bytestring.proofs.Tools.{All}
use Rattle.bytestring.specs.Bytes.{Bytes}
use Rattle.page.specs.Reading.{read, concat}
use Rattle.page.specs.Number.{number_bytes, byte_string, plain_number}
use Rattle.value.specs.Value.{is_value}
use Rattle.value.proofs.Laws.{value_digest_lem}
use Rattle.page.specs.Page.{link_bytes, gap_bytes, value_bytes, RawEntry, entry_bytes, RawPage, page_bytes}
use Rattle.page.proofs.Pages.{GoodEntry}
use Rattle.tree.specs.Tree.{page, Gap, empty, under, Entries, end, entry, items, items_under, items_from}
use Rattle.tree.specs.Record.{Spelt, record_of, keyed, keyed_under, keyed_from, records}
use Rattle.tree.specs.Table.{SpeltTree, link_of, raw_entries, raw_page, bytes_of_page, table, table_under, table_from, read_tree}
use Rattle.tree.proofs.Tables.{AllUnder, AllFrom, Good, tree_spells}

-- ---- entries and pages
number_length_lem : (kind n : ℕ) → 1 ≤ length (number_bytes kind n)
unfolding number_bytes
number_length_lem kind n =
    cases (ltb n 24)
    (λ e. rw e (omega arith))
    (λ e. cases (ltb n 256) (λ f. rw (e, f) (omega arith)) (λ f. rw (e, f) (omega arith)))

gap_length_lem : (g : Option (List ℕ)) → 1 ≤ length (gap_bytes g)
unfolding gap_bytes link_bytes
gap_length_lem none = omega arith
gap_length_lem (some digest) = omega arith

entry_length_lem : (e : RawEntry) → is_value e.val ≡ true → 53 ≤ length (entry_bytes e)
unfolding entry_bytes value_bytes
entry_length_lem e h =
    simp length-append (omega (arith, number_length_lem byte_string (length e.remainder), number_length_lem plain_number e.shares, gap_length_lem e.after, value_digest_lem e.val h))

entries_within : (p : RawPage) → length (concat entry_bytes p.entries) ≤ length (page_bytes p)
unfolding page_bytes
entries_within p = simp length-append (omega arith)

mutual
  unfolding items keyed raw_page raw_entries bytes_of_page table

  -- the table of a tree has at least 53 bytes for each record
  pub table_length : (t : SpeltTree) (d : ℕ) → Good d t → 53 * length (records t) ≤ length (table t)
  table_length (page g es) zero h = absurd h
  table_length (page g es) (suc d) h =
      omega (
        arith,
        length-append (items_under (keyed_under g)) (items_from (keyed_from [] es)),
        length-append (bytes_of_page (page g es)) (table_under g ++ table_from es),
        length-append (table_under g) (table_from es),
        entries_within (raw_page (page g es)),
        under_length g d h.1,
        from_length es d [] h.0.entries h.2,
      )

  under_length : (g : Gap Spelt (List ℕ)) (d : ℕ) → AllUnder (Good d) g → 53 * length (items_under (keyed_under g)) ≤ length (table_under g)
  under_length empty d h = omega arith
  under_length (under digest p) d h = table_length p d h

  from_length : (es : Entries Spelt (List ℕ)) (d : ℕ) (before : List ℕ) → All GoodEntry (raw_entries es) → AllFrom (Good d) es
      → 53 * length (items_from (keyed_from before es)) ≤ length (concat entry_bytes (raw_entries es)) + length (table_from es)
  from_length end d before h k = omega arith
  from_length (entry e g es) d before h k =
      let raw : RawEntry = record { shares = e.shares; remainder = e.remainder; after = link_of g; val = e.val } in
      let key : List ℕ = (record_of before e).key in
      omega (
        arith,
        length-append (items_under (keyed_under g)) (items_from (keyed_from key es)),
        length-append (entry_bytes raw) (concat entry_bytes (raw_entries es)),
        length-append (table_under g) (table_from es),
        entry_length_lem raw h.0.val,
        under_length g d k.0,
        from_length es d key h.1 k.1,
      )

-- what was read has as many
pub read_length : (d : ℕ) (s rest : List ℕ) (t : SpeltTree) → Bytes s → read_tree d s ≡ read t rest → 53 * length (records t) ≤ length s
read_length d s rest t b h =
    let whole = (tree_spells d).back s rest t b h in
    omega (arith, ap length whole.0, length-append (table t) rest, table_length t d whole.1)
