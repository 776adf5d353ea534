-- Every page but a bare root has at least 47 bytes, so a register has few pages.
use Prim.Native.Nat.{ℕ, zero, suc, ◌+◌, ◌*◌, ◌≤◌}
use mathlib.Core.Path.{◌≡◌, refl, sym, ap, ◌∙◌}
use mathlib.Core.Bool.{true, false, not, false≢true}
use mathlib.Core.List.{List, ◌++◌}
use native.Mathlib.Omega.{arith}
use lib.ListN.{length, length-append}
use borrow.Author.Tests.{not-true}
use Rattle.limits.specs.Limits.{deepest}
use Rattle.bytestring.specs.Bytes.{Bytes}
use Rattle.bytestring.proofs.Tools.{and_inv}
use Rattle.page.specs.Number.{number_bytes}
use Rattle.page.specs.Page.{link_bytes, gap_bytes, RawEntry, page_bytes}
use Rattle.page.proofs.Standing.{size_of_entry}
use Rattle.tree.specs.Tree.{page, Gap, empty, under, Entries, end, entry}
use Rattle.tree.specs.Record.{Spelt}
use Rattle.tree.specs.Table.{SpeltTree, link_of, raw_entries, raw_page, bytes_of_page, table, table_under, table_from, table_of}
use Rattle.tree.specs.Judge.{accepted, judge}
use Rattle.tree.proofs.Laws.{AllUnder, AllFrom, Good, Accepted, accepted_table}
use Rattle.promises.specs.Pages.{pages_of, pages_of_gap, pages_of_entries}
use Rattle.index.specs.Slot.{bare, filled, filled_under, filled_from}
use Rattle.known.proofs.ChainRows.{accepted_filled}

-- ---- one page
bare_size : length (bytes_of_page (page empty end)) ≡ 7
unfolding bytes_of_page raw_page raw_entries link_of page_bytes number_bytes gap_bytes
bare_size = refl

page_size : (t : SpeltTree) (d : ℕ) → Good d t → bare t ≡ false → 47 ≤ length (bytes_of_page t)
unfolding bytes_of_page raw_page raw_entries link_of page_bytes number_bytes gap_bytes link_bytes bare
page_size t zero good b = absurd good
page_size (page empty end) (suc d) good b = absurd (false≢true (sym b))
page_size (page (under digest p) end) (suc d) good b = omega (arith, good.0.left)
page_size (page g (entry e h es)) (suc d) good b =
    let raw : RawEntry = record { shares = e.shares; remainder = e.remainder; after = link_of h; val = e.val } in
    simp length-append (omega (arith, size_of_entry raw good.0.entries.0.val))

least_size : (t : SpeltTree) (d : ℕ) → Good d t → 7 ≤ length (bytes_of_page t)
unfolding bare
least_size (page empty end) d good = omega (arith, bare_size)
least_size (page empty (entry e h es)) d good = omega (arith, page_size (page empty (entry e h es)) d good refl)
least_size (page (under digest p) end) d good = omega (arith, page_size (page (under digest p) end) d good refl)
least_size (page (under digest p) (entry e h es)) d good = omega (arith, page_size (page (under digest p) (entry e h es)) d good refl)

-- ---- a tree
mutual
  unfolding table pages_of filled

  -- the first page may have any size
  tree_sizes : (t : SpeltTree) (d : ℕ) → Good d t → filled t ≡ true → 47 * length (pages_of t) + length (bytes_of_page t) ≤ length (table t) + 47
  tree_sizes (page g es) zero h f = absurd h
  tree_sizes (page g es) (suc d) h f =
      let m = and_inv (filled_under g) f in
      omega (
        arith,
        gap_sizes g d h.1 m.0,
        row_sizes es d h.2 m.1,
        length-append (pages_of_gap g) (pages_of_entries es),
        length-append (bytes_of_page (page g es)) (table_under g ++ table_from es),
        length-append (table_under g) (table_from es),
      )

  gap_sizes : (g : Gap Spelt (List ℕ)) (d : ℕ) → AllUnder (Good d) g → filled_under g ≡ true → 47 * length (pages_of_gap g) ≤ length (table_under g)
  gap_sizes empty d h f = omega arith
  gap_sizes (under digest p) d h f =
      let m = and_inv (not (bare p)) f in
      omega (arith, tree_sizes p d h m.1, page_size p d h (not-true (bare p) m.0))

  row_sizes : (es : Entries Spelt (List ℕ)) (d : ℕ) → AllFrom (Good d) es → filled_from es ≡ true → 47 * length (pages_of_entries es) ≤ length (table_from es)
  row_sizes end d h f = omega arith
  row_sizes (entry e g es) d h f =
      let m = and_inv (filled_under g) f in
      omega (
        arith,
        gap_sizes g d h.0 m.0,
        row_sizes es d h.1 m.1,
        length-append (pages_of_gap g) (pages_of_entries es),
        length-append (table_under g) (table_from es),
      )

-- ---- a register that is accepted
pub accepted_pages_few : (s : List ℕ) → Bytes s → (t : SpeltTree) → judge s ≡ accepted t → 47 * length (pages_of t) ≤ length s + 40
unfolding table_of
accepted_pages_few s bytes t j =
    let facts : Accepted s t = accepted_table s bytes t j in
    let written : s ≡ table t = facts.written ∙ ap table (sym facts.spells) in
    omega (arith, ap length written, tree_sizes t deepest facts.good (accepted_filled s bytes t j), least_size t deepest facts.good)
