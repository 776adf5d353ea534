-- The rows to try that are marked hold.
use Prim.Native.Nat.{ℕ, zero, suc, max}
use mathlib.Core.Path.{◌≡◌, refl}
use mathlib.Core.List.{List, [], ◌∷◌}
use native.Mathlib.Omega.{arith}
use lib.ListN.{length, length-append}
use borrow.Author.Tests.{eq-eqb}
use Rattle.bytestring.specs.Bytes.{zeros}
use Rattle.key.specs.Key.{shared}
use Rattle.key.specs.Layer.{bits, bits_of, leading_zero_bits, layer_of_digest}
use Rattle.page.specs.Number.{number_bytes}
use Rattle.value.proofs.Laws.{value_digest_lem}
use Rattle.page.specs.Page.{gap_bytes, value_bytes, entry_bytes, page_bytes}
use Rattle.tree.specs.Tree.{Page, page, empty, end, entry, pages, top_layer, part, entries_of, page_of, gap_of, build, tree_of}
use Rattle.tree.specs.Record.{Record, spelt}
use Rattle.tree.specs.Table.{link_of, raw_entries, raw_page, bytes_of_page, table, digest_of, table_of, tree_of_set}
use Rattle.examples.specs.Rows.{entry_counts, tree_of_layers, ab1, ab2, of_digest, of_nothing, of_one, of_two, Holds, AllHold, rows}

-- ---- the layer of a digest
nothing : (s : List ℕ) → length s ≡ 0 → s ≡ []
nothing [] e = refl
nothing (b ∷ s) e = absurd (omega arith)

-- 32 zeros leave no room for other bytes
all_zeros : Holds (of_digest (zeros 32) 128)
unfolding bits bits_of leading_zero_bits layer_of_digest
all_zeros rest e = rw (nothing rest (omega (arith, length-append (zeros 32) rest)))

-- ---- one record: the tree is one page, whatever the layer
module _ (k v : List ℕ) where
  single : Page Record (List ℕ)
  single = page empty (entry (record { key = k; val = v }) empty end)

  one_build : (n : ℕ) → build digest_of n (record { layer = n; item = record { key = k; val = v } } ∷ []) ≡ single
  unfolding single build part page_of gap_of entries_of
  one_build zero = refl
  one_build (suc n) = rw (eq-eqb (suc n) (suc n) refl)

  one_tree : (n : ℕ) → tree_of digest_of (record { layer = n; item = record { key = k; val = v } } ∷ []) ≡ single
  unfolding tree_of top_layer
  one_tree n =
      let e : max n 0 ≡ n = omega arith in
      rw e (one_build n)

one_row : Holds (of_one ab1 64 1)
unfolding single pages spelt table bytes_of_page raw_page raw_entries link_of shared page_bytes entry_bytes number_bytes gap_bytes value_bytes
one_row n v h = rw (one_tree ab1 v n) (simp length-append (omega (arith, value_digest_lem v h)), refl)

-- ---- two records in one page
two_row : Holds (of_two ab1 ab2 3 1 118)
unfolding spelt bytes_of_page raw_page raw_entries link_of shared page_bytes entry_bytes number_bytes gap_bytes value_bytes
two_row v w h k = (refl, refl, simp length-append (omega (arith, value_digest_lem v h, value_digest_lem w k)))

nothing_row : Holds (of_nothing 7 1)
unfolding table_of tree_of_set tree_of top_layer build part page_of entries_of pages spelt table bytes_of_page raw_page raw_entries link_of page_bytes number_bytes gap_bytes
nothing_row = (refl, refl)

-- ---- the whole list
-- in the other rows of digests the byte that is not zero ends the count, whatever follows it
pub rows_hold : AllHold rows
unfolding bits bits_of leading_zero_bits layer_of_digest entry_counts tree_of_layers tree_of top_layer build part page_of gap_of entries_of
rows_hold =
    (λ rest e. refl, (λ rest e. refl, (λ rest e. refl, (λ rest e. refl, (λ rest e. refl, (all_zeros, (nothing_row, (one_row, (refl, (refl, (refl, (two_row, tt))))))))))))
