-- The table of a set is no longer than that of the set with more records at its end.
use Prim.Native.Nat.{ℕ, zero, suc, ◌+◌, ◌-◌, ◌/◌, ◌≤◌, min}
use mathlib.Core.Path.{◌≡◌, refl}
use mathlib.Core.List.{List, [], ◌∷◌, ◌++◌, map, map-append}
use native.Mathlib.Nat.{add-zero, add-suc}
use native.Mathlib.Omega.{arith}
use lib.Dec.{eqb, ltb}
use lib.ListN.{length, length-append}
use borrow.Author.Tests.{ltb-true, ltb-false, ne_eqb}
use borrow.Table.Steps.{cases}
use Rattle.fips180.proofs.Laws.{length_sha256}
use Rattle.page.specs.Reading.{concat}
use Rattle.page.specs.Number.{array, number_bytes}
use Rattle.page.specs.Page.{link_bytes, gap_bytes, entry_bytes, page_bytes}
use Rattle.tree.specs.Tree.{Page, page, Gap, empty, Entries, Placed, top_layer, part, entries_of, page_of, gap_of, build, tree_of}
use Rattle.tree.specs.Record.{Record, spelt, spelt_under, spelt_from, placed}
use Rattle.tree.specs.Table.{link_of, raw_entries, raw_page, bytes_of_page, table, table_under, table_from, digest_of, tree_of_set, table_of}

-- A number for each row, no lower for the row with more items at its end.
abbrev Grows : (List (Placed Record) → ℕ) → Type 0
Grows f = (xs ys : List (Placed Record)) → f xs ≤ f (xs ++ ys)

-- ---- how many bytes a tree takes
-- The bytes of a gap and of entries are those in their page and those of the tables below them.
abbrev pub size : Page Record (List ℕ) → ℕ
size p = length (table (spelt p))

abbrev pub size_under : Gap Record (List ℕ) → ℕ
size_under g = length (gap_bytes (link_of (spelt_under g))) + length (table_under (spelt_under g))

abbrev pub size_from : List ℕ → Entries Record (List ℕ) → ℕ
size_from before es = length (concat entry_bytes (raw_entries (spelt_from before es))) + length (table_from (spelt_from before es))

abbrev pub count : List ℕ → Entries Record (List ℕ) → ℕ
count before es = length (raw_entries (spelt_from before es))

pub size_page : (g : Gap Record (List ℕ)) (es : Entries Record (List ℕ))
    → size (page g es) ≡ 5 + length (number_bytes array (count [] es)) + size_under g + size_from [] es
unfolding spelt table bytes_of_page raw_page page_bytes
size_page g es = simp length-append (omega arith)

-- in this form a greater number takes no fewer bytes by arithmetic alone
pub number_size : (kind n : ℕ) → length (number_bytes kind n) ≡ 1 + min 1 (n / 24) + min 1 (n / 256)
unfolding number_bytes
number_size kind n =
    cases (ltb n 24)
    (λ e. rw e (omega (arith, ltb-true)))
    (λ e. cases (ltb n 256) (λ f. rw (e, f) (omega (arith, ltb-true, ltb-false))) (λ f. rw (e, f) (omega (arith, ltb-false))))

-- ---- a page grows where its gaps do
-- more items at the end of a row can only add to the end of what stands before its first item of layer n
first_grows : (n : ℕ) (f : List (Placed Record) → ℕ) → Grows f → Grows (λ xs. f (part n xs).first)
unfolding part
first_grows n f h [] ys = h [] (part n ys).first
first_grows n f h (x ∷ xs) ys =
    cases (eqb x.layer n) (λ e. rw e (omega arith)) (λ e. rw e (first_grows n (λ ls. f (x ∷ ls)) (λ ls. h (x ∷ ls)) xs ys))

module _ (n : ℕ) (gap : List (Placed Record) → Gap Record (List ℕ)) (grows : Grows (λ ls. size_under (gap ls))) where
  -- the entries of the shorter row stay the first, so that each has the same key before it, and only gaps change
  from_grows : (before : List ℕ) (xs ys : List (Placed Record))
      → (count before (entries_of gap (part n xs).rest) ≤ count before (entries_of gap (part n (xs ++ ys)).rest))
      × (size_from before (entries_of gap (part n xs).rest) ≤ size_from before (entries_of gap (part n (xs ++ ys)).rest))
  unfolding part entries_of spelt raw_entries table entry_bytes
  from_grows before [] ys = omega arith
  from_grows before (x ∷ xs) ys =
      cases (eqb x.layer n)
      (λ e. rw e (simp length-append (omega (arith, first_grows n _ grows xs ys, from_grows x.item.key xs ys))))
      (λ e. rw e (from_grows before xs ys))

  -- with no fewer entries their count takes no fewer bytes
  page_grows : Grows (λ xs. size (page_of gap (part n xs)))
  unfolding page_of
  page_grows xs ys = simp (size_page, number_size) (omega (arith, first_grows n _ grows xs ys, from_grows [] xs ys))

-- ---- the tree at one layer
-- null is shorter than a link, and all links are as long as each other, for digests are
gap_grows : (below : List (Placed Record) → Page Record (List ℕ)) → Grows (λ ls. size (below ls))
    → Grows (λ ls. size_under (gap_of digest_of below ls))
unfolding gap_of spelt table link_of gap_bytes link_bytes digest_of
gap_grows below h [] [] = omega arith
gap_grows below h [] (y ∷ ys) = omega arith
gap_grows below h (x ∷ xs) ys = simp length_sha256 (omega (arith, h (x ∷ xs) ys))

-- at layer 0 all gaps are empty
build_grows : (n : ℕ) → Grows (λ xs. size (build digest_of n xs))
unfolding build
build_grows zero = page_grows zero (λ _. empty) (λ xs ys. omega arith)
build_grows (suc n) = page_grows (suc n) (gap_of digest_of (build digest_of n)) (gap_grows (build digest_of n) (build_grows n))

-- ---- the tree at higher layers
-- a page above the layers of its items has no entry: where there are items, it links to their tree one layer lower
part_above : (xs : List (Placed Record)) (n : ℕ) → top_layer xs ≤ n → part (suc n) xs ≡ record { first = xs; rest = [] }
unfolding part top_layer
part_above [] n h = refl
part_above (x ∷ xs) n h = rw (ne_eqb x.layer (suc n) (λ e. omega arith), part_above xs n (omega arith))

layer_grows : (xs : List (Placed Record)) (n : ℕ) → top_layer xs ≤ n → size (build digest_of n xs) ≤ size (build digest_of (suc n) xs)
unfolding part entries_of page_of gap_of build spelt table
layer_grows [] zero h = omega arith
layer_grows [] (suc n) h = omega arith
layer_grows (x ∷ xs) n h = rw (part_above (x ∷ xs) n h) (simp length-append (omega arith))

-- so at any number of layers higher
layers_grow : (xs : List (Placed Record)) (d : ℕ) → size (tree_of digest_of xs) ≤ size (build digest_of (top_layer xs + d) xs)
unfolding tree_of
layers_grow xs zero = rw add-zero (omega arith)
layers_grow xs (suc d) = rw add-suc (omega (arith, layers_grow xs d, layer_grows xs (top_layer xs + d) (omega arith)))

-- ---- the tree of a row, and the table of a set
top_grows : Grows top_layer
unfolding top_layer
top_grows [] ys = omega arith
top_grows (x ∷ xs) ys = omega (arith, top_grows xs ys)

-- at the longer row's top layer the shorter row takes no fewer bytes than at its own, and no more than the longer row
tree_grows : Grows (λ xs. size (tree_of digest_of xs))
unfolding tree_of
tree_grows xs ys =
    let d : ℕ = top_layer (xs ++ ys) - top_layer xs in
    let e : top_layer (xs ++ ys) ≡ top_layer xs + d = omega (arith, top_grows xs ys) in
    rw e (omega (arith, layers_grow xs d, build_grows (top_layer xs + d) xs ys))

pub table_grows : (rs more : List Record) → length (table_of rs) ≤ length (table_of (rs ++ more))
unfolding tree_of_set table_of
table_grows rs more = rw map-append (tree_grows (map placed rs) (map placed more))
