-- The table of a set is at most so long: each record takes part in at most 129 pages, one at each layer.
use Prim.Native.Nat.{ℕ, zero, suc, ◌+◌, ◌*◌, ◌≤◌}
use mathlib.Core.List.{List, [], ◌∷◌, map}
use native.Mathlib.Omega.{arith}
use lib.Dec.{eqb}
use lib.ListN.{length, drop, length-append, length-drop}
use borrow.Table.Steps.{cases}
use Rattle.bytestring.proofs.Tools.{All}
use Rattle.fips180.proofs.Laws.{length_sha256}
use Rattle.key.specs.Key.{shared}
use Rattle.value.specs.Value.{value_digest}
use Rattle.value.proofs.Laws.{value_digest_lem}
use Rattle.page.specs.Page.{link_bytes, gap_bytes, value_bytes, entry_bytes}
use Rattle.tree.specs.Tree.{Page, Gap, empty, Placed, top_layer, part, entries_of, page_of, gap_of, build, tree_of}
use Rattle.tree.specs.Record.{Record, spelt, spelt_under, placed}
use Rattle.tree.specs.Table.{link_of, raw_entries, table, digest_of, tree_of_set, table_of}
use Rattle.tree.proofs.Tests.{LawfulKey, RightValue}
use Rattle.tree.proofs.Accept.{GoodRecord, good_records, top_bounded}
use Rattle.tree.proofs.Growing.{size, size_under, size_from, size_page, number_size}

-- What a row's records add at most to a tree at layer n: each an entry of 65 bytes, its key and its value's digest, and 49 bytes of
-- page at each layer below.
abbrev cost : ℕ → List (Placed Record) → ℕ
cost n [] = 0
cost n (x ∷ xs) = 49 * n + 65 + length x.item.key + length (value_digest x.item.val) + cost n xs

-- A number for each row: at most what it may be of the empty row, and what the row's records add.
abbrev AtMost : ℕ → ℕ → (List (Placed Record) → ℕ) → Type 0
AtMost base n f = (xs : List (Placed Record)) → f xs ≤ base + cost n xs

cost_grows : (n : ℕ) → AtMost 0 (suc n) (cost n)
cost_grows n [] = omega arith
cost_grows n (x ∷ xs) = omega (arith, cost_grows n xs)

-- ---- a page
-- how much of the key is left out does not matter
entry_at_most : (r : Record) (n : ℕ) (g : Gap Record (List ℕ))
    → length (entry_bytes (record { shares = n; remainder = drop n r.key; after = link_of (spelt_under g); val = r.val }))
    ≤ 24 + length r.key + length (value_digest r.val) + length (gap_bytes (link_of (spelt_under g)))
unfolding entry_bytes value_bytes
entry_at_most r n g = simp (length-append, length-drop, number_size) (omega arith)

module _ (n : ℕ) (gap : List (Placed Record) → Gap Record (List ℕ)) (most : AtMost 41 n (λ ls. size_under (gap ls))) where
  -- the items before the first entry are counted for the gap there
  from_at_most : (before : List ℕ) → AtMost 0 n (λ xs. cost n (part n xs).first + size_from before (entries_of gap (part n xs).rest))
  unfolding part entries_of spelt raw_entries table
  from_at_most before [] = omega arith
  from_at_most before (x ∷ xs) =
      let r : Record = x.item in
      let first : List (Placed Record) = (part n xs).first in
      cases (eqb x.layer n)
      (λ e. rw e (simp length-append (omega (arith, entry_at_most r (shared before r.key) (gap first), most first, from_at_most r.key xs))))
      (λ e. rw e (omega (arith, from_at_most before xs)))

  page_at_most : AtMost 49 n (λ xs. size (page_of gap (part n xs)))
  unfolding page_of
  page_at_most xs = simp (size_page, number_size) (omega (arith, most (part n xs).first, from_at_most [] xs))

-- ---- the tree at one layer
-- a gap with a link has an item, which pays for the page below
gap_at_most : (n : ℕ) (below : List (Placed Record) → Page Record (List ℕ)) → AtMost 49 n (λ ls. size (below ls))
    → AtMost 41 (suc n) (λ ls. size_under (gap_of digest_of below ls))
unfolding gap_of spelt table link_of gap_bytes link_bytes digest_of
gap_at_most n below h [] = omega arith
gap_at_most n below h (x ∷ xs) = simp length_sha256 (omega (arith, h (x ∷ xs), cost_grows n xs))

build_at_most : (n : ℕ) → AtMost 49 n (λ xs. size (build digest_of n xs))
unfolding build spelt table link_of gap_bytes
build_at_most zero = page_at_most zero (λ _. empty) (λ ls. omega arith)
build_at_most (suc n) = page_at_most (suc n) (gap_of digest_of (build digest_of n)) (gap_at_most n (build digest_of n) (build_at_most n))

-- ---- the table of a set
-- 6,625 bytes for each record: 49 at each of 128 layers, 65, a key of 256 and a digest of 32
cost_at_most : (n : ℕ) (rs : List Record) → n ≤ 128 → All GoodRecord rs → cost n (map placed rs) ≤ 6625 * length rs
cost_at_most n [] h good = omega arith
cost_at_most n (r ∷ rs) h good = omega (arith, good.0.key, value_digest_lem r.val good.0.val, cost_at_most n rs h good.1)

pub table_at_most : (rs : List Record) → All LawfulKey rs → All RightValue rs → length (table_of rs) ≤ 49 + 6625 * length rs
unfolding tree_of_set table_of tree_of
table_at_most rs keys values =
    omega (arith, build_at_most (top_layer (map placed rs)) (map placed rs), cost_at_most _ rs (top_bounded rs) (good_records rs keys values))
