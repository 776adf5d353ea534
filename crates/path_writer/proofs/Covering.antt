-- The chains that hold some positions: their pages, and where there are none.
use Prim.Native.Nat.{ℕ, ◌+◌, ◌≤◌, ◌<◌}
use mathlib.Core.Path.{◌≡◌, refl, sym, ◌∙◌}
use mathlib.Core.Bool.{false, ◌&&◌}
use mathlib.Core.List.{List, [], ◌∷◌, ◌++◌, append_assoc, append-nil}
use native.Mathlib.Omega.{arith}
use lib.ListN.{length, length-append}
use lib.Dec.{leb}
use borrow.Author.Tests.{le-leb, lt-leb, leb-true}
use borrow.Table.Steps.{cases}
use Rattle.bytestring.proofs.Tools.{and_inv}
use Rattle.key.proofs.Laws.{is_false}
use Rattle.tree.specs.Tree.{page, Gap, empty, under, Entries, end, entry, items, items_under, items_from}
use Rattle.tree.specs.Record.{Spelt}
use Rattle.tree.specs.Table.{SpeltTree, bytes_of_page, table_under}
use Rattle.index.specs.Chain.{Chain, only_link, labels_on, chain_if, chains, chains_under, chains_from}
use Rattle.path_writer.specs.Chains.{covers, empty_pages, chain_bytes, covering}

-- ---- pages without entries
-- one label more is one page more
pub empty_more : (labels : List (List ℕ)) (d : List ℕ) → 0 < length labels → empty_pages (labels ++ (d ∷ [])) ≡ empty_pages labels ++ only_link d
unfolding empty_pages
empty_more [] d h = absurd (omega arith)
empty_more (x ∷ []) d h = append-nil (only_link d)
empty_more (x ∷ (y ∷ labels)) d h =
    rw (empty_more (y ∷ labels) d (omega arith)) (sym (append_assoc (only_link y) (empty_pages (y ∷ labels)) (only_link d)))

-- those that lead to the page under a gap
unfoldable pub leading : List (List ℕ) → Gap Spelt (List ℕ) → List ℕ
leading labels empty = []
leading labels (under d p) = empty_pages (labels ++ (d ∷ []))

pub leading_none : (g : Gap Spelt (List ℕ)) → leading [] g ≡ []
unfolding leading empty_pages
leading_none empty = refl
leading_none (under d p) = refl

module _ (low high : ℕ) where
  -- ---- the test of a chain
  pub covers_before : (from count : ℕ) → low < from → covers low high from count ≡ false
  unfolding covers
  covers_before from count h = rw (lt-leb from low h)

  pub covers_from : (from count : ℕ) → from ≤ low → covers low high from count ≡ leb high (from + count)
  unfolding covers
  covers_from from count h = rw (le-leb from low h)

  -- ---- chains in two parts
  pub covering_append : (cs ds : List Chain) → covering low high (cs ++ ds) ≡ covering low high cs ++ covering low high ds
  unfolding covering
  covering_append [] ds = refl
  covering_append (c ∷ cs) ds =
      cases (covers low high c.from c.records)
      (λ e. rw (e, covering_append cs ds) (sym (append_assoc (chain_bytes c) (covering low high cs) (covering low high ds))))
      (λ e. rw e (covering_append cs ds))

  none_both : (cs ds : List Chain) → covering low high cs ≡ [] → covering low high ds ≡ [] → covering low high (cs ++ ds) ≡ []
  none_both cs ds h k = covering_append cs ds ∙ rw (h, k)

  -- ---- what does not hold the positions has no chain that does
  abbrev Apart : ℕ → ℕ → Type 0
  Apart from count = from ≤ low → high ≤ from + count → ⊥

  covers_not : (from count : ℕ) → Apart from count → covers low high from count ≡ false
  unfolding covers
  covers_not from count h =
      is_false (leb from low && leb high (from + count)) (λ e.
      let k = and_inv (leb from low) e in
      h (leb-true from low k.0) (leb-true high (from + count) k.1))

  none_if : (es : Entries Spelt (List ℕ)) (c : Chain) (later : List Chain) → Apart c.from c.records → covering low high later ≡ []
      → covering low high (chain_if es c later) ≡ []
  unfolding chain_if covering
  none_if end c later h k = k
  none_if (entry e g es) c later h k = rw (covers_not c.from c.records h, k)

  mutual
    unfolding chains items covering

    none_tree : (t : SpeltTree) (from at : ℕ) (labels : List (List ℕ)) → Apart from (length (items t)) → covering low high (chains from at labels t) ≡ []
    none_tree (page g es) from at labels h =
        let start : ℕ = at + length (bytes_of_page (page g es)) in
        let n = length-append (items_under g) (items_from es) in
        none_if es _ _ h
        (none_both (chains_under from start (labels_on labels es) g) (chains_from (from + length (items_under g)) (start + length (table_under g)) es)
        (none_gap g from start (labels_on labels es) (λ a b. h a (omega arith)))
        (none_row es (from + length (items_under g)) (start + length (table_under g)) (λ a b. h (omega arith) (omega arith))))

    pub none_gap : (g : Gap Spelt (List ℕ)) (from at : ℕ) (labels : List (List ℕ)) → Apart from (length (items_under g))
        → covering low high (chains_under from at labels g) ≡ []
    none_gap empty from at labels h = refl
    none_gap (under d p) from at labels h = none_tree p from at (labels ++ (d ∷ [])) h

    -- the first entry stands before all of them
    pub none_row : (es : Entries Spelt (List ℕ)) (from at : ℕ) → (from < low → high ≤ from + length (items_from es) → ⊥)
        → covering low high (chains_from from at es) ≡ []
    none_row end from at h = refl
    none_row (entry e g es) from at h =
        let n = length-append (items_under g) (items_from es) in
        none_both (chains_under (from + 1) at [] g) (chains_from (from + 1 + length (items_under g)) (at + length (table_under g)) es)
        (none_gap g (from + 1) at [] (λ a b. h (omega arith) (omega arith)))
        (none_row es (from + 1 + length (items_under g)) (at + length (table_under g)) (λ a b. h (omega arith) (omega arith)))
