-- The digests of a register's pages are the root's and the labels of its chains.
use Prim.Native.Nat.{ℕ, ◌+◌}
use mathlib.Core.Path.{◌≡◌, refl, sym, ◌∙◌}
use mathlib.Core.Bool.{Bool, true, false, not, ◌&&◌, ◌||◌, or_assoc, or-false}
use mathlib.Core.List.{List, [], ◌∷◌, ◌++◌, append-nil}
use lib.ListN.{length}
use borrow.Table.Steps.{cases}
use borrow.Author.Tests.{not-true}
use Rattle.bytestring.proofs.Equal.{equal_true, equal-cases}
use Rattle.bytestring.specs.Bytes.{equal}
use Rattle.bytestring.proofs.Tools.{and_inv}
use Rattle.fips180.specs.Hash.{sha256}
use Rattle.tree.specs.Tree.{page, Gap, empty, under, Entries, end, entry, items_under}
use Rattle.tree.specs.Record.{Spelt}
use Rattle.tree.specs.Table.{SpeltTree, bytes_of_page, table_under}
use Rattle.tree.specs.Judge.{digests_right, digests_right_under, digests_right_from}
use Rattle.tree.proofs.Laws.{no_link}
use Rattle.index.specs.Slot.{bare, filled, filled_under, filled_from}
use Rattle.index.specs.Chain.{Chain, chains, chains_under, chains_from, labels_on, chain_if}
use Rattle.promises.specs.Pages.{pages_of, pages_of_gap, pages_of_entries, known}
use Rattle.known.specs.Known.{is_among}
use Rattle.known.specs.Rows.{labels_of}
use Rattle.known.proofs.Filling.{labels_append}
use Rattle.opened.proofs.Visits.{has_entry}

-- ---- tests of membership
equal_turned : (a b : List ℕ) → equal a b ≡ equal b a
equal_turned a b = equal-cases a b (λ e q. rw q) (λ e f. equal-cases b a (λ h q. absurd (f (sym q))) (λ h g. e ∙ sym h))

pub among_append : (l m : List (List ℕ)) (digest : List ℕ) → is_among (l ++ m) digest ≡ (is_among l digest || is_among m digest)
unfolding is_among
among_append [] m digest = refl
among_append (d ∷ l) m digest = rw (among_append l m digest) (sym (or_assoc (equal d digest) (is_among l digest) (is_among m digest)))

known_append : (ps qs : List (List ℕ)) (p : List ℕ) → known (ps ++ qs) p ≡ (known ps p || known qs p)
unfolding known
known_append [] qs p = refl
known_append (x ∷ ps) qs p = rw (known_append ps qs p) (sym (or_assoc (equal (sha256 p) (sha256 x)) (known ps p) (known qs p)))

-- ---- by induction on the tree
module _ (p : List ℕ) where
  abbrev mark : List ℕ
  mark = sha256 p

  abbrev has : List Chain → Bool
  has cs = is_among (labels_of cs) mark

  has_append : (xs ys : List Chain) → has (xs ++ ys) ≡ (has xs || has ys)
  has_append xs ys = rw (labels_append xs ys) (among_append (labels_of xs) (labels_of ys) mark)

  -- the pages below the first one
  unfoldable pages_below : SpeltTree → List (List ℕ)
  pages_below (page g es) = pages_of_gap g ++ pages_of_entries es

  abbrev TreeHas : ℕ → ℕ → List (List ℕ) → SpeltTree → Type 0
  TreeHas from at labels t = has (chains from at labels t) ≡ ((not (bare t) && is_among labels mark) || known (pages_below t) p)

  abbrev GapHas : ℕ → ℕ → List (List ℕ) → Gap Spelt (List ℕ) → Type 0
  GapHas from at labels g = has (chains_under from at labels g) ≡ ((not (no_link g) && is_among labels mark) || known (pages_of_gap g) p)

  abbrev RowHas : ℕ → ℕ → Entries Spelt (List ℕ) → Type 0
  RowHas from at es = has (chains_from from at es) ≡ known (pages_of_entries es) p

  gap_link : (from at : ℕ) (labels : List (List ℕ)) (d : List ℕ) (q : SpeltTree) → d ≡ sha256 (bytes_of_page q) → bare q ≡ false
      → TreeHas from at (labels ++ (d ∷ [])) q → GapHas from at labels (under d q)
  unfolding chains pages_of pages_below no_link is_among known
  gap_link from at labels d (page g es) e h k =
      k ∙ rw (h, among_append labels (d ∷ []) mark, e, or-false (equal (sha256 (bytes_of_page (page g es))) mark), equal_turned (sha256 (bytes_of_page (page g es))) mark)
      (or_assoc (is_among labels mark) (equal mark (sha256 (bytes_of_page (page g es)))) (known (pages_of_gap g ++ pages_of_entries es) p))

  -- a gap that no labels lead to, with the row after it
  gap_and_row : (from at from' at' : ℕ) (g : Gap Spelt (List ℕ)) (es : Entries Spelt (List ℕ)) → GapHas from at [] g → RowHas from' at' es
      → has (chains_under from at [] g ++ chains_from from' at' es) ≡ known (pages_of_gap g ++ pages_of_entries es) p
  unfolding is_among
  gap_and_row from at from' at' g es h k =
      rw (has_append (chains_under from at [] g) (chains_from from' at' es), h, k, known_append (pages_of_gap g) (pages_of_entries es) p)
      (cases (no_link g) (λ z. rw z) (λ z. rw z))

  page_has : (from at : ℕ) (labels : List (List ℕ)) (g : Gap Spelt (List ℕ)) (es : Entries Spelt (List ℕ))
      → ((at : ℕ) (labels : List (List ℕ)) → GapHas from at labels g) → ((at : ℕ) → RowHas (from + length (items_under g)) at es) → TreeHas from at labels (page g es)
  unfolding chains labels_on chain_if pages_of pages_below no_link bare labels_of
  page_has from at labels empty end gap row = gap (at + length (bytes_of_page (page empty end))) labels
  page_has from at labels (under d q) end gap row =
      let start : ℕ = at + length (bytes_of_page (page (under d q) end)) in
      rw (append-nil (chains_under from start labels (under d q))) (gap start labels ∙ rw append-nil)
  page_has from at labels g (entry e h es) gap row =
      let t : SpeltTree = page g (entry e h es) in
      let below : ℕ = at + length (bytes_of_page t) in
      let next : ℕ = below + length (table_under g) in
      let later : List Chain = chains_under from below [] g ++ chains_from (from + length (items_under g)) next (entry e h es) in
      among_append labels (labels_of later) mark
      ∙ rw (gap_and_row from below (from + length (items_under g)) next g (entry e h es) (gap below []) (row next), has_entry g e h es)

  no_gap : (from at : ℕ) (labels : List (List ℕ)) → GapHas from at labels empty
  unfolding chains pages_of no_link labels_of is_among known
  no_gap from at labels = refl

  no_row : (from at : ℕ) → RowHas from at end
  unfolding chains pages_of labels_of is_among known
  no_row from at = refl

  mutual
    unfolding chains pages_of digests_right filled

    tree_has : (t : SpeltTree) (from at : ℕ) (labels : List (List ℕ)) → digests_right t ≡ true → filled t ≡ true → TreeHas from at labels t
    tree_has (page g es) from at labels r f =
        let k = and_inv (digests_right_under g) r in
        let m = and_inv (filled_under g) f in
        page_has from at labels g es (λ at' ls. gap_has g from at' ls k.0 m.0) (λ at'. row_has es (from + length (items_under g)) at' k.1 m.1)

    gap_has : (g : Gap Spelt (List ℕ)) (from at : ℕ) (labels : List (List ℕ)) → digests_right_under g ≡ true → filled_under g ≡ true → GapHas from at labels g
    gap_has empty from at labels r f = no_gap from at labels
    gap_has (under d q) from at labels r f =
        let k = and_inv (equal d (sha256 (bytes_of_page q))) r in
        let m = and_inv (not (bare q)) f in
        gap_link from at labels d q (equal_true d (sha256 (bytes_of_page q)) k.0) (not-true (bare q) m.0)
        (tree_has q from at (labels ++ (d ∷ [])) k.1 m.1)

    row_has : (es : Entries Spelt (List ℕ)) (from at : ℕ) → digests_right_from es ≡ true → filled_from es ≡ true → RowHas from at es
    row_has end from at r f = no_row from at
    row_has (entry e g es) from at r f =
        let k = and_inv (digests_right_under g) r in
        let m = and_inv (filled_under g) f in
        gap_and_row (from + 1) at (from + 1 + length (items_under g)) (at + length (table_under g)) g es (gap_has g (from + 1) at [] k.0 m.0)
        (row_has es (from + 1 + length (items_under g)) (at + length (table_under g)) k.1 m.1)

-- A page is known when its digest is the root's or a label of a chain.
pub known_labels : (t : SpeltTree) → digests_right t ≡ true → filled t ≡ true → (p : List ℕ)
    → known (pages_of t) p ≡ is_among (sha256 (bytes_of_page t) ∷ labels_of (chains 0 0 [] t)) (sha256 p)
unfolding known pages_of is_among pages_below
known_labels (page g es) r f p =
    let t : SpeltTree = page g es in
    rw (tree_has p t 0 0 [] r f, equal_turned (sha256 p) (sha256 (bytes_of_page t))) (cases (bare t) (λ z. rw z) (λ z. rw z))
