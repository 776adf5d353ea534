-- The pages of a tree are its root and the pages that the labels of its chains lead to.
use Prim.Native.Nat.{ℕ, ◌+◌}
use mathlib.Core.Path.{◌≡◌, refl, sym, ap, ◌∙◌}
use mathlib.Core.Bool.{true, not, false≢true}
use mathlib.Core.List.{List, [], ◌∷◌, ◌++◌, append_assoc, append-nil, map, map-append}
use lib.ListN.{length}
use borrow.Author.Tests.{not-true}
use Rattle.bytestring.proofs.Equal.{equal_true}
use Rattle.bytestring.specs.Bytes.{equal}
use Rattle.bytestring.proofs.Tools.{and_inv}
use Rattle.fips180.specs.Hash.{sha256}
use Rattle.tree.specs.Tree.{page, Gap, empty, under, Entries, end, entry, items_under}
use Rattle.tree.specs.Record.{Spelt}
use Rattle.tree.specs.Table.{SpeltTree, link_of, raw_entries, raw_page, bytes_of_page, table_under}
use Rattle.promises.specs.Pages.{pages_of, pages_of_gap, pages_of_entries}
use Rattle.index.specs.Slot.{bare, filled, filled_under, filled_from}
use Rattle.index.specs.Chain.{Chain, only_link, labels_on, chain_if, chains, chains_under, chains_from, labels_right, chains_right}
use Rattle.known.specs.Rows.{labels_of}

-- ---- the pages of chains
-- The pages that the labels of a chain lead to: those without entries, and then its page with entries.
unfoldable pub labelled_pages : List (List ℕ) → SpeltTree → List (List ℕ)
labelled_pages [] t = []
labelled_pages (digest ∷ []) t = bytes_of_page t ∷ []
labelled_pages (digest ∷ (next ∷ more)) t = only_link next ∷ labelled_pages (next ∷ more) t

unfoldable pub pages_of_chains : List Chain → List (List ℕ)
pages_of_chains [] = []
pages_of_chains (c ∷ cs) = labelled_pages c.labels c.here ++ pages_of_chains cs

pub chains_append : (cs ds : List Chain) → pages_of_chains (cs ++ ds) ≡ pages_of_chains cs ++ pages_of_chains ds
unfolding pages_of_chains
chains_append [] ds = refl
chains_append (c ∷ cs) ds =
    rw (chains_append cs ds) (sym (append_assoc (labelled_pages c.labels c.here) (pages_of_chains cs) (pages_of_chains ds)))

-- ---- their digests are the labels
labels_digests : (labels : List (List ℕ)) (t : SpeltTree) → labels_right labels t ≡ true → map sha256 (labelled_pages labels t) ≡ labels
unfolding labels_right labelled_pages
labels_digests [] t r = refl
labels_digests (d ∷ []) t r = rw (equal_true d (sha256 (bytes_of_page t)) r)
labels_digests (d ∷ (next ∷ more)) t r =
    let k = and_inv (equal d (sha256 (only_link next))) r in
    rw (labels_digests (next ∷ more) t k.1) (ap (λ (x : List ℕ). x ∷ (next ∷ more)) (sym (equal_true d (sha256 (only_link next)) k.0)))

pub chains_digests : (cs : List Chain) → chains_right cs ≡ true → map sha256 (pages_of_chains cs) ≡ labels_of cs
unfolding chains_right pages_of_chains labels_of
chains_digests [] r = refl
chains_digests (c ∷ cs) r =
    let k = and_inv (labels_right c.labels c.here) r in
    map-append sha256 (labelled_pages c.labels c.here) (pages_of_chains cs)
    ∙ rw (labels_digests c.labels c.here k.0, chains_digests cs k.1)

-- ---- by induction on the tree
-- The pages from those that labels lead to on: the pages below the last of them, all pages from it on, and those without entries before it.
unfoldable led : List (List ℕ) → List (List ℕ) → List (List ℕ) → List (List ℕ)
led [] below whole = below
led (digest ∷ []) below whole = whole
led (digest ∷ (next ∷ more)) below whole = only_link next ∷ led (next ∷ more) below whole

unfoldable pages_below : SpeltTree → List (List ℕ)
pages_below (page g es) = pages_of_gap g ++ pages_of_entries es

-- a page with entries ends them
led_here : (labels : List (List ℕ)) (t : SpeltTree) → labelled_pages labels t ++ pages_below t ≡ led labels (pages_below t) (bytes_of_page t ∷ pages_below t)
unfolding labelled_pages led
led_here [] t = refl
led_here (d ∷ []) t = refl
led_here (d ∷ (next ∷ more)) t = ap (λ k. only_link next ∷ k) (led_here (next ∷ more) t)

-- a page without entries is one more of them
led_more : (labels : List (List ℕ)) (d : List ℕ) (below whole : List (List ℕ))
    → led (labels ++ (d ∷ [])) below whole ≡ led labels whole (only_link d ∷ whole)
unfolding led
led_more [] d below whole = refl
led_more (x ∷ []) d below whole = refl
led_more (x ∷ (y ∷ more)) d below whole = ap (λ k. only_link y ∷ k) (led_more (y ∷ more) d below whole)

abbrev TreePages : ℕ → ℕ → List (List ℕ) → SpeltTree → Type 0
TreePages from at labels t = pages_of_chains (chains from at labels t) ≡ led labels (pages_below t) (pages_of t)

unfoldable gap_led : List (List ℕ) → Gap Spelt (List ℕ) → List (List ℕ)
gap_led labels empty = []
gap_led labels (under d p) = led (labels ++ (d ∷ [])) (pages_below p) (pages_of p)

gap_led_lem : (g : Gap Spelt (List ℕ)) → gap_led [] g ≡ pages_of_gap g
unfolding gap_led led pages_of
gap_led_lem empty = refl
gap_led_lem (under d p) = refl

page_pages : (from at : ℕ) (labels : List (List ℕ)) (g : Gap Spelt (List ℕ)) (es : Entries Spelt (List ℕ)) → (bare (page g es) ≡ true → labels ≡ [])
    → ((at : ℕ) (ls : List (List ℕ)) → pages_of_chains (chains_under from at ls g) ≡ gap_led ls g)
    → ((at : ℕ) → pages_of_chains (chains_from (from + length (items_under g)) at es) ≡ pages_of_entries es) → TreePages from at labels (page g es)
unfolding chains labels_on chain_if pages_of pages_below pages_of_chains bare gap_led led bytes_of_page raw_page raw_entries link_of
page_pages from at labels empty end b gap row = rw (b refl)
page_pages from at labels (under d p) end b gap row =
    let start : ℕ = at + length (bytes_of_page (page (under d p) end)) in
    rw (append-nil (chains_under from start labels (under d p)), append-nil (pages_of p)) (gap start labels ∙ led_more labels d (pages_below p) (pages_of p))
page_pages from at labels g (entry e h es) b gap row =
    rw (chains_append, gap, row, gap_led_lem g) (led_here labels (page g (entry e h es)))

mutual
  unfolding chains filled gap_led pages_of pages_of_chains

  tree_pages : (t : SpeltTree) (from at : ℕ) (labels : List (List ℕ)) → filled t ≡ true → (bare t ≡ true → labels ≡ []) → TreePages from at labels t
  tree_pages (page g es) from at labels f b =
      let m = and_inv (filled_under g) f in
      page_pages from at labels g es b (λ at' ls. gap_pages g from at' ls m.0) (λ at'. row_pages es (from + length (items_under g)) at' m.1)

  gap_pages : (g : Gap Spelt (List ℕ)) (from at : ℕ) (labels : List (List ℕ)) → filled_under g ≡ true
      → pages_of_chains (chains_under from at labels g) ≡ gap_led labels g
  gap_pages empty from at labels f = refl
  gap_pages (under d p) from at labels f =
      let m = and_inv (not (bare p)) f in
      tree_pages p from at (labels ++ (d ∷ [])) m.1 (λ e. absurd (false≢true (sym (not-true (bare p) m.0) ∙ e)))

  row_pages : (es : Entries Spelt (List ℕ)) (from at : ℕ) → filled_from es ≡ true → pages_of_chains (chains_from from at es) ≡ pages_of_entries es
  row_pages end from at f = refl
  row_pages (entry e g es) from at f =
      let m = and_inv (filled_under g) f in
      chains_append (chains_under (from + 1) at [] g) (chains_from (from + 1 + length (items_under g)) (at + length (table_under g)) es)
      ∙ rw (
        gap_pages g (from + 1) at [] m.0,
        gap_led_lem g,
        row_pages es (from + 1 + length (items_under g)) (at + length (table_under g)) m.1,
      )

pub pages_of_chains_lem : (t : SpeltTree) → filled t ≡ true → pages_of t ≡ bytes_of_page t ∷ pages_of_chains (chains 0 0 [] t)
unfolding pages_of pages_below led
pages_of_chains_lem (page g es) f = rw (tree_pages (page g es) 0 0 [] f (λ e. refl))
