-- The pages of the chains that hold a key's positions are the key's path.
use Prim.Native.Nat.{ℕ, ◌+◌, ◌<◌}
use mathlib.Core.Path.{◌≡◌, refl, sym, ◌∙◌}
use mathlib.Core.Bool.{true, false, not, false≢true}
use mathlib.Core.List.{List, [], ◌∷◌, ◌++◌, append_assoc, append-nil}
use native.Mathlib.Omega.{arith}
use lib.ListN.{length, length-append}
use borrow.Author.Tests.{le-leb, not-true}
use Rattle.bytestring.proofs.Tools.{and_inv, and_both}
use Rattle.key.proofs.Laws.{less-connected, less_asymmetric, less_same}
use Rattle.tree.specs.Tree.{page, Gap, empty, under, Entries, end, entry, items, items_under, items_from}
use Rattle.tree.specs.Record.{Record, Spelt, record_of, keyed, keyed_under, keyed_from, records}
use Rattle.tree.specs.Table.{SpeltTree, link_of, raw_entries, raw_page, bytes_of_page, table, table_under}
use Rattle.tree.proofs.Laws.{keyed_items, keyed_items_under}
use Rattle.index.specs.Slot.{bare, filled, filled_under, filled_from}
use Rattle.index.specs.Walk.{holding}
use Rattle.index.specs.Chain.{only_link, labels_on, chain_if, chains, chains_under, chains_from}
use Rattle.path.specs.Path.{path_of, path_under, path_from}
use Rattle.path_writer.specs.Chains.{covers, empty_pages, chain_bytes, covering, path_among}
use Rattle.path_writer.proofs.Positions.{Stands, stands_within, stands_alone, stands_before, stands_here, stands_behind}
use Rattle.path_writer.proofs.Covering.{empty_more, leading, leading_none, covering_append, none_gap, none_row}

-- ---- the path of a key that stands at these positions
module _ (low high : ℕ) (k : List ℕ) where
  abbrev Here : ℕ → List Record → Type 0
  Here from rs = Stands k low high from rs

  abbrev TreePath : ℕ → ℕ → List (List ℕ) → SpeltTree → Type 0
  TreePath from at labels t = covering low high (chains from at labels t) ≡ empty_pages labels ++ path_of k t

  abbrev GapPath : ℕ → ℕ → List (List ℕ) → Gap Spelt (List ℕ) → Type 0
  GapPath from at labels g = Here from (items_under (keyed_under g)) → covering low high (chains_under from at labels g) ≡ leading labels g ++ path_under k g

  -- the chains under a gap, and those under the gaps of the entries after it
  abbrev RowPath : ℕ → ℕ → ℕ → Gap Spelt (List ℕ) → List ℕ → Entries Spelt (List ℕ) → Type 0
  RowPath from at next g before es =
      covering low high (chains_under from at [] g ++ chains_from (from + length (items_under g)) next es) ≡ path_from k (path_under k g) before es

  -- ---- one page
  holds : (t : SpeltTree) (from : ℕ) → Here from (records t) → covers low high from (length (items t)) ≡ true
  unfolding covers
  holds t from s =
      let w = stands_within (records t) s in
      let n = keyed_items t in
      and_both (le-leb from low w.0) (le-leb high (from + length (items t)) (omega arith))

  entries_path : (g : Gap Spelt (List ℕ)) (e : Spelt) (h : Gap Spelt (List ℕ)) (es : Entries Spelt (List ℕ)) (from at : ℕ) (labels : List (List ℕ))
      → Here from (records (page g (entry e h es))) → ((start next : ℕ) → RowPath from start next g [] (entry e h es))
      → TreePath from at labels (page g (entry e h es))
  unfolding chains chain_if labels_on covering chain_bytes path_of
  entries_path g e h es from at labels s row =
      let t : SpeltTree = page g (entry e h es) in
      rw (holds t from s, row _ _) (append_assoc (empty_pages labels) (bytes_of_page t) (path_from k (path_under k g) [] (entry e h es)))

  -- a page that a link leads to has an entry, or a link to the next
  page_path : (g : Gap Spelt (List ℕ)) (es : Entries Spelt (List ℕ)) (from at : ℕ) (labels : List (List ℕ)) → 0 < length labels → bare (page g es) ≡ false
      → Here from (records (page g es)) → ((start : ℕ) (ls : List (List ℕ)) → GapPath from start ls g) → ((start next : ℕ) → RowPath from start next g [] es)
      → TreePath from at labels (page g es)
  unfolding bare chains chain_if labels_on leading path_of bytes_of_page raw_page raw_entries link_of keyed items
  page_path empty end from at labels l b s gap row = absurd (false≢true (sym b))
  page_path (under d p) end from at labels l b s gap row =
      rw (append-nil, gap _ labels (stands_alone (records p) s), empty_more labels d l) (append_assoc (empty_pages labels) (only_link d) (path_of k p))
  page_path g (entry e h es) from at labels l b s gap row = entries_path g e h es from at labels s row

  -- ---- one entry
  -- The key stands before it, in it or behind it.
  entry_path : (e : Spelt) (h : Gap Spelt (List ℕ)) (es : Entries Spelt (List ℕ)) (before : List ℕ) (next : ℕ) (g : Gap Spelt (List ℕ)) (from at : ℕ)
      → GapPath from at [] g → Here from (items_under (keyed_under g) ++ items_from (keyed_from before (entry e h es)))
      → (Here (from + length (items_under g) + 1) (items_under (keyed_under h) ++ items_from (keyed_from (record_of before e).key es))
      → RowPath (from + length (items_under g) + 1) next (next + length (table_under h)) h (record_of before e).key es)
      → RowPath from at next g before (entry e h es)
  unfolding chains path_of keyed items
  entry_path e h es before next g from at gap s later =
      let r : Record = record_of before e in
      let xs : List Record = items_under (keyed_under g) in
      let ys : List Record = items_under (keyed_under h) ++ items_from (keyed_from r.key es) in
      let n = keyed_items_under g in
      let to : ℕ = from + length (items_under g) in
      covering_append low high (chains_under from at [] g) (chains_from to next (entry e h es))
      ∙ less-connected k r.key
      (λ q.
      let here = stands_before xs r ys s q in
      let w = stands_within xs here in
      rw (q, none_row low high (entry e h es) to next (λ a b. omega arith), append-nil) (gap here ∙ rw (leading_none g)))
      (λ q.
      let w = stands_here xs r ys s q in
      rw (
        less_same k r.key q,
        less_same r.key k (sym q),
        none_gap low high g from at [] (λ a b. omega arith),
        none_row low high (entry e h es) to next (λ a b. omega arith),
      ))
      (λ q.
      let behind : Here (to + 1) ys = rw n at (stands_behind xs r ys s q) in
      let w = stands_within ys behind in
      rw (q, less_asymmetric r.key k q, none_gap low high g from at [] (λ a b. omega arith)) (later behind))

  -- ---- the whole tree
  mutual
    unfolding chains leading path_of filled keyed items covering

    tree_path : (t : SpeltTree) (from at : ℕ) (labels : List (List ℕ)) → 0 < length labels → bare t ≡ false → filled t ≡ true → Here from (records t)
        → TreePath from at labels t
    tree_path (page g es) from at labels l b f s =
        let m = and_inv (filled_under g) f in
        page_path g es from at labels l b s (λ start ls here. gap_path g from start ls m.0 here)
        (λ start next. row_path es [] next g from start m.1 (λ here. gap_path g from start [] m.0 here) s)

    gap_path : (g : Gap Spelt (List ℕ)) (from at : ℕ) (labels : List (List ℕ)) → filled_under g ≡ true → GapPath from at labels g
    gap_path empty from at labels f s = refl
    gap_path (under d p) from at labels f s =
        let m = and_inv (not (bare p)) f in
        tree_path p from at (labels ++ (d ∷ [])) (omega (arith, length-append labels (d ∷ []))) (not-true (bare p) m.0) m.1 s

    row_path : (es : Entries Spelt (List ℕ)) (before : List ℕ) (next : ℕ) (g : Gap Spelt (List ℕ)) (from at : ℕ) → filled_from es ≡ true → GapPath from at [] g
        → Here from (items_under (keyed_under g) ++ items_from (keyed_from before es)) → RowPath from at next g before es
    row_path end before next g from at f gap s =
        rw (append-nil (chains_under from at [] g)) (gap (stands_alone (items_under (keyed_under g)) s) ∙ rw (leading_none g))
    row_path (entry e h es) before next g from at f gap s =
        let m = and_inv (filled_under h) f in
        let to : ℕ = from + length (items_under g) + 1 in
        entry_path e h es before next g from at gap s
        (λ behind. row_path es (record_of before e).key (next + length (table_under h)) h to next m.1 (λ here. gap_path h to next [] m.0 here) behind)

  -- the root has an entry, or the register is empty
  pub root_path : (t : SpeltTree) → holding 0 t ≡ true → filled t ≡ true → Here 0 (records t) → path_among low high t (chains 0 0 [] t) ≡ path_of k t
  unfolding holding filled path_among chains chain_if path_of table empty_pages keyed items
  root_path (page empty end) h f s = refl
  root_path (page (under d p) end) h f s = absurd (false≢true h)
  root_path (page g (entry e i es)) h f s =
      let m = and_inv (filled_under g) f in
      entries_path g e i es 0 0 [] s (λ start next. row_path (entry e i es) [] next g 0 start m.1 (gap_path g 0 start [] m.0) s)
