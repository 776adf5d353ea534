-- The search in a page of a register: what it finds there is what the register has under the key, and the pages that it opens are the path's.
use Prim.Native.Nat.{ℕ, ◌+◌, ◌≤◌}
use mathlib.Core.Path.{◌≡◌, refl, sym, ap, ◌∙◌}
use mathlib.Core.List.Sublistᴰ
use mathlib.Core.List.{List, [], ◌∷◌, ◌++◌, append-nil, Sublistᴰ}
use native.Mathlib.Omega.{arith}
use lib.ListN.{length, length-append}
use borrow.Table.Steps.{cases}
use Rattle.limits.specs.Limits.{longest}
use Rattle.key.specs.Key.{less}
use Rattle.key.proofs.Laws.{less-connected, less_same, less_asymmetric}
use Rattle.page.specs.Page.{RawEntry, entry_bytes}
use Rattle.tree.specs.Tree.{page, Gap, empty, under, Entries, end, entry, items_under, items_from}
use Rattle.tree.specs.Record.{Record, Spelt, record_of, keyed_under, keyed_from}
use Rattle.tree.specs.Table.{SpeltTree, link_of, raw_entries, bytes_of_page, table, table_under, table_from, table_of}
use Rattle.tree.specs.OnePage.{records_in}
use Rattle.tree.proofs.Laws.{Accepted}
use Rattle.promises.specs.Map.{find}
use Rattle.promises.proofs.MapLaws.{Before, above_before, Sorted, find_here, find_later, sorted_sides, below_before, sorted_split, find_left, find_right}
use Rattle.path.specs.Path.{path_of, path_under, path_from}
use Rattle.path.specs.Verify.{Sought, value_at, in_gap, sought_from}
use Rattle.path.proofs.Searching.{sought_before, sought_here, sought_later}

-- ---- the records of a row of entries, with those under the gaps
-- under a gap, and then from a key on
abbrev pub gap_records : Gap Spelt (List ℕ) → List Record
gap_records g = items_under (keyed_under g)

abbrev pub row_records : Gap Spelt (List ℕ) → List ℕ → Entries Spelt (List ℕ) → List Record
row_records g before es = gap_records g ++ items_from (keyed_from before es)

abbrev pub AllGaps : (Gap Spelt (List ℕ) → Type 0) → Entries Spelt (List ℕ) → Type 0
AllGaps Q end = Unit {0}
AllGaps Q (entry e g es) = Q g × AllGaps Q es

-- The search has found an entry, and opens nothing more; or it has come to a gap, which has Q, and what the key finds and opens is under it.
pub data TreeWay (k : List ℕ) (Q : Gap Spelt (List ℕ) → Type 0) (g : Gap Spelt (List ℕ)) (before : List ℕ) (es : Entries Spelt (List ℕ)) (sought : Sought) : Type 0 where
  at_entry : (place : ℕ) → sought ≡ value_at place → find k (row_records g before es) ≡ find k (records_in before (raw_entries es))
      → path_from k (path_under k g) before es ≡ [] → TreeWay k Q g before es sought
  at_gap : (h : Gap Spelt (List ℕ)) → Q h → sought ≡ in_gap (link_of h) → find k (row_records g before es) ≡ find k (gap_records h)
      → path_from k (path_under k g) before es ≡ path_under k h → Sublistᴰ (gap_records h) (row_records g before es) → TreeWay k Q g before es sought

module _ (k : List ℕ) (Q : Gap Spelt (List ℕ) → Type 0) where
  -- an entry with a lesser key is passed over, with the gap before it
  module _ (g : Gap Spelt (List ℕ)) (before : List ℕ) (at : ℕ) (e : Spelt) (h : Gap Spelt (List ℕ)) (es : Entries Spelt (List ℕ)) where
    abbrev r : Record
    r = record_of before e

    abbrev raw : RawEntry
    raw = record { shares = e.shares; remainder = e.remainder; after = link_of h; val = e.val }

    abbrev later : List Record
    later = row_records h r.key es

    past : Sorted (gap_records g ++ (r ∷ later)) → Before r.key k → find k (gap_records g ++ (r ∷ later)) ≡ find k later
    past s l =
        find_right k (gap_records g) (r ∷ later) (below_before r.key k (gap_records g) l (sorted_sides (gap_records g) r later s).0) ∙ find_later k r later l

    path_past : Before r.key k → path_from k (path_under k g) before (entry e h es) ≡ path_from k (path_under k h) r.key es
    unfolding path_from
    path_past l = rw (l, less_asymmetric r.key k l)

    passed : Sorted (gap_records g ++ (r ∷ later)) → Before r.key k
        → TreeWay k Q h r.key es (sought_from k (link_of h) r.key (at + length (entry_bytes raw)) (raw_entries es))
        → TreeWay k Q g before (entry e h es) (sought_from k (link_of g) before at (raw ∷ raw_entries es))
    unfolding keyed_from items_from raw_entries records_in
    passed s l (at_entry place q f o) =
        at_entry place (sought_later k (link_of g) before at raw (raw_entries es) l ∙ q)
        (past s l ∙ f ∙ sym (find_later k r (records_in r.key (raw_entries es)) l)) (path_past l ∙ o)
    passed s l (at_gap i w q f o p) =
        at_gap i w (sought_later k (link_of g) before at raw (raw_entries es) l ∙ q) (past s l ∙ f) (path_past l ∙ o)
        (Sublistᴰ.trans p (Sublistᴰ.append (Sublistᴰ.nil-sublist (gap_records g)) (Sublistᴰ.cons (Sublistᴰ.refl later))))

  pub tree_searched : (g : Gap Spelt (List ℕ)) (before : List ℕ) (at : ℕ) (es : Entries Spelt (List ℕ)) → Sorted (row_records g before es) → Q g → AllGaps Q es
      → TreeWay k Q g before es (sought_from k (link_of g) before at (raw_entries es))
  unfolding keyed_from items_from raw_entries records_in path_from sought_from
  tree_searched g before at end s w ws =
      at_gap g w refl (rw (append-nil (gap_records g))) refl (rw (append-nil (gap_records g)) (Sublistᴰ.refl (gap_records g)))
  tree_searched g before at (entry e h es) s w ws =
      let x : Record = record_of before e in
      let behind : List Record = row_records h x.key es in
      let sides = sorted_sides (gap_records g) x behind s in
      let raw : RawEntry = record { shares = e.shares; remainder = e.remainder; after = link_of h; val = e.val } in
      less-connected k x.key
      (λ l. at_gap g w (sought_before k (link_of g) before at raw (raw_entries es) l)
      (find_left k (gap_records g) (x ∷ behind) (l, above_before k x.key behind l sides.1))
      (rw l) (rw (append-nil (gap_records g)) at (Sublistᴰ.append (Sublistᴰ.refl (gap_records g)) (Sublistᴰ.nil-sublist (x ∷ behind)))))
      (λ l. at_entry _ (sought_here k (link_of g) before at raw (raw_entries es) l)
      (find_right k (gap_records g) (x ∷ behind) (rw l sides.0) ∙ find_here k x behind l ∙ sym (find_here k x (records_in x.key (raw_entries es)) l))
      (rw (less_same k x.key l, less_same x.key k (sym l))))
      (λ l. passed g before at e h es s l (tree_searched h x.key (at + length (entry_bytes raw)) es (sorted_split (gap_records g) (x ∷ behind) s).1.1 ws.0 ws.1))

-- ---- a path is no longer than its register
mutual
  unfolding path_of table

  pub path_short : (k : List ℕ) (t : SpeltTree) → length (path_of k t) ≤ length (table t)
  path_short k (page g es) =
      omega (
        arith,
        length-append (bytes_of_page (page g es)) (path_from k (path_under k g) [] es),
        length-append (bytes_of_page (page g es)) (table_under g ++ table_from es),
        length-append (table_under g) (table_from es),
        path_short_under k g,
        path_short_from k (path_under k g) [] es,
      )

  path_short_under : (k : List ℕ) (g : Gap Spelt (List ℕ)) → length (path_under k g) ≤ length (table_under g)
  path_short_under k empty = omega arith
  path_short_under k (under digest p) = path_short k p

  path_short_from : (k here before : List ℕ) (es : Entries Spelt (List ℕ)) → length (path_from k here before es) ≤ length here + length (table_from es)
  path_short_from k here before end = omega arith
  path_short_from k here before (entry e g es) =
      let key : List ℕ = (record_of before e).key in
      let size = length-append (table_under g) (table_from es) in
      cases (less k key) (λ h. rw h (omega (arith, size)))
      (λ h. cases (less key k)
      (λ l. rw (h, l) (omega (arith, size, path_short_under k g, path_short_from k (path_under k g) key es)))
      (λ l. rw (h, l) (omega arith)))

pub table_is : (s : List ℕ) (t : SpeltTree) → Accepted s t → s ≡ table t
unfolding table_of
table_is s t a = a.written ∙ ap table (sym a.spells)

pub path_longest : (k s : List ℕ) (t : SpeltTree) → Accepted s t → length (path_of k t) ≤ longest
path_longest k s t a = omega (arith, path_short k t, ap length (table_is s t a), ap length a.written, a.fit.size)
