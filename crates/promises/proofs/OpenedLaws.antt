-- The opened pages by descent from the root, and their records in key order.
use Prim.Native.Nat.{ℕ}
use mathlib.Core.Path.{◌≡◌, refl, sym, ap, ◌∙◌}
use mathlib.Core.Bool.{true, false, cond, and-false}
use mathlib.Core.Option.{Option, none, some}
use mathlib.Core.List.Sublistᴰ
use mathlib.Core.List.{List, [], ◌∷◌, ◌++◌, append_assoc, append-nil, Sublistᴰ}
use native.Mathlib.Omega.{arith}
use lib.ListN.{length, length-append}
use borrow.Table.Steps.{cases}
use Rattle.bytestring.proofs.Equal.{equal_refl, equal-cases}
use Rattle.bytestring.specs.Bytes.{equal}
use Rattle.bytestring.proofs.Tools.{All, all_weaken}
use Rattle.key.proofs.Laws.{less-connected}
use Rattle.tree.specs.Tree.{page, Gap, empty, under, Entries, end, entry, items, items_under, items_from, pages, pages_under as count_under, pages_from as count_from}
use Rattle.tree.specs.Record.{Record, Spelt, record_of, keyed, keyed_under, keyed_from, records}
use Rattle.tree.specs.Table.{SpeltTree, raw_entries, raw_page, bytes_of_page}
use Rattle.tree.specs.OnePage.{records_in}
use Rattle.promises.specs.Map.{find}
use Rattle.promises.specs.Pages.{pages_of, known, PageInTree, located, located_under, located_from, none_known, is_opened, opened_among, opened_pages, linked_under, linked_from, linked_pages, in_page, put_all, in_pages}
use Rattle.promises.specs.Promises.{opened_of_each, OpenedByDescent, AllOpened, NoneOpened}
use Rattle.promises.proofs.MapLaws.{before_other, Above, Sorted, find_nil, find_here, find_before, find_later, above_before, sorted_ext, sorted_put, find_put_same, find_put_other, sorted_split}
use Rattle.promises.proofs.Parts.{all_part, sorted_part}

-- ---- by descent
unfoldable mutual
  pub descent : List (List ℕ) → SpeltTree → List SpeltTree
  descent first (page g es) =
      let here : List SpeltTree = page g es ∷ (descent_under first g ++ descent_from first es) in
      cond (known first (bytes_of_page (page g es))) [] here

  pub descent_under : List (List ℕ) → Gap Spelt (List ℕ) → List SpeltTree
  descent_under first empty = []
  descent_under first (under digest p) = descent first p

  pub descent_from : List (List ℕ) → Entries Spelt (List ℕ) → List SpeltTree
  descent_from first end = []
  descent_from first (entry e g es) = descent_under first g ++ descent_from first es

module _ (first : List (List ℕ)) where
  among_append : (l m : List PageInTree) → opened_among first (l ++ m) ≡ opened_among first l ++ opened_among first m
  unfolding opened_among
  among_append [] m = refl
  among_append (p ∷ l) m =
      cases (is_opened first p) (λ e. rw (e, among_append l m)) (λ e. rw (e, among_append l m))

  -- below a page that is known none is opened
  mutual
    unfolding located none_known is_opened opened_among

    none_below : (above : List SpeltTree) (t : SpeltTree) → none_known first above ≡ false → opened_among first (located above t) ≡ []
    none_below above (page g es) h =
        let path : List SpeltTree = page g es ∷ above in
        let k : none_known first path ≡ false = simp (h, and-false) in
        rw (k, among_append (located_under path g) (located_from path es), none_below_under path g k, none_below_from path es k)

    none_below_under : (above : List SpeltTree) (g : Gap Spelt (List ℕ)) → none_known first above ≡ false
        → opened_among first (located_under above g) ≡ []
    none_below_under above empty h = refl
    none_below_under above (under digest p) h = none_below above p h

    none_below_from : (above : List SpeltTree) (es : Entries Spelt (List ℕ)) → none_known first above ≡ false
        → opened_among first (located_from above es) ≡ []
    none_below_from above end h = refl
    none_below_from above (entry e g es) h =
        rw (among_append (located_under above g) (located_from above es), none_below_under above g h, none_below_from above es h)

  mutual
    unfolding located none_known is_opened opened_among descent

    descends : (above : List SpeltTree) (t : SpeltTree) → none_known first above ≡ true → opened_among first (located above t) ≡ descent first t
    descends above (page g es) h =
        let path : List SpeltTree = page g es ∷ above in
        cases (known first (bytes_of_page (page g es)))
        (λ e.
        let k : none_known first path ≡ false = rw e in
        rw (e, among_append (located_under path g) (located_from path es), none_below_under path g k, none_below_from path es k))
        (λ e.
        let k : none_known first path ≡ true = rw (e, h) in
        rw (e, h, among_append (located_under path g) (located_from path es), descends_under path g k, descends_from path es k))

    descends_under : (above : List SpeltTree) (g : Gap Spelt (List ℕ)) → none_known first above ≡ true
        → opened_among first (located_under above g) ≡ descent_under first g
    descends_under above empty h = refl
    descends_under above (under digest p) h = descends above p h

    descends_from : (above : List SpeltTree) (es : Entries Spelt (List ℕ)) → none_known first above ≡ true
        → opened_among first (located_from above es) ≡ descent_from first es
    descends_from above end h = refl
    descends_from above (entry e g es) h =
        rw (among_append (located_under above g) (located_from above es), descends_under above g h, descends_from above es h)

  pub opened_descent : (t : SpeltTree) → opened_pages first t ≡ descent first t
  unfolding opened_pages none_known
  opened_descent t = descends [] t refl

  -- ---- the pages that a page links to
  each_append : (l m : List SpeltTree) → opened_of_each first (l ++ m) ≡ opened_of_each first l ++ opened_of_each first m
  unfolding opened_of_each
  each_append [] m = refl
  each_append (p ∷ l) m = simp (each_append l m, append_assoc)

  each_under : (g : Gap Spelt (List ℕ)) → opened_of_each first (linked_under g) ≡ descent_under first g
  unfolding opened_of_each linked_under descent
  each_under empty = refl
  each_under (under digest p) = append-nil (opened_pages first p) ∙ opened_descent p

  each_from : (es : Entries Spelt (List ℕ)) → opened_of_each first (linked_from es) ≡ descent_from first es
  unfolding opened_of_each linked_from descent
  each_from end = refl
  each_from (entry e g es) = rw (each_append (linked_under g) (linked_from es), each_under g, each_from es)

pub opened_by_descent : OpenedByDescent
unfolding linked_pages descent
opened_by_descent first (page g es) =
    rw (opened_descent first (page g es), each_append first (linked_under g) (linked_from es), each_under first g, each_from first es)

-- ---- nothing is known: every page is opened
mutual
  unfolding descent known pages

  descent_all : (t : SpeltTree) → length (descent [] t) ≡ pages t
  descent_all (page g es) =
      omega (arith, length-append (descent_under [] g) (descent_from [] es), descent_all_under g, descent_all_from es)

  descent_all_under : (g : Gap Spelt (List ℕ)) → length (descent_under [] g) ≡ count_under g
  descent_all_under empty = refl
  descent_all_under (under digest p) = descent_all p

  descent_all_from : (es : Entries Spelt (List ℕ)) → length (descent_from [] es) ≡ count_from es
  descent_all_from end = refl
  descent_all_from (entry e g es) =
      omega (arith, length-append (descent_under [] g) (descent_from [] es), descent_all_under g, descent_all_from es)

pub all_opened : AllOpened
all_opened t = rw (opened_descent [] t) (descent_all t)

-- ---- a register and itself: none is opened
pub none_opened : NoneOpened
unfolding descent pages_of known
none_opened (page g es) = rw (opened_descent (pages_of (page g es)) (page g es)) (simp equal_refl)

-- ---- the records in opened pages, in key order
unfoldable mutual
  pub opened_records : List (List ℕ) → SpeltTree → List Record
  opened_records first (page g es) =
      let here : List Record = opened_under first g ++ opened_from first [] es in
      cond (known first (bytes_of_page (page g es))) [] here

  pub opened_under : List (List ℕ) → Gap Spelt (List ℕ) → List Record
  opened_under first empty = []
  opened_under first (under digest p) = opened_records first p

  pub opened_from : List (List ℕ) → List ℕ → Entries Spelt (List ℕ) → List Record
  opened_from first before end = []
  opened_from first before (entry e g es) =
      record_of before e ∷ (opened_under first g ++ opened_from first (record_of before e).key es)

-- they are a part of the second's records
module _ (first : List (List ℕ)) where
  mutual
    unfolding opened_records keyed items

    pub opened_part : (t : SpeltTree) → Sublistᴰ (opened_records first t) (records t)
    opened_part (page g es) =
        cases (known first (bytes_of_page (page g es)))
        (λ e. rw e (Sublistᴰ.nil-sublist _))
        (λ e. rw e (Sublistᴰ.append (opened_part_under g) (opened_part_from [] es)))

    opened_part_under : (g : Gap Spelt (List ℕ)) → Sublistᴰ (opened_under first g) (items_under (keyed_under g))
    opened_part_under empty = Sublistᴰ.slnil
    opened_part_under (under digest p) = opened_part p

    opened_part_from : (before : List ℕ) (es : Entries Spelt (List ℕ)) → Sublistᴰ (opened_from first before es) (items_from (keyed_from before es))
    opened_part_from before end = Sublistᴰ.slnil
    opened_part_from before (entry e g es) =
        Sublistᴰ.cons-cons refl (Sublistᴰ.append (opened_part_under g) (opened_part_from (record_of before e).key es))

-- the records in a page itself are a part of those in and under it
pub entries_part : (before : List ℕ) (es : Entries Spelt (List ℕ)) → Sublistᴰ (records_in before (raw_entries es)) (items_from (keyed_from before es))
unfolding records_in raw_entries keyed items
entries_part before end = Sublistᴰ.slnil
entries_part before (entry e g es) =
    Sublistᴰ.cons-cons refl (Sublistᴰ.append (Sublistᴰ.nil-sublist (items_under (keyed_under g))) (entries_part (record_of before e).key es))

-- ---- the value of the first record under a key, and what is given where there is none
unfoldable seek : List ℕ → List Record → Option (List ℕ) → Option (List ℕ)
seek k [] other = other
seek k (r ∷ rs) other =
    let later : Option (List ℕ) = seek k rs other in
    cond (equal k r.key) (some r.val) later

module _ (k : List ℕ) where
  seek_append : (a b : List Record) (other : Option (List ℕ)) → seek k (a ++ b) other ≡ seek k a (seek k b other)
  unfolding seek
  seek_append [] b other = refl
  seek_append (r ∷ a) b other = cases (equal k r.key) (λ e. rw e) (λ e. rw (e, seek_append a b other))

  seek_above : (b : List Record) (other : Option (List ℕ)) → Above k b → seek k b other ≡ other
  unfolding seek
  seek_above [] other h = refl
  seek_above (r ∷ b) other h =
      equal-cases k r.key (λ e q. absurd (before_other k r.key h.0 q)) (λ e n. rw (e, seek_above b other h.1))

  -- the order of two lists without a common key does not matter
  seek_swap : (a b : List Record) (other : Option (List ℕ)) → All (λ x. Above x.key b) a → seek k a (seek k b other) ≡ seek k b (seek k a other)
  unfolding seek
  seek_swap [] b other h = refl
  seek_swap (r ∷ a) b other h =
      equal-cases k r.key
      (λ e q. rw e (sym (seek_above b (some r.val) (rw q h.0))))
      (λ e n. rw (e, seek_swap a b other h.1))

  seek_find : (m : List Record) → Sorted m → seek k m none ≡ find k m
  unfolding seek
  seek_find [] s = sym (find_nil k)
  seek_find (r ∷ m) s =
      less-connected k r.key
      (λ h. seek_above (r ∷ m) none (h, above_before k r.key m h s.0) ∙ sym (find_before k r m h))
      (λ e. rw (e, equal_refl r.key) (sym (find_here r.key r m refl)))
      (λ h. equal-cases k r.key (λ e q. absurd (before_other r.key k h (sym q))) (λ e n. rw (e, seek_find m s.1, find_later k r m h)))

  find_put_all : (rs m : List Record) → find k (put_all rs m) ≡ seek k rs (find k m)
  unfolding seek put_all
  find_put_all [] m = refl
  find_put_all (r ∷ rs) m =
      equal-cases k r.key
      (λ e q. rw (e, q) (find_put_same r (put_all rs m)))
      (λ e n. rw (e, find_put_other r (put_all rs m) k n, find_put_all rs m))

  -- ---- the same over the records in pages
  unfoldable seek_pages : List SpeltTree → Option (List ℕ) → Option (List ℕ)
  seek_pages [] other = other
  seek_pages (p ∷ ps) other = seek k (in_page p) (seek_pages ps other)

  seek_pages_append : (ps qs : List SpeltTree) (other : Option (List ℕ)) → seek_pages (ps ++ qs) other ≡ seek_pages ps (seek_pages qs other)
  unfolding seek_pages
  seek_pages_append [] qs other = refl
  seek_pages_append (p ∷ ps) qs other = rw (seek_pages_append ps qs other)

  find_in_pages : (ps : List SpeltTree) → find k (in_pages ps) ≡ seek_pages ps none
  unfolding seek_pages in_pages
  find_in_pages [] = find_nil k
  find_in_pages (p ∷ ps) = rw (find_put_all (in_page p) (in_pages ps), find_in_pages ps)

module _ (first : List (List ℕ)) (k : List ℕ) where
  -- a gap and the entries after it: table order meets the entries first, key order what is under the gap
  after_gap_lem : (g : Gap Spelt (List ℕ)) (before : List ℕ) (es : Entries Spelt (List ℕ))
      → ((other : Option (List ℕ)) → seek_pages k (descent_under first g) other ≡ seek k (opened_under first g) other)
      → ((other : Option (List ℕ)) → seek k (records_in before (raw_entries es)) (seek_pages k (descent_from first es) other) ≡ seek k (opened_from first before es) other)
      → All (λ x. Above x.key (items_from (keyed_from before es))) (items_under (keyed_under g)) → (other : Option (List ℕ))
      → seek k (records_in before (raw_entries es)) (seek_pages k (descent_under first g ++ descent_from first es) other)
      ≡ seek k (opened_under first g ++ opened_from first before es) other
  after_gap_lem g before es gap rest apart other =
      let later = seek_pages k (descent_from first es) other in
      let below = all_weaken _ _ (λ x a. all_part _ (entries_part before es) a) (opened_under first g) (all_part _ (opened_part_under first g) apart) in
      rw (seek_pages_append k (descent_under first g) (descent_from first es) other, gap later)
      (sym (seek_swap k (opened_under first g) (records_in before (raw_entries es)) later below)
      ∙ ap (seek k (opened_under first g)) (rest other)
      ∙ sym (seek_append k (opened_under first g) (opened_from first before es) other))

  mutual
    unfolding descent opened_records seek_pages in_page records_in raw_page raw_entries keyed items seek

    pages_seek : (t : SpeltTree) → Sorted (records t) → (other : Option (List ℕ)) → seek_pages k (descent first t) other ≡ seek k (opened_records first t) other
    pages_seek (page g es) s other =
        let h = sorted_split (items_under (keyed_under g)) (items_from (keyed_from [] es)) s in
        cases (known first (bytes_of_page (page g es))) (λ e. rw e)
        (λ e. rw e (after_gap_lem g [] es (λ o. under_seek g h.0 o) (λ o. from_seek [] es h.1 o) h.2 other))

    from_seek : (before : List ℕ) (es : Entries Spelt (List ℕ)) → Sorted (items_from (keyed_from before es)) → (other : Option (List ℕ))
        → seek k (records_in before (raw_entries es)) (seek_pages k (descent_from first es) other) ≡ seek k (opened_from first before es) other
    from_seek before end s other = refl
    from_seek before (entry e g es) s other =
        let r : Record = record_of before e in
        let h = sorted_split (items_under (keyed_under g)) (items_from (keyed_from r.key es)) s.1 in
        let later = after_gap_lem g r.key es (λ o. under_seek g h.0 o) (λ o. from_seek r.key es h.1 o) h.2 other in
        cases (equal k r.key) (λ q. rw q) (λ q. rw q later)

    under_seek : (g : Gap Spelt (List ℕ)) → Sorted (items_under (keyed_under g)) → (other : Option (List ℕ))
        → seek_pages k (descent_under first g) other ≡ seek k (opened_under first g) other
    under_seek empty s other = refl
    under_seek (under digest p) s other = pages_seek p s other

-- each record is put into its place: so they stand in key order
sorted_put_all : (rs m : List Record) → Sorted m → Sorted (put_all rs m)
unfolding put_all
sorted_put_all [] m s = s
sorted_put_all (r ∷ rs) m s = sorted_put r (put_all rs m) (sorted_put_all rs m s)

pub sorted_in_pages : (ps : List SpeltTree) → Sorted (in_pages ps)
unfolding in_pages
sorted_in_pages [] = tt
sorted_in_pages (p ∷ ps) = sorted_put_all (in_page p) (in_pages ps) (sorted_in_pages ps)

pub opened_in_order : (first : List (List ℕ)) (t : SpeltTree) → Sorted (records t) → in_pages (opened_pages first t) ≡ opened_records first t
opened_in_order first t s =
    let o = sorted_part (opened_part first t) s in
    rw (opened_descent first t)
    (sorted_ext (in_pages (descent first t)) (opened_records first t) (sorted_in_pages (descent first t)) o
    (λ k. find_in_pages k (descent first t) ∙ pages_seek first k t s none ∙ seek_find k (opened_records first t) o))
