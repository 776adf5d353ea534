-- A register's tree, page by page: what the search for a key finds in a page, and comes to.
use Rattle.promises.proofs.OpenedLaws.{entries_part}
use Prim.Native.Nat.{ℕ, suc, ◌+◌}
use mathlib.Core.Path.{◌≡◌, refl, sym, subst}
use mathlib.Core.Bool.{true}
use mathlib.Core.Option.{none, some}
use mathlib.Core.List.Sublistᴰ
use mathlib.Core.List.{List, [], ◌++◌, Sublistᴰ}
use lib.ListN.{drop}
use lib.Dec.{eqb}
use Rattle.limits.specs.Limits.{deepest}
use Rattle.bytestring.proofs.Equal.{equal_refl}
use Rattle.bytestring.proofs.Tools.{and_inv, All}
use Rattle.fips180.specs.Hash.{sha256}
use Rattle.value.specs.Value.{value_in}
use Rattle.key.specs.Key.{shared}
use Rattle.page.specs.Page.{page_bytes}
use Rattle.tree.specs.Tree.{page, Gap, under, Entries, end, entry, items}
use Rattle.tree.specs.Record.{Record, Spelt, record_of, keyed, records}
use Rattle.tree.specs.Table.{SpeltTree, link_of, raw_entries, raw_page, bytes_of_page}
use Rattle.tree.specs.Judge.{due, prefixes_right, prefixes_right_under, prefixes_right_from, accepted}
use Rattle.tree.specs.OnePage.{entries_start, prefixes_of, records_in}
use Rattle.tree.proofs.Laws.{none_due, all_lawful_lem, LawfulKey, AllUnder, AllFrom, Good, Accepted, prefixes_spelt}
use Rattle.promises.specs.Map.{find}
use Rattle.promises.specs.Pages.{pages_of}
use Rattle.promises.proofs.MapLaws.{Sorted, rising_sorted, sorted_rising}
use Rattle.promises.proofs.Parts.{all_part, sorted_part}
use Rattle.promises.proofs.DifferenceLaws.{Linked, LinkedUnder, LinkedFrom, Fine, Within, linked}
use Rattle.path.specs.Verify.{value_at, sought_in, page_tests}
use Rattle.path.specs.Promises.{root_digest}
use Rattle.path.proofs.Searching.{searched, found_value, entries_stand}
use Rattle.path.proofs.Trees.{gap_records, AllGaps, TreeWay, tree_searched}

-- ---- a tree of which every page is known to be right, and each link's digest that of its page
module _ (all : List (List ℕ)) where
  -- so many pages deep at most
  pub record Right (depth : ℕ) (t : SpeltTree) : Type 0 where
    pub links : Linked (Fine all) t
    pub good : Good depth t
    pub prefixes : prefixes_right t ≡ true
    pub order : Sorted (records t)
    pub keys : All LawfulKey (records t)

  -- what is under a gap, but for the order and the rule of its keys
  abbrev pub RightGap : ℕ → Gap Spelt (List ℕ) → Type 0
  RightGap depth g = LinkedUnder (Fine all) g × AllUnder (Good depth) g × (prefixes_right_under g ≡ true)

  -- so is what is under each gap of a row of entries, and the prefix lengths of the row itself
  right_gaps : (depth : ℕ) (before : List ℕ) (es : Entries Spelt (List ℕ)) → LinkedFrom (Fine all) es → AllFrom (Good depth) es → prefixes_right_from before es ≡ true
      → AllGaps (RightGap depth) es × (prefixes_of before (raw_entries es) ≡ true)
  unfolding prefixes_right_from raw_entries prefixes_of
  right_gaps depth before end l g p = (tt, refl)
  right_gaps depth before (entry e h es) l g p =
      let own = and_inv (eqb e.shares (shared before (record_of before e).key)) p in
      let both = and_inv (prefixes_right_under h) own.1 in
      let later = right_gaps depth (record_of before e).key es l.1 g.1 both.1 in
      (((l.0, g.0, both.0), later.0), rw own.0 later.1)

  -- ---- one page of it
  module _ (depth : ℕ) (g : Gap Spelt (List ℕ)) (es : Entries Spelt (List ℕ)) (w : Right (suc depth) (page g es)) where
    abbrev t : SpeltTree
    t = page g es

    gaps : AllGaps (RightGap depth) es × (prefixes_of [] (raw_entries es) ≡ true)
    unfolding prefixes_right
    gaps = right_gaps depth [] es w.links.2 w.good.2 (and_inv (prefixes_right_under g) w.prefixes).1

    -- the records of the page itself
    own : Sublistᴰ (records_in [] (raw_entries es)) (records t)
    unfolding keyed items
    own = Sublistᴰ.append (Sublistᴰ.nil-sublist (gap_records g)) (entries_part [] es)

    -- no number is due on it
    pub no_number : due (page_tests (root_digest t) (raw_page t)) ≡ none
    unfolding page_tests raw_page bytes_of_page
    no_number =
        let rs : List Record = records_in [] (raw_entries es) in
        none_due (page_tests (root_digest t) (raw_page t)) (
          gaps.1,
          (all_lawful_lem rs (all_part LawfulKey own w.keys), (sorted_rising rs (sorted_part own w.order), (equal_refl (sha256 (bytes_of_page t)), tt))),
        )

    pub way : (k : List ℕ) (at : ℕ) → TreeWay k (RightGap depth) g [] es (sought_in k at (raw_page t))
    unfolding sought_in raw_page keyed items prefixes_right
    way k at =
        tree_searched k (RightGap depth) g [] (at + entries_start (raw_entries es)) es w.order
        (w.links.1, w.good.1, (and_inv (prefixes_right_under g) w.prefixes).0) gaps.0

    -- the page under a gap that the search comes to
    pub below : (digest : List ℕ) (p : SpeltTree) → RightGap depth (under digest p) → Sublistᴰ (records p) (records t) → Right depth p × (digest ≡ root_digest p)
    unfolding prefixes_right_under
    below digest p x part = (
      record { links = x.0.1; good = x.1; prefixes = x.2; order = sorted_part part w.order; keys = all_part LawfulKey part w.keys },
      x.0.0,
    )

    -- the value found in the page, where it stands in a path
    pub there : (k path : List ℕ) (at : ℕ) (rest : List ℕ) → drop at path ≡ page_bytes (raw_page t) ++ rest → (place : ℕ) → sought_in k at (raw_page t) ≡ value_at place
        → find k (records_in [] (raw_entries es)) ≡ some (value_in path place)
    unfolding sought_in raw_page
    there k path at rest stands place q =
        found_value k path (link_of g) [] (at + entries_start (raw_entries es)) (raw_entries es) (sought_in k at (raw_page t))
        (searched k path (link_of g) [] (at + entries_start (raw_entries es)) (raw_entries es) w.good.0.entries (entries_stand path at (raw_page t) rest stands)
        (sorted_part own w.order)) place q

-- a register that is accepted
pub right_register : (all : List (List ℕ)) (s : List ℕ) (t : SpeltTree) → Accepted s t → Within (pages_of t) all → Right all deepest t
right_register all s t a i = record {
  links = linked all t deepest a.good a.digests i;
  good = a.good;
  prefixes = subst (λ u. prefixes_right u ≡ true) (sym a.spells) (prefixes_spelt _);
  order = rising_sorted (records t) a.fit.order;
  keys = a.fit.keys;
}
