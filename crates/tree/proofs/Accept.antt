-- The table of a set that fits is accepted as that set's register, and what is accepted is the table of a set that fits.
use Prim.Native.Nat.{ℕ, zero, suc, ◌+◌, ◌≤◌, ◌<◌}
use mathlib.Core.Path.{◌≡◌, refl, sym, ap, ◌∙◌, subst}
use mathlib.Core.Bool.{true, false≢true}
use mathlib.Core.Option.{Option, none, some}
use mathlib.Core.List.{List, [], ◌∷◌, ◌++◌, append-nil, map}
use native.Mathlib.Omega.{arith}
use lib.ListN.{length, length-append, length-drop}
use lib.Dec.{eqb, leb}
use borrow.Author.Tests.{leb-true, le-leb}
use Rattle.limits.specs.Limits.{longest, deepest, most}
use Rattle.bytestring.proofs.Equal.{equal_true, equal_refl}
use Rattle.bytestring.proofs.Tools.{cond-inv, and_inv, and_both, All, all_append, all_split}
use Rattle.bytestring.specs.Bytes.{Bytes}
use Rattle.answer.specs.declared.Refusal.{Refusal}
use Rattle.fips180.specs.Hash.{sha256}
use Rattle.fips180.proofs.Laws.{length_sha256}
use Rattle.key.specs.Key.{shared}
use Rattle.key.proofs.Laws.{lawful_length, shared_le_right, layer_le}
use Rattle.page.specs.Reading.{Read, read, ends_early, departs}
use Rattle.value.specs.Value.{is_value}
use Rattle.page.proofs.Pages.{GoodGap, GoodEntry}
use Rattle.tree.specs.Tree.{Page, page, Gap, empty, under, Entries, end, entry, items, items_under, items_from, top_layer}
use Rattle.tree.specs.Record.{Record, Spelt, record_of, keyed, keyed_under, keyed_from, spelt, spelt_under, spelt_from, records, placed}
use Rattle.tree.specs.Table.{SpeltTree, link_of, raw_entries, raw_page, bytes_of_page, table, digest_of, tree_of_set, table_of, read_tree}
use Rattle.tree.specs.Judge.{due, is_none, prefixes_right, prefixes_right_under, prefixes_right_from, all_lawful, rising, right_tree, digests_right, digests_right_under, digests_right_from, tests, refused, accepted, settled, judge_read, judge}
use Rattle.tree.proofs.Tests.{AllTests, due_none, none_due, LawfulKey, RightValue, lawful_all, all_lawful_lem, Fitting}
use Rattle.tree.proofs.BuildLaws.{Layered, LayeredUnder, LayeredFrom, tree_of_layered, Labelled, LabelledUnder, LabelledFrom, labelled_tree_of}
use Rattle.tree.proofs.Spelling.{keyed_spelt, prefixes_spelt, spelt_keyed}
use Rattle.tree.proofs.Shape.{layer_of_record, right_tree_lem, records_tree, tree_right}
use Rattle.tree.proofs.Tables.{AllUnder, AllFrom, Good, tree_reads, tree_spells}

-- ---- what acceptance says
refused≢accepted : {r : Refusal} {t : SpeltTree} → refused r ≡ accepted t → ⊥
refused≢accepted e = let z : ◌≡◌ {A = ℕ} 0 1 = cc in omega arith

settled_accepts : (o : Option Refusal) (t u : SpeltTree) → settled o t ≡ accepted u → (o ≡ none) × (t ≡ u)
unfolding settled
settled_accepts none t u h = (refl, cc)
settled_accepts (some r) t u h = absurd (refused≢accepted h)

module _ (t : SpeltTree) where
  read_accepts : (r : Read SpeltTree) → judge_read r ≡ accepted t → (rest : List ℕ) × (r ≡ read t rest) × AllTests (tests t rest)
  unfolding judge_read
  read_accepts ends_early h = absurd (refused≢accepted h)
  read_accepts departs h = absurd (refused≢accepted h)
  read_accepts (read u rest) h =
      let k = settled_accepts (due (tests u rest)) u t h in
      (rest, ap (λ (v : SpeltTree). read v rest) k.1, subst (λ (v : SpeltTree). AllTests (tests v rest)) k.1 (due_none (tests u rest) k.0))

none_left : (rest : List ℕ) → is_none rest ≡ true → rest ≡ []
unfolding is_none
none_left [] h = refl
none_left (b ∷ rest) h = absurd (false≢true h)

-- ---- right digests are the labels that the builder gives
mutual
  unfolding Labelled keyed prefixes_right digests_right digest_of

  labelled : (t : SpeltTree) → prefixes_right t ≡ true → digests_right t ≡ true → Labelled digest_of (keyed t)
  labelled (page g es) p d =
      let p₂ = and_inv (prefixes_right_under g) p in
      let d₂ = and_inv (digests_right_under g) d in
      (labelled_under g p₂.0 d₂.0, labelled_from [] es p₂.1 d₂.1)

  labelled_under : (g : Gap Spelt (List ℕ)) → prefixes_right_under g ≡ true → digests_right_under g ≡ true → LabelledUnder digest_of (keyed_under g)
  labelled_under empty p d = tt
  labelled_under (under digest q) p d =
      let d₂ = and_inv _ d in
      (equal_true digest _ d₂.0 ∙ ap (λ (u : SpeltTree). sha256 (bytes_of_page u)) (sym (spelt_keyed q p)), labelled q p d₂.1)

  labelled_from : (before : List ℕ) (es : Entries Spelt (List ℕ)) → prefixes_right_from before es ≡ true → digests_right_from es ≡ true
      → LabelledFrom digest_of (keyed_from before es)
  labelled_from before end p d = tt
  labelled_from before (entry e g es) p d =
      let p₂ = and_inv (eqb e.shares (shared before (record_of before e).key)) p in
      let p₃ = and_inv (prefixes_right_under g) p₂.1 in
      let d₂ = and_inv (digests_right_under g) d in
      (labelled_under g p₃.0 d₂.0, labelled_from (record_of before e).key es p₃.1 d₂.1)

mutual
  unfolding Labelled spelt digests_right digest_of

  digests_spelt : (t : Page Record (List ℕ)) → Labelled digest_of t → digests_right (spelt t) ≡ true
  digests_spelt (page g es) h = and_both (digests_under g h.0) (digests_from [] es h.1)

  digests_under : (g : Gap Record (List ℕ)) → LabelledUnder digest_of g → digests_right_under (spelt_under g) ≡ true
  digests_under empty h = refl
  digests_under (under digest p) h = rw (h.0, equal_refl (sha256 (bytes_of_page (spelt p)))) (digests_spelt p h.1)

  digests_from : (before : List ℕ) (es : Entries Record (List ℕ)) → LabelledFrom digest_of es → digests_right_from (spelt_from before es) ≡ true
  digests_from before end h = refl
  digests_from before (entry r g es) h = and_both (digests_under g h.0) (digests_from r.key es h.1)

-- ---- a tree of records at their layers has good fields
pub record GoodRecord (r : Record) : Type 0 where
  pub key : length r.key ≤ 256
  pub val : is_value r.val ≡ true

-- no page has more entries than the tree has items
count_entries_lem : (before : List ℕ) (es : Entries Record (List ℕ)) → length (raw_entries (spelt_from before es)) ≤ length (items_from es)
unfolding raw_entries spelt items
count_entries_lem before end = omega arith
count_entries_lem before (entry r g es) =
    omega (arith, count_entries_lem r.key es, length-append (items_under g) (items_from es))

link_good : (g : Gap Record (List ℕ)) → LabelledUnder digest_of g → GoodGap (link_of (spelt_under g))
unfolding Labelled link_of spelt digest_of
link_good empty h = tt
link_good (under digest p) h = ap length h.0 ∙ length_sha256 (bytes_of_page (spelt p))

entries_good : (before : List ℕ) (es : Entries Record (List ℕ)) → All GoodRecord (items_from es) → LabelledFrom digest_of es
    → All GoodEntry (raw_entries (spelt_from before es))
unfolding Labelled raw_entries spelt items
entries_good before end h k = tt
entries_good before (entry r g es) h k = (
  record {
    shares = omega (arith, shared_le_right before r.key, h.0.key);
    remainder = omega (arith, length-drop (shared before r.key) r.key, h.0.key);
    after = link_good g k.0;
    val = h.0.val;
  },
  entries_good r.key es (all_split GoodRecord (items_under g) (items_from es) h.1).1 k.1,
)

mutual
  unfolding Layered Labelled items spelt raw_page

  -- the layer bounds the depth, and the number of items the entries of a page
  tree_good : (t : Page Record (List ℕ)) (n d : ℕ) → n ≤ d → Layered layer_of_record n t → Labelled digest_of t → All GoodRecord (items t)
      → length (items t) < 65536 → Good (suc d) (spelt t)
  tree_good (page g es) n d b l k h c =
      let hg = (all_split GoodRecord (items_under g) (items_from es) h).0 in
      let he = (all_split GoodRecord (items_under g) (items_from es) h).1 in
      let cg : length (items_under g) + length (items_from es) < 65536 = omega (arith, length-append (items_under g) (items_from es)) in (
        record { count = omega (arith, count_entries_lem [] es); entries = entries_good [] es he k.1; left = link_good g k.0 },
        under_good g n d b l.0 k.0 hg (omega arith),
        from_good es n d b [] l.1 k.1 he (omega arith),
      )

  under_good : (g : Gap Record (List ℕ)) (n d : ℕ) → n ≤ d → LayeredUnder layer_of_record n g → LabelledUnder digest_of g
      → All GoodRecord (items_under g) → length (items_under g) < 65536 → AllUnder (Good d) (spelt_under g)
  under_good empty n d b l k h c = tt
  under_good (under digest p) zero d b l k h c = absurd l
  under_good (under digest p) (suc n) zero b l k h c = absurd (omega arith)
  under_good (under digest p) (suc n) (suc d) b l k h c = tree_good p n d (omega arith) l.0 k.1 h c

  from_good : (es : Entries Record (List ℕ)) (n d : ℕ) → n ≤ d → (before : List ℕ) → LayeredFrom layer_of_record n es → LabelledFrom digest_of es
      → All GoodRecord (items_from es) → length (items_from es) < 65536 → AllFrom (Good d) (spelt_from before es)
  from_good end n d b before l k h c = tt
  from_good (entry r g es) n d b before l k h c =
      let cg : suc (length (items_under g) + length (items_from es)) < 65536 = omega (arith, length-append (items_under g) (items_from es)) in (
        under_good g n d b l.1 k.0 (all_split GoodRecord (items_under g) (items_from es) h.1).0 (omega arith),
        from_good es n d b r.key l.2 k.1 (all_split GoodRecord (items_under g) (items_from es) h.1).1 (omega arith),
      )

-- ---- the records and the tree of a set that fits
pub good_records : (rs : List Record) → All LawfulKey rs → All RightValue rs → All GoodRecord rs
good_records [] h k = tt
good_records (r ∷ rs) h k = (record { key = lawful_length r.key h.0; val = k.0 }, good_records rs h.1 k.1)

pub records_of_set : (rs : List Record) → records (spelt (tree_of_set rs)) ≡ rs
unfolding tree_of_set
records_of_set rs = records_tree digest_of rs

pub items_of_set : (rs : List Record) → items (tree_of_set rs) ≡ rs
items_of_set rs = ap items (sym (keyed_spelt (tree_of_set rs))) ∙ records_of_set rs

pub top_bounded : (rs : List Record) → top_layer (map placed rs) ≤ 128
unfolding top_layer
top_bounded [] = omega arith
top_bounded (r ∷ rs) = omega (arith, layer_le r.key, top_bounded rs)

pub labelled_set : (rs : List Record) → Labelled digest_of (tree_of_set rs)
unfolding tree_of_set
labelled_set rs = labelled_tree_of digest_of (map placed rs)

-- ---- the table of a set that fits is accepted
module _ (rs : List Record) (f : Fitting rs) where
  abbrev pub tree : SpeltTree
  tree = spelt (tree_of_set rs)

  pub tree_is_good : Good deepest tree
  unfolding tree_of_set
  tree_is_good =
      tree_good (tree_of_set rs) (top_layer (map placed rs)) 128 (top_bounded rs) (tree_of_layered layer_of_record digest_of rs) (labelled_set rs)
      (rw (items_of_set rs) (good_records rs f.keys f.values)) (rw (items_of_set rs) (omega (arith, f.count)))

  tree_is_right : right_tree tree ≡ true
  unfolding tree_of_set
  tree_is_right = tree_right digest_of rs

  all_tests : AllTests (tests tree [])
  unfolding tests is_none
  all_tests =
      let e = records_of_set rs in
      let count : leb (length (records tree)) most ≡ true = rw e (le-leb (length rs) most f.count) in
      let keys : all_lawful (records tree) ≡ true = rw e (all_lawful_lem rs f.keys) in
      let order : rising (records tree) ≡ true = rw e f.order in
      let digests = digests_spelt (tree_of_set rs) (labelled_set rs) in
      (refl, (count, (prefixes_spelt (tree_of_set rs), (keys, (order, (tree_is_right, (digests, tt)))))))

  pub table_accepted : judge (table_of rs) ≡ accepted tree
  unfolding judge judge_read settled table_of
  table_accepted =
      let e : read_tree deepest (table tree) ≡ read tree [] = ap (read_tree deepest) (sym (append-nil (table tree))) ∙ tree_reads deepest tree [] tree_is_good in
      rw (le-leb (length (table tree)) longest f.size, e, none_due (tests tree []) all_tests)

-- ---- what is accepted is the table of a set that fits
mutual
  unfolding items keyed raw_page raw_entries

  values_good : (t : SpeltTree) (d : ℕ) → Good d t → All RightValue (records t)
  values_good (page g es) zero h = absurd h
  values_good (page g es) (suc d) h =
      all_append RightValue (items_under (keyed_under g)) (items_from (keyed_from [] es)) (values_under g d h.1) (values_from es d [] h.0.entries h.2)

  values_under : (g : Gap Spelt (List ℕ)) (d : ℕ) → AllUnder (Good d) g → All RightValue (items_under (keyed_under g))
  values_under empty d h = tt
  values_under (under digest p) d h = values_good p d h

  values_from : (es : Entries Spelt (List ℕ)) (d : ℕ) (before : List ℕ) → All GoodEntry (raw_entries es) → AllFrom (Good d) es
      → All RightValue (items_from (keyed_from before es))
  values_from end d before h k = tt
  values_from (entry e g es) d before h k =
      let key : List ℕ = (record_of before e).key in (
        h.0.val,
        all_append RightValue (items_under (keyed_under g)) (items_from (keyed_from key es)) (values_under g d k.0) (values_from es d key h.1 k.1),
      )

-- what a register that is accepted is known to be
pub record Accepted (s : List ℕ) (t : SpeltTree) : Type 0 where
  pub written : s ≡ table_of (records t)
  pub spells : t ≡ spelt (tree_of_set (records t))
  pub good : Good deepest t
  pub digests : digests_right t ≡ true
  pub fit : Fitting (records t)

module _ (s : List ℕ) (bytes : Bytes s) (t : SpeltTree) where
  from_tests : length s ≤ longest → (rest : List ℕ) → read_tree deepest s ≡ read t rest → AllTests (tests t rest) → Accepted s t
  unfolding tests tree_of_set table_of
  from_tests size rest r h =
      let b = (tree_spells deepest).back s rest t bytes r in
      let none_over : s ≡ table t = b.0 ∙ ap (λ (u : List ℕ). table t ++ u) (none_left rest h.0) ∙ append-nil (table t) in
      let count : length (records t) ≤ most = leb-true (length (records t)) most h.1.0 in
      let prefixes : prefixes_right t ≡ true = h.1.1.0 in
      let digests : digests_right t ≡ true = h.1.1.1.1.1.1.0 in
      let built : keyed t ≡ tree_of_set (records t) =
      right_tree_lem digest_of t h.1.1.1.1.1.0 (labelled t prefixes digests) in
      let same_tree : t ≡ spelt (tree_of_set (records t)) = sym (spelt_keyed t prefixes) ∙ ap spelt built in
      let same_bytes : s ≡ table_of (records t) = none_over ∙ ap table same_tree in
      record {
        written = same_bytes;
        spells = same_tree;
        good = b.1;
        digests = digests;
        fit = record {
          count = count;
          order = h.1.1.1.1.0;
          keys = lawful_all (records t) h.1.1.1.0;
          values = values_good t deepest b.1;
          size = omega (arith, ap length same_bytes);
        };
      }

  pub accepted_table : judge s ≡ accepted t → Accepted s t
  unfolding judge
  accepted_table h =
      cond-inv (leb (length s) longest)
      (λ e q. let r = read_accepts t (read_tree deepest s) q in from_tests (leb-true (length s) longest e) r.0 r.1 r.2)
      (λ e q. absurd (refused≢accepted q))
      h

-- a byte string is accepted with one tree
pub one_tree : (s : List ℕ) {t u : SpeltTree} → judge s ≡ accepted t → judge s ≡ accepted u → t ≡ u
one_tree s j k = let e : accepted _ ≡ accepted _ = sym j ∙ k in cc
