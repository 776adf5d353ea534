-- A digest is that of a root just where what is gathered from it is an accepted register; and the pages of that register are those that are
-- reached from the digest.
use Prim.Native.Nat.{ℕ, zero, suc, ◌≤◌}
use mathlib.Core.Path.{◌≡◌, refl, sym, ap, subst, ◌∙◌}
use mathlib.Core.Bool.{Bool, true, false, false≢true}
use mathlib.Core.Logic.{◌⊎◌, inl, inr}
use mathlib.Core.Option.{Option, none, some, some-injective}
use mathlib.Core.List.{List, [], ◌∷◌, ◌++◌, append-nil, map, cons≢nil}
use native.Mathlib.Omega.{arith}
use lib.ListN.{length}
use Rattle.bytestring.proofs.Tools.{and_inv, All, all_split, all_weaken}
use Rattle.bytestring.specs.Bytes.{equal}
use Rattle.bytestring.proofs.Equal.{equal_true}
use Rattle.limits.specs.Limits.{longest, deepest}
use Rattle.fips180.specs.Hash.{sha256}
use Rattle.page.specs.Reading.{read, exactly, concat}
use Rattle.page.specs.Page.{RawEntry, RawPage, page_bytes, page as page_at}
use Rattle.page.proofs.Pages.{GoodPage, page_reads}
use Rattle.tree.specs.Tree.{Page, page, Gap, empty, under, Entries, end, entry, items, items_under, items_from}
use Rattle.tree.specs.Record.{Record, Spelt, record_of, keyed, keyed_under, keyed_from, records}
use Rattle.tree.specs.Table.{SpeltTree, link_of, raw_entries, raw_page, bytes_of_page, table, read_tree}
use Rattle.tree.specs.Judge.{prefixes_right, all_lawful, rising, right_tree, digests_right, digests_right_under, digests_right_from, accepted, judge_read, judge}
use Rattle.tree.proofs.Accept.{top_bounded}
use Rattle.tree.proofs.Laws.{Some, AllUnder, AllFrom, Good, Filled, depths, depths_under, depths_from, top_of, right_layered, right_local, none_right}
use Rattle.promises.specs.Map.{find, is_there}
use Rattle.promises.specs.Pages.{pages_of, pages_of_gap, pages_of_entries}
use Rattle.promises.specs.Promises.{Among}
use Rattle.promises.proofs.MapLaws.{Sorted}
use Rattle.promises.proofs.DifferenceLaws.{among_left, among_right}
use Rattle.states.specs.Pages.{pages_in, by_digest, link_list, links_after, links_of_read, together, gather_all, gather_page, gather}
use Rattle.states.specs.States.{bytes_or, is_accepted}
use Rattle.states.proofs.Sequences.{PageBytes, pages_in_table}
use Rattle.states.proofs.Filing.{among-split, all_each, find_all, FiledFrom}
use Rattle.states.proofs.Gathering.{UnderDigest, links_of}
use Rattle.states.proofs.Gathered.{AmongPages, Gathered, file, file_from, gather_back}
use Rattle.states.proofs.Holding.{file_stands}
use Rattle.states.proofs.Judging.{RecordsRight, gathered_accepted, accepted_right}
use Rattle.summaries.specs.Summary.{Summary, summary, root_of_parts, root_of_page, root_of_read, root_of_found, is_root, ReachedIn, ReachedFrom}
use Rattle.summaries.proofs.Keys.{layered_root}
use Rattle.summaries.proofs.Parts.{FineTree}
use Rattle.summaries.proofs.Fine.{summary_tree, tree_summary}

-- ---- the root has an entry, or the register has no record
some_split : {A : Type 0} (P : A → Type 0) (l m : List A) → Some P (l ++ m) → (Some P l → ⊥) → (Some P m → ⊥) → ⊥
some_split P [] m s f g = g s
some_split P (z ∷ l) m (inl e) f g = f (inl e)
some_split P (z ∷ l) m (inr s) f g = some_split P l m s (λ k. f (inr k)) g

module _ {A D : Type 0} where
  -- below a page no item has its depth
  mutual
    unfolding depths

    deeper : (d : ℕ) (t : Page A D) → Some (λ (z : ℕ × A). z.0 ≡ 0) (depths (suc d) t) → ⊥
    deeper d (page g es) s =
        some_split (λ (z : ℕ × A). z.0 ≡ 0) (depths_under (suc (suc d)) g) (depths_from (suc d) es) s
        (λ k. deeper_under (suc d) g k) (λ k. deeper_from d es k)

    deeper_under : (d : ℕ) (g : Gap A D) → Some (λ (z : ℕ × A). z.0 ≡ 0) (depths_under (suc d) g) → ⊥
    deeper_under d empty s = s
    deeper_under d (under e p) s = deeper d p s

    deeper_from : (d : ℕ) (es : Entries A D) → Some (λ (z : ℕ × A). z.0 ≡ 0) (depths_from (suc d) es) → ⊥
    deeper_from d end s = s
    deeper_from d (entry a g es) (inl e) = omega arith
    deeper_from d (entry a g es) (inr s) =
        some_split (λ (z : ℕ × A). z.0 ≡ 0) (depths_under (suc (suc d)) g) (depths_from (suc d) es) s
        (λ k. deeper_under (suc d) g k) (λ k. deeper_from d es k)

no_entry_wrong : (digest : List ℕ) (t : SpeltTree) → right_tree (page (under digest t) end) ≡ true → ⊥
unfolding depths keyed items Filled
no_entry_wrong digest t h =
    let l = right_local (page (under digest t) end) h in
    let s = l.root (λ e. l.filled.0.0 (sym (append-nil (records t)) ∙ e)) in
    deeper 0 (keyed t) (subst (Some (λ (z : ℕ × Record). z.0 ≡ 0)) (append-nil (depths 1 (keyed t))) s)

entry_right : (n : ℕ) (t : SpeltTree) (e : RawEntry) (es : List RawEntry) → (raw_page t).entries ≡ e ∷ es → FineTree n t → right_tree t ≡ true
unfolding raw_page raw_entries
entry_right n (page g end) e es h f = absurd (cons≢nil (sym h))
entry_right n (page g (entry a k fs)) e es h f = layered_root g a k fs n f.layers

some_after : (a : List Record) (r : Record) (b : List Record) → a ++ (r ∷ b) ≡ [] → ⊥
some_after [] r b e = cons≢nil e
some_after (q ∷ a) r b e = cons≢nil e

-- ---- roots
bool_agree : (a b : Bool) → (a ≡ true → b ≡ true) → (b ≡ true → a ≡ true) → a ≡ b
bool_agree true b f g = sym (f refl)
bool_agree false true f g = g refl
bool_agree false false f g = refl

there_some : (o : Option Summary) → is_there o ≡ true → (x : Summary) × (o ≡ some x)
unfolding is_there
there_some none h = absurd (false≢true h)
there_some (some x) h = (x, refl)

nothing_refused : is_accepted (judge []) ≡ true → ⊥
unfolding judge judge_read read_tree is_accepted page_at exactly
nothing_refused h = false≢true h

accepted_true : (s : List ℕ) (t : SpeltTree) → judge s ≡ accepted t → is_accepted (judge s) ≡ true
unfolding is_accepted
accepted_true s t e = rw e

module _ (ps : List (List ℕ)) (good : All PageBytes ps) (sorted : Sorted (map by_digest ps)) (long : length (concat (λ b. b) ps) ≤ longest) where
  all_stand : (qs : List (List ℕ)) → All (AmongPages ps) qs → All (UnderDigest (file ps)) qs
  all_stand qs a = all_weaken (AmongPages ps) (UnderDigest (file ps)) (λ p i. file_stands ps sorted p i) qs a

  -- a page that is read
  page_at_lem : (p : List ℕ) (raw : RawPage) → GoodPage raw → p ≡ page_bytes raw → page_at p ≡ read raw []
  page_at_lem p raw fields spelt = ap page_at (spelt ∙ sym (append-nil (page_bytes raw))) ∙ page_reads raw [] fields

  -- ---- from the root to the register
  register_of : (digest s : List ℕ) → gather deepest (file ps) digest ≡ some s → (g : Gathered ps deepest digest s) → RecordsRight g.tree
      → is_accepted (judge (bytes_or (gather deepest (file ps) digest))) ≡ true
  unfolding bytes_or
  register_of digest s e g r = rw e (accepted_true s g.tree (gathered_accepted ps sorted digest s g long r))

  empty_right : RecordsRight (page empty end)
  unfolding keyed items prefixes_right all_lawful rising Filled
  empty_right = record { count = omega arith; prefixes = refl; keys = refl; order = refl; shape = none_right (page empty end) refl (tt, tt) }

  empty_gathers : (digest p : List ℕ) (raw : RawPage) → GoodPage raw → p ≡ page_bytes raw → digest ≡ sha256 p → AmongPages ps p
      → find digest (file ps) ≡ some p
      → raw ≡ record { entries = []; left = none } → is_accepted (judge (bytes_or (gather deepest (file ps) digest))) ≡ true
  unfolding gather gather_page gather_all links_of_read link_list links_after together table pages_of bytes_of_page raw_page raw_entries link_of digests_right
  empty_gathers digest p raw fields spelt root i found none_in =
      let bytes : p ≡ page_bytes (record { entries = []; left = none }) = spelt ∙ ap page_bytes none_in in
      let reads : page_at p ≡ read (record { entries = []; left = none }) [] = page_at_lem p raw fields spelt ∙ ap (λ (r : RawPage). read r []) none_in in
      let gathers : gather deepest (file ps) digest ≡ some (p ++ []) = rw (found, reads) in
      register_of digest (p ++ []) gathers
      (record {
        tree = page empty end;
        bytes = ap (λ (b : List ℕ). b ++ []) bytes;
        good = (subst GoodPage none_in fields, tt, tt);
        root = root ∙ ap sha256 bytes;
        digests = refl;
        within = (subst (AmongPages ps) bytes i, tt);
      })
      empty_right

  -- the root's page is that which is found
  same_page : (digest p : List ℕ) (raw : RawPage) (t : SpeltTree) → Good deepest t → digest ≡ sha256 (bytes_of_page t) → All (AmongPages ps) (pages_of t)
      → find digest (file ps) ≡ some p → page_at p ≡ read raw [] → raw ≡ raw_page t
  unfolding pages_of bytes_of_page
  same_page digest p raw (page g es) fields root within found reads =
      let e : p ≡ page_bytes (raw_page (page g es)) =
      some-injective p (page_bytes (raw_page (page g es)))
      (sym found ∙ ap (λ (k : List ℕ). find k (file ps)) root ∙ file_stands ps sorted (page_bytes (raw_page (page g es))) within.0) in
      let same : read raw [] ≡ read (raw_page (page g es)) [] = sym reads ∙ page_at_lem p (raw_page (page g es)) fields.0 e in
      cc

  summed_accepted : (digest p : List ℕ) (raw : RawPage) (e : RawEntry) (es : List RawEntry) (x : Summary) → find digest (file ps) ≡ some p
      → page_at p ≡ read raw []
      → raw.entries ≡ e ∷ es → summary deepest (file ps) digest ≡ some x → is_accepted (judge (bytes_or (gather deepest (file ps) digest))) ≡ true
  summed_accepted digest p raw e es x found reads has h =
      let w = summary_tree ps good deepest digest x h in
      let same = same_page digest p raw w.tree w.good w.root w.within found reads in
      let shape = entry_right x.layer w.tree e es (ap (λ (r : RawPage). r.entries) (sym same) ∙ has) w.fine in
      register_of digest (table w.tree) w.gathers
      (record { tree = w.tree; bytes = refl; good = w.good; root = w.root; digests = w.digests; within = w.within })
      (record { count = w.fine.few; prefixes = w.fine.prefixes; keys = w.fine.keys; order = w.fine.order; shape = shape })

  parts_accepted : (digest p : List ℕ) (entries : List RawEntry) (left : Option (List ℕ)) → GoodPage (record { entries = entries; left = left })
      → p ≡ page_bytes (record { entries = entries; left = left }) → digest ≡ sha256 p → AmongPages ps p → find digest (file ps) ≡ some p
      → root_of_parts (summary deepest (file ps) digest) entries left ≡ true → is_accepted (judge (bytes_or (gather deepest (file ps) digest))) ≡ true
  unfolding root_of_parts
  parts_accepted digest p [] none fields spelt root i found h =
      empty_gathers digest p (record { entries = []; left = none }) fields spelt root i found refl
  parts_accepted digest p [] (some link) fields spelt root i found h = absurd (false≢true h)
  parts_accepted digest p (e ∷ es) left fields spelt root i found h =
      let x = there_some (summary deepest (file ps) digest) h in
      let raw : RawPage = record { entries = e ∷ es; left = left } in
      summed_accepted digest p raw e es x.0 found (page_at_lem p raw fields spelt) refl x.1

  found_accepted : (digest : List ℕ) (o : Option (List ℕ)) → find digest (file ps) ≡ o → root_of_found (summary deepest (file ps) digest) o ≡ true
      → is_accepted (judge (bytes_or (gather deepest (file ps) digest))) ≡ true
  unfolding root_of_found root_of_read root_of_page
  found_accepted digest none e h = absurd (false≢true h)
  found_accepted digest (some p) e h =
      let at = find_all (FiledFrom ps) (file ps) digest p (file_from ps) e in
      let one = all_each PageBytes ps p good at.1 in
      parts_accepted digest p one.0.entries one.0.left one.1.0 one.1.1 at.0 at.1 e
      (ap (root_of_read (summary deepest (file ps) digest)) (sym (page_at_lem p one.0 one.1.0 one.1.1)) ∙ h)

  -- ---- and back
  right_root : (t : SpeltTree) → Good deepest t → digests_right t ≡ true → All (AmongPages ps) (pages_of t) → RecordsRight t
      → root_of_page (summary deepest (file ps) (sha256 (bytes_of_page t))) (raw_page t) ≡ true
  unfolding root_of_page root_of_parts raw_page raw_entries link_of is_there keyed items
  right_root (page empty end) fields d w r = refl
  right_root (page (under digest t) end) fields d w r = absurd (no_entry_wrong digest t r.shape)
  right_root (page g (entry e h es)) fields d w r =
      let t : SpeltTree = page g (entry e h es) in
      let fine : FineTree (top_of t) t =
      record {
        few = r.count;
        prefixes = r.prefixes;
        keys = r.keys;
        order = r.order;
        layers = right_layered t r.shape;
        low = top_bounded (records t);
        filled = some_after (items_under (keyed_under g)) (record_of [] e) (items_under (keyed_under h) ++ items_from (keyed_from (record_of [] e).key es));
      } in
      let x = tree_summary (file ps) deepest (top_of t) t fields d (all_stand (pages_of t) w) fine in
      rw x.there

  -- the first page of a tree stands under its digest and is read
  tree_found : (t : SpeltTree) → Good deepest t → All (AmongPages ps) (pages_of t)
      → (find (sha256 (bytes_of_page t)) (file ps) ≡ some (bytes_of_page t)) × (page_at (bytes_of_page t) ≡ read (raw_page t) [])
  unfolding pages_of bytes_of_page
  tree_found (page g es) fields w =
      (file_stands ps sorted (bytes_of_page (page g es)) w.0, page_at_lem (bytes_of_page (page g es)) (raw_page (page g es)) fields.0 refl)

  gathered_root : (digest : List ℕ) (o : Option (List ℕ)) → gather deepest (file ps) digest ≡ o → is_accepted (judge (bytes_or o)) ≡ true
      → is_root (file ps) digest ≡ true
  unfolding bytes_or is_root root_of_found root_of_read
  gathered_root digest none e h = absurd (nothing_refused h)
  gathered_root digest (some s) e h =
      let g = gather_back ps good deepest digest s e in
      let t : SpeltTree = g.tree in
      let r = accepted_right ps sorted digest s g h in
      let found = tree_found t g.good g.within in
      rw (g.root, found.0, found.1) (right_root t g.good g.digests g.within r)

  pub root_accepted : (digest : List ℕ) → is_root (file ps) digest ≡ is_accepted (judge (bytes_or (gather deepest (file ps) digest)))
  unfolding is_root
  root_accepted digest =
      bool_agree (is_root (file ps) digest) (is_accepted (judge (bytes_or (gather deepest (file ps) digest))))
      (λ h. found_accepted digest (find digest (file ps)) refl h)
      (λ h. gathered_root digest (gather deepest (file ps) digest) refl h)

-- ---- the pages of a tree are those that are reached from its digest
module _ (pages : List Record) where
  -- a link of a part of a page, with what is reached from it
  abbrev Through : ℕ → List (List ℕ) → List ℕ → Type 0
  Through n links q = (link : List ℕ) × Among link links × ReachedIn pages n link q

  through_left : (n : ℕ) (a b : List (List ℕ)) (q : List ℕ) → Through n a q → Through n (a ++ b) q
  through_left n a b q t = (t.0, among_left a b t.0 t.1, t.2)

  through_right : (n : ℕ) (a b : List (List ℕ)) (q : List ℕ) → Through n b q → Through n (a ++ b) q
  through_right n a b q t = (t.0, among_right a b t.0 t.1, t.2)

  module _ (d : ℕ)
      (reaches : (t : SpeltTree) → Good d t → digests_right t ≡ true → All (UnderDigest pages) (pages_of t) → (q : List ℕ) → Among q (pages_of t)
      → ReachedIn pages d (sha256 (bytes_of_page t)) q) where
    gap_reached : (g : Gap Spelt (List ℕ)) → AllUnder (Good d) g → digests_right_under g ≡ true → All (UnderDigest pages) (pages_of_gap g) → (q : List ℕ)
        → Among q (pages_of_gap g) → Through d (link_list (link_of g)) q
    unfolding link_list link_of digests_right pages_of
    gap_reached empty good r u q i = absurd i
    gap_reached (under digest t) good r u q i =
        let k = and_inv (equal digest (sha256 (bytes_of_page t))) r in
        let e = equal_true digest (sha256 (bytes_of_page t)) k.0 in
        (digest, inl refl, subst (λ (x : List ℕ). ReachedIn pages d x q) (sym e) (reaches t good k.1 u q i))

    entries_reached : (es : Entries Spelt (List ℕ)) → AllFrom (Good d) es → digests_right_from es ≡ true
        → All (UnderDigest pages) (pages_of_entries es) → (q : List ℕ)
        → Among q (pages_of_entries es) → Through d (links_after (raw_entries es)) q
    unfolding links_after raw_entries digests_right pages_of
    entries_reached end good r u q i = absurd i
    entries_reached (entry e g es) good r u q i =
        let k = and_inv (digests_right_under g) r in
        let v = all_split (UnderDigest pages) (pages_of_gap g) (pages_of_entries es) u in
        among-split (pages_of_gap g) (pages_of_entries es) q i
        (λ j. through_left d (link_list (link_of g)) (links_after (raw_entries es)) q (gap_reached g good.0 k.0 v.0 q j))
        (λ j. through_right d (link_list (link_of g)) (links_after (raw_entries es)) q (entries_reached es good.1 k.1 v.1 q j))

  tree_reached : (d : ℕ) (t : SpeltTree) → Good d t → digests_right t ≡ true → All (UnderDigest pages) (pages_of t) → (q : List ℕ) → Among q (pages_of t)
      → ReachedIn pages d (sha256 (bytes_of_page t)) q
  unfolding ReachedIn digests_right pages_of raw_page
  tree_reached zero t good r u q i = absurd good
  tree_reached (suc d) (page g es) good r u q (inl e) = (bytes_of_page (page g es), u.0, inl e)
  tree_reached (suc d) (page g es) good r u q (inr i) =
      let k = and_inv (digests_right_under g) r in
      let v = all_split (UnderDigest pages) (pages_of_gap g) (pages_of_entries es) u.1 in
      let left : List (List ℕ) = link_list (link_of g) in
      let right : List (List ℕ) = links_after (raw_entries es) in
      let through : Through d (left ++ right) q =
      among-split (pages_of_gap g) (pages_of_entries es) q i
      (λ j. through_left d left right q (gap_reached d (tree_reached d) g good.1 k.0 v.0 q j))
      (λ j. through_right d left right q (entries_reached d (tree_reached d) es good.2 k.1 v.1 q j)) in
      (bytes_of_page (page g es), u.0, inr (subst (λ (l : List (List ℕ)). Through d l q) (sym (links_of (page g es) good.0)) through))

  module _ (n : ℕ) (stands : (d : ℕ) (t : SpeltTree) → Good d t → digests_right t ≡ true → All (UnderDigest pages) (pages_of t) → (q : List ℕ)
      → ReachedIn pages n (sha256 (bytes_of_page t)) q → Among q (pages_of t)) where
    gap_stands : (d : ℕ) (g : Gap Spelt (List ℕ)) → AllUnder (Good d) g → digests_right_under g ≡ true → All (UnderDigest pages) (pages_of_gap g)
        → (link q : List ℕ) → Among link (link_list (link_of g)) → ReachedIn pages n link q → Among q (pages_of_gap g)
    unfolding link_list link_of digests_right pages_of
    gap_stands d empty good r u link q i h = absurd i
    gap_stands d (under digest t) good r u link q (inl e) h =
        let k = and_inv (equal digest (sha256 (bytes_of_page t))) r in
        stands d t good k.1 u q
        (subst (λ (x : List ℕ). ReachedIn pages n x q) (e ∙ equal_true digest (sha256 (bytes_of_page t)) k.0) h)
    gap_stands d (under digest t) good r u link q (inr i) h = absurd i

    entries_stand : (d : ℕ) (es : Entries Spelt (List ℕ)) → AllFrom (Good d) es → digests_right_from es ≡ true
        → All (UnderDigest pages) (pages_of_entries es)
        → (link q : List ℕ) → Among link (links_after (raw_entries es)) → ReachedIn pages n link q → Among q (pages_of_entries es)
    unfolding links_after raw_entries digests_right pages_of
    entries_stand d end good r u link q i h = absurd i
    entries_stand d (entry e g es) good r u link q i h =
        let k = and_inv (digests_right_under g) r in
        let v = all_split (UnderDigest pages) (pages_of_gap g) (pages_of_entries es) u in
        among-split (link_list (link_of g)) (links_after (raw_entries es)) link i
        (λ j. among_left (pages_of_gap g) (pages_of_entries es) q (gap_stands d g good.0 k.0 v.0 link q j h))
        (λ j. among_right (pages_of_gap g) (pages_of_entries es) q (entries_stand d es good.1 k.1 v.1 link q j h))

    page_stands : (d : ℕ) (g : Gap Spelt (List ℕ)) (es : Entries Spelt (List ℕ)) → Good (suc d) (page g es) → digests_right (page g es) ≡ true
        → All (UnderDigest pages) (pages_of (page g es)) → (q : List ℕ) → Through n (links_of_read (page_at (bytes_of_page (page g es)))) q
        → Among q (pages_of_gap g ++ pages_of_entries es)
    unfolding digests_right pages_of raw_page
    page_stands d g es good r u q through =
        let k = and_inv (digests_right_under g) r in
        let v = all_split (UnderDigest pages) (pages_of_gap g) (pages_of_entries es) u.1 in
        let i = subst (Among through.0) (links_of (page g es) good.0) through.1 in
        among-split (link_list (link_of g)) (links_after (raw_entries es)) through.0 i
        (λ j. among_left (pages_of_gap g) (pages_of_entries es) q (gap_stands d g good.1 k.0 v.0 through.0 q j through.2))
        (λ j. among_right (pages_of_gap g) (pages_of_entries es) q (entries_stand d es good.2 k.1 v.1 through.0 q j through.2))

    found_stands : (d : ℕ) (g : Gap Spelt (List ℕ)) (es : Entries Spelt (List ℕ)) → Good (suc d) (page g es) → digests_right (page g es) ≡ true
        → All (UnderDigest pages) (pages_of (page g es)) → (q p : List ℕ) → p ≡ bytes_of_page (page g es)
        → (q ≡ p) ⊎ Through n (links_of_read (page_at p)) q → Among q (pages_of (page g es))
    unfolding pages_of
    found_stands d g es good r u q p e (inl s) = inl (s ∙ e)
    found_stands d g es good r u q p e (inr t) =
        inr (page_stands d g es good r u q (subst (λ (b : List ℕ). Through n (links_of_read (page_at b)) q) e t))

  reached_stands : (n d : ℕ) (t : SpeltTree) → Good d t → digests_right t ≡ true → All (UnderDigest pages) (pages_of t) → (q : List ℕ)
      → ReachedIn pages n (sha256 (bytes_of_page t)) q → Among q (pages_of t)
  unfolding ReachedIn pages_of
  reached_stands zero d t good r u q h = absurd h
  reached_stands (suc n) zero t good r u q h = absurd good
  reached_stands (suc n) (suc d) (page g es) good r u q h =
      let e : h.0 ≡ bytes_of_page (page g es) = some-injective h.0 (bytes_of_page (page g es)) (sym h.1 ∙ u.0) in
      found_stands n (reached_stands n) d g es good r u q h.0 e h.2

-- ---- so are those of a register
module _ (ps : List (List ℕ)) (good : All PageBytes ps) (sorted : Sorted (map by_digest ps)) (long : length (concat (λ b. b) ps) ≤ longest) where
  -- the tree of a root
  record RootTree (digest : List ℕ) : Type 0 where
    tree : SpeltTree
    fields : Good deepest tree
    root : digest ≡ sha256 (bytes_of_page tree)
    digests : digests_right tree ≡ true
    stand : All (UnderDigest (file ps)) (pages_of tree)
    pages : pages_in (bytes_or (gather deepest (file ps) digest)) ≡ pages_of tree

  root_gathered : (digest : List ℕ) (o : Option (List ℕ)) → gather deepest (file ps) digest ≡ o → is_accepted (judge (bytes_or o)) ≡ true
      → RootTree digest
  unfolding bytes_or
  root_gathered digest none e h = absurd (nothing_refused h)
  root_gathered digest (some s) e h =
      let g = gather_back ps good deepest digest s e in
      record {
        tree = g.tree;
        fields = g.good;
        root = g.root;
        digests = g.digests;
        stand = all_stand ps good sorted long (pages_of g.tree) g.within;
        pages = rw e (ap pages_in g.bytes ∙ pages_in_table g.tree deepest g.good);
      }

  module _ (digest : List ℕ) (h : is_root (file ps) digest ≡ true) where
    root_tree : RootTree digest
    root_tree = root_gathered digest (gather deepest (file ps) digest) refl (sym (root_accepted ps good sorted long digest) ∙ h)

    pub page_reached : (q : List ℕ) → Among q (pages_in (bytes_or (gather deepest (file ps) digest))) → ReachedFrom (file ps) digest q
    page_reached q i =
        let t = root_tree in
        let r = tree_reached (file ps) deepest t.tree t.fields t.digests t.stand q (subst (Among q) t.pages i) in
        (deepest, subst (λ (x : List ℕ). ReachedIn (file ps) deepest x q) (sym t.root) r)

    pub reached_page : (q : List ℕ) → ReachedFrom (file ps) digest q → Among q (pages_in (bytes_or (gather deepest (file ps) digest)))
    reached_page q r =
        let t = root_tree in
        let s = subst (λ (x : List ℕ). ReachedIn (file ps) r.0 x q) t.root r.1 in
        subst (Among q) (sym t.pages) (reached_stands (file ps) r.0 deepest t.tree t.fields t.digests t.stand q s)
