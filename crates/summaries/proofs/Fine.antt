-- A summary is that of a tree with numbers 5 to 9 right at its layer, and such a tree has one.
use Prim.Native.Nat.{ℕ, zero, suc, ◌+◌, ◌≤◌}
use mathlib.Core.Path.{◌≡◌, refl, sym, ap, ap₂, subst, ◌∙◌}
use mathlib.Core.Bool.{true}
use mathlib.Core.Option.{Option, none, some, none-ne-some, some-injective}
use mathlib.Core.List.{List, [], ◌∷◌, ◌++◌, append-nil, append_assoc}
use native.Mathlib.Omega.{arith}
use lib.ListN.{length, length-append}
use lib.Dec.{eqb}
use Rattle.bytestring.proofs.Tools.{and_inv, and_both, All, all_append, all_split}
use Rattle.bytestring.specs.Bytes.{equal}
use Rattle.bytestring.proofs.Equal.{equal_true, equal_refl}
use Rattle.limits.specs.Limits.{most}
use Rattle.fips180.specs.Hash.{sha256}
use Rattle.key.specs.Key.{lawful, shared}
use Rattle.key.specs.Layer.{layer_of}
use Rattle.page.specs.Reading.{read}
use Rattle.page.specs.Page.{RawEntry, RawPage, page_bytes, page as page_at}
use Rattle.page.proofs.Pages.{GoodPage, page_reads}
use Rattle.tree.specs.Tree.{page, Gap, empty, under, Entries, end, entry, items, items_under, items_from}
use Rattle.tree.specs.Record.{Record, Spelt, record_of, keyed, keyed_under, keyed_from, records}
use Rattle.tree.specs.Table.{SpeltTree, link_of, raw_entries, raw_page, bytes_of_page, table, table_under, table_from}
use Rattle.tree.specs.Judge.{prefixes_right, prefixes_right_under, prefixes_right_from, all_lawful, digests_right, digests_right_under, digests_right_from}
use Rattle.tree.specs.OnePage.{key_after}
use Rattle.tree.proofs.Laws.{AllUnder, AllFrom, Good, Layered, LayeredUnder, LayeredFrom, layer_of_record}
use Rattle.promises.specs.Map.{find}
use Rattle.promises.specs.Pages.{pages_of, pages_of_gap, pages_of_entries}
use Rattle.states.specs.Pages.{link_list, links_after, links_of_read, together, gather_all, gather_page, gather}
use Rattle.states.proofs.Sequences.{PageBytes}
use Rattle.states.proofs.Filing.{all_each, find_all, FiledFrom}
use Rattle.states.proofs.Gathering.{UnderDigest, gather_append}
use Rattle.states.proofs.Gathered.{AmongPages, file, file_from}
use Rattle.summaries.specs.Summary.{Summary, Tally, agrees, passes, after_gap, after_entry, after_entries, summary_of_read, summary_of_found, summary}
use Rattle.summaries.proofs.Tallies.{child_taken, taken_child, EntryTaken, entry_taken, taken_entry, then_taken, taken_then, TallySummed, page_summed, summed_page, child_layer, entry_agrees, entries_agree, whole_agrees}
use Rattle.summaries.proofs.Keys.{rises_after, last_key_after, after_rising}
use Rattle.summaries.proofs.Parts.{first_key_of, last_key_of, tally_of, with_agrees, last_with_key, with_key_lem, Summarises, with_page_lem, rises_known, known_rises, rises_rising, FineTree, FinePart, lawful_both, lawful_each, rises_both, rises_each}

abbrev FineGap : ℕ → List Record → Gap Spelt (List ℕ) → Type 0
FineGap n rs g = FinePart (last_key_of rs) (prefixes_right_under g) (LayeredUnder layer_of_record n (keyed_under g)) (items_under (keyed_under g))

abbrev FineEntries : ℕ → List Record → List ℕ → Entries Spelt (List ℕ) → Type 0
FineEntries n rs before es =
    FinePart (last_key_of rs) (prefixes_right_from before es) (LayeredFrom layer_of_record n (keyed_from before es)) (items_from (keyed_from before es))

-- ---- from a summary to its tree
module _ (ps : List (List ℕ)) where
  pub record SummaryTree (d : ℕ) (digest : List ℕ) (x : Summary) : Type 0 where
    pub tree : SpeltTree
    pub gathers : gather d (file ps) digest ≡ some (table tree)
    pub good : Good d tree
    pub root : digest ≡ sha256 (bytes_of_page tree)
    pub digests : digests_right tree ≡ true
    pub within : All (AmongPages ps) (pages_of tree)
    pub fine : FineTree x.layer tree
    pub sums : Summarises x tree

  module _ (d : ℕ) (gives : (digest : List ℕ) (x : Summary) → summary d (file ps) digest ≡ some x → SummaryTree d digest x) where
    record SummaryGap (o : Option (List ℕ)) (n : ℕ) (rs : List Record) (u : Tally) : Type 0 where
      gap : Gap Spelt (List ℕ)
      link : link_of gap ≡ o
      gathers : gather_all (gather d (file ps)) (link_list o) ≡ some (table_under gap)
      good : AllUnder (Good d) gap
      digests : digests_right_under gap ≡ true
      within : All (AmongPages ps) (pages_of_gap gap)
      fine : FineGap n rs gap
      tally : u ≡ tally_of n (rs ++ items_under (keyed_under gap))

    layered_under : (m n : ℕ) (digest : List ℕ) (t : SpeltTree) → suc m ≡ n → FineTree m t
        → LayeredUnder layer_of_record n (keyed_under (under digest t))
    unfolding Layered keyed
    layered_under m n digest t e f =
        subst (λ (k : ℕ). LayeredUnder layer_of_record k (under digest (keyed t))) e (f.layers, f.filled)

    gap_tree : (o : Option (List ℕ)) (n : ℕ) (rs : List Record) (u : Tally) → after_gap (summary d (file ps)) o (tally_of n rs) ≡ some u
        → agrees u.layer n ≡ true → SummaryGap o n rs u
    unfolding after_gap gather_all link_list link_of table digests_right pages_of prefixes_right keyed items Layered all_lawful rises_after together
    gap_tree none n rs u h a =
        record {
          gap = empty;
          link = refl;
          gathers = refl;
          good = tt;
          digests = refl;
          within = tt;
          fine = record { prefixes = refl; keys = refl; order = refl; layers = tt };
          tally = sym (some-injective (tally_of n rs) u h) ∙ ap (tally_of n) (sym (append-nil rs));
        }
    gap_tree (some digest) n rs u h a =
        let k = child_taken (summary d (file ps) digest) (tally_of n rs) u h in
        let w = gives digest k.child k.there in
        let l = child_layer n k a in
        record {
          gap = under digest w.tree;
          link = refl;
          gathers = rw (w.gathers, append-nil (table w.tree));
          good = w.good;
          digests = and_both (subst (λ (x : List ℕ). equal digest x ≡ true) w.root (equal_refl digest)) w.digests;
          within = w.within;
          fine = record {
            prefixes = w.fine.prefixes;
            keys = w.fine.keys;
            order = rises_known (last_key_of rs) k.child.first (records w.tree) w.sums.first w.fine.order k.rises;
            layers = layered_under k.child.layer n digest w.tree l w.fine;
          };
          tally = sym k.after ∙ with_page_lem n rs k.child w.tree l w.sums;
        }

    record SummaryEntries (before : List ℕ) (es : List RawEntry) (n : ℕ) (rs : List Record) (u : Tally) : Type 0 where
      entries : Entries Spelt (List ℕ)
      raw : raw_entries entries ≡ es
      gathers : gather_all (gather d (file ps)) (links_after es) ≡ some (table_from entries)
      good : AllFrom (Good d) entries
      digests : digests_right_from entries ≡ true
      within : All (AmongPages ps) (pages_of_entries entries)
      fine : FineEntries n rs before entries
      tally : u ≡ tally_of n (rs ++ items_from (keyed_from before entries))

    -- an entry, the gap after it and the entries that follow
    entry_joined : (before : List ℕ) (e : RawEntry) (es : List RawEntry) (n : ℕ) (rs : List Record) (t u : Tally)
        → EntryTaken (summary d (file ps)) before e (tally_of n rs) t → layer_of (key_after before e) ≡ n
        → (let r : Record = record { key = key_after before e; val = e.val } in
        (g : SummaryGap e.after n (rs ++ (r ∷ [])) t)
        → SummaryEntries (key_after before e) es n ((rs ++ (r ∷ [])) ++ items_under (keyed_under g.gap)) u → SummaryEntries before (e ∷ es) n rs u)
    unfolding gather_all links_after raw_entries table digests_right pages_of prefixes_right keyed items Layered all_lawful rises_after together
    entry_joined before e es n rs t u k l g m =
        let r : Record = record { key = key_after before e; val = e.val } in
        let a : List Record = items_under (keyed_under g.gap) in
        let b : List Record = items_from (keyed_from (key_after before e) m.entries) in
        let order : rises_after (last_key_of (rs ++ (r ∷ []))) (a ++ b) ≡ true = rises_both (rs ++ (r ∷ [])) a b g.fine.order m.fine.order in
        let whole : ((rs ++ (r ∷ [])) ++ a) ++ b ≡ rs ++ (r ∷ (a ++ b)) =
        append_assoc (rs ++ (r ∷ [])) a b ∙ append_assoc rs (r ∷ []) (a ++ b) in
        record {
          entries = entry (record { shares = e.shares; remainder = e.remainder; val = e.val }) g.gap m.entries;
          raw = λ i. record { shares = e.shares; remainder = e.remainder; after = g.link i; val = e.val } ∷ m.raw i;
          gathers = gather_append (gather d (file ps)) (link_list e.after) (links_after es) ∙ ap₂ together g.gathers m.gathers;
          good = (g.good, m.good);
          digests = and_both g.digests m.digests;
          within = all_append (AmongPages ps) (pages_of_gap g.gap) (pages_of_entries m.entries) g.within m.within;
          fine = record {
            prefixes = and_both k.shares (and_both g.fine.prefixes m.fine.prefixes);
            keys = and_both k.law (lawful_both a b g.fine.keys m.fine.keys);
            order = and_both k.rises (ap (λ (o : Option (List ℕ)). rises_after o (a ++ b)) (sym (last_with_key rs r)) ∙ order);
            layers = (l, g.fine.layers, m.fine.layers);
          };
          tally = m.tally ∙ ap (tally_of n) whole;
        }

    entries_tree : (before : List ℕ) (es : List RawEntry) (n : ℕ) (rs : List Record) (u : Tally)
        → after_entries (summary d (file ps)) before es (tally_of n rs) ≡ some u → agrees u.layer n ≡ true → SummaryEntries before es n rs u
    unfolding after_entries gather_all links_after raw_entries table digests_right pages_of prefixes_right keyed items Layered all_lawful rises_after together
    entries_tree before [] n rs u h a =
        record {
          entries = end;
          raw = refl;
          gathers = refl;
          good = tt;
          digests = refl;
          within = tt;
          fine = record { prefixes = refl; keys = refl; order = refl; layers = tt };
          tally = sym (some-injective (tally_of n rs) u h) ∙ ap (tally_of n) (sym (append-nil rs));
        }
    entries_tree before (e ∷ es) n rs u h a =
        let child = summary d (file ps) in
        let r : Record = record { key = key_after before e; val = e.val } in
        let k = then_taken (after_entry child before e (tally_of n rs)) (after_entries child (key_after before e) es) u h in
        let b = entries_agree n child (key_after before e) es k.between u k.after a in
        let i = entry_taken child before e (tally_of n rs) k.between k.there in
        let l = (entry_agrees n child before e (tally_of n rs) k.between i b).0 in
        let g = gap_tree e.after n (rs ++ (r ∷ [])) k.between (ap (after_gap child e.after) (sym (with_key_lem n rs r l)) ∙ i.gap) b in
        let m =
        entries_tree (key_after before e) es n ((rs ++ (r ∷ [])) ++ items_under (keyed_under g.gap)) u
        (ap (after_entries child (key_after before e) es) (sym g.tally) ∙ k.after) a in
        entry_joined before e es n rs k.between u i l g m

    -- a page
    module _ (good : All PageBytes ps) where
      page_joined : (digest p : List ℕ) (raw : RawPage) (x : Summary) (u v : Tally) → GoodPage raw → p ≡ page_bytes raw → digest ≡ sha256 p
          → AmongPages ps p
          → find digest (file ps) ≡ some p → TallySummed v x → (g : SummaryGap raw.left x.layer [] u)
          → SummaryEntries [] raw.entries x.layer (items_under (keyed_under g.gap)) v → SummaryTree (suc d) digest x
      unfolding gather gather_page links_of_read table pages_of bytes_of_page raw_page digests_right prefixes_right keyed items Layered together last_key_after
      page_joined digest p raw x u v fields spelt root i found s g m =
          let same : record { entries = raw_entries m.entries; left = link_of g.gap } ≡ raw = λ j. record { entries = m.raw j; left = g.link j } in
          let bytes : p ≡ page_bytes (record { entries = raw_entries m.entries; left = link_of g.gap }) = spelt ∙ ap page_bytes (sym same) in
          let reads : page_at p ≡ read raw [] = ap page_at (spelt ∙ sym (append-nil (page_bytes raw))) ∙ page_reads raw [] fields in
          let a : List Record = items_under (keyed_under g.gap) in
          let b : List Record = items_from (keyed_from [] m.entries) in
          let below : List ℕ = table_under g.gap ++ table_from m.entries in
          let links : gather_all (gather d (file ps)) (link_list raw.left ++ links_after raw.entries) ≡ some below =
          gather_append (gather d (file ps)) (link_list raw.left) (links_after raw.entries) ∙ ap₂ together g.gathers m.gathers in
          let sums : Summarises x (page g.gap m.entries) =
          record {
            count = ap (λ (w : Tally). w.count) (sym m.tally) ∙ s.count;
            first = ap (λ (w : Tally). w.first) (sym m.tally) ∙ s.first;
            last = ap (λ (w : Tally). w.last) (sym m.tally) ∙ s.last;
          } in
          record {
            tree = page g.gap m.entries;
            gathers = rw (found, reads, links, bytes);
            good = (subst GoodPage (sym same) fields, g.good, m.good);
            root = root ∙ ap sha256 bytes;
            digests = and_both g.digests m.digests;
            within = (
              subst (AmongPages ps) bytes i,
              all_append (AmongPages ps) (pages_of_gap g.gap) (pages_of_entries m.entries) g.within m.within,
            );
            fine = record {
              few = omega (arith, s.few, sums.count);
              prefixes = and_both g.fine.prefixes m.fine.prefixes;
              keys = lawful_both a b g.fine.keys m.fine.keys;
              order = sym (after_rising (a ++ b)) ∙ rises_both [] a b g.fine.order m.fine.order;
              layers = (g.fine.layers, m.fine.layers);
              low = s.low;
              filled = λ e. none-ne-some _ (ap first_key_of (sym e) ∙ sums.first);
            };
            sums = sums;
          }

      page_tree : (digest p : List ℕ) (raw : RawPage) (x : Summary) → GoodPage raw → p ≡ page_bytes raw → digest ≡ sha256 p → AmongPages ps p
          → find digest (file ps) ≡ some p → summary_of_read (summary d (file ps)) (page_at p) ≡ some x → SummaryTree (suc d) digest x
      unfolding summary_of_read last_key_after
      page_tree digest p raw x fields spelt root i found h =
          let child = summary d (file ps) in
          let reads : page_at p ≡ read raw [] = ap page_at (spelt ∙ sym (append-nil (page_bytes raw))) ∙ page_reads raw [] fields in
          let k = page_summed child raw x (ap (summary_of_read child) (sym reads) ∙ h) in
          let a = whole_agrees k.whole x k.sums in
          let b = entries_agree x.layer child [] raw.entries k.left k.whole k.entries a in
          let g = gap_tree raw.left x.layer [] k.left k.gap b in
          let m =
          entries_tree [] raw.entries x.layer (items_under (keyed_under g.gap)) k.whole
          (ap (after_entries child [] raw.entries) (sym g.tally) ∙ k.entries) a in
          page_joined digest p raw x k.left k.whole fields spelt root i found k.sums g m

      found_tree : (digest : List ℕ) (x : Summary) (o : Option (List ℕ)) → find digest (file ps) ≡ o → summary_of_found (summary d (file ps)) o ≡ some x
          → SummaryTree (suc d) digest x
      unfolding summary_of_found
      found_tree digest x none e h = absurd (none-ne-some _ h)
      found_tree digest x (some p) e h =
          let at = find_all (FiledFrom ps) (file ps) digest p (file_from ps) e in
          let one = all_each PageBytes ps p good at.1 in
          page_tree digest p one.0 x one.1.0 one.1.1 at.0 at.1 e h

  module _ (good : All PageBytes ps) where
    pub summary_tree : (d : ℕ) (digest : List ℕ) (x : Summary) → summary d (file ps) digest ≡ some x → SummaryTree d digest x
    unfolding summary
    summary_tree zero digest x h = absurd (none-ne-some _ h)
    summary_tree (suc d) digest x h = found_tree d (summary_tree d) good digest x (find digest (file ps)) refl h

-- ---- from a tree to its summary
last_there : (r : Record) (rs : List Record) → (l : List ℕ) × (last_key_of (r ∷ rs) ≡ some l)
unfolding last_key_after
last_there r [] = (r.key, refl)
last_there r (q ∷ rs) = last_there q rs

-- the summary of a list of records
record SummaryOf (n : ℕ) (rs : List Record) : Type 0 where
  x : Summary
  layer : x.layer ≡ n
  sums : TallySummed (tally_of n rs) x

summary_of : (n : ℕ) (rs : List Record) → (rs ≡ [] → ⊥) → n ≤ 128 → length rs ≤ most → SummaryOf n rs
summary_of n [] f l h = absurd (f refl)
summary_of n (r ∷ rs) f l h =
    let k = last_there r rs in
    record {
      x = record { layer = n; count = length (r ∷ rs); first = r.key; last = k.0 };
      layer = refl;
      sums = record { layer = refl; count = refl; first = refl; last = k.1; low = l; few = h };
    }

module _ (pages : List Record) where
  -- the summary of a tree of layer n under its digest
  pub record TreeSummary (d n : ℕ) (t : SpeltTree) : Type 0 where
    pub value : Summary
    pub there : summary d pages (sha256 (bytes_of_page t)) ≡ some value
    pub layer : value.layer ≡ n
    pub sums : Summarises value t

  module _ (d : ℕ)
      (gives : (n : ℕ) (t : SpeltTree) → Good d t → digests_right t ≡ true → All (UnderDigest pages) (pages_of t) → FineTree n t → TreeSummary d n t) where
    fine_under : (n : ℕ) (rs : List Record) (digest : List ℕ) (t : SpeltTree) → FineGap (suc n) rs (under digest t) → length (records t) ≤ most
        → suc n ≤ 128
        → FineTree n t
    unfolding prefixes_right keyed items Layered
    fine_under n rs digest t f h l =
        record {
          few = h;
          prefixes = f.prefixes;
          keys = f.keys;
          order = rises_rising (last_key_of rs) (records t) f.order;
          layers = f.layers.0;
          low = omega arith;
          filled = f.layers.1;
        }

    no_layer : (rs : List Record) (digest : List ℕ) (t : SpeltTree) → FineGap zero rs (under digest t) → ⊥
    unfolding keyed Layered
    no_layer rs digest t f = f.layers

    gap_tallied : (n : ℕ) (rs : List Record) (g : Gap Spelt (List ℕ)) → AllUnder (Good d) g → digests_right_under g ≡ true
        → All (UnderDigest pages) (pages_of_gap g) → FineGap n rs g → length (items_under (keyed_under g)) ≤ most → n ≤ 128
        → after_gap (summary d pages) (link_of g) (tally_of n rs) ≡ some (tally_of n (rs ++ items_under (keyed_under g)))
    unfolding after_gap link_of digests_right pages_of keyed items
    gap_tallied n rs empty good r u f h l = ap (λ (qs : List Record). some (tally_of n qs)) (sym (append-nil rs))
    gap_tallied zero rs (under digest t) good r u f h l = absurd (no_layer rs digest t f)
    gap_tallied (suc n) rs (under digest t) good r u f h l =
        let k = and_inv (equal digest (sha256 (bytes_of_page t))) r in
        let w = gives n t good k.1 u (fine_under n rs digest t f h l) in
        let e : summary d pages digest ≡ some w.value = ap (summary d pages) (equal_true digest (sha256 (bytes_of_page t)) k.0) ∙ w.there in
        rw e
        (taken_child w.value (tally_of (suc n) rs) (with_agrees (suc n) (suc w.value.layer) rs (ap suc w.layer))
        (known_rises (last_key_of rs) w.value.first (records t) w.sums.first f.order)
        ∙ ap some (with_page_lem (suc n) rs w.value t (ap suc w.layer) w.sums))

    entries_tallied : (n : ℕ) (rs : List Record) (before : List ℕ) (es : Entries Spelt (List ℕ)) → AllFrom (Good d) es → digests_right_from es ≡ true
        → All (UnderDigest pages) (pages_of_entries es) → FineEntries n rs before es → length (items_from (keyed_from before es)) ≤ most → n ≤ 128
        → after_entries (summary d pages) before (raw_entries es) (tally_of n rs) ≡ some (tally_of n (rs ++ items_from (keyed_from before es)))
    unfolding after_entries raw_entries digests_right pages_of prefixes_right keyed items Layered all_lawful rises_after
    entries_tallied n rs before end good r u f h l = ap (λ (qs : List Record). some (tally_of n qs)) (sym (append-nil rs))
    entries_tallied n rs before (entry e g es) good r u f h l =
        let child = summary d pages in
        let q : Record = record_of before e in
        let raw : RawEntry = record { shares = e.shares; remainder = e.remainder; after = link_of g; val = e.val } in
        let a : List Record = items_under (keyed_under g) in
        let b : List Record = items_from (keyed_from q.key es) in
        let k = and_inv (digests_right_under g) r in
        let v = all_split (UnderDigest pages) (pages_of_gap g) (pages_of_entries es) u in
        let s = and_inv (eqb e.shares (shared before q.key)) f.prefixes in
        let s₁ = and_inv (prefixes_right_under g) s.1 in
        let y = and_inv (lawful q.key) f.keys in
        let y₁ = lawful_each a b y.1 in
        let o = and_inv (passes (last_key_of rs) q.key) f.order in
        let o₁ = rises_each (rs ++ (q ∷ [])) a b (ap (λ (z : Option (List ℕ)). rises_after z (a ++ b)) (last_with_key rs q) ∙ o.1) in
        let size = length-append a b in
        let fine : FineGap n (rs ++ (q ∷ [])) g = record { prefixes = s₁.0; keys = y₁.0; order = o₁.0; layers = f.layers.1 } in
        let rest : FineEntries n ((rs ++ (q ∷ [])) ++ a) q.key es =
        record { prefixes = s₁.1; keys = y₁.1; order = o₁.1; layers = f.layers.2 } in
        let gap = gap_tallied n (rs ++ (q ∷ [])) g good.0 k.0 v.0 fine (omega arith) l in
        let taken : EntryTaken child before raw (tally_of n rs) (tally_of n ((rs ++ (q ∷ [])) ++ a)) =
        record {
          shares = s.0;
          law = y.0;
          layers = with_agrees n (layer_of q.key) rs f.layers.0;
          rises = o.0;
          gap = ap (after_gap child (link_of g)) (with_key_lem n rs q f.layers.0) ∙ gap;
        } in
        taken_then (after_entry child before raw (tally_of n rs)) (after_entries child q.key (raw_entries es)) (tally_of n ((rs ++ (q ∷ [])) ++ a))
        (tally_of n (rs ++ (q ∷ (a ++ b))))
        (taken_entry child before raw (tally_of n rs) (tally_of n ((rs ++ (q ∷ [])) ++ a)) taken)
        (entries_tallied n ((rs ++ (q ∷ [])) ++ a) q.key es good.1 k.1 v.1 rest (omega arith) l
        ∙ ap (λ (z : List Record). some (tally_of n z)) (append_assoc (rs ++ (q ∷ [])) a b ∙ append_assoc rs (q ∷ []) (a ++ b)))

    page_tallied : (n : ℕ) (g : Gap Spelt (List ℕ)) (es : Entries Spelt (List ℕ)) → Good (suc d) (page g es) → digests_right (page g es) ≡ true
        → All (UnderDigest pages) (pages_of (page g es)) → FineTree n (page g es) → TreeSummary (suc d) n (page g es)
    unfolding summary summary_of_found summary_of_read raw_page bytes_of_page digests_right pages_of prefixes_right keyed items Layered last_key_after
    page_tallied n g es good r u f =
        let child = summary d pages in
        let a : List Record = items_under (keyed_under g) in
        let b : List Record = items_from (keyed_from [] es) in
        let k = and_inv (digests_right_under g) r in
        let v = all_split (UnderDigest pages) (pages_of_gap g) (pages_of_entries es) u.1 in
        let s = and_inv (prefixes_right_under g) f.prefixes in
        let y = lawful_each a b f.keys in
        let o = rises_each [] a b (after_rising (a ++ b) ∙ f.order) in
        let size : length (a ++ b) ≡ length a + length b = length-append a b in
        let few : length (a ++ b) ≤ most = f.few in
        let fine : FineGap n [] g = record { prefixes = s.0; keys = y.0; order = o.0; layers = f.layers.0 } in
        let fine₁ : FineEntries n a [] es = record { prefixes = s.1; keys = y.1; order = o.1; layers = f.layers.1 } in
        let gap = gap_tallied n [] g good.1 k.0 v.0 fine (omega arith) f.low in
        let rest = entries_tallied n a [] es good.2 k.1 v.1 fine₁ (omega arith) f.low in
        let x = summary_of n (a ++ b) f.filled f.low f.few in
        let raw : RawPage = record { entries = raw_entries es; left = link_of g } in
        let reads : page_at (page_bytes raw) ≡ read raw [] = ap page_at (sym (append-nil (page_bytes raw))) ∙ page_reads raw [] good.0 in
        record {
          value = x.x;
          there = rw (u.0, reads) (summed_page child raw x.x (record {
            left = tally_of n a;
            whole = tally_of n (a ++ b);
            gap = gap;
            entries = rest;
            sums = x.sums;
          }));
          layer = x.layer;
          sums = record { count = x.sums.count; first = x.sums.first; last = x.sums.last };
        }

  pub tree_summary : (d n : ℕ) (t : SpeltTree) → Good d t → digests_right t ≡ true → All (UnderDigest pages) (pages_of t) → FineTree n t
      → TreeSummary d n t
  tree_summary zero n t good r u f = absurd good
  tree_summary (suc d) n (page g es) good r u f = page_tallied d (tree_summary d) n g es good r u f
