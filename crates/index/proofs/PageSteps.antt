-- The walk over a page, and over a whole register.
use Rattle.std.specs.Prelude.{Result, Ok, Err}
use Prim.Native.Nat.{ℕ, zero, suc, ◌+◌, ◌-◌, ◌*◌, ◌≤◌, ◌<◌}
use mathlib.Core.Path.{◌≡◌, refl, sym, ap, ◌∙◌}
use mathlib.Core.Bool.{Bool, true, false, cond, not, ◌&&◌, and-true, and_assoc}
use mathlib.Core.Option.{none}
use mathlib.Core.List.{List, [], ◌∷◌, ◌++◌, append-nil}
use native.Mathlib.Omega.{arith}
use native.Mathlib.Nat.{zero-add, not-suc-le-zero}
use native.Mathlib.Numerals.{add-one}
use lib.Dec.{eqb, ltb}
use lib.ListN.{length, take, drop, get_or, set, length-append, length-set, drop_of_length-le}
use lib.Seq.{drop-cons, get_or-set_same, get_or-set_other}
use borrow.Author.Tests.{ltb-true, ltb-false, eq-eqb, ne_eqb}
use borrow.Table.Steps.{cases}
use Rattle.limits.specs.Limits.{deepest, most}
use Rattle.bytestring.specs.Bytes.{Bytes}
use Rattle.page.specs.Reading.{read, ends_early, departs, Reader, and_then, times}
use Rattle.page.specs.Page.{RawEntry, RawPage, entry as entry_reader, page as page_reader}
use Rattle.page_reader.specs.Place.{read_stop, link_at, PageHere, PageIs}
use Rattle.page_reader.specs.declared.Stop.{Stop}
use Rattle.page_reader.specs.declared.Stop.TheVariants.{EndsEarly, Departs}
use Rattle.page_reader.specs.declared.PageAt.{PageAt}
use Rattle.page_reader.proofs.Places.{then_stops}
use Rattle.tree.specs.Tree.{page, Gap, empty, under, Entries, end, entry, items, items_under}
use Rattle.tree.specs.Record.{Spelt}
use Rattle.tree.specs.Table.{SpeltTree, link_of, raw_entries, raw_page, bytes_of_page, table_under, read_under, read_from, read_tree}
use Rattle.tree.specs.Judge.{prefixes_right}
use Rattle.tree.specs.Place.{first_entry}
use Rattle.word.specs.Word.{RecordWord, SpanWord}
use Rattle.index.specs.Slot.{slots, slots_under, slots_from, bare, filled, lawful_slots, rising_after, last_after}
use Rattle.index.specs.Chain.{Chain, labels_on, chain_if, chains, chains_under, chains_from, LabelsAt, ChainWords, ChainsAt}
use Rattle.index.specs.Walk.{DepthWord, HoldsWords, ChainNoted, holding, Moved, PartWalked, PageSays, EntriesSay, PageTaken, Entered, WalkSays}
use Rattle.index.specs.declared.walk.WalkState.{WalkState}
use Rattle.page_reader.proofs.Spelling.{page_count}
use Rattle.index.proofs.Moves.{moved_seq}
use Rattle.index.proofs.Lengths.{from_entries, none_read, tree_page_ends, tree_page_part, tree_page_count, tree_page_first, link_some, link_page}
use Rattle.index.proofs.PageTests.{page_holding}
use Rattle.index.proofs.SlotLaws.{slots_items, slots_count}
use Rattle.index.proofs.ChainRows.{Left, row_kept, labels_end, labels_linked, labels_more, few_chains_lem}
use Rattle.index.proofs.EntrySteps.{page_is, says_is, entries_are, GapSays, gap_none, gap_page, gap_ends}

-- ---- below the deepest page
tree_deep : (n : ℕ) (l : List ℕ) (b : ℕ) → n ≡ 0 → read_tree n (b ∷ l) ≡ departs
unfolding read_tree
tree_deep n l b e = rw e

tree_end : (n : ℕ) → n ≡ 0 → read_tree n [] ≡ ends_early
unfolding read_tree
tree_end n e = rw e

module _ (s : List ℕ) (level link above : ℕ) (index row last : List ℕ) (st : WalkState) where
  pub too_deep : 129 ≤ level → st.next < length s → PageSays s index row last level link above st (Err Departs) index row last
  unfolding PageSays
  too_deep h k labels number leads = rw (drop-cons s st.next 0 k) (tree_deep (deepest - level) (drop (suc st.next) s) (get_or s st.next 0) (omega arith))

  pub deep_end : 129 ≤ level → length s ≤ st.next → PageSays s index row last level link above st (Err EndsEarly) index row last
  unfolding PageSays
  deep_end h k labels number leads = rw (drop_of_length-le s k) (tree_end (deepest - level) (omega arith))

-- ---- a page
-- what follows a page that was read
abbrev after_page : ℕ → RawPage → Reader SpeltTree
after_page d p s₁ = and_then (read_under (read_tree d) p.left s₁) (λ g s₂. and_then (read_from (read_tree d) p.entries s₂) (λ es s₃. read (page g es) s₃))

tree_page : (level : ℕ) (l : List ℕ) → level < 129 → read_tree (deepest - level) l ≡ and_then (page_reader l) (after_page (deepest - suc level))
unfolding read_tree
tree_page level l h = let e : deepest - level ≡ suc (deepest - suc level) = omega arith in rw e

pub page_stops : (s : List ℕ) (level link above : ℕ) (index row last : List ℕ) (st : WalkState) (got : Result PageAt Stop) (stop : Stop) → level < 129 → PageIs s st.next got → got ≡ Err stop
    → PageSays s index row last level link above st (Err stop) index row last
unfolding PageSays
page_stops s level link above index row last st got stop h w q labels number leads = tree_page level (drop st.next s) h ∙ then_stops _ stop (page_is s st.next w q)

-- the slots under a page's first gap and of its entries, by the places where these were read
page_slots : (level at : ℕ) (g : Gap Spelt (List ℕ)) (es : Entries Spelt (List ℕ)) (whole first below₀ below₁ : ℕ)
    → first ≡ at + first_entry es → whole ≡ at + length (bytes_of_page (page g es)) → below₀ ≡ whole → below₁ ≡ below₀ + length (table_under g)
    → slots level at (page g es) ≡ slots_under (level + 1) below₀ g ++ slots_from level at first below₁ [] es
unfolding slots
page_slots level at g es whole first below₀ below₁ p q r z = rw (p, z, r, q)

-- the same of its chains, where it has entries
abbrev chain_at : ℕ → ℕ → List (List ℕ) → SpeltTree → ℕ → Chain
chain_at from at labels t below = record { labels = labels; page = at; here = t; from = from; records = length (items t); below = below }

page_chains_lem : (from at : ℕ) (labels : List (List ℕ)) (g : Gap Spelt (List ℕ)) (es : Entries Spelt (List ℕ)) (from₀ from₁ below₀ below₁ : ℕ) → 0 < length (raw_entries es)
    → from₀ ≡ from → from₁ ≡ from₀ + length (items_under g) → below₀ ≡ at + length (bytes_of_page (page g es)) → below₁ ≡ below₀ + length (table_under g)
    → chains from at labels (page g es)
    ≡ chain_at from at labels (page g es) (length (chains_under from₀ below₀ [] g ++ chains_from from₁ below₁ es)) ∷ (chains_under from₀ below₀ [] g ++ chains_from from₁ below₁ es)
unfolding chains labels_on chain_if raw_entries
page_chains_lem from at labels g end from₀ from₁ below₀ below₁ some o p q r = absurd (omega arith)
page_chains_lem from at labels g (entry e h es) from₀ from₁ below₀ below₁ some o p q r = rw (r, q, p, o)

-- a page was read, and its test was taken in
module _ (s index row last : List ℕ) (level link above : ℕ) (st st₁ : WalkState) (p : PageAt)
    (slice : Bytes s) (low : level < 129) (here : PageHere s st.next p) (taken : PageTaken link p st st₁) where
  page_moved : (g : Gap Spelt (List ℕ)) (es : Entries Spelt (List ℕ)) → link_of g ≡ link_at s p.left → raw_entries es ≡ here.row.entries
      → Moved s index row last [] [] true (holding link (page g es)) st st₁ index row last
  unfolding lawful_slots rising_after last_after ChainsAt
  page_moved g es left row = record {
    ahead = omega (arith, taken.next, here.whole.ahead);
    within = rw taken.next here.whole.within;
    count = omega (arith, taken.count);
    chain_count = omega (arith, taken.chains);
    prefixes = λ e. (sym taken.prefixes ∙ e, refl);
    fill = rw (← page_holding s link p.count p.left g es left (tree_page_count s st.next p slice here g es left row)) taken.fill;
    lawful = taken.lawful ∙ sym (and-true st.lawful);
    rising = λ k _ _. taken.rising ∙ sym (and-true st.rising);
    latest = λ k _ l. rw taken.last l;
    indexed = λ before e q. rw append-nil q;
    room = refl;
    kept = λ i h. refl;
    chained = λ h. tt;
  }

  -- ---- a page with entries: a chain is entered, and noted when all below it was passed
  module _ (st₂ : WalkState) (entered : Entered st₁ st₂) (labels : List (List ℕ)) (number : length labels - 1 ≡ above)
      (leads : LabelsAt s link (st.next - 47 * above) labels st.next) where
    module _ (g : Gap Spelt (List ℕ)) (es : Entries Spelt (List ℕ)) (left : link_of g ≡ link_at s p.left) (entries : raw_entries es ≡ here.row.entries)
        (st' : WalkState) (index' row' last' row'' : List ℕ) (later : List Chain)
        (noted : ChainNoted row' st₁.chains st.next link above p.end st₁.count (st'.count - st₁.count) (st'.chains - (st₁.chains + 1)) row'')
        (m : Moved s index row last (slots level st.next (page g es)) later (prefixes_right (page g es)) (filled (page g es)) st₂ st' index' row' last') where
      abbrev here_chain : Chain
      here_chain = chain_at st.count st.next labels (page g es) (length later)

      counted : st'.count ≡ st.count + length (items (page g es))
      counted = omega (arith, m.count, entered.count, taken.count, slots_items level st.next (page g es))

      -- the words of the chain
      chain_words : (w v : ℕ) → RecordWord w st.next link above
          → SpanWord v p.end st₁.count (st'.count - st₁.count) (st'.chains - (st₁.chains + 1))
          → st'.count ≤ most → length later ≤ length (items (page g es)) → ChainWords s w v here_chain
      unfolding raw_page
      chain_words w v a d few small =
          let ends = tree_page_ends s st.next p slice here g es left entries in
          record {
            page = a.page;
            above = a.third ∙ sym number;
            start = omega (arith, a.third, labels_end s link (st.next - 47 * above) labels st.next leads);
            labels = rw (a.entry, a.third) leads;
            reads = rw (d.ends, left, entries) here.whole;
            ends = d.ends ∙ ends;
            within = rw d.ends here.whole.within;
            bytes = rw d.ends (sym (tree_page_part s st.next p slice here g es left entries));
            from = d.from (omega (arith, counted, taken.count)) ∙ taken.count;
            records = d.records (omega (arith, counted, taken.count)) ∙ omega (arith, counted, taken.count);
            below = d.below (omega (arith, counted, m.chain_count, entered.chains)) ∙ omega (arith, m.chain_count, entered.chains);
          }

      -- the row with these words
      row_length : length row'' ≡ length row'
      row_length =
          cases (ltb (2 * st₁.chains + 1) (length row'))
          (λ q.
          let z = noted.room (ltb-true (2 * st₁.chains + 1) (length row') q) in
          rw z.2 (length-set (set row' (2 * st₁.chains) z.0) (2 * st₁.chains + 1) z.1 ∙ length-set row' (2 * st₁.chains) z.0))
          (λ q. ap length (noted.full (ltb-false (2 * st₁.chains + 1) (length row') q)))

      row_other : (i : ℕ) → (i ≡ 2 * st₁.chains → ⊥) → (i ≡ 2 * st₁.chains + 1 → ⊥) → get_or row'' i 0 ≡ get_or row' i 0
      row_other i f h =
          cases (ltb (2 * st₁.chains + 1) (length row'))
          (λ q.
          let z = noted.room (ltb-true (2 * st₁.chains + 1) (length row') q) in
          rw (z.2, get_or-set_other (set row' (2 * st₁.chains) z.0) (2 * st₁.chains + 1) i z.1 0 h, get_or-set_other row' (2 * st₁.chains) i z.0 0 f))
          (λ q. rw (noted.full (ltb-false (2 * st₁.chains + 1) (length row') q)))

      chain_noted : st'.count ≤ most → length later ≤ length (items (page g es)) → 2 * st.chains + 1 < length row''
          → ChainWords s (get_or row'' (2 * st.chains) 0) (get_or row'' (2 * st.chains + 1) 0) here_chain
      chain_noted few small h =
          let room : 2 * st₁.chains + 1 < length row' = omega (arith, row_length, taken.chains) in
          let z = noted.room room in
          let k : st.chains ≡ st₁.chains = sym taken.chains in
          let n = length-set row' (2 * st₁.chains) z.0 in
          rw (
            k,
            z.2,
            get_or-set_other (set row' (2 * st₁.chains) z.0) (2 * st₁.chains + 1) (2 * st₁.chains) z.1 0 (λ e. omega arith),
            get_or-set_same row' (2 * st₁.chains) z.0 0 (omega arith),
            get_or-set_same (set row' (2 * st₁.chains) z.0) (2 * st₁.chains + 1) z.1 0 (omega (arith, n)),
          ) (chain_words z.0 z.1 z.3 z.4 few small)

      chain_moved : length later ≤ length (items (page g es))
          → Moved s index row last (slots level st.next (page g es)) (here_chain ∷ later) (prefixes_right (page g es)) (holding link (page g es) && filled (page g es)) st st' index' row'' last'
      unfolding ChainsAt
      chain_moved small =
          let b = page_moved g es left entries in
          record {
            ahead = omega (arith, m.ahead, entered.next, b.ahead);
            within = m.within;
            count = omega (arith, m.count, entered.count, taken.count);
            chain_count = omega (arith, m.chain_count, entered.chains, taken.chains);
            prefixes = λ e. let q = m.prefixes e in (sym (entered.prefixes ∙ taken.prefixes) ∙ q.0, q.1);
            fill = m.fill ∙ rw (entered.fill, b.fill) (and_assoc st.filled (holding link (page g es)) (filled (page g es)));
            lawful = m.lawful ∙ rw (entered.lawful, taken.lawful);
            rising = λ k h l. m.rising k h (rw (entered.last, taken.last) l) ∙ rw (entered.rising, taken.rising);
            latest = λ k h l. m.latest k h (rw (entered.last, taken.last) l);
            indexed = λ before e q. m.indexed before (e ∙ sym taken.count ∙ sym entered.count) q;
            room = row_length ∙ m.room;
            kept = λ i h. row_other i (λ e. omega (arith, taken.chains)) (λ e. omega (arith, taken.chains)) ∙ m.kept i (omega (arith, entered.chains, taken.chains));
            chained = λ h. (
              chain_noted h small,
              row_kept s row' row'' (suc st.chains) later row_length
                  (λ i f k. row_other i (λ e. omega (arith, taken.chains)) (λ e. omega (arith, taken.chains)))
                  (let k : st₂.chains ≡ suc st.chains = omega (arith, entered.chains, taken.chains) in rw k at (m.chained h)),
            );
          }

    -- what is under its first gap, and its entries with what is under their gaps
    page_done : 0 < p.count → (index₁ row₁ last₁ : List ℕ) (st₃ : WalkState) (r : Result WalkState Stop) (index' row' last' row'' : List ℕ)
        → GapSays s index row last level p.left st₂ (Ok st₃) index₁ row₁ last₁
        → EntriesSay s index₁ row₁ last₁ level st.next p.first p.count st₃ r index' row' last'
        → Left row' st₁.chains st.next link above p.end st₁.count r row''
        → PartWalked s index row last 0 (read_tree (deepest - level) (drop st.next s)) (slots level st.next) (chains st.count st.next labels)
        prefixes_right (λ t. holding link t && filled t) st r index' row'' last'
    unfolding EntriesSay filled prefixes_right
    page_done some index₁ row₁ last₁ st₃ (Ok st') index' row' last' row'' gap rest noted =
        let o = rest here.row.entries p.past here.row.reads in
        let g : Gap Spelt (List ℕ) = gap.what in
        let es : Entries Spelt (List ℕ) = o.what in
        let (left, below) = gap_ends s index row last level p.left st₂ st₃ index₁ row₁ last₁ slice gap in
        let entries : raw_entries es ≡ here.row.entries = from_entries _ here.row.entries _ _ es o.reads in
        let ends = tree_page_ends s st.next p slice here g es left entries in
        let start : st₂.next ≡ p.end = entered.next ∙ taken.next in
        let parts = page_slots level st.next g es p.end p.first st₂.next st₃.next
        (tree_page_first s st.next p slice here g es left entries) ends start below in
        let later : List Chain = chains_under st₂.count st₂.next [] g ++ chains_from st₃.count st₃.next es in
        let pages = page_chains_lem st.count st.next labels g es st₂.count st₃.count st₂.next st₃.next
        (omega (arith, tree_page_count s st.next p slice here g es left entries)) (entered.count ∙ taken.count)
        (omega (arith, gap.moved.count, slots_count (level + 1) st₂.next g)) (start ∙ ends) below in
        let n = length-append (slots_under (level + 1) st₂.next g) (slots_from level st.next p.first st₃.next [] es) in
        let c = length-append (chains_under st₂.count st₂.next [] g) (chains_from st₃.count st₃.next es) in
        record {
          what = page g es;
          reads = tree_page level (drop st.next s) low ∙ rw (here.whole.reads, ← start, gap.reads, o.reads);
          few = rw parts (omega (arith, gap.few, o.few, n, start, here.start.ahead, here.row.ahead, here.inside));
          few_chains = rw pages (omega (arith, gap.few_chains, o.few_chains, c, start, here.whole.ahead));
          moved = rw pages (chain_moved g es left entries st' index' row' last' row'' later noted (rw parts (moved_seq gap.moved o.moved))
              (omega (arith, ap length pages, few_chains_lem st.count st.next labels (page g es))));
        }
    page_done some index₁ row₁ last₁ st₃ (Err stop) index' row' last' row'' gap rest noted =
        let start : st₂.next ≡ p.end = entered.next ∙ taken.next in
        tree_page level (drop st.next s) low ∙ rw (here.whole.reads, ← start, gap.reads) (then_stops _ stop (rest here.row.entries p.past here.row.reads))

  page_stopped : (st₂ : WalkState) → st₂.next ≡ st₁.next → (index₁ row₁ last₁ : List ℕ) (stop : Stop) (index' row' last' : List ℕ)
      → GapSays s index row last level p.left st₂ (Err stop) index₁ row₁ last₁
      → PageSays s index row last level link above st (Err stop) index' row' last'
  unfolding PageSays
  page_stopped st₂ e index₁ row₁ last₁ stop index' row' last' gap labels number leads =
      tree_page level (drop st.next s) low ∙ rw (here.whole.reads, ← taken.next, ← e) (then_stops _ stop gap)

  left_within : (p.left ≡ 0 → ⊥) → p.left + 32 ≤ length s
  left_within f = omega (arith, here.left (omega (arith, f)), here.whole.within)

  module _ (st₂ : WalkState) (entered : Entered st₁ st₂) (some : p.count ≡ 0 → ⊥) where
    -- nothing is in the gap before its entries
    pub page_none : p.left ≡ 0 → (r : Result WalkState Stop) (index' row' last' row'' : List ℕ)
        → EntriesSay s index row last level st.next p.first p.count st₂ r index' row' last'
        → Left row' st₁.chains st.next link above p.end st₁.count r row'' → PageSays s index row last level link above st r index' row'' last'
    unfolding PageSays
    page_none h r index' row' last' row'' rest noted labels number leads =
        page_done st₂ entered labels number leads (omega (arith, some)) index row last st₂ r index' row' last' row''
        (gap_none s index row last level p.left st₂ h (rw (entered.next, taken.next) here.whole.within)) rest noted

    -- a page is in that gap
    pub page_left : (p.left ≡ 0 → ⊥) → (index₁ row₁ last₁ : List ℕ) (got : Result WalkState Stop) (st₃ : WalkState)
        → PageSays s index row last (level + 1) p.left 0 st₂ got index₁ row₁ last₁ → got ≡ Ok st₃ → (r : Result WalkState Stop) (index' row' last' row'' : List ℕ)
        → EntriesSay s index₁ row₁ last₁ level st.next p.first p.count st₃ r index' row' last'
        → Left row' st₁.chains st.next link above p.end st₁.count r row'' → PageSays s index row last level link above st r index' row'' last'
    unfolding PageSays
    page_left h index₁ row₁ last₁ got st₃ w q r index' row' last' row'' rest noted labels number leads =
        page_done st₂ entered labels number leads (omega (arith, some)) index₁ row₁ last₁ st₃ r index' row' last' row''
        (gap_page s index row last level p.left st₂ (Ok st₃) index₁ row₁ last₁ h (left_within h) (says_is s index row last (level + 1) p.left 0 st₂ index₁ row₁ last₁ w q))
        rest noted

    -- the walk over that page stopped
    pub left_stopped : (p.left ≡ 0 → ⊥) → (index₁ row₁ last₁ : List ℕ) (got : Result WalkState Stop) (stop : Stop)
        → PageSays s index row last (level + 1) p.left 0 st₂ got index₁ row₁ last₁ → got ≡ Err stop
        → PageSays s index row last level link above st (Err stop) index₁ row₁ last₁
    left_stopped h index₁ row₁ last₁ got stop w q =
        page_stopped st₂ entered.next index₁ row₁ last₁ stop index₁ row₁ last₁
        (gap_page s index row last level p.left st₂ (Err stop) index₁ row₁ last₁ h (left_within h) (says_is s index row last (level + 1) p.left 0 st₂ index₁ row₁ last₁ w q))

  -- ---- a page without entries
  module _ (none-there : p.count ≡ 0) where
    no_entries : here.row.entries ≡ []
    no_entries = none_read here.row.entries (page_count slice here ∙ none-there)

    -- and without a left link
    pub page_bare : p.left ≡ 0 → PageSays s index row last level link above st (Ok st₁) index row last
    unfolding PageSays slots chains labels_on chain_if prefixes_right filled read_under read_from link_at link_of raw_entries
    page_bare h labels number leads =
        let nothing : link_at s p.left ≡ none = rw h in
        record {
          what = page empty end;
          reads = tree_page level (drop st.next s) low ∙ rw (here.whole.reads, no_entries, nothing, taken.next);
          few = omega (arith, taken.next, here.whole.ahead);
          few_chains = omega (arith, taken.next, here.whole.ahead);
          moved = rw (and-true (holding link (page empty end))) (page_moved empty end (sym nothing) (sym no_entries));
        }

    -- its left link leads on to the next page of its chain
    labels_on_lem : (p.left ≡ 0 → ⊥) → (to pages : ℕ) → to ≡ cond (eqb link 0) p.left link → pages ≡ cond (eqb link 0) 0 (above + 1)
        → (labels : List (List ℕ)) → length labels - 1 ≡ above → LabelsAt s link (st.next - 47 * above) labels st.next
        → (length (labels ++ (take 32 (drop p.left s) ∷ [])) - 1 ≡ pages)
        × LabelsAt s to (st₁.next - 47 * pages) (labels ++ (take 32 (drop p.left s) ∷ [])) st₁.next
        × (0 < to)
    unfolding LabelsAt
    labels_on_lem f to pages e n [] number leads =
        let z : eqb link 0 ≡ true = eq-eqb link 0 leads.0 in
        let e₁ : to ≡ p.left = e ∙ rw z in
        let n₁ : pages ≡ 0 = n ∙ rw z in
        (omega arith, rw (e₁, n₁) (omega (arith, f), left_within f, refl, omega arith), omega (arith, f))
    labels_on_lem f to pages e n (d ∷ more) number leads =
        let (ends, place, bytes) = link_page s st.next p slice here none-there f in
        let positive : 0 < link = labels_linked s link (st.next - 47 * above) d more st.next leads in
        let z : eqb link 0 ≡ false = ne_eqb link 0 (λ q. omega arith) in
        let e₁ : to ≡ link = e ∙ rw z in
        let n₁ : pages ≡ above + 1 = n ∙ rw z in
        let next : st₁.next ≡ st.next + 47 = taken.next ∙ ends in
        let start : st₁.next - 47 * pages ≡ st.next - 47 * above = omega arith in
        let long : length (d ∷ (more ++ (take 32 (drop p.left s) ∷ []))) - 1 ≡ pages = omega (arith, length-append more (take 32 (drop p.left s) ∷ [])) in (
          long,
          rw (start, next, e₁) (labels_more s link (st.next - 47 * above) d more st.next (take 32 (drop p.left s)) leads (omega (arith, here.whole.within)) (rw (place) bytes) (rw (← place))),
          omega arith,
        )

    module _ (linked : p.left ≡ 0 → ⊥) (t : SpeltTree) where
      abbrev digest : List ℕ
      digest = take 32 (drop p.left s)

      abbrev above_it : SpeltTree
      above_it = page (under digest t) end

      link_of_lem : link_of (under digest t) ≡ link_at s p.left
      unfolding link_of
      link_of_lem = sym (link_some s p.left linked)

      entries_of_lem : raw_entries end ≡ here.row.entries
      unfolding raw_entries
      entries_of_lem = sym no_entries

      begins : st₁.next ≡ st.next + length (bytes_of_page above_it)
      begins = taken.next ∙ tree_page_ends s st.next p slice here (under digest t) end link_of_lem entries_of_lem

      on_reads : (rest : List ℕ) → read_tree (deepest - (level + 1)) (drop st₁.next s) ≡ read t rest → read_tree (deepest - level) (drop st.next s) ≡ read above_it rest
      unfolding read_under read_from
      on_reads rest q =
          tree_page level (drop st.next s) low ∙ rw (here.whole.reads, no_entries, link_some s p.left linked, ← taken.next, ← add-one level, q)

      on_slots : slots level st.next above_it ≡ slots (level + 1) st₁.next t
      unfolding slots
      on_slots = rw (begins, append-nil)

      on_chains : (labels : List (List ℕ)) → chains st.count st.next labels above_it ≡ chains st₁.count st₁.next (labels ++ (digest ∷ [])) t
      unfolding chains labels_on chain_if
      on_chains labels = rw (begins, taken.count, append-nil)

      on_prefixes : prefixes_right above_it ≡ prefixes_right t
      unfolding prefixes_right
      on_prefixes = and-true (prefixes_right t)

      on_filled : (to : ℕ) → 0 < to → filled above_it ≡ (holding to t && filled t)
      unfolding filled holding
      on_filled zero h = absurd (omega arith)
      on_filled (suc before) h = and-true (not (bare t) && filled t)

    on_stops : (p.left ≡ 0 → ⊥) → (stop : Stop) → read_tree (deepest - (level + 1)) (drop st₁.next s) ≡ read_stop stop
        → read_tree (deepest - level) (drop st.next s) ≡ read_stop stop
    unfolding read_under
    on_stops linked stop q =
        tree_page level (drop st.next s) low
        ∙ rw (here.whole.reads, link_some s p.left linked, ← taken.next, ← add-one level) (then_stops _ stop (then_stops _ stop q))

    pub page_on : (p.left ≡ 0 → ⊥) → (to pages : ℕ) → to ≡ cond (eqb link 0) p.left link → pages ≡ cond (eqb link 0) 0 (above + 1)
        → (r : Result WalkState Stop) (index' row' last' : List ℕ) → PageSays s index row last (level + 1) to pages st₁ r index' row' last'
        → PageSays s index row last level link above st r index' row' last'
    unfolding PageSays
    page_on linked to pages e n (Ok st') index' row' last' w labels number leads =
        let (long, led, positive) = labels_on_lem linked to pages e n labels number leads in
        let o = w (labels ++ (digest linked (page empty end) ∷ [])) long led in
        let t : SpeltTree = o.what in
        record {
          what = above_it linked t;
          reads = on_reads linked t (drop st'.next s) o.reads;
          few = rw (on_slots linked t) (omega (arith, o.few, taken.next, here.whole.ahead));
          few_chains = rw (on_chains linked t labels) (omega (arith, o.few_chains, taken.next, here.whole.ahead));
          moved = rw (on_slots linked t, on_chains linked t labels, on_prefixes linked t, on_filled linked t to positive)
              (moved_seq (page_moved (under (digest linked t) t) end (link_of_lem linked t) (entries_of_lem linked t)) o.moved);
        }
    page_on linked to pages e n (Err stop) index' row' last' w labels number leads =
        let (long, led, positive) = labels_on_lem linked to pages e n labels number leads in
        on_stops linked stop (w (labels ++ (digest linked (page empty end) ∷ [])) long led)

pub least_of : (b : Bool) (x y n : ℕ) → x ≤ n → y ≤ n → cond b x y ≤ n
least_of true x y n h k = h
least_of false x y n h k = k

-- how far the walk over a page under a gap goes
pub page_far : (s index row last : List ℕ) (level link : ℕ) (st : WalkState) (index' row' last' : List ℕ) (got : Result WalkState Stop) (st' : WalkState)
    → (link ≡ 0 → ⊥) → link + 32 ≤ length s → PageSays s index row last level link 0 st got index' row' last' → got ≡ Ok st'
    → (st.next ≤ st'.next) × (st'.next ≤ length s) × (st'.count + st.next ≤ st.count + st'.next) × (st'.chains + st.next ≤ st.chains + st'.next)
    × (st.count ≤ st'.count) × (st.chains ≤ st'.chains)
unfolding PageSays LabelsAt
page_far s index row last level link st index' row' last' got st' f fits w q =
    let o = says_is s index row last level link 0 st index' row' last' w q (take 32 (drop link s) ∷ []) refl (omega (arith, f), fits, refl, omega arith) in
    (o.moved.ahead, o.moved.within, omega (arith, o.moved.count, o.few), omega (arith, o.moved.chain_count, o.few_chains), omega (arith, o.moved.count), omega (arith, o.moved.chain_count))

-- what was counted before the entries of a page can be taken from what is counted after them
pub entries_counted : (s index row last : List ℕ) (level at first n : ℕ) (st : WalkState) (index' row' last' : List ℕ) (r : Result WalkState Stop) (es : List RawEntry) (past k from : ℕ)
    → times n entry_reader (drop first s) ≡ read es (drop past s) → from ≤ st.count → k < st.chains
    → EntriesSay s index row last level at first n st r index' row' last' → (st' : WalkState) → r ≡ Ok st' → (from ≤ st'.count) × (k < st'.chains)
unfolding EntriesSay
entries_counted s index row last level at first n st index' row' last' r es past k from q h g w st' e =
    let o = entries_are s index row last level at first n st index' row' last' w e es past q in
    (omega (arith, o.moved.count), omega (arith, o.moved.chain_count))

-- ---- the whole register
nothing_indexed : (index : List ℕ) → HoldsWords DepthWord index []
unfolding HoldsWords
nothing_indexed index i h k = absurd (not-suc-le-zero h)

abbrev start_state : WalkState
start_state = record { next = 0; count = 0; chains = 0; last = 0; prefixes = true; lawful = true; rising = true; filled = true }

pub walk_says : (s index row last : List ℕ) (r : Result WalkState Stop) (index' row' last' : List ℕ) → PageSays s index row last 0 0 0 start_state r index' row' last' → WalkSays s r index' row'
unfolding PageSays LabelsAt
walk_says s index row last (Ok st) index' row' last' w =
    let o = w [] refl (refl, refl) in
    record {
      root = o.what;
      reads = o.reads;
      within = o.moved.within;
      count = o.moved.count ∙ zero-add (length (slots 0 0 o.what));
      chain_count = o.moved.chain_count ∙ zero-add (length (chains 0 0 [] o.what));
      prefixes = λ e. (o.moved.prefixes e).1;
      fill = o.moved.fill;
      lawful = o.moved.lawful;
      rising = λ h. o.moved.rising [] h (record { room = omega arith; bytes = refl });
      indexed = o.moved.indexed [] refl (nothing_indexed index);
      chained = o.moved.chained;
    }
walk_says s index row last (Err stop) index' row' last' w = w [] refl (refl, refl)
