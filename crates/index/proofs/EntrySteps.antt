-- The walk over the entries of a page.
use Rattle.page_reader.specs.declared.PageAt.{PageAt}
use Rattle.std.specs.Prelude.{Result, Ok, Err}
use Prim.Native.Nat.{ℕ, zero, suc, ◌+◌, ◌-◌, ◌≤◌, ◌<◌}
use mathlib.Core.Path.{◌≡◌, refl, sym, ap, subst, ◌∙◌}
use mathlib.Core.Bool.{Bool, true}
use mathlib.Core.List.{List, [], ◌∷◌, ◌++◌}
use native.Mathlib.Omega.{arith}
use native.Mathlib.Numerals.{add-one}
use native.Mathlib.Nat.{sub-zero}
use lib.ListN.{length, take, drop, length-append, length-take}
use lib.Dec.{eqb}
use lib.Seq.{take-nil}
use Rattle.limits.specs.Limits.{deepest}
use Rattle.bytestring.specs.Bytes.{Bytes}
use Rattle.key.specs.Key.{shared}
use Rattle.value.specs.Value.{value_in}
use Rattle.page.specs.Reading.{read, Reader, and_then, times}
use Rattle.page.specs.Page.{RawEntry, entry_bytes, entry as entry_reader}
use Rattle.page_reader.specs.Place.{Reads, link_at, entry_at, EntryHere, Located, LocatedIs, PageIs}
use Rattle.page_reader.specs.declared.Stop.{Stop}
use Rattle.page_reader.specs.declared.EntryAt.{EntryAt}
use Rattle.page.proofs.Readers.{read_sub, andThen-inv}
use Rattle.page_reader.proofs.Places.{then_stops}
use Rattle.page_reader.proofs.Located.{entry_place}
use Rattle.page_keys.specs.Buffer.{HoldsKey, Extended, PrefixIs}
use Rattle.tree.specs.Tree.{Gap, empty, under, Entries, end, entry, items_under}
use Rattle.tree.specs.Record.{Spelt, record_of}
use Rattle.tree.specs.Table.{link_of, table_under, read_under, read_from, read_tree}
use Rattle.tree.specs.Judge.{prefixes_right, prefixes_right_under, prefixes_right_from}
use Rattle.tree.specs.Place.{length_of_entry}
use Rattle.index.specs.Slot.{slots, slots_under, slots_from, filled, filled_under, filled_from}
use Rattle.index.specs.Chain.{chains, chains_under, chains_from, LabelsAt}
use Rattle.index.specs.Walk.{holding, Moved, PartWalked, PageSays, EntriesSay, Taken}
use Rattle.index.specs.declared.walk.WalkState.{WalkState}
use Rattle.index.proofs.Moves.{moved_none, moved_seq}
use Rattle.index.proofs.Lengths.{under_link, under_ends, entry_ends}
use Rattle.index.proofs.SlotLaws.{slots_count}

-- ---- what an answer says, at the answer that it is
pub located_is : (s : List ℕ) (at : ℕ) {r x : Result EntryAt Stop} → LocatedIs s at r → r ≡ x → LocatedIs s at x
located_is s at w e = subst (LocatedIs s at) e w

pub page_is : (s : List ℕ) (at : ℕ) {r x : Result PageAt Stop} → PageIs s at r → r ≡ x → PageIs s at x
page_is s at w e = subst (PageIs s at) e w

pub says_is : (s index row last : List ℕ) (level link above : ℕ) (st : WalkState) (index' row' last' : List ℕ) {r x : Result WalkState Stop}
    → PageSays s index row last level link above st r index' row' last' → r ≡ x → PageSays s index row last level link above st x index' row' last'
says_is s index row last level link above st index' row' last' w e = subst (λ (y : Result WalkState Stop). PageSays s index row last level link above st y index' row' last') e w

pub entries_are : (s index row last : List ℕ) (level pg first n : ℕ) (st : WalkState) (index' row' last' : List ℕ) {r x : Result WalkState Stop}
    → EntriesSay s index row last level pg first n st r index' row' last' → r ≡ x → EntriesSay s index row last level pg first n st x index' row' last'
entries_are s index row last level pg first n st index' row' last' w e = subst (λ (y : Result WalkState Stop). EntriesSay s index row last level pg first n st y index' row' last') e w

-- ---- gaps
-- what is under the gap whose link stands at `link`, or nothing where `link` is 0
abbrev pub GapSays : List ℕ → List ℕ → List ℕ → List ℕ → ℕ → ℕ → WalkState → Result WalkState Stop → List ℕ → List ℕ → List ℕ → Type 0
GapSays s index row last level link st r index' row' last' =
    PartWalked s index row last 0 (read_under (read_tree (deepest - suc level)) (link_at s link) (drop st.next s)) (slots_under (level + 1) st.next)
    (chains_under st.count st.next []) prefixes_right_under filled_under st r index' row' last'

pub gap_none : (s index row last : List ℕ) (level link : ℕ) (st : WalkState) → link ≡ 0 → st.next ≤ length s
    → GapSays s index row last level link st (Ok st) index row last
unfolding read_under link_at slots chains prefixes_right filled
gap_none s index row last level link st e h =
    rw e (record { what = empty; reads = refl; few = omega arith; few_chains = omega arith; moved = moved_none h })

gap_some : (s index row last : List ℕ) (level k : ℕ) (st : WalkState) (r : Result WalkState Stop) (index' row' last' : List ℕ) → suc k + 32 ≤ length s
    → PageSays s index row last (level + 1) (suc k) 0 st r index' row' last' → GapSays s index row last level (suc k) st r index' row' last'
unfolding PageSays LabelsAt read_under link_at slots chains prefixes_right filled holding
gap_some s index row last level k st (Ok st') index' row' last' fits w =
    let o = w (take 32 (drop (suc k) s) ∷ []) refl (omega arith, fits, refl, omega arith) in
    record {
      what = under (take 32 (drop (suc k) s)) o.what;
      reads = rw (← add-one level, o.reads);
      few = o.few;
      few_chains = o.few_chains;
      moved = o.moved;
    }
gap_some s index row last level k st (Err stop) index' row' last' fits w =
    let o = w (take 32 (drop (suc k) s) ∷ []) refl (omega arith, fits, refl, omega arith) in
    rw (← add-one level) (then_stops _ stop o)

pub gap_page : (s index row last : List ℕ) (level link : ℕ) (st : WalkState) (r : Result WalkState Stop) (index' row' last' : List ℕ) → (link ≡ 0 → ⊥) → link + 32 ≤ length s
    → PageSays s index row last (level + 1) link 0 st r index' row' last' → GapSays s index row last level link st r index' row' last'
gap_page s index row last level zero st r index' row' last' f fits o = absurd (f refl)
gap_page s index row last level (suc k) st r index' row' last' f fits o = gap_some s index row last level k st r index' row' last' fits o

-- what was read under a gap
pub gap_ends : (s index row last : List ℕ) (level link : ℕ) (st st' : WalkState) (index' row' last' : List ℕ) → Bytes s
    → (gap : GapSays s index row last level link st (Ok st') index' row' last')
    → (link_of gap.what ≡ link_at s link) × (st'.next ≡ st.next + length (table_under gap.what))
gap_ends s index row last level link st st' index' row' last' slice gap = (
  under_link _ (link_at s link) _ _ gap.what gap.reads,
  under_ends s _ st.next st'.next _ gap.what slice (omega (arith, gap.moved.ahead, gap.moved.within)) gap.moved.within gap.reads,
)

-- ---- rows of entries
-- the walk over the n entries from `at` on, after the key `before`, and over all pages below them
unfoldable pub RestSays : List ℕ → List ℕ → List ℕ → List ℕ → ℕ → ℕ → ℕ → ℕ → List ℕ → WalkState → Result WalkState Stop → List ℕ → List ℕ → List ℕ → Type 0
RestSays s index row last level pg at n before st r index' row' last' =
    (es : List RawEntry) (past : ℕ) → times n entry_reader (drop at s) ≡ read es (drop past s)
    → PartWalked s index row last n (read_from (read_tree (deepest - suc level)) es (drop st.next s)) (slots_from level pg at st.next before)
    (chains_from st.count st.next) (prefixes_right_from before) filled_from st r index' row' last'

times_none : {A : Type 0} (p : Reader A) (n : ℕ) (l rest : List ℕ) (xs : List A) → n ≡ 0 → times n p l ≡ read xs rest → xs ≡ []
unfolding times
times_none {A} p n l rest xs e h =
    let h' : read [] l ≡ read xs rest = rw e at h in
    sym (read_sub (λ (x : List A) (r : List ℕ). [] ≡ x) h' refl)

times_more : {A C : Type 0} (p : Reader A) (n : ℕ) (l rest t : List ℕ) (xs : List A) (a : A) → p l ≡ read a t → times (suc n) p l ≡ read xs rest
    → ((more : List A) → xs ≡ a ∷ more → times n p t ≡ read more rest → C) → C
unfolding times
times_more {A} p n l rest t xs a h q k =
    let q' : and_then (times n p t) (λ m u. read (a ∷ m) u) ≡ read xs rest = rw h at q in
    andThen-inv (times n p t) (λ more u r z.
    let e₁ : xs ≡ a ∷ more = cc in
    let e₂ : u ≡ rest = cc in
    k more e₁ (r ∙ ap (λ (y : List ℕ). read more y) e₂)) q'

times_first : {A C : Type 0} (p : Reader A) (n : ℕ) (l rest : List ℕ) (xs : List A) → times (suc n) p l ≡ read xs rest
    → ((a : A) (t : List ℕ) → p l ≡ read a t → C) → C
unfolding times
times_first p n l rest xs q k = andThen-inv (p l) (λ a t h _. k a t h) q

-- the entry that was read, as it is spelt, and its key
abbrev spelt_at : List ℕ → EntryAt → Spelt
spelt_at s e = record { shares = e.shares; remainder = take e.size (drop e.remainder s); val = value_in s e.value }

abbrev key_at : List ℕ → EntryAt → List ℕ → List ℕ
key_at s e before = take e.shares before ++ take e.size (drop e.remainder s)

-- the slots of an entry, of what is under its gap, and of the entries after it, by the places where these were read
entry_slots : (level pg at below : ℕ) (before : List ℕ) (f : Spelt) (g : Gap Spelt (List ℕ)) (es : Entries Spelt (List ℕ)) (to below₀ below₁ : ℕ)
    → to ≡ at + length_of_entry f g → below₀ ≡ below → below₁ ≡ below₀ + length (table_under g)
    → slots_from level pg at below before (entry f g es)
    ≡ (record { depth = level; page = pg; entry = at; value = to - 32; item = record_of before f } ∷ [])
    ++ (slots_under (level + 1) below₀ g ++ slots_from level pg to below₁ (record_of before f).key es)
unfolding slots
entry_slots level pg at below before f g es to below₀ below₁ p q r = rw (p, r, q)

-- the chains of what is under an entry's gap, and of the entries after it
entry_chains : (from at : ℕ) (f : Spelt) (g : Gap Spelt (List ℕ)) (es : Entries Spelt (List ℕ)) (from₀ from₁ below₀ below₁ : ℕ)
    → from₀ ≡ from + 1 → from₁ ≡ from₀ + length (items_under g) → below₀ ≡ at → below₁ ≡ below₀ + length (table_under g)
    → chains_from from at (entry f g es) ≡ [] ++ (chains_under from₀ below₀ [] g ++ chains_from from₁ below₁ es)
unfolding chains
entry_chains from at f g es from₀ from₁ below₀ below₁ p q r z = rw (z, r, q, p)

-- ---- the loop over the entries of a page
-- i entries are done and the next stands at `at`; what the walk over those left says tells what the walk over all says
pub record Onward (s index₀ row₀ last₀ : List ℕ) (level pg first n : ℕ) (st₀ : WalkState) (index row last buffer : List ℕ) (size : ℕ) (st : WalkState) (at i : ℕ) : Type 0 where
  pub turns : i ≤ n
  pub ahead : st₀.next ≤ st.next
  pub within : st.next ≤ length s
  pub few : st.count + (n - i) ≤ st.next
  pub few_chains : st.chains ≤ st.next
  pub there : at ≤ length s
  pub room : length buffer ≡ 256
  pub before : List ℕ
  pub holds : HoldsKey buffer size before
  pub onward : (r : Result WalkState Stop) (index' row' last' : List ℕ) → RestSays s index row last level pg at (n - i) before st r index' row' last'
      → EntriesSay s index₀ row₀ last₀ level pg first n st₀ r index' row' last'

pub onward_start : (s index row last : List ℕ) (level pg first n : ℕ) (st : WalkState) (buffer : List ℕ) → st.next ≤ length s → st.count + n ≤ st.next
    → st.chains ≤ st.next → first ≤ length s → length buffer ≡ 256 → Onward s index row last level pg first n st index row last buffer 0 st first 0
unfolding RestSays EntriesSay
onward_start s index row last level pg first n st buffer h k c f b = record {
  turns = omega arith;
  ahead = omega arith;
  within = h;
  few = omega arith;
  few_chains = c;
  there = f;
  room = b;
  before = [];
  holds = record { bytes = sym (take-nil (length buffer)); size = refl };
  onward = λ r index' row' last' w. simp sub-zero at w;
}

module _ {s index₀ row₀ last₀ : List ℕ} {level pg first n : ℕ} {st₀ : WalkState} {index row last buffer : List ℕ} {size : ℕ} {st : WalkState} {at i : ℕ}
    (so_far : Onward s index₀ row₀ last₀ level pg first n st₀ index row last buffer size st at i) where
  -- no entry is left
  pub onward_end : n ≤ i → EntriesSay s index₀ row₀ last₀ level pg first n st₀ (Ok st) index row last
  unfolding RestSays read_from slots chains prefixes_right filled
  onward_end h =
      so_far.onward (Ok st) index row last (λ es past q.
      rw (times_none entry_reader (n - i) (drop at s) (drop past s) es (omega arith) q)
      (record { what = end; reads = refl; few = omega arith; few_chains = omega arith; moved = moved_none so_far.within }))

  module _ (more : i < n) where
    one_more : n - i ≡ suc (n - (i + 1))
    one_more = omega arith

    -- the next entry was there when the page was read
    entry_there : {C : Type 0} → Bytes s → ((a : RawEntry) (to : ℕ) → Reads entry_reader s at a to → C)
        → (es : List RawEntry) (past : ℕ) → times (n - i) entry_reader (drop at s) ≡ read es (drop past s) → C
    entry_there slice k es past q =
        times_first entry_reader (n - (i + 1)) (drop at s) (drop past s) es (rw one_more at q)
        (λ a t h. k a (at + length (entry_bytes a)) (entry_place s at a t slice h))

    pub onward_there : Bytes s → (got : Result EntryAt Stop) (stop : Stop) → LocatedIs s at got → got ≡ Err stop
        → EntriesSay s index₀ row₀ last₀ level pg first n st₀ (Err stop) index row last
    unfolding RestSays
    onward_there slice got stop w e =
        so_far.onward (Err stop) index row last (λ es past q. absurd (entry_there slice (located_is s at w e) es past q))

    -- it was located, its prefix was tested, its key is in the buffer, and its record was taken
    module _ (slice : Bytes s) (e : EntryAt) (found : Located s at e)
        (fits : Bool) (tested : PrefixIs buffer size s e.shares e.remainder e.size fits) (short : fits ≡ true → e.shares < length buffer)
        (buffer₁ : List ℕ) (size₁ : ℕ) (extended : Extended buffer size s e.shares e.remainder e.size buffer₁ size₁)
        (index₁ last₁ : List ℕ) (st₁ : WalkState) (taken : Taken index last level pg at buffer₁ size₁ fits st st₁ index₁ last₁) where
      key_held : HoldsKey buffer₁ size₁ (key_at s e so_far.before)
      unfolding Extended
      key_held = extended so_far.before so_far.holds

      abbrev prefix_right : Bool
      prefix_right = eqb e.shares (shared so_far.before (key_at s e so_far.before))

      prefix_right_lem : fits ≡ true → prefix_right ≡ true
      unfolding PrefixIs
      prefix_right_lem h = sym (tested so_far.before so_far.holds (short h)) ∙ h

      record_moved : (t : List ℕ) → st.next ≤ length t → (value : ℕ)
          → Moved t index row last (record { depth = level; page = pg; entry = at; value = value; item = record_of so_far.before (spelt_at s e) } ∷ []) [] prefix_right true st st₁ index₁ row last₁
      unfolding Taken
      record_moved t h value = taken t row h _ refl refl refl key_held prefix_right prefix_right_lem

      -- it takes no byte from what follows the page
      pub onward_record : (st₁.next ≡ st.next) × (st₁.count ≡ st.count + 1) × (st₁.chains ≡ st.chains)
      onward_record =
          let n = length-take st.next s in
          let m = record_moved (take st.next s) (omega (arith, n, so_far.within)) 0 in
          (omega (arith, m.ahead, m.within, n), m.count, omega (arith, m.chain_count))

      -- it, what is under its gap, and the entries after it
      rest_join : EntryHere s at e → (index₂ row₂ last₂ : List ℕ) (st₂ : WalkState) (es : List RawEntry) (r : Result WalkState Stop) (index' row' last' : List ℕ)
          → GapSays s index₁ row last₁ level e.link st₁ (Ok st₂) index₂ row₂ last₂
          → PartWalked s index₂ row₂ last₂ (n - (i + 1)) (read_from (read_tree (deepest - suc level)) es (drop st₂.next s))
          (slots_from level pg e.end st₂.next (key_at s e so_far.before)) (chains_from st₂.count st₂.next) (prefixes_right_from (key_at s e so_far.before)) filled_from st₂ r index' row' last'
          → PartWalked s index row last (n - i) (read_from (read_tree (deepest - suc level)) (entry_at s e ∷ es) (drop st.next s))
          (slots_from level pg at st.next so_far.before) (chains_from st.count st.next) (prefixes_right_from so_far.before) filled_from st r index' row' last'
      unfolding read_from prefixes_right filled
      rest_join here index₂ row₂ last₂ st₂ es (Ok st') index' row' last' gap rest =
          let g : Gap Spelt (List ℕ) = gap.what in
          let (link, below) = gap_ends s index₁ row last₁ level e.link st₁ st₂ index₂ row₂ last₂ slice gap in
          let parts = entry_slots level pg at st.next so_far.before (spelt_at s e) g rest.what e.end st₁.next st₂.next
          (entry_ends s at e slice here g link) onward_record.0 below in
          let counted : st₂.count ≡ st₁.count + length (items_under g) = omega (arith, gap.moved.count, slots_count (level + 1) st₁.next g) in
          let pages = entry_chains st.count st.next (spelt_at s e) g rest.what st₁.count st₂.count st₁.next st₂.next
          onward_record.1 counted onward_record.0 below in
          let size = length-append (slots_under (level + 1) st₁.next g) (slots_from level pg e.end st₂.next (key_at s e so_far.before) rest.what) in
          let number = length-append (chains_under st₁.count st₁.next [] g) (chains_from st₂.count st₂.next rest.what) in
          record {
            what = entry (spelt_at s e) g rest.what;
            reads = rw (← onward_record.0, gap.reads, rest.reads);
            few = rw parts (omega (arith, onward_record, gap.few, rest.few, size));
            few_chains = rw pages (omega (arith, onward_record, gap.few_chains, rest.few_chains, number));
            moved = rw (parts, pages) (moved_seq (record_moved s so_far.within (e.end - 32)) (moved_seq gap.moved rest.moved));
          }
      rest_join here index₂ row₂ last₂ st₂ es (Err stop) index' row' last' gap rest = rw (← onward_record.0, gap.reads) (then_stops _ stop rest)

      -- the first of the entries left
      first_left : {C : Type 0} (es : List RawEntry) (past : ℕ) → times (n - i) entry_reader (drop at s) ≡ read es (drop past s)
          → (EntryHere s at e → (later : List RawEntry) → es ≡ entry_at s e ∷ later → times (n - (i + 1)) entry_reader (drop e.end s) ≡ read later (drop past s) → C) → C
      first_left es past q k =
          let here : EntryHere s at e = entry_there slice found.here es past q in
          times_more entry_reader (n - (i + 1)) (drop at s) (drop past s) (drop e.end s) es (entry_at s e) here.whole.reads (rw one_more at q) (k here)

      link_within : (e.link ≡ 0 → ⊥) → e.link + 32 ≤ length s
      link_within f = omega (arith, found.ends.link (omega (arith, f)), found.ends.value, found.within)

      onward_gap : length buffer₁ ≡ 256 → (index₂ row₂ last₂ : List ℕ) (st₂ : WalkState)
          → st₁.next ≤ st₂.next → st₂.next ≤ length s → st₂.count + st₁.next ≤ st₁.count + st₂.next → st₂.chains + st₁.next ≤ st₁.chains + st₂.next
          → GapSays s index₁ row last₁ level e.link st₁ (Ok st₂) index₂ row₂ last₂
          → Onward s index₀ row₀ last₀ level pg first n st₀ index₂ row₂ last₂ buffer₁ size₁ st₂ e.end (i + 1)
      unfolding RestSays
      onward_gap room index₂ row₂ last₂ st₂ h k f c gap = record {
        turns = omega arith;
        ahead = omega (arith, onward_record, so_far.ahead);
        within = k;
        few = omega (arith, onward_record, so_far.few);
        few_chains = omega (arith, onward_record, so_far.few_chains);
        there = found.within;
        room = room;
        before = key_at s e so_far.before;
        holds = key_held;
        onward = λ r index' row' last' rest.
            so_far.onward r index' row' last' (λ es past q. first_left es past q (λ here later p z.
            rw p (rest_join here index₂ row₂ last₂ st₂ later r index' row' last' gap (rest later past z))));
      }

      -- nothing is in the gap after it
      pub onward_none : length buffer₁ ≡ 256 → e.link ≡ 0 → Onward s index₀ row₀ last₀ level pg first n st₀ index₁ row last₁ buffer₁ size₁ st₁ e.end (i + 1)
      onward_none room h =
          onward_gap room index₁ row last₁ st₁ (omega arith) (omega (arith, onward_record, so_far.within)) (omega arith) (omega arith)
          (gap_none s index₁ row last₁ level e.link st₁ h (omega (arith, onward_record, so_far.within)))

      -- a page is in the gap after it
      pub onward_page : length buffer₁ ≡ 256 → (e.link ≡ 0 → ⊥) → (index₂ row₂ last₂ : List ℕ) (got : Result WalkState Stop) (st₂ : WalkState)
          → PageSays s index₁ row last₁ (level + 1) e.link 0 st₁ got index₂ row₂ last₂ → got ≡ Ok st₂
          → Onward s index₀ row₀ last₀ level pg first n st₀ index₂ row₂ last₂ buffer₁ size₁ st₂ e.end (i + 1)
      onward_page room h index₂ row₂ last₂ got st₂ w q =
          let o = gap_page s index₁ row last₁ level e.link st₁ (Ok st₂) index₂ row₂ last₂ h (link_within h)
          (says_is s index₁ row last₁ (level + 1) e.link 0 st₁ index₂ row₂ last₂ w q) in
          onward_gap room index₂ row₂ last₂ st₂ o.moved.ahead o.moved.within (omega (arith, o.moved.count, o.few)) (omega (arith, o.moved.chain_count, o.few_chains)) o

      -- the walk over that page stopped
      pub onward_stopped : (e.link ≡ 0 → ⊥) → (index₂ row₂ last₂ : List ℕ) (got : Result WalkState Stop) (stop : Stop)
          → PageSays s index₁ row last₁ (level + 1) e.link 0 st₁ got index₂ row₂ last₂ → got ≡ Err stop
          → EntriesSay s index₀ row₀ last₀ level pg first n st₀ (Err stop) index₂ row₂ last₂
      unfolding RestSays read_from
      onward_stopped h index₂ row₂ last₂ got stop w q =
          let o = gap_page s index₁ row last₁ level e.link st₁ (Err stop) index₂ row₂ last₂ h (link_within h)
          (says_is s index₁ row last₁ (level + 1) e.link 0 st₁ index₂ row₂ last₂ w q) in
          so_far.onward (Err stop) index₂ row₂ last₂ (λ es past z. first_left es past z (λ _ later p _.
          rw (p, ← onward_record.0) (then_stops _ stop o)))
