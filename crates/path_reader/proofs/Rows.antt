-- The row of a page's entries: the tests of their keys, and the search among them.
use Rattle.std.specs.Prelude.{Result, Ok, Err}
use Prim.Native.Nat.{ℕ, suc, ◌+◌, ◌-◌, ◌≤◌, ◌<◌}
use mathlib.Core.Path.{◌≡◌, refl, sym, ap, subst, ◌∙◌}
use mathlib.Core.Bool.{Bool, true, ◌&&◌, and-true, and_assoc}
use mathlib.Core.List.{List, [], ◌∷◌}
use native.Mathlib.Omega.{arith}
use native.Mathlib.Nat.{sub-zero}
use lib.Dec.{eqb}
use lib.ListN.{length, drop}
use borrow.Author.Tests.{eqb-true}
use borrow.Table.Steps.{cases}
use Rattle.limits.specs.Limits.{longest_key, numbers}
use Rattle.bytestring.proofs.Tools.{and_inv, and_both}
use Rattle.bytestring.specs.Bytes.{Bytes}
use Rattle.value.specs.Value.{digest_length}
use Rattle.key.specs.Key.{lawful, less, shared}
use Rattle.key.proofs.Laws.{lawful_length}
use Rattle.page.specs.Reading.{read, times}
use Rattle.page.specs.Page.{RawEntry, entry_bytes, entry}
use Rattle.page.proofs.Readers.{andThen-inv}
use Rattle.page.proofs.Pages.{entry_spells}
use Rattle.page_reader.specs.Place.{Reads, link_at, entry_at, EntryHere, Located, LocatedIs}
use Rattle.page_reader.specs.declared.Stop.{Stop}
use Rattle.page_reader.specs.declared.EntryAt.{EntryAt}
use Rattle.page_reader.proofs.Located.{entry_place}
use Rattle.page_keys.specs.Buffer.{HoldsKey, Extended, PrefixIs}
use Rattle.page_keys.proofs.Buffers.{holds_none}
use Rattle.page_keys.proofs.Entries.{row_ends, row_behind}
use Rattle.tree.specs.Record.{Record}
use Rattle.tree.specs.Judge.{all_lawful, rising}
use Rattle.tree.specs.OnePage.{key_after, prefixes_of, records_in}
use Rattle.path.specs.Verify.{Sought, value_at, in_gap, sought_from}
use Rattle.path_reader.specs.Judging.{Rises, go_past, PastEntry, TakesEntry, sought_by, SearchWithin, JudgesEntries}
use Rattle.path_reader.specs.declared.entries.Search.{Search}
use Rattle.path_reader.specs.declared.entries.Search.TheVariants.{On, Value, Gap}
use Rattle.path_reader.specs.declared.entries.EntriesJudged.{EntriesJudged}
use Rattle.page_reader.proofs.Spelling.{reads_end}

-- ---- an entry that was located
module _ (s : List ℕ) (at : ℕ) (got : Result EntryAt Stop) (w : LocatedIs s at got) (e : EntryAt) (is : got ≡ Ok e) where
  found : Located s at e
  found = subst (LocatedIs s at) is w

  pub key_inside : e.remainder + e.size ≤ length s
  key_inside = omega (arith, found.inside, found.within)

  pub shares_small : e.shares < numbers
  shares_small = found.shares

  pub size_small : e.size < numbers
  size_small = found.size

-- ---- the order of keys
-- each key of a row is greater than the one before it, and the first than the key `before`
unfoldable pub rising_after : List ℕ → List RawEntry → Bool
rising_after before [] = true
rising_after before (e ∷ es) = less before (key_after before e) && rising_after (key_after before e) es

rising_row : (r : Record) (es : List RawEntry) → rising_after r.key es ≡ rising (r ∷ records_in r.key es)
unfolding rising_after rising records_in
rising_row r [] = refl
rising_row r (e ∷ es) =
    ap (λ (b : Bool). less r.key (key_after r.key e) && b) (rising_row (record { key = key_after r.key e; val = e.val }) es)

-- a lawful key is greater than the empty key
after_none : (k : List ℕ) → lawful k ≡ true → less [] k ≡ true
unfolding lawful less
after_none [] h = h
after_none (b ∷ k) h = refl

rising_first : (es : List RawEntry) → all_lawful (records_in [] es) ≡ true → rising_after [] es ≡ rising (records_in [] es)
unfolding rising_after all_lawful records_in rising
rising_first [] h = refl
rising_first (e ∷ es) h =
    rw (after_none (key_after [] e) (and_inv (lawful (key_after [] e)) h).0) (rising_row (record { key = key_after [] e; val = e.val }) es)

-- ---- the search
-- it goes on among the entries of a row
abbrev pub sought_on : List ℕ → List ℕ → List ℕ → ℕ → List RawEntry → Search → Sought
sought_on s key before at es (On link) = sought_from key (link_at s link) before at es
sought_on s key before at es (Value value) = value_at value
sought_on s key before at es (Gap link) = in_gap (link_at s link)

sought_end : (s key before : List ℕ) (at : ℕ) (search : Search) → sought_on s key before at [] search ≡ sought_by s search
unfolding sought_from
sought_end s key before at (On link) = refl
sought_end s key before at (Value value) = refl
sought_end s key before at (Gap link) = refl

-- past the first of them
module _ (s key before : List ℕ) (at : ℕ) (e : EntryAt) where
  abbrev k : List ℕ
  k = key_after before (entry_at s e)

  sought_past : e.end ≡ at + length (entry_bytes (entry_at s e)) → e.value + digest_length ≡ e.end → (es : List RawEntry) (search : Search)
      → sought_on s key before at (entry_at s e ∷ es) search ≡ sought_on s key k e.end es (go_past key k e search)
  unfolding sought_from
  sought_past to last es (On gap) =
      let place : e.end - digest_length ≡ e.value = omega arith in
      cases (less key k)
      (λ p. rw p)
      (λ p. rw p (cases (less k key) (λ q. rw (q, to)) (λ q. rw (q, ← to, place))))
  sought_past to last es (Value value) = refl
  sought_past to last es (Gap link) = refl

  within_past : Located s at e → (search : Search) → SearchWithin s search → SearchWithin s (go_past key k e search)
  within_past there (On gap) h =
      cases (less key k)
      (λ p. rw p h)
      (λ p. rw p (cases (less k key)
      (λ q. rw q (λ z. omega (arith, there.ends.link z, there.ends.value, there.within)))
      (λ q. rw q (omega (arith, there.ends.value, there.within)))))
  within_past there (Value value) h = h
  within_past there (Gap link) h = h

-- ---- a row of entries
-- what is said behind them, where st was said before them
pub record RowSays (s key before : List ℕ) (at : ℕ) (es : List RawEntry) (st r : EntriesJudged) : Type 0 where
  pub prefixes : r.prefixes ≡ true → (st.prefixes ≡ true) × (prefixes_of before es ≡ true)
  pub lawful : r.lawful ≡ (st.lawful && all_lawful (records_in before es))
  pub rising : prefixes_of before es ≡ true → all_lawful (records_in before es) ≡ true → r.rising ≡ (st.rising && rising_after before es)
  pub sought : all_lawful (records_in before es) ≡ true → sought_on s key before at es st.search ≡ sought_by s r.search
  pub within : all_lawful (records_in before es) ≡ true → SearchWithin s st.search → SearchWithin s r.search

row_none : (s key before : List ℕ) (at : ℕ) (st : EntriesJudged) → RowSays s key before at [] st st
unfolding prefixes_of all_lawful records_in rising_after
row_none s key before at st = record {
  prefixes = λ q. (q, refl);
  lawful = sym (and-true st.lawful);
  rising = λ _ _. sym (and-true st.rising);
  sought = λ _. sought_end s key before at st.search;
  within = λ _ h. h;
}

-- the same of the n entries from a place on, where they are read
unfoldable pub RestSays : List ℕ → List ℕ → List ℕ → ℕ → ℕ → EntriesJudged → EntriesJudged → Type 0
RestSays s key before at n st r = (es : List RawEntry) (past : ℕ) → times n entry (drop at s) ≡ read es (drop past s) → RowSays s key before at es st r

abbrev pub start : ℕ → EntriesJudged
start left = record { prefixes = true; lawful = true; rising = true; search = On left }

all_judged : (s : List ℕ) (first n left : ℕ) (key : List ℕ) (r : EntriesJudged) → RestSays s key [] first n (start left) r → JudgesEntries s first n left key r
unfolding RestSays JudgesEntries
all_judged s first n left key r w es past reads =
    let x = w es past reads in
    record {
      prefixes = λ q. (x.prefixes q).1;
      lawful = x.lawful;
      rising = λ p l. x.rising p l ∙ rising_first es l;
      sought = x.sought;
      within = x.within;
    }

-- ---- the loop
-- i entries are done and the next stands at `at`: what is said behind those left tells what is said of all
pub record Onward (s : List ℕ) (first n left : ℕ) (key buffer : List ℕ) (size : ℕ) (st : EntriesJudged) (at i : ℕ) : Type 0 where
  pub turns : i ≤ n
  pub slice : Bytes s
  pub room : length buffer ≡ longest_key
  pub before : List ℕ
  pub holds : HoldsKey buffer size before
  pub onward : (r : EntriesJudged) → RestSays s key before at (n - i) st r → RestSays s key [] first n (start left) r

pub onward_start : (s : List ℕ) (first n left : ℕ) (key buffer : List ℕ) → Bytes s → length buffer ≡ longest_key
    → Onward s first n left key buffer 0 (start left) first 0
unfolding RestSays
onward_start s first n left key buffer slice room = record {
  turns = omega arith;
  slice = slice;
  room = room;
  before = [];
  holds = holds_none buffer;
  onward = λ r w. simp sub-zero at w;
}

module _ {s : List ℕ} {first n left : ℕ} {key buffer : List ℕ} {size : ℕ} {st : EntriesJudged} {at i : ℕ}
    (so_far : Onward s first n left key buffer size st at i) where
  -- no entry is left
  pub onward_end : n ≤ i → JudgesEntries s first n left key st
  unfolding RestSays
  onward_end h =
      all_judged s first n left key st (so_far.onward st (λ es past q.
      rw (row_ends s n i at past es q h) (row_none s key so_far.before at st)))

  module _ (more : i < n) where
    -- the next entry was there when the page was read
    entry_there : (es : List RawEntry) (past : ℕ) → times (n - i) entry (drop at s) ≡ read es (drop past s)
        → (a : RawEntry) × Reads entry s at a (at + length (entry_bytes a))
    unfolding times
    entry_there es past q =
        let one_more : n - i ≡ suc (n - (i + 1)) = omega arith in
        andThen-inv (entry (drop at s)) (λ a t h _. (a, entry_place s at a t so_far.slice h)) (rw one_more at q)

    pub onward_there : (got : Result EntryAt Stop) (stop : Stop) → LocatedIs s at got → got ≡ Err stop → JudgesEntries s first n left key st
    unfolding RestSays
    onward_there got stop w is =
        all_judged s first n left key st (so_far.onward st (λ es past q.
        let x = entry_there es past q in
        absurd (subst (LocatedIs s at) is w x.0 _ x.1)))

    -- it was located, its prefix and its order were tested, its key is in the buffer, and it was taken
    module _ (got : Result EntryAt Stop) (w : LocatedIs s at got) (e : EntryAt) (is : got ≡ Ok e)
        (fits : Bool) (tested : PrefixIs buffer size s e.shares e.remainder e.size fits) (short : fits ≡ true → e.shares < length buffer)
        (rises : Bool) (greater : Rises buffer size s e.shares e.remainder e.size rises)
        (buffer₁ : List ℕ) (size₁ : ℕ) (extended : Extended buffer size s e.shares e.remainder e.size buffer₁ size₁) (room₁ : length buffer₁ ≡ longest_key)
        (st₁ : EntriesJudged) (taken : TakesEntry buffer₁ size₁ key fits rises e st st₁) where
      abbrev next : List ℕ
      next = key_after so_far.before (entry_at s e)

      next_held_lem : HoldsKey buffer₁ size₁ next
      unfolding Extended
      next_held_lem = extended so_far.before so_far.holds

      prefix_right_lem : fits ≡ true → eqb e.shares (shared so_far.before next) ≡ true
      unfolding PrefixIs
      prefix_right_lem h = sym (tested so_far.before so_far.holds (short h)) ∙ h

      rises_is : eqb e.shares (shared so_far.before next) ≡ true → lawful next ≡ true → rises ≡ less so_far.before next
      unfolding Rises
      rises_is p l =
          greater so_far.before so_far.holds (eqb-true e.shares (shared so_far.before next) p) (omega (arith, lawful_length next l, so_far.room))

      search_is : lawful next ≡ true → st₁.search ≡ go_past key next e st.search
      unfolding PastEntry
      search_is l = taken.search next next_held_lem (omega (arith, lawful_length next l, next_held_lem.size, room₁))

      row_first : EntryHere s at e → (es : List RawEntry) (r : EntriesJudged) → RowSays s key next e.end es st₁ r
          → RowSays s key so_far.before at (entry_at s e ∷ es) st r
      unfolding prefixes_of all_lawful records_in rising_after
      row_first here es r rest = record {
        prefixes = λ q.
            let (p, later) = rest.prefixes q in
            let (earlier, now) = and_inv st.prefixes (sym taken.prefixes ∙ p) in
            (earlier, and_both (prefix_right_lem now) later);
        lawful = rest.lawful ∙ rw (taken.lawful next next_held_lem) (and_assoc st.lawful (lawful next) (all_lawful (records_in next es)));
        rising = λ p l.
            let (right, rights) = and_inv (eqb e.shares (shared so_far.before next)) p in
            let (keeps, keep) = and_inv (lawful next) l in
            rest.rising rights keep
            ∙ rw (taken.rising, rises_is right keeps) (and_assoc st.rising (less so_far.before next) (rising_after next es));
        sought = λ l.
            let (keeps, keep) = and_inv (lawful next) l in
            sought_past s key so_far.before at e (reads_end entry_spells so_far.slice here.whole) here.ends.value es st.search
            ∙ rw (← search_is keeps) (rest.sought keep);
        within = λ l h.
            let (keeps, keep) = and_inv (lawful next) l in
            rest.within keep (rw (search_is keeps) (within_past s key so_far.before at e (found s at got w e is) st.search h));
      }

      pub onward_entry : Onward s first n left key buffer₁ size₁ st₁ e.end (i + 1)
      unfolding RestSays
      onward_entry = record {
        turns = omega arith;
        slice = so_far.slice;
        room = room₁;
        before = next;
        holds = next_held_lem;
        onward = λ r rest. so_far.onward r (λ es past q.
            let x = entry_there es past q in
            let here : EntryHere s at e = (found s at got w e is).here x.0 _ x.1 in
            let (later, first_is, reads) = row_behind s n i at past es q more (Ok e) here e refl in
            rw first_is (row_first here later r (rest later past reads)));
      }
