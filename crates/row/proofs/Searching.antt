-- Where a key stands among the records of an index, by halves of it.
use Rattle.std.specs.declared.cmp.Ordering.{Ordering}
use Rattle.std.specs.declared.cmp.Ordering.TheVariants.{Less, Equal, Greater}
use Rattle.std.specs.Prelude.{Result, Ok, Err}
use Prim.Native.Nat.{ℕ, zero, suc, ◌+◌, ◌-◌, ◌/◌, ◌≤◌, ◌<◌}
use mathlib.Core.Path.{◌≡◌, refl, sym, ap, subst, ◌∙◌}
use mathlib.Core.Bool.{true, false}
use mathlib.Core.Option.{none, some}
use mathlib.Core.List.{List, [], ◌∷◌}
use native.Mathlib.Numerals.{add-one}
use native.Mathlib.Omega.{arith}
use lib.ListN.{length, take, get_or, length-map}
use lib.Dec.{leb}
use borrow.Author.Tests.{leb-true, leb-false}
use borrow.Table.Steps.{cases}
use Rattle.bytestring.proofs.Tools.{and_inv}
use Rattle.bytestring.specs.Bytes.{Bytes}
use Rattle.key.specs.Key.{lawful, less, order}
use Rattle.key.proofs.Laws.{lawful_length, less_irreflexive, less_transitive, less_asymmetric, less_same, order_less, order_equal, order_greater}
use Rattle.page_keys.specs.Buffer.{HoldsKey}
use Rattle.page_keys.proofs.Buffers.{holds_whole}
use Rattle.tree.specs.Record.{Record, records}
use Rattle.tree.specs.Table.{SpeltTree}
use Rattle.tree.specs.Judge.{all_lawful, rising, accepted, judge}
use Rattle.tree.specs.Place.{places}
use Rattle.tree.proofs.Laws.{Fitting, all_lawful_lem, accepted_table}
use Rattle.index.specs.Slot.{Slot, slots, key_of}
use Rattle.index.specs.Walk.{WordOf, blank, HoldsWords, Indexes}
use Rattle.index.proofs.SlotLaws.{slots_length, slots_places, slot_record, slot_place}
use Rattle.index.proofs.Standing.{accepted_slot_stands}
use Rattle.promises.specs.Outcome.{place_of}
use Rattle.row.specs.Row.{nothing}
use Rattle.row.specs.Fetch.{Fetched, FetchSays}
use Rattle.row.specs.declared.fetch.FetchedAt.{FetchedAt}
use Rattle.row.proofs.Memories.{no_note}
use Rattle.row.specs.Search.{key_at, count_below, count_up_to, PositionFits, SearchSays, CountSays}
use Rattle.row.proofs.Counting.{front_ends}

-- ---- the keys of a row of records
rising_rest : (r : Record) (rs : List Record) → rising (r ∷ rs) ≡ true → rising rs ≡ true
unfolding rising
rising_rest r [] h = refl
rising_rest r (x ∷ rs) h = (and_inv (less r.key x.key) h).1

-- a later key is greater than the first
rising_first : (r : Record) (rs : List Record) → rising (r ∷ rs) ≡ true → (j : ℕ) → j < length rs → less r.key (key_at rs j) ≡ true
unfolding rising
rising_first r [] h j g = absurd (omega arith)
rising_first r (x ∷ rs) h zero g = (and_inv (less r.key x.key) h).0
rising_first r (x ∷ rs) h (suc j) g =
    let k = and_inv (less r.key x.key) h in
    less_transitive r.key x.key (key_at rs j) k.0 (rising_first x rs k.1 j (omega arith))

rising_at : (rs : List Record) → rising rs ≡ true → (i j : ℕ) → i < j → j < length rs → less (key_at rs i) (key_at rs j) ≡ true
rising_at [] h i j l g = absurd (omega arith)
rising_at (r ∷ rs) h i zero l g = absurd (omega arith)
rising_at (r ∷ rs) h zero (suc j) l g = rising_first r rs h j (omega arith)
rising_at (r ∷ rs) h (suc i) (suc j) l g = rising_at rs (rising_rest r rs h) i j (omega arith) (omega arith)

short_at : (rs : List Record) → all_lawful rs ≡ true → (i : ℕ) → i < length rs → length (key_at rs i) ≤ 256
unfolding all_lawful
short_at [] h i g = absurd (omega arith)
short_at (r ∷ rs) h zero g = lawful_length r.key (and_inv (lawful r.key) h).0
short_at (r ∷ rs) h (suc i) g = short_at rs (and_inv (lawful r.key) h).1 i (omega arith)

-- ---- the place of a key
-- The keys before `low` are less than k, and those from `high` on greater.
pub record Between (k : List ℕ) (rs : List Record) (low high : ℕ) : Type 0 where
  pub below : (i : ℕ) → i < low → less (key_at rs i) k ≡ true
  pub above : (i : ℕ) → high ≤ i → i < length rs → less k (key_at rs i) ≡ true

place_there : (k : List ℕ) (rs : List Record) (ps : List ℕ) → length ps ≡ length rs → (i : ℕ) → i < length rs
    → ((j : ℕ) → j < i → less (key_at rs j) k ≡ true) → key_at rs i ≡ k → place_of k rs ps ≡ some (get_or ps i 0)
unfolding place_of
place_there k [] ps e i h f q = absurd (omega arith)
place_there k (r ∷ rs) [] e i h f q = absurd (omega arith)
place_there k (r ∷ rs) (p ∷ ps) e zero h f q =
    let not_less : less k k ≡ false = cases (less k k) (λ l. absurd (less_irreflexive k l)) (λ l. l) in
    rw (q, not_less)
place_there k (r ∷ rs) (p ∷ ps) e (suc i) h f q =
    rw (less_asymmetric r.key k (f 0 (omega arith)), f 0 (omega arith))
    (place_there k rs ps (omega arith) i (omega arith) (λ j g. f (suc j) (omega arith)) q)

place_absent : (k : List ℕ) (rs : List Record) (ps : List ℕ) (low : ℕ) → low ≤ length rs → Between k rs low low → place_of k rs ps ≡ none
unfolding place_of
place_absent k [] ps low h b = refl
place_absent k (r ∷ rs) [] low h b = refl
place_absent k (r ∷ rs) (p ∷ ps) zero h b = rw (b.above 0 (omega arith) (omega arith))
place_absent k (r ∷ rs) (p ∷ ps) (suc low) h b =
    rw (less_asymmetric r.key k (b.below 0 (omega arith)), b.below 0 (omega arith))
    (place_absent k rs ps low (omega arith)
    (record { below = λ i g. b.below (suc i) (omega arith); above = λ i g l. b.above (suc i) (omega arith) (omega arith) }))

-- ---- the counts of records before a key and up to it
-- where no record has the key
counts_absent : (k : List ℕ) (rs : List Record) (low : ℕ) → low ≤ length rs → Between k rs low low → (low ≡ count_below k rs) × (low ≡ count_up_to k rs)
counts_absent k rs low h b = (
  front_ends _ rs low h b.below (λ l. less_asymmetric k (key_at rs low) (b.above low (omega arith) l)),
  front_ends _ rs low h (λ i l. rw (less_asymmetric (key_at rs i) k (b.below i l))) (λ l. rw (b.above low (omega arith) l)),
)

-- where the record at i has it
module _ (k : List ℕ) (rs : List Record) (order : rising rs ≡ true) (i : ℕ) (h : i < length rs) (q : key_at rs i ≡ k) where
  before_there : (j : ℕ) → j < i → less (key_at rs j) k ≡ true
  before_there j g = rw (← q) (rising_at rs order j i g h)

  below_there : i ≡ count_below k rs
  below_there = front_ends _ rs i (omega arith) before_there (λ l. less_same (key_at rs i) k q)

  up_to_there : suc i ≡ count_up_to k rs
  up_to_there =
      front_ends _ rs (suc i) h
      (λ j g. cases (leb i j)
      (λ e. let same : j ≡ i = omega (arith, leb-true i j e) in rw (same, less_same k (key_at rs i) (sym q)))
      (λ e. rw (less_asymmetric (key_at rs j) k (before_there j (leb-false i j e)))))
      (λ l. let later : less k (key_at rs (suc i)) ≡ true = rw (← q) (rising_at rs order i (suc i) (omega arith) l) in rw later)

-- ---- the ways that a turn of the loop goes
unfoldable pub Narrowed : List ℕ → List ℕ → ℕ → List ℕ → ℕ → ℕ → Type 0
Narrowed s index count k low high =
    (t : SpeltTree) → judge s ≡ accepted t → count ≡ length (records t) → Indexes index (slots 0 0 t) → Between k (records t) low high

module _ (s index : List ℕ) (count : ℕ) (k : List ℕ) where
  pub search_begins : Narrowed s index count k 0 count
  unfolding Narrowed
  search_begins t a c x = record { below = λ i g. absurd (omega arith); above = λ i g l. absurd (omega arith) }

  module _ (low high : ℕ) (u : Narrowed s index count k low high) (within : high ≤ count) where
    pub search_ends : low ≤ high → high ≤ low → SearchSays s index count k (Err low)
    unfolding Narrowed SearchSays
    search_ends h g t a c x =
        let same : high ≡ low = omega arith in
        let b = subst (Between k (records t) low) same (u t a c x) in
        (sym (place_absent k (records t) (places 0 t) low (omega arith) b), counts_absent k (records t) low (omega arith) b)

    abbrev middle : ℕ
    middle = low + (high - low) / 2

    module _ (bytes : Bytes s) (room : count ≤ length index) (more : low < high)
        (buffer₀ buffer : List ℕ) (found : FetchedAt) (w : FetchSays s (get_or index middle 0) buffer₀ 0 buffer found) where
      -- the record at the middle
      module _ (t : SpeltTree) (a : judge s ≡ accepted t) (c : count ≡ length (records t)) (x : Indexes index (slots 0 0 t)) where
        fit : Fitting (records t)
        fit = (accepted_table s bytes t a).fit

        there : middle < length (slots 0 0 t)
        there = omega (arith, slots_length 0 0 t)

        abbrev slot : Slot
        slot = get_or (slots 0 0 t) middle blank

        word : WordOf (get_or index middle 0) slot
        unfolding HoldsWords
        word = x middle there (omega arith)

        fetched : Fetched s slot (accepted_slot_stands s t bytes a middle there) buffer found
        unfolding FetchSays
        fetched = w slot (accepted_slot_stands s t bytes a middle there) word.page word.entry (no_note s buffer₀)

        same_key : key_of slot ≡ key_at (records t) middle
        same_key = ap (λ (r : Record). r.key) (slot_record 0 0 t middle blank there nothing)

        holds : HoldsKey buffer found.size (key_at (records t) middle)
        holds = subst (HoldsKey buffer found.size) same_key fetched.holds

        value : found.value ≡ get_or (places 0 t) middle 0
        value = fetched.value ∙ slot_place 0 0 t middle blank there 0

        short : found.size ≤ 256
        short = omega (arith, holds.size, short_at (records t) (all_lawful_lem (records t) fit.keys) middle (omega arith))

        places_length : length (places 0 t) ≡ length (records t)
        places_length =
            sym (ap length (slots_places 0 0 t)) ∙ length-map (slots 0 0 t) (λ y. y.value) ∙ slots_length 0 0 t

        narrow_low : less (key_at (records t) middle) k ≡ true → Between k (records t) (middle + 1) high
        unfolding Narrowed
        narrow_low l = record {
          below = λ i g. cases (leb middle i)
              (λ e. let same : i ≡ middle = omega (arith, leb-true middle i e) in rw same l)
              (λ e. less_transitive (key_at (records t) i) (key_at (records t) middle) k
              (rising_at (records t) fit.order i middle (omega (arith, leb-false middle i e)) (omega arith)) l);
          above = (u t a c x).above;
        }

        narrow_high : less k (key_at (records t) middle) ≡ true → Between k (records t) low middle
        unfolding Narrowed
        narrow_high l = record {
          below = (u t a c x).below;
          above = λ i g h. cases (leb i middle)
              (λ e. let same : i ≡ middle = omega (arith, leb-true i middle e) in rw same l)
              (λ e. less_transitive k (key_at (records t) middle) (key_at (records t) i) l
              (rising_at (records t) fit.order middle i (omega (arith, leb-false i middle e)) h));
        }

        met : key_at (records t) middle ≡ k → some found.value ≡ place_of k (records t) (places 0 t)
        met q =
            ap some value
            ∙ sym (place_there k (records t) (places 0 t) places_length middle (omega arith)
            (before_there k (records t) fit.order middle (omega arith) q) q)

      pub search_over : 256 < found.size → SearchSays s index count k (Err low)
      unfolding SearchSays
      search_over h t a c x = absurd (omega (arith, short t a c x))

      module _ (whole : found.size ≤ length buffer) (o : Ordering) (e : o ≡ order (take found.size buffer) k) where
        key_held : (t : SpeltTree) (a : judge s ≡ accepted t) (c : count ≡ length (records t)) (x : Indexes index (slots 0 0 t))
            → take found.size buffer ≡ key_at (records t) middle
        key_held t a c x = holds_whole (holds t a c x) whole

        pub search_above : o ≡ Less → Narrowed s index count k (middle + 1) high
        unfolding Narrowed
        search_above q t a c x = narrow_low t a c x (order_less (key_at (records t) middle) k (rw (← key_held t a c x) (sym e ∙ q)))

        pub search_below : o ≡ Greater → Narrowed s index count k low middle
        unfolding Narrowed
        search_below q t a c x = narrow_high t a c x (order_greater (key_at (records t) middle) k (rw (← key_held t a c x) (sym e ∙ q)))

        pub search_meets : o ≡ Equal → SearchSays s index count k (Ok (middle, found.value))
        unfolding SearchSays
        search_meets q t a c x =
            let same = sym (key_held t a c x) ∙ order_equal (take found.size buffer) k (sym e ∙ q) in
            (met t a c x same, (omega arith, same, below_there k (records t) (fit t a c x).order middle (omega arith) same))

-- ---- the counts, from what the search ensures
module _ (count : ℕ) (r : Result (ℕ × ℕ) ℕ) (v : PositionFits count r) where
  pub found_fits : (position place : ℕ) → r ≡ Ok (position, place) → position < count
  found_fits position place e = rw e at v

  pub absent_fits : (position : ℕ) → r ≡ Err position → position ≤ count
  absent_fits position e = rw e at v

module _ (s index : List ℕ) (count : ℕ) (k : List ℕ) (r : Result (ℕ × ℕ) ℕ) (v : SearchSays s index count k r) where
  pub below_found : (position place : ℕ) → r ≡ Ok (position, place) → CountSays (count_below k) s index count position
  unfolding SearchSays CountSays
  below_found position place e t a c x = ((rw e at v) t a c x).1.2

  pub below_absent : (position : ℕ) → r ≡ Err position → CountSays (count_below k) s index count position
  unfolding SearchSays CountSays
  below_absent position e t a c x = ((rw e at v) t a c x).1.0

  pub up_to_found : Bytes s → (position place : ℕ) → r ≡ Ok (position, place) → CountSays (count_up_to k) s index count (position + 1)
  unfolding SearchSays CountSays
  up_to_found bytes position place e t a c x =
      let found = ((rw e at v) t a c x).1 in
      rw (add-one position) (up_to_there k (records t) (accepted_table s bytes t a).fit.order position found.0 found.1)

  pub up_to_absent : (position : ℕ) → r ≡ Err position → CountSays (count_up_to k) s index count position
  unfolding SearchSays CountSays
  up_to_absent position e t a c x = ((rw e at v) t a c x).1.1
