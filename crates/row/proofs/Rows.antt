-- The records of a row: a word leads to the record that stands at its places.
use Prim.Native.Nat.{ℕ, zero, suc, ◌+◌, ◌-◌, ◌^◌, ◌≤◌, ◌<◌}
use mathlib.Core.Path.{◌≡◌, refl, sym, ap, ◌∙◌}
use mathlib.Core.Bool.{true}
use mathlib.Core.List.{List, [], ◌∷◌, ◌++◌, map, map-append}
use native.Mathlib.Numerals.{add-one}
use native.Mathlib.Omega.{arith}
use lib.ListN.{length, take, drop, get_or, length-map, length-drop}
use lib.Seq.{take_all, take-suc, take-add, length-take-le}
use borrow.Author.Tests.{lt-ltb, le-ltb, eq-eqb, ne_eqb}
use borrow.Table.Steps.{cases}
use Rattle.bytestring.proofs.Tools.{and_inv}
use Rattle.bytestring.specs.Bytes.{Bytes}
use Rattle.value.specs.Value.{value_in}
use Rattle.word.specs.Word.{page_in, entry_in, layer_in, from_second, is_first, second_word}
use Rattle.key.specs.Key.{lawful}
use Rattle.page.specs.Page.{RawEntry, entry}
use Rattle.page_reader.specs.Place.{Reads}
use Rattle.tree.specs.OnePage.{key_after}
use Rattle.tree.specs.Record.{records}
use Rattle.tree.specs.Table.{SpeltTree}
use Rattle.tree.specs.Judge.{accepted, judge}
use Rattle.tree.proofs.Laws.{Fitting, all_lawful_lem, accepted_table}
use Rattle.index.specs.Slot.{Slot, slots, key_of, lawful_slots}
use Rattle.index.specs.Walk.{WordOf, blank, HoldsWords, Indexes}
use Rattle.index.specs.Standing.{Steps, here, next, SlotAt}
use Rattle.index.proofs.SlotLaws.{slots_length, slots_lawful, slot_record}
use Rattle.index.proofs.Standing.{steps_ahead, accepted_slot_stands}
use Rattle.row.specs.Row.{source_of, nothing, when_read, record_from, record_at, record_of_word, AtPlaces, Stands, Row, records_of}

-- ---- the register that a word belongs to
pub source_first : (s u : List ℕ) (w : ℕ) → w < from_second → source_of s u w ≡ s
unfolding source_of
source_first s u w h = rw (lt-ltb w from_second h)

pub source_second : (s u : List ℕ) (w : ℕ) → from_second ≤ w → source_of s u w ≡ u
unfolding source_of
source_second s u w h = rw (le-ltb w from_second h)

pub source_same : (s : List ℕ) (w : ℕ) → source_of s s w ≡ s
unfolding source_of
source_same s w = cases (is_first w) (λ q. rw q) (λ q. rw q)

-- what is said of that register is said of its bytes
pub value_in_lem : (s u : List ℕ) (w : ℕ) (v : List ℕ) (at : ℕ) (r : List ℕ) → source_of s u w ≡ v → (at + 32 ≤ length v → r ≡ value_in v at)
    → at + 32 ≤ length (source_of s u w) → r ≡ value_in (source_of s u w) at
value_in_lem s u w v at r e f = rw e f

pub source_short : (s u : List ℕ) (w n : ℕ) → length s < n → length u < n → length (source_of s u w) < n
unfolding source_of
source_short s u w n h k = cases (is_first w) (λ q. rw q h) (λ q. rw q k)

-- ---- the record at a word's places
module _ (s : List ℕ) (to past : ℕ) (e : RawEntry) (before : List ℕ) (r : Reads entry s to e past) where
  rest_place : {at m : ℕ} {f : RawEntry} → Reads entry s at f m → length s - length (drop m s) ≡ m
  rest_place {m} v = omega (arith, length-drop m s, v.within)

  -- entry by entry, as long as there are bytes left to read
  record_there : (more at : ℕ) (j : List ℕ) → length s < at + more → Steps s at j to before
      → record_from more s at j to ≡ record { key = key_after before e; val = e.val }
  unfolding record_from when_read
  record_there zero at j h v = absurd (omega (arith, steps_ahead v, r.ahead, r.within))
  record_there (suc more) at j h here = rw (r.reads, eq-eqb to to refl)
  record_there (suc more) at j h (next f m q v) =
      let after : (at ≡ to → ⊥) = λ same. omega (arith, q.ahead, steps_ahead v) in
      rw (q.reads, ne_eqb at to after, rest_place q) (record_there more m (key_after j f) (omega (arith, q.ahead)) v)

pub record_at_lem : {s : List ℕ} {x : Slot} (v : SlotAt s x) (w : ℕ) → page_in w ≡ x.page → entry_in w ≡ x.entry → record_at s w ≡ x.item
unfolding record_at when_read
record_at_lem {s} {x} v w p e =
    let first : length s - length (drop v.first s) ≡ v.first = omega (arith, length-drop v.first s, v.start.within) in
    rw (p, e, v.start.reads, first)
    (record_there s x.entry v.past v.spells v.before v.reads (length s) v.first [] (omega (arith, v.start.ahead)) v.steps
    ∙ rw (v.key, v.val))

pub word_record : {s u : List ℕ} {w : ℕ} (v : AtPlaces s u w) → record_of_word s u w ≡ v.slot.item
unfolding record_of_word
word_record {w} v = record_at_lem v.there w v.page v.entry

-- ---- the records of a row
pub records_none : (s u row : List ℕ) → records_of s u row 0 ≡ []
unfolding records_of
records_none s u row = refl

-- one more word, one more record at the end
records_suc : (s u row : List ℕ) (n : ℕ) → n < length row → records_of s u row (suc n) ≡ records_of s u row n ++ (record_of_word s u (get_or row n 0) ∷ [])
unfolding records_of
records_suc s u row n h = ap (map (record_of_word s u)) (take-suc row n 0 h) ∙ map-append (record_of_word s u) (take n row) (get_or row n 0 ∷ [])

pub records_more : (s u row : List ℕ) (n : ℕ) → n < length row → records_of s u row (n + 1) ≡ records_of s u row n ++ (record_of_word s u (get_or row n 0) ∷ [])
records_more s u row n h = rw (add-one n) (records_suc s u row n h)

-- the first n records, and the others
pub records_split : (s u row : List ℕ) (n count : ℕ) → n ≤ count
    → records_of s u row count ≡ records_of s u row n ++ map (record_of_word s u) (take (count - n) (drop n row))
unfolding records_of
records_split s u row n count h =
    let e : count ≡ n + (count - n) = omega arith in
    ap (λ (m : ℕ). map (record_of_word s u) (take m row)) e ∙ ap (map (record_of_word s u)) (take-add n (count - n) row)
    ∙ map-append (record_of_word s u) (take n row) (take (count - n) (drop n row))

pub records_length : (s u row : List ℕ) (n : ℕ) → n ≤ length row → length (records_of s u row n) ≡ n
unfolding records_of
records_length s u row n h = length-map (take n row) (record_of_word s u) ∙ length-take-le n row h

-- ---- words of an index
-- The word w of a row leads to the same record of the register v as the index's word.
pub record LeadsAs (s u v : List ℕ) (w word : ℕ) : Type 0 where
  pub source : source_of s u w ≡ v
  pub page : page_in w ≡ page_in word
  pub entry : entry_in w ≡ entry_in word
  pub layer : layer_in w ≡ layer_in word

leads_first : (s u : List ℕ) (w : ℕ) → w < from_second → LeadsAs s u s w w
leads_first s u w h = record { source = source_first s u w h; page = refl; entry = refl; layer = refl }

pub leads_second : (s u : List ℕ) (w : ℕ) → LeadsAs s u u (second_word w) w
leads_second s u w = record { source = source_second s u (second_word w) (omega arith); page = omega arith; entry = omega arith; layer = omega arith }

pub lawful_slot : (xs : List Slot) → lawful_slots xs ≡ true → (i : ℕ) → i < length xs → lawful (key_of (get_or xs i blank)) ≡ true
unfolding lawful_slots
lawful_slot [] e i h = absurd (omega arith)
lawful_slot (x ∷ xs) e zero h = (and_inv (lawful (key_of x)) e).0
lawful_slot (x ∷ xs) e (suc i) h = lawful_slot xs (and_inv (lawful (key_of x)) e).1 i (omega arith)

-- The index of a register v that is accepted.
module _ (v index : List ℕ) (t : SpeltTree) (count : ℕ) (bytes : Bytes v) (judged : judge v ≡ accepted t) (index_of : Indexes index (slots 0 0 t))
    (size : count ≡ length (records t)) (room : count ≤ length index) where
  fit : Fitting (records t)
  fit = (accepted_table v bytes t judged).fit

  pub accepted_short : length v < 2 ^ 24
  accepted_short = omega (arith, fit.size, ap length (accepted_table v bytes t judged).written)

  module _ (i : ℕ) (h : i < count) where
    within : i < length (slots 0 0 t)
    within = omega (arith, slots_length 0 0 t)

    abbrev slot : Slot
    slot = get_or (slots 0 0 t) i blank

    word : WordOf (get_or index i 0) slot
    unfolding HoldsWords
    word = index_of i within (omega arith)

    there : SlotAt v slot
    there = accepted_slot_stands v t bytes judged i within

    keeps_rule : lawful (key_of slot) ≡ true
    keeps_rule = lawful_slot (slots 0 0 t) (slots_lawful 0 0 t ∙ all_lawful_lem (records t) fit.keys) i within

    pub word_small : get_or index i 0 < from_second
    word_small = word.first

    module _ {s u : List ℕ} {w : ℕ} (leads : LeadsAs s u v w (get_or index i 0)) where
      leads_stands : Stands s u w
      leads_stands = record {
        held = record {
          slot = slot;
          there = rw leads.source there;
          page = leads.page ∙ word.page;
          entry = leads.entry ∙ word.entry;
          lawful = keeps_rule;
        };
        layer = leads.layer ∙ word.layer keeps_rule;
      }

      leads_record : record_of_word s u w ≡ get_or (records t) i nothing
      unfolding record_of_word
      leads_record =
          rw leads.source (record_at_lem there w (leads.page ∙ word.page) (leads.entry ∙ word.entry)) ∙ slot_record 0 0 t i blank within nothing

  -- a row of words that lead to the register's records
  module _ (s u row : List ℕ) (fits : count ≤ length row) (leads : (i : ℕ) → i < count → LeadsAs s u v (get_or row i 0) (get_or index i 0)) where
    leads_row : length s < 2 ^ 24 → length u < 2 ^ 24 → Row s u row count
    leads_row h k = record { few = omega (arith, fit.count); room = fits; first = h; second = k; stands = λ i g. leads_stands i g (leads i g) }

    leads_upto : (n : ℕ) → n ≤ count → records_of s u row n ≡ take n (records t)
    leads_upto zero h = records_none s u row
    leads_upto (suc n) h =
        records_suc s u row n (omega arith)
        ∙ rw (leads_upto n (omega arith), leads_record n h (leads n h)) (sym (take-suc (records t) n nothing (omega arith)))

    leads_records : records_of s u row count ≡ records t
    leads_records = leads_upto count (omega arith) ∙ take_all count (records t) (omega arith)

  -- ---- as the first register
  module _ (u : List ℕ) where
    pub first_stands : (i : ℕ) → i < count → Stands v u (get_or index i 0)
    first_stands i h = leads_stands i h (leads_first v u (get_or index i 0) (word_small i h))

    pub first_record : (i : ℕ) → i < count → record_of_word v u (get_or index i 0) ≡ get_or (records t) i nothing
    first_record i h = leads_record i h (leads_first v u (get_or index i 0) (word_small i h))

    pub accepted_row : length u < 2 ^ 24 → Row v u index count
    accepted_row h = leads_row v u index room (λ i g. leads_first v u (get_or index i 0) (word_small i g)) accepted_short h

    pub accepted_records_lem : records_of v u index count ≡ records t
    accepted_records_lem = leads_records v u index room (λ i g. leads_first v u (get_or index i 0) (word_small i g))

  -- ---- as the second register
  module _ (s : List ℕ) where
    pub second_stands : (i : ℕ) → i < count → Stands s v (second_word (get_or index i 0))
    second_stands i h = leads_stands i h (leads_second s v (get_or index i 0))

    pub second_record : (i : ℕ) → i < count → record_of_word s v (second_word (get_or index i 0)) ≡ get_or (records t) i nothing
    second_record i h = leads_record i h (leads_second s v (get_or index i 0))

    module _ (row : List ℕ) (fits : count ≤ length row) (words : (i : ℕ) → i < count → get_or row i 0 ≡ second_word (get_or index i 0)) where
      leads_words : (i : ℕ) → i < count → LeadsAs s v v (get_or row i 0) (get_or index i 0)
      leads_words i h = rw (words i h) (leads_second s v (get_or index i 0))

      pub second_row : length s < 2 ^ 24 → Row s v row count
      second_row h = leads_row s v row fits leads_words h accepted_short

      pub second_records : records_of s v row count ≡ records t
      second_records = leads_records s v row fits leads_words
