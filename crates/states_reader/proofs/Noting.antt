-- The loop over the records of the state register.
use Prim.Native.Nat.{ℕ, ◌+◌, ◌-◌, ◌^◌, ◌≤◌, ◌<◌}
use mathlib.Core.Path.{◌≡◌, refl, sym, ap, subst, ◌∙◌}
use mathlib.Core.Bool.{Bool, true, false, not, false≢true}
use mathlib.Core.List.{List}
use native.Mathlib.Omega.{arith}
use lib.Dec.{eqb}
use lib.ListN.{length, take, drop, get_or, set}
use lib.Seq.{get_or-set_same, get_or-set_other}
use borrow.Author.Tests.{eqb-true, eqb-false, eq-eqb, ne_eqb}
use borrow.Table.Steps.{cases}
use Rattle.bytestring.specs.Bytes.{Bytes, equal}
use Rattle.bytestring.proofs.Tools.{and_both}
use Rattle.value.specs.Value.{digest_in, dag_cbor, codec_in, value_in, value_codec, value_digest}
use Rattle.key.specs.Key.{collection, lawful}
use Rattle.tree.specs.Record.{Record, records}
use Rattle.states.specs.States.{state_collection}
use Rattle.index.specs.Accepted.{AcceptedIndex}
use Rattle.row.specs.Row.{nothing, AtPlaces, record_of_word}
use Rattle.row.specs.Memory.{Recalls}
use Rattle.row.specs.declared.recall.Recalled.{Recalled}
use Rattle.row.proofs.Rows.{source_same, word_record, accepted_short, first_stands, first_record}
use Rattle.states_reader.specs.Inner.{is_state, RootWord, RootsNoted, RootsSay}

abbrev pub RootsSoFar : List ℕ → List ℕ → ℕ → List ℕ → ℕ → List ℕ → List ℕ → ℕ → Type 0
RootsSoFar s index count words₀ m roots words i = (a : AcceptedIndex s index count) → RootsNoted s (records a.tree) words₀ roots words m i

pub no_roots : (s index : List ℕ) (count : ℕ) (words : List ℕ) (m : ℕ) (roots : List ℕ) → RootsSoFar s index count words m roots words 0
no_roots s index count words m roots a = record {
  states = λ j h. absurd (omega arith);
  named = λ j h. absurd (omega arith);
  added = λ j h. absurd (omega arith);
  kept = λ k h. refl;
}

pub register_short : {s index : List ℕ} {count : ℕ} (a : AcceptedIndex s index count) → Bytes s → length s < 2 ^ 24
register_short {s} {index} {count} a b = accepted_short s index a.tree count b a.judged a.indexed a.size a.room

-- ---- the record at a position
module _ {s index : List ℕ} {count : ℕ} (a : AcceptedIndex s index count) (b : Bytes s) (i : ℕ) (h : i < count) where
  abbrev this : Record
  this = get_or (records a.tree) i nothing

  pub record_places : AtPlaces s s (get_or index i 0)
  record_places = (first_stands s index a.tree count b a.judged a.indexed a.size a.room s i h).held

  record_is : record_of_word s s (get_or index i 0) ≡ this
  record_is = first_record s index a.tree count b a.judged a.indexed a.size a.room s i h

  key_keeps : lawful this.key ≡ true
  key_keeps = subst (λ (r : Record). lawful r.key ≡ true) (sym (word_record record_places) ∙ record_is) record_places.lawful

  module _ {keys notes : List ℕ} {found : Recalled} (r : Recalls s s (get_or index i 0) keys notes found) where
    key_found : take (found.from + found.size - found.from) (drop found.from keys) ≡ this.key
    key_found =
        let m : found.from + found.size - found.from ≡ found.size = omega arith in
        rw m (r.key ∙ ap (λ (z : Record). z.key) record_is)

    pub key_lawful : lawful (take (found.from + found.size - found.from) (drop found.from keys)) ≡ true
    key_lawful = rw key_found key_keeps

    pub value_there : found.value + 32 ≤ length s
    value_there = omega (arith, r.within, ap length (source_same s (get_or index i 0)))

    value_found : value_in s found.value ≡ this.val
    value_found =
        ap (λ (l : List ℕ). value_in l found.value) (sym (source_same s (get_or index i 0))) ∙ r.val ∙ ap (λ (z : Record). z.val) record_is

    codec_found : codec_in s found.value ≡ value_codec this.val
    codec_found = ap value_codec value_found

    digest_found : digest_in s found.value ≡ value_digest this.val
    digest_found = ap value_digest value_found

    module _ {test : Bool}
        (is : test ≡ equal (collection (take (found.from + found.size - found.from) (drop found.from keys))) state_collection) where
      tested : test ≡ equal (collection this.key) state_collection
      tested = is ∙ ap (λ (k : List ℕ). equal (collection k) state_collection) key_found

      other_collection : not test ≡ true → is_state this ≡ false
      other_collection q = rw (← tested) (cases test (λ e. absurd (false≢true (rw e at q))) (λ e. rw e))

      module _ (left : not test ≡ false) where
        of_state : equal (collection this.key) state_collection ≡ true
        of_state = sym tested ∙ cases test (λ e. e) (λ e. absurd (false≢true (sym (rw e at left))))

        module _ {codec : ℕ} (byte : codec ≡ codec_in s found.value) where
          other_codec : (codec ≡ 0x71 → ⊥) → is_state this ≡ false
          other_codec f =
              rw (of_state, ne_eqb (value_codec this.val) dag_cbor (λ e. f (byte ∙ codec_found ∙ e)))

          of_codec : codec ≡ 0x71 → is_state this ≡ true
          of_codec e = and_both of_state (eq-eqb (value_codec this.val) dag_cbor (sym codec_found ∙ sym byte ∙ e))

    root_word : length s < 2 ^ 24 → RootWord s this.val (2 ^ 24 + found.value)
    root_word short = record {
      place = found.value;
      word = refl;
      low = omega (arith, value_there);
      within = value_there;
      bytes = digest_found;
    }

-- ---- one record more
-- the first i, or the i-th
pub up_to {κ} : {C : Type κ} (i j : ℕ) → j < i + 1 → (j < i → C) → (j ≡ i → C) → C
up_to i j h f e = cases (eqb j i) (λ q. e (eqb-true j i q)) (λ q. f (omega (arith, eqb-false j i q)))

module _ {s : List ℕ} {rs : List Record} {words₀ roots words : List ℕ} {m i : ℕ} (u : RootsNoted s rs words₀ roots words m i)
    (room : i < length roots) (more : m + i < length words) (w : ℕ) (right : is_state (get_or rs i nothing) ≡ true)
    (names : RootWord s (get_or rs i nothing).val w) where
  other_root : (j : ℕ) → j < i → get_or (set roots i w) j 0 ≡ get_or roots j 0
  other_root j h = get_or-set_other roots i j w 0 (λ e. omega arith)

  one_root_more : RootsNoted s rs words₀ (set roots i w) (set words (m + i) w) m (i + 1)
  one_root_more = record {
    states = λ j h. up_to i j h (λ l. u.states j l) (λ e. rw e right);
    named = λ j h. up_to i j h
        (λ l. rw (other_root j l) (u.named j l))
        (λ e. rw (e, get_or-set_same roots i w 0 room) names);
    added = λ j h. up_to i j h
        (λ l. get_or-set_other words (m + i) (m + j) w 0 (λ e. omega arith) ∙ u.added j l ∙ sym (other_root j l))
        (λ e. rw e (get_or-set_same words (m + i) w 0 more ∙ sym (get_or-set_same roots i w 0 room)));
    kept = λ k h. get_or-set_other words (m + i) k w 0 (λ e. omega arith) ∙ u.kept k h;
  }

-- ---- the loop
module _ {s index : List ℕ} {count : ℕ} (b : Bytes s) (i : ℕ) (h : i < count) {keys notes : List ℕ} {found : Recalled}
    (r : Recalls s s (get_or index i 0) keys notes found) {test : Bool}
    (is : test ≡ equal (collection (take (found.from + found.size - found.from) (drop found.from keys))) state_collection)
    (words₀ : List ℕ) (m : ℕ) (roots words : List ℕ) where
  pub wrong_collection : not test ≡ true → RootsSay s index count words₀ m false roots words
  wrong_collection q a = (i, h, other_collection a b i h r is q)

  module _ (left : not test ≡ false) {codec : ℕ} (byte : codec ≡ codec_in s found.value) where
    pub wrong_codec : (codec ≡ 0x71 → ⊥) → RootsSay s index count words₀ m false roots words
    wrong_codec f a = (i, h, other_codec a b i h r is left byte f)

    pub roots_more : codec ≡ 0x71 → RootsSoFar s index count words₀ m roots words i → count ≤ length roots → m + count ≤ length words
        → RootsSoFar s index count words₀ m (set roots i (2 ^ 24 + found.value)) (set words (m + i) (2 ^ 24 + found.value)) (i + 1)
    roots_more e u g l a =
        one_root_more (u a) (omega arith) (omega arith) (2 ^ 24 + found.value)
        (of_codec a b i h r is left byte e) (root_word a b i h r (register_short a b))

pub roots_end : {s index : List ℕ} {count : ℕ} {words₀ : List ℕ} {m : ℕ} {roots words : List ℕ} {i : ℕ}
    → RootsSoFar s index count words₀ m roots words i → i ≤ count → count ≤ i → RootsSay s index count words₀ m true roots words
roots_end {s} {index} {count} {words₀} {m} {roots} {words} {i} u h l a =
    let e : i ≡ count = omega arith in
    subst (λ (n : ℕ). RootsNoted s (records a.tree) words₀ roots words m n) e (u a)

-- the answer by cases
module _ (s index : List ℕ) (count : ℕ) (words : List ℕ) (m : ℕ) where
  pub noting_right : (r : Bool) (roots words' : List ℕ) → RootsSay s index count words m r roots words' → not r ≡ false
      → (a : AcceptedIndex s index count) → RootsNoted s (records a.tree) words roots words' m count
  noting_right true roots words' w q = w
  noting_right false roots words' w q = absurd (false≢true (sym q))

  pub noting_wrong : (r : Bool) (roots words' : List ℕ) → RootsSay s index count words m r roots words' → not r ≡ true
      → (a : AcceptedIndex s index count) → (j : ℕ) × (j < count) × (is_state (get_or (records a.tree) j nothing) ≡ false)
  noting_wrong true roots words' w q = absurd (false≢true q)
  noting_wrong false roots words' w q = w
