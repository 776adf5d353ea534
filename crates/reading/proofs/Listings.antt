-- The records of an accepted register, by their number and beside a key.
use Rattle.std.specs.Prelude.{Result, Ok, Err, Option as Found, Some, None}
use Rattle.std.specs.Option.{SomeIff}
use Prim.Native.Nat.{ℕ, ◌+◌, ◌-◌, ◌≤◌, ◌<◌}
use mathlib.Core.Path.{◌≡◌, refl, sym, ap, subst, ◌∙◌}
use mathlib.Core.Option.{Option, none, some}
use mathlib.Core.List.{List, ◌++◌}
use native.Mathlib.Omega.{arith}
use lib.ListN.{length, take, drop, get_or}
use lib.Seq.{take_all}
use borrow.Author.Tests.{le-leb, lt-leb}
use Rattle.bytestring.proofs.Tools.{drop_zeros}
use Rattle.bytestring.specs.Bytes.{Bytes, zeros}
use Rattle.answer.specs.declared.Refusal.{Refusal}
use Rattle.answer.specs.declared.Refusal.TheVariants.{NoRoom, KeyAbsent}
use Rattle.key.proofs.Laws.{lawful_length}
use Rattle.tree.specs.Record.{records, Record}
use Rattle.tree.specs.Judge.{refused, judge}
use Rattle.tree.proofs.Laws.{all_lawful_lem, accepted_table}
use Rattle.index.specs.Slot.{Slot, slots, key_of}
use Rattle.index.specs.Walk.{HoldsWords, blank}
use Rattle.index.specs.Accepted.{AcceptedIndex}
use Rattle.index.specs.Standing.{SlotAt}
use Rattle.index.proofs.SlotLaws.{slots_length, slots_lawful, slot_record}
use Rattle.value.specs.Value.{value_length, value_in}
use Rattle.index.proofs.Standing.{accepted_slot_stands, value_within}
use Rattle.promises.specs.Map.{nth}
use Rattle.promises.proofs.MapLaws.{nth_there, nth_past}
use Rattle.promises.specs.Outcome.{Listed, unlisted, past_the_end, listed, list_record, list_verdict, list_outcome, list_answer, list_key, list_value}
use Rattle.row.specs.Fetch.{Fetched, FetchSays}
use Rattle.row.specs.declared.fetch.FetchedAt.{FetchedAt}
use Rattle.row.proofs.Rows.{lawful_slot}
use Rattle.row.proofs.Memories.{no_note}
use mathlib.Core.Bool.{Bool, true, false}
use borrow.Table.Steps.{cases}
use Rattle.key.specs.Key.{lawful, slash_answer}
use Rattle.key.proofs.SlashLaws.{slash_refused}
use Rattle.promises.specs.Range.{one_record, beside_key, at_or_after_outcome, before_outcome}
use Rattle.row.specs.Row.{nothing}
use Rattle.row.specs.Search.{count_below, CountSays}
use Rattle.row.proofs.Counting.{nth_from, none_below, nth_below}
use Rattle.reading.specs.Beside.{beside_record, beside_outcome}
use Rattle.reading.specs.Positions.{accepted_records, PositionSays}

-- ---- what a call of list answers and writes
abbrev pub ListSays : Listed → ℕ → Result ℕ Refusal → List ℕ → List ℕ → Type 0
ListSays outcome room r out value = (r ≡ list_answer outcome) × ((out ≡ list_key outcome room) × (value ≡ list_value outcome))

-- a refusal
pub record_refused : {o : Listed} {r : Refusal} (room : ℕ) (answer : Result ℕ Refusal) (out value : List ℕ) → o ≡ unlisted r
    → (answer ≡ Err r) × ((out ≡ zeros room) × (value ≡ zeros value_length)) → ListSays o room answer out value
unfolding list_answer list_key list_value
record_refused room answer out value e says = (says.0 ∙ rw e, (says.1.0 ∙ rw e, says.1.1 ∙ rw e))

pub record_same : {o p : Listed} (room : ℕ) (answer : Result ℕ Refusal) (out value : List ℕ) → p ≡ o → ListSays p room answer out value → ListSays o room answer out value
record_same room answer out value e says = rw (← e) says

pub listed_refused : (s : List ℕ) (n room : ℕ) {r : Refusal} → judge s ≡ refused r → list_outcome s n room ≡ unlisted r
unfolding list_outcome list_verdict
listed_refused s n room e = rw e

module _ (room : ℕ) {out value : List ℕ} (o : out ≡ zeros room) (v : value ≡ zeros value_length) where
  -- without a record both outputs are zero
  without_record : (outcome : Listed) → outcome ≡ past_the_end → ListSays outcome room (Ok 0) out value
  unfolding list_answer list_key list_value
  without_record outcome e = (rw e, (rw e o, rw e v))

  pub list_past : {s index : List ℕ} {count : ℕ} (n : ℕ) → AcceptedIndex s index count → count ≤ n → ListSays (list_outcome s n room) room (Ok 0) out value
  unfolding list_outcome list_verdict list_record
  list_past {s} n a h =
      let p : length (records a.tree) ≤ n = omega (arith, a.size) in
      without_record (list_outcome s n room) (rw (a.judged, nth_past n (records a.tree) p))

-- ---- the n-th record of an accepted register, fetched by its word
module _ {s index : List ℕ} {count : ℕ} (a : AcceptedIndex s index count) (b : Bytes s) (n : ℕ) (h : n < count) where
  -- its slot
  abbrev slot_of : Slot
  slot_of = get_or (slots 0 0 a.tree) n blank

  within : n < length (slots 0 0 a.tree)
  within = omega (arith, a.size, slots_length 0 0 a.tree)

  among : n < length (records a.tree)
  among = omega (arith, a.size)

  stands : SlotAt s slot_of
  stands = accepted_slot_stands s a.tree b a.judged n within

  nth_of_slot : nth n (records a.tree) ≡ some slot_of.item
  nth_of_slot = nth_there n (records a.tree) blank.item among ∙ ap some (sym (slot_record 0 0 a.tree n blank within blank.item))

  -- the keys keep the key rule, so that they are short
  key_short : length (key_of slot_of) ≤ 256
  key_short =
      let keys = slots_lawful 0 0 a.tree ∙ all_lawful_lem (records a.tree) (accepted_table s b a.tree a.judged).fit.keys in
      lawful_length (key_of slot_of) (lawful_slot (slots 0 0 a.tree) keys n within)

  module _ (buffer₀ buffer : List ℕ) (found : FetchedAt) (f : FetchSays s (get_or index n 0) buffer₀ 0 buffer found) (i : n < length index) where
    -- its key and the place of its value are found
    says : Fetched s slot_of stands buffer found
    unfolding FetchSays HoldsWords
    says = let w = a.indexed n within i in f slot_of stands w.page w.entry (no_note s buffer₀)

    pub size_small : found.size ≤ 256
    size_small = omega (arith, says.holds.size, key_short)

    pub list_no_room : (room : ℕ) {out value : List ℕ} → out ≡ zeros room → value ≡ zeros value_length → room < found.size
        → ListSays (list_outcome s n room) room (Err NoRoom) out value
    unfolding list_outcome list_verdict list_record
    list_no_room room o v k =
        let e : room < length (key_of slot_of) = omega (arith, says.holds.size) in
        record_refused room (Err NoRoom) _ _ (rw (a.judged, nth_of_slot, lt-leb (length (key_of slot_of)) room e)) (refl, (o, v))

    key_held : length buffer ≡ 256 → take found.size buffer ≡ key_of slot_of
    key_held e = says.holds.bytes ∙ take_all (length buffer) (key_of slot_of) (omega (arith, key_short))

    -- the key at the front of the cleared output, and the value beside it
    pub list_record_lem : (room : ℕ) (out cleared value : List ℕ) → length buffer ≡ 256 → found.size ≤ room → cleared ≡ zeros room
        → out ≡ take found.size buffer ++ drop (length (take found.size buffer)) cleared
        → (found.value + 32 ≤ length s → value ≡ value_in s found.value)
        → ListSays (list_outcome s n room) room (Ok found.size) out value
    unfolding list_outcome list_verdict list_record list_answer list_key list_value
    list_record_lem room out cleared value e k z o v =
        let x : Slot = slot_of in
        let fits : length (key_of x) ≤ room = omega (arith, says.holds.size) in
        let q : list_outcome s n room ≡ listed x.item = rw (a.judged, nth_of_slot, le-leb (length (key_of x)) room fits) in
        let place : found.value + 32 ≤ length s = omega (arith, says.value, value_within stands) in (
          rw q (ap Ok says.holds.size),
          (rw q (o ∙ rw (key_held e, z, drop_zeros (length (key_of x)) room)), rw q (v place ∙ rw says.value stands.bytes)),
        )

-- ---- the records of an accepted register
module _ {s index : List ℕ} {count : ℕ} (a : AcceptedIndex s index count) where
  pub records_in_lem : accepted_records (judge s) ≡ records a.tree
  unfolding accepted_records
  records_in_lem = rw a.judged

  pub counts : (counted : List Record → ℕ) (r : ℕ) → CountSays counted s index count r → r ≡ counted (accepted_records (judge s))
  unfolding CountSays
  counts counted r says = says a.tree a.judged a.size a.indexed ∙ ap counted (sym records_in_lem)

  pub count_is : length (accepted_records (judge s)) ≡ count
  count_is = ap length records_in_lem ∙ sym a.size

-- ---- the position beside a key
none_left : (n : ℕ) → (1 ≤ n → ⊥) → n ≡ 0
none_left n f = omega (arith, f)

module _ (k : List ℕ) (rs : List Record) (n count : ℕ) (below : n ≡ count_below k rs) (within : n ≤ count) (size : length rs ≡ count) (b : Bool) where
  pub after_position : b ≡ true → n < count → PositionSays count rs (beside_record b k rs) (Some n)
  unfolding beside_record
  after_position q h = (h, rw (q, below) (sym (nth_from k rs)))

  pub none_after : b ≡ true → count ≤ n → PositionSays count rs (beside_record b k rs) None
  unfolding beside_record
  none_after q h = rw q (nth_from k rs ∙ nth_past (count_below k rs) rs (omega (arith, below)))

  pub before_position : b ≡ false → (got : Found ℕ) → SomeIff got (1 ≤ n) (n - 1) → PositionSays count rs (beside_record b k rs) got
  unfolding beside_record
  before_position q None f = rw q (none_below k rs (sym below ∙ none_left n f))
  before_position q (Some x) (h, e) = (omega arith, rw (e, q) (sym (nth_below k rs (n - 1) (omega (arith, below)))))

pub position_is : (count : ℕ) (rs : List Record) (r : Option Record) {got : Found ℕ} {n : ℕ} → PositionSays count rs r got → got ≡ Some n → (n < count) × (nth n rs ≡ r)
position_is count rs r w e = subst (PositionSays count rs r) e w

pub no_position : (count : ℕ) (rs : List Record) (r : Option Record) {got : Found ℕ} → PositionSays count rs r got → got ≡ None → r ≡ none
no_position count rs r w e = subst (PositionSays count rs r) e w

-- ---- the outcome
module _ (b : Bool) (s k : List ℕ) (room : ℕ) where
  beside_is : beside_outcome b s k room ≡ beside_key (judge s) k (beside_record b k) room
  unfolding beside_outcome at_or_after_outcome before_outcome beside_record
  beside_is = cases b (λ h. rw h) (λ h. rw h)

  pub beside_refused : {r : Refusal} → judge s ≡ refused r → beside_outcome b s k room ≡ unlisted r
  unfolding beside_key
  beside_refused e = rw (beside_is, e)

  module _ {index : List ℕ} {count : ℕ} (a : AcceptedIndex s index count) where
    pub beside_unlawful : {r : Refusal} → slash_answer k ≡ Err r → beside_outcome b s k room ≡ unlisted r
    unfolding beside_key
    beside_unlawful q = let w = slash_refused k _ q in rw (beside_is, a.judged, w.0, w.1)

    -- a record that is the n-th comes as list gives it
    module _ (l : lawful k ≡ true) (n : ℕ) (says : nth n (accepted_records (judge s)) ≡ beside_record b k (accepted_records (judge s))) where
      found : beside_record b k (records a.tree) ≡ nth n (records a.tree)
      found = sym (rw (records_in_lem a) at says)

      pub beside_given : n < count → list_outcome s n room ≡ beside_outcome b s k room
      unfolding beside_key one_record list_outcome list_verdict list_record
      beside_given h = rw (beside_is, a.judged, l, found, nth_there n (records a.tree) nothing (omega (arith, a.size)))

    pub beside_none : lawful k ≡ true → beside_record b k (accepted_records (judge s)) ≡ none → beside_outcome b s k room ≡ unlisted KeyAbsent
    unfolding beside_key one_record
    beside_none l says =
        let absent : beside_record b k (records a.tree) ≡ none = rw (records_in_lem a) at says in
        rw (beside_is, a.judged, l, absent)
