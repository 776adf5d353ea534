-- A screen of records that are known: which positions it has, and what is answered and written.
use Rattle.std.specs.Prelude.{Result}
use Prim.Native.Nat.{ℕ, ◌+◌, ◌-◌, ◌*◌, ◌/◌, ◌≤◌, ◌<◌, min, max, ◌%◌}
use mathlib.Core.Path.{◌≡◌, sym, ap, ◌∙◌}
use mathlib.Core.Bool.{true, false}
use mathlib.Core.List.{List}
use native.Mathlib.Omega.{arith}
use lib.Dec.{leb, eqb}
use lib.ListN.{length, take, drop, length-take, length-drop}
use lib.Seq.{take_all, take-take, drop-drop}
use borrow.Author.Tests.{le-ltb, lt-ltb, leb-true, leb-false, eqb-true, eqb-false, ne_eqb}
use borrow.Table.Steps.{cases}
use Rattle.bytestring.proofs.Tools.{part_taken}
use Rattle.answer.specs.Inner.{with_second}
use Rattle.answer.specs.declared.Refusal.{Refusal}
use Rattle.answer.specs.declared.Refusal.TheVariants.{UnlawfulKey, NoSuchScreen}
use Rattle.tree.specs.Record.{Record, records}
use Rattle.tree.specs.Table.{SpeltTree}
use Rattle.tree.specs.Judge.{due, refused, accepted, judge}
use Rattle.promises.specs.Outcome.{settle, answer_of, output_of}
use Rattle.promises.specs.Counted.{CountedOutcome, stopped, settle_counted, counted_answer, counted_output}
use Rattle.promises.proofs.CountedLaws.{CountedSays, counted_settled}
use Rattle.index.specs.Accepted.{AcceptedIndex}
use Rattle.reading.specs.Positions.{accepted_records}
use Rattle.row.specs.Search.{count_below}
use Rattle.reading.proofs.Verdicts.{Accepting}
use Rattle.reading.proofs.Listings.{records_in_lem}
use Rattle.writing.specs.Writing.{written, records_from}
use Rattle.writing.proofs.Writing.{few_sizes}
use Rattle.collections.specs.Screen.{is_collection_name, of_collection, screens, on_screen, screen_tests, screen_verdict, screen_outcome}
use Rattle.collections.proofs.Screens.{screens_suffice, screen_few}
use Rattle.collections.proofs.Bounds.{from, to}
use Rattle.screen.specs.Show.{show_outcome}
use Rattle.screen.proofs.Naming.{collection_slice}

-- ---- the positions of a screen
pub no_records : (count : ℕ) → count ≡ 0 → screens count ≡ 1
unfolding screens
no_records count h = rw h

pub screens_counted : (count : ℕ) → (count ≡ 0 → ⊥) → (count - 1) / 8 + 1 ≡ screens count
unfolding screens
screens_counted count h = rw (ne_eqb count 0 h) (omega arith)

pub screens_rounded : (count : ℕ) → max (count / 8 + min 1 (count % 8)) 1 ≡ screens count
unfolding screens
screens_rounded count =
    cases (eqb count 0) (λ e. rw e (omega (arith, eqb-true count 0 e))) (λ e. rw e (omega (arith, eqb-false count 0 e)))

pub screens_few : (count : ℕ) → count ≤ 4096 → screens count ≤ 512
screens_few count h = (screens_suffice count).2 512 (omega arith) (omega arith)

-- at most so many of a list
take_least : (n k : ℕ) (l : List Record) → take n (take k l) ≡ take (min n k) l
take_least n k l =
    cases (leb n k)
    (λ e. let least : min n k ≡ n = omega (arith, leb-true n k e) in rw least (take-take n k l (leb-true n k e)))
    (λ e. let least : min n k ≡ k = omega (arith, leb-false n k e) in rw least (take_all n (take k l) (omega (arith, leb-false n k e, length-take k l))))

module _ (rs : List Record) (low high n : ℕ) (rise : low ≤ high) (within : high ≤ length rs) where
  part_count : length (records_from low high rs) ≡ high - low
  part_count = omega (arith, length-take (high - low) (drop low rs), length-drop low rs)

  module _ (exists : n < screens (high - low)) where
    -- a screen that exists begins within the records, or where they end
    first_within : low + 8 * n ≤ high
    first_within =
        cases (eqb (high - low) 0)
        (λ e. let one : screens (high - low) ≡ 1 = no_records (high - low) (eqb-true (high - low) 0 e) in omega arith)
        (λ e. omega (arith, screens_counted (high - low) (eqb-false (high - low) 0 e), eqb-false (high - low) 0 e))

    screen_positions : records_from (low + 8 * n) (low + 8 * n + min 8 (high - (low + 8 * n))) rs ≡ on_screen n (records_from low high rs)
    unfolding on_screen
    screen_positions =
        let first : ℕ = low + 8 * n in
        let left : high - low - 8 * n ≡ high - first = omega arith in
        let size : first + min 8 (high - first) - first ≡ min 8 (high - first) = omega arith in
        let rest : drop (8 * n) (records_from low high rs) ≡ take (high - first) (drop first rs) =
        sym (part_taken (high - low) (8 * n) (drop low rs)) ∙ rw (left, drop-drop (8 * n) low rs) in
        rw (size, rest) (sym (take_least 8 (high - first) (drop first rs)))

-- ---- what is answered and written
module _ (rs : List Record) (n room : ℕ) where
  abbrev count : ℕ
  count = screens (length rs)

  abbrev on : List Record
  on = on_screen n rs

  past_end : count ≤ n → show_outcome rs n room ≡ stopped NoSuchScreen
  unfolding show_outcome due settle_counted
  past_end h = rw (le-ltb n count h)

  module _ (exists : n < count) where
    -- 5 is not due, since a screen has few records
    written_screen : written on room ≡ settle (due (screen_tests n rs room)) on
    unfolding written due
    written_screen = rw (lt-ltb n count exists, few_sizes on room (omega (arith, screen_few n rs)))

    shown_says : {answer : Result ℕ Refusal} {out : List ℕ} {r : Result (ℕ × ℕ) Refusal}
        → (answer ≡ answer_of (written on room)) × (out ≡ output_of (written on room) room) → r ≡ with_second answer count
        → CountedSays (show_outcome rs n room) room r out
    unfolding show_outcome
    shown_says says e =
        let w = counted_settled (due (screen_tests n rs room)) on count room in
        (e ∙ rw (says.0, written_screen) w.0, says.1 ∙ rw written_screen w.1)

-- with the records at some positions of an accepted register
module _ {s index : List ℕ} {count : ℕ} (a : AcceptedIndex s index count) (low high n : ℕ) (rise : low ≤ high) (within : high ≤ count) where
  abbrev all : List Record
  all = accepted_records (judge s)

  abbrev part : List Record
  part = records_from low high all

  high_within : high ≤ length all
  high_within = omega (arith, a.size, ap length (records_in_lem a))

  part_screens : screens (length part) ≡ screens (high - low)
  part_screens = ap screens (part_count all low high n rise high_within)

  pub show_past : (room : ℕ) → screens (high - low) ≤ n → show_outcome part n room ≡ stopped NoSuchScreen
  show_past room h = past_end part n room (omega (arith, part_screens))

  module _ (exists : n < screens (high - low)) where
    pub show_within : low + 8 * n ≤ high
    show_within = first_within all low high n rise high_within exists

    pub show_says : (size : ℕ) → size ≡ min 8 (high - (low + 8 * n)) → (room : ℕ) {answer : Result ℕ Refusal} {out : List ℕ} {r : Result (ℕ × ℕ) Refusal}
        → (answer ≡ answer_of (written (records_from (low + 8 * n) (low + 8 * n + size) all) room))
        × (out ≡ output_of (written (records_from (low + 8 * n) (low + 8 * n + size) all) room) room)
        → (number : ℕ) → number ≡ screens (high - low) → r ≡ with_second answer number → CountedSays (show_outcome part n room) room r out
    show_says size e room {answer} says number q f =
        let positions = ap (λ (k : ℕ). records_from (low + 8 * n) (low + 8 * n + k) all) e ∙ screen_positions all low high n rise high_within exists in
        shown_says part n room (omega (arith, part_screens))
        (says.0 ∙ ap (λ (rs : List Record). answer_of (written rs room)) positions, says.1 ∙ ap (λ (rs : List Record). output_of (written rs room) room) positions)
        (f ∙ ap (with_second answer) (q ∙ sym part_screens))

-- ---- the whole call
module _ (s c : List ℕ) (n room : ℕ) where
  pub screen_refused : {r : Refusal} → judge s ≡ refused r → screen_outcome s c n room ≡ stopped r
  unfolding screen_outcome screen_verdict
  screen_refused e = rw e

  module _ (t : SpeltTree) (e : judge s ≡ accepted t) where
    pub name_refused : is_collection_name c ≡ false → screen_outcome s c n room ≡ stopped UnlawfulKey
    unfolding screen_outcome screen_verdict due settle_counted
    name_refused h = rw (e, h)

    name_passed : is_collection_name c ≡ true → show_outcome (of_collection c (records t)) n room ≡ screen_outcome s c n room
    unfolding screen_outcome screen_verdict due show_outcome
    name_passed h = rw (e, h)

-- the screen of the collection's records is that of the records between its bounds
module _ {s index : List ℕ} {count : ℕ} (a : Accepting s index count) (c : List ℕ) (h : is_collection_name c ≡ true) (low high : ℕ)
    (lower : low ≡ count_below (from c) (accepted_records (judge s))) (upper : high ≡ count_below (to c) (accepted_records (judge s))) where
  screen_shown : (n room : ℕ) → show_outcome (records_from low high (accepted_records (judge s))) n room ≡ screen_outcome s c n room
  screen_shown n room =
      ap (λ (rs : List Record). show_outcome rs n room) (collection_slice a c h low high lower upper) ∙ name_passed s c n room a.given.tree a.given.judged h

  pub screen_says : (n room : ℕ) {r : Result (ℕ × ℕ) Refusal} {out : List ℕ}
      → CountedSays (show_outcome (records_from low high (accepted_records (judge s))) n room) room r out → CountedSays (screen_outcome s c n room) room r out
  screen_says n room says =
      (says.0 ∙ ap counted_answer (screen_shown n room), says.1 ∙ ap (λ (o : CountedOutcome). counted_output o room) (screen_shown n room))
