-- The writing calls on one register: from what their parts say to the outcome.
use Rattle.answer.specs.declared.Refusal.{Refusal}
use Rattle.std.specs.Prelude.{Result, Ok, Err, Option, Some, None}
use Prim.Native.Nat.{ℕ, ◌+◌, ◌-◌, ◌≤◌, ◌<◌}
use mathlib.Core.Path.{◌≡◌, refl, sym, ap, subst, ◌∙◌}
use mathlib.Core.Bool.{Bool, true, false}
use mathlib.Core.Option.{none, some, none-ne-some}
use mathlib.Core.List.{List, [], ◌∷◌, ◌++◌, map, map-append}
use native.Mathlib.Numerals.{add-one}
use native.Mathlib.Omega.{arith}
use lib.ListN.{length, take, drop, length-map, length-take, length-drop}
use lib.Seq.{take_all, get_or-take, get_or-drop}
use Rattle.limits.specs.Limits.{most}
use Rattle.bytestring.proofs.Tools.{All, all_append, cond-inv, part_taken}
use Rattle.answer.specs.declared.Refusal.TheVariants.{TooManyRecords, KeyAbsent}
use Rattle.value.specs.Value.{value_length, is_value}
use Rattle.value.proofs.Laws.{value_length_lem}
use Rattle.key.specs.Key.{lawful, less}
use Rattle.tree.specs.Record.{Record, records}
use Rattle.tree.specs.Table.{SpeltTree, table_of}
use Rattle.tree.specs.Judge.{due, judge}
use Rattle.tree.specs.Place.{places}
use Rattle.index.specs.Slot.{slots}
use Rattle.index.proofs.SlotLaws.{slots_length, slots_places}
use Rattle.row.specs.Row.{nothing, record_of_word, Stands, records_of, Row}
use Rattle.row.proofs.Rows.{records_length}
use Rattle.head.specs.declared.Head.{Head}
use Rattle.head.specs.declared.Headed.{Headed}
use Rattle.writer.specs.Output.{table_answer, table_output, table_headed}
use Rattle.promises.specs.Map.{find, is_there, put, remove}
use Rattle.promises.specs.Outcome.{place_of, stopped as refused_write}
use Rattle.promises.specs.Moved.{stopped, remove_outcome}
use Rattle.row.specs.Search.{place_found, PositionIs, SearchSays, count_below, count_up_to}
use Rattle.row_words.specs.RowWords.{LeftOut, Single}
use Rattle.choice.specs.Choice.{choice_of, weave, woven_of, RowOf, ChooseSays}
use Rattle.writing.specs.Tests.{record_tests, range_tests}
use Rattle.writing.specs.Writing.{written, written_without, moved_to, set_outcome, records_from}
use Rattle.choice.proofs.Weaving.{weave_put, remove_at, find_at}
use Rattle.choice.proofs.Choosing.{all_first, first_at, all_drop, records_slice, records_front}
use Rattle.reading.proofs.Verdicts.{Accepting, t, sorted, short, row_first, records_first, accepted_few}
use Rattle.reading.proofs.Answering.{searched, position_is, position_within}
use Rattle.checking.specs.Lent.{TrueOf}
use Rattle.writing.proofs.Writing.{Says, written_many, written_says, tested_value, test_held, run_written}
use Rattle.writing.proofs.Moving.{Gives, moved_many, moved_gives, set_written, remove_absent, remove_written}
use borrow.Author.Tests.{not-true}
use Rattle.promises.specs.Range.{records_between, run_outcome}
use Rattle.row.proofs.Counting.{counts_rise, between_slice}
use Rattle.reading.specs.Positions.{accepted_records}
use Rattle.reading.proofs.Listings.{records_in_lem}

-- ---- the table of a row
module _ {s u row : List ℕ} {n : ℕ} {rs : List Record} (w : RowOf s u row n rs) (room : ℕ) where
  few : length rs ≤ most
  few = omega (arith, ap length w.records, records_length s u row n w.whole.room, w.whole.few)

  pub row_written : (answer : Result ℕ Refusal) (out : List ℕ)
      → (answer ≡ table_answer (table_of (records_of s u row n)) room) × (out ≡ table_output (table_of (records_of s u row n)) room)
      → Says (written rs room) room answer out
  row_written answer out says =
      let w' = written_says rs room few in (says.0 ∙ rw w.records w'.0, says.1 ∙ rw w.records w'.1)

  -- of a call that is lent a head
  pub row_moved : (lent : Head) (given : Headed) (out : List ℕ)
      → (given ≡ table_headed (records_of s u row n) lent room) × (out ≡ table_output (table_of (records_of s u row n)) room)
      → Gives (moved_to rs room) lent room given out
  row_moved lent given out gives =
      let w' = moved_gives rs room few lent in (gives.0 ∙ rw w.records w'.0, gives.1 ∙ rw w.records w'.1)

module _ (s u row : List ℕ) (rs : List Record) (c : Option ℕ) (w : ChooseSays s u rs c row) where
  pub chosen_row : {n : ℕ} → c ≡ Some n → RowOf s u row n rs
  chosen_row e = subst (λ (x : Option ℕ). ChooseSays s u rs x row) e w

  pub chosen_full : (room : ℕ) → c ≡ None → written rs room ≡ refused_write TooManyRecords
  chosen_full room e = written_many rs room (subst (λ (x : Option ℕ). ChooseSays s u rs x row) e w)

  pub chosen_many : (room : ℕ) → c ≡ None → moved_to rs room ≡ stopped TooManyRecords
  chosen_many room e = moved_many rs room (subst (λ (x : Option ℕ). ChooseSays s u rs x row) e w)

-- ---- a key that is not found
places_length : (t : SpeltTree) → length (places 0 t) ≡ length (records t)
places_length t = sym (ap length (slots_places 0 0 t)) ∙ length-map (slots 0 0 t) (λ y. y.value) ∙ slots_length 0 0 t

not_found : (k : List ℕ) (rs : List Record) (ps : List ℕ) → length ps ≡ length rs → place_of k rs ps ≡ none → find k rs ≡ none
unfolding place_of find
not_found k [] ps l e = refl
not_found k (r ∷ rs) [] l e = absurd (omega arith)
not_found k (r ∷ rs) (p ∷ ps) l e =
    let shorter : length ps ≡ length rs = omega arith in
    cond-inv (less k r.key) (λ h _. rw h)
    (λ h f. cond-inv (less r.key k) (λ g q. rw (h, g) (not_found k rs ps shorter q)) (λ g q. absurd (none-ne-some p (sym q))) f) e

-- a value argument that passes its tests is copied whole
module _ (k value v : List ℕ) (q : due (record_tests k value) ≡ none) (copied : length value ≡ value_length → v ≡ value) where
  same_value : v ≡ value
  same_value = copied (value_length_lem value (tested_value k value q))

  pub copied_value : is_value v ≡ true
  copied_value = rw same_value (tested_value k value q)

-- ---- a record left out
module _ {s index : List ℕ} {count : ℕ} (a : Accepting s index count) (k : List ℕ) (r : Result (ℕ × ℕ) ℕ) (v : SearchSays s index count k r) where
  module _ (position place : ℕ) (e : r ≡ Ok (position, place)) where
    found : PositionIs k (records (t a)) (Ok (position, place))
    found = position_is a.given k r v position place e

    inside : position < count
    inside = position_within a.given k r v position place e

    pub found_value : (w : List ℕ) × (find k (records (t a)) ≡ some w)
    found_value = (_, find_at k nothing (records (t a)) (sorted a) position found.0 found.1)

    module _ (index' : List ℕ) (same : length index' ≡ length index) (left : LeftOut index count position index') where
      parts_stand : All (Stands s s) (take (count - 1) index')
      unfolding LeftOut
      parts_stand =
          let whole = all_first (Stands s s) index count a.given.room (row_first a s (short a)).stands in
          rw left (all_append (Stands s s) (take position index) (drop (position + 1) (take count index))
          (all_first (Stands s s) index position (omega (arith, inside)) (λ i h. (row_first a s (short a)).stands i (omega (arith, inside))))
          (all_drop (Stands s s) (position + 1) (take count index) whole))

      left_records : map (record_of_word s s) (take position index) ++ map (record_of_word s s) (drop (position + 1) (take count index)) ≡ remove k (records (t a))
      left_records =
          let within : position ≤ count = omega (arith, inside) in
          rw (records_front s s index count position within, records_slice s s index count (position + 1), records_first a s, add-one position)
          (sym (remove_at k nothing (records (t a)) (sorted a) position found.0 found.1))

      pub left_row : RowOf s s index' (count - 1) (remove k (records (t a)))
      unfolding records_of LeftOut
      left_row = record {
        whole = record {
          few = omega (arith, (row_first a s (short a)).few);
          room = omega arith;
          first = short a;
          second = short a;
          stands = first_at (Stands s s) index' (count - 1) (omega arith) parts_stand;
        };
        records = rw left (map-append (record_of_word s s) (take position index) (drop (position + 1) (take count index)) ∙ left_records);
      }

    pub found_without : (out : ℕ) → written (remove k (records (t a))) out ≡ written_without k (accepted_records (judge s)) out
    unfolding written_without is_there
    found_without out = rw (records_in_lem a.given, found_value.1)

  module _ (position : ℕ) (e : r ≡ Err position) where
    pub absent : find k (records (t a)) ≡ none
    absent =
        let nowhere = sym (searched a.given k r v).0 ∙ ap place_found e in
        not_found k (records (t a)) (places 0 (t a)) (places_length (t a)) nowhere

    pub absent_without : (out : ℕ) → written_without k (accepted_records (judge s)) out ≡ refused_write KeyAbsent
    unfolding written_without is_there
    absent_without out = rw (records_in_lem a.given, absent)

-- ---- a record set
module _ {s index : List ℕ} {count : ℕ} (a : Accepting s index count) (k v page : List ℕ) (w : ℕ) (one : Single k v page w) where
  pub woven_single : (g : Bool) → woven_of g s page index count (w ∷ []) 1 ≡ weave (choice_of g) (records (t a)) (record { key = k; val = v } ∷ [])
  unfolding woven_of records_of
  woven_single g =
      ap (λ (rs : List Record). weave (choice_of g) rs (record_of_word s page w ∷ [])) (records_first a page) ∙ rw (one.spells s)

  pub put_done : (out : ℕ) → written (woven_of false s page index count (w ∷ []) 1) out ≡ written (put (record { key = k; val = v }) (accepted_records (judge s))) out
  put_done out =
      ap (λ (rs : List Record). written rs out) (woven_single false ∙ weave_put (record { key = k; val = v }) (records (t a)) ∙ rw (records_in_lem a.given))

module _ {s index : List ℕ} {count : ℕ} (a : Accepting s index count) (h : Head) (own : TrueOf s h) where
  -- ---- put and join
  module _ (g : Bool) (k value v : List ℕ) (q : due (record_tests k value) ≡ none) (copied : length value ≡ value_length → v ≡ value)
      (page : List ℕ) (w : ℕ) (one : Single k v page w) where
    pub set_done : (out : ℕ) → moved_to (woven_of g s page index count (w ∷ []) 1) out ≡ set_outcome g s h k value out
    set_done out =
        ap (λ (rs : List Record). moved_to rs out) (woven_single a k v page w one g ∙ rw (same_value k value v q copied))
        ∙ set_written g s h k value out (t a) a.given.judged own q

  -- ---- remove
  module _ (k : List ℕ) (r : Result (ℕ × ℕ) ℕ) (v : SearchSays s index count k r) where
    pub remove_done : (position place : ℕ) → r ≡ Ok (position, place) → (out : ℕ) → lawful k ≡ true
        → moved_to (remove k (records (t a))) out ≡ remove_outcome s h k out
    remove_done position place e out l = remove_written s h k out (t a) a.given.judged own l _ (found_value a k r v position place e).1

    pub absent_done : (out : ℕ) → lawful k ≡ true → (position : ℕ) → r ≡ Err position → remove_outcome s h k out ≡ stopped KeyAbsent
    absent_done out l position e = remove_absent s h k out (t a) a.given.judged own l (absent a k r v position e)

-- ---- run
-- the words of a part of the index stand for that part of the records
module _ {s index : List ℕ} {count : ℕ} (a : Accepting s index count) (low high : ℕ) (rise : low ≤ high) (within : high ≤ count) where
  abbrev part : List ℕ
  part = take (high - low) (drop low index)

  part_length : length part ≡ high - low
  part_length = simp (length-take, length-drop) (omega (arith, a.given.room))

  part_row : Row s s part (high - low)
  part_row =
      let whole = row_first a s (short a) in
      record {
        few = omega (arith, whole.few);
        room = omega (arith, part_length);
        first = short a;
        second = short a;
        stands = λ i h. rw (get_or-take (high - low) (drop low index) i 0 h, get_or-drop) (whole.stands (low + i) (omega arith));
      }

  part_records : records_of s s part (high - low) ≡ take (high - low) (drop low (records (t a)))
  unfolding records_of
  part_records =
      rw (take_all (high - low) part (omega (arith, part_length)), part_taken high low index)
      (records_slice s s index high low
      ∙ ap (drop low) (records_front s s index count high within ∙ ap (take high) (records_first a s))
      ∙ sym (part_taken high low (records (t a))))

  pub range_row : RowOf s s (take (high - low) (drop low index)) (high - low) (records_from low high (accepted_records (judge s)))
  range_row = record { whole = part_row; records = part_records ∙ ap (records_from low high) (sym (records_in_lem a.given)) }

-- with the ends that the two keys have
module _ {s index : List ℕ} {count : ℕ} (a : Accepting s index count) (first last : List ℕ) (low high : ℕ)
    (from : low ≡ count_below first (accepted_records (judge s))) (to : high ≡ count_up_to last (accepted_records (judge s))) (q : due (range_tests first last) ≡ none) where
  in_order_lem : less last first ≡ false
  in_order_lem = not-true (less last first) (test_held _ _ (test_held _ _ (test_held _ _ q).1).1).0

  pub run_rises : low ≤ high
  run_rises = omega (arith, from, to, counts_rise first last in_order_lem (accepted_records (judge s)))

  between : records_from low high (accepted_records (judge s)) ≡ records_between first last (records (t a))
  between = rw (from, to, records_in_lem a.given) (sym (between_slice first last in_order_lem (records (t a)) (sorted a)))

  pub run_done : (room : ℕ) → written (records_from low high (accepted_records (judge s))) room ≡ run_outcome s first last room
  run_done room =
      ap (λ (rs : List Record). written rs room) between
      ∙ run_written s first last room (t a) a.given.judged q (omega (arith, a.given.size, accepted_few a.bytes a.given))
