-- A row with one word inserted, or one replaced: where the word stands for a record at the position of its key, the records are those woven.
use Prim.Native.Nat.{ℕ, ◌+◌, ◌≤◌, ◌<◌}
use mathlib.Core.Path.{◌≡◌, sym, ap, ◌∙◌}
use mathlib.Core.Bool.{Bool}
use mathlib.Core.List.{List, [], ◌∷◌, ◌++◌, map-append}
use native.Mathlib.Nat.{add-zero}
use native.Mathlib.Numerals.{add-one}
use native.Mathlib.Omega.{arith}
use lib.ListN.{length, take, drop, get_or, set, length-append, length-drop, length-set}
use lib.Seq.{length-take-le, take-take, take-set-lt, set_split, get_or-drop}
use Rattle.limits.specs.Limits.{most}
use Rattle.bytestring.proofs.Tools.{All, all_append}
use Rattle.value.specs.Value.{value_in}
use Rattle.key.specs.Key.{less}
use Rattle.tree.specs.Record.{Record}
use Rattle.row.specs.Row.{source_of, nothing, record_of_word, Stands, Row, records_of}
use Rattle.row.specs.Search.{key_at, count_below, count_up_to}
use Rattle.row.proofs.Rows.{records_length}
use Rattle.row.proofs.Counting.{front_few}
use Rattle.promises.proofs.MapLaws.{Sorted}
use Rattle.choice.specs.Choice.{choice_of, woven_of, value_at, word_of, RowOf}
use Rattle.row_words.specs.RowWords.{Inserted}
use Rattle.choice.proofs.Choosing.{all_first, first_at, all_drop, records_cons, records_slice, records_front}
use Rattle.choice.proofs.Weaving.{chosen_at, weave_absent, weave_present}
use Rattle.choice.proofs.Turns.{word_stands, word_spells}

module _ {s u row : List ℕ} {n : ℕ} (r : Row s u row n) where
  -- ---- a word at a position
  module _ {w : ℕ} (standing : Stands s u w) (at : ℕ) (row' : List ℕ) where
    -- the words before the position, this one, and those from a second position on
    placed_row : (from m : ℕ) → at ≤ n → m ≤ most → m ≤ length row' → take m row' ≡ take at row ++ (w ∷ drop from (take n row))
        → RowOf s u row' m (take at (records_of s u row n) ++ (record_of_word s u w ∷ drop from (records_of s u row n)))
    unfolding records_of
    placed_row from m h few room e =
        let before : All (Stands s u) (take at row) = all_first (Stands s u) row at (omega (arith, r.room)) (λ i g. r.stands i (omega arith)) in
        let behind : All (Stands s u) (drop from (take n row)) = all_drop (Stands s u) from (take n row) (all_first (Stands s u) row n r.room r.stands) in
        record {
          whole = record {
            few = few;
            room = room;
            first = r.first;
            second = r.second;
            stands = first_at (Stands s u) row' m room (rw e (all_append (Stands s u) (take at row) (w ∷ drop from (take n row)) before (standing, behind)));
          };
          records = rw e (map-append (record_of_word s u) (take at row) (w ∷ drop from (take n row))
              ∙ rw (records_front s u row n at h, records_slice s u row n from));
        }

    pub inserted_row : at ≤ n → n < most → n < length row' → Inserted row n at w row'
        → RowOf s u row' (n + 1) (take at (records_of s u row n) ++ (record_of_word s u w ∷ drop at (records_of s u row n)))
    unfolding Inserted
    inserted_row h few room e = placed_row at (n + 1) h (omega arith) (omega arith) e

    pub replaced_row : at < n → row' ≡ set row at w
        → RowOf s u row' n (take at (records_of s u row n) ++ (record_of_word s u w ∷ drop (at + 1) (records_of s u row n)))
    replaced_row h e =
        let whole = length-take-le n row r.room in
        let same : take n row' ≡ take at row ++ (w ∷ drop (at + 1) (take n row)) =
        ap (take n) e ∙ take-set-lt n row at w h
        ∙ rw (set_split (take n row) at w (omega arith), take-take at n row (omega arith), add-one at) in
        placed_row (at + 1) n (omega arith) r.few (omega (arith, r.room, ap length e, length-set row at w)) same

  -- ---- the records woven with that of a word
  module _ (g : Bool) {w : ℕ} (standing : Stands s u w) (at : ℕ) where
    module _ (below : at ≡ count_below (record_of_word s u w).key (records_of s u row n)) (up_to_lem : at ≡ count_up_to (record_of_word s u w).key (records_of s u row n)) where
      absent_woven : take at (records_of s u row n) ++ (record_of_word s u w ∷ drop at (records_of s u row n)) ≡ woven_of g s u row n (w ∷ []) 1
      unfolding woven_of records_of
      absent_woven = sym (weave_absent (choice_of g) (record_of_word s u w) (records_of s u row n) at below up_to_lem)

      absent_within : at ≤ n
      absent_within = omega (arith, front_few (λ key. less key (record_of_word s u w).key) (records_of s u row n), records_length s u row n r.room)

      pub inserted_woven : (row' : List ℕ) → n < most → n < length row' → Inserted row n at w row' → RowOf s u row' (n + 1) (woven_of g s u row n (w ∷ []) 1)
      inserted_woven row' few room e = rw (← absent_woven) (inserted_row standing at row' absent_within few room e)

      pub absent_length : length (woven_of g s u row n (w ∷ []) 1) ≡ n + 1
      absent_length =
          let whole = records_length s u row n r.room in
          let front = length-take-le at (records_of s u row n) (omega (arith, absent_within)) in
          rw (← absent_woven)
          (omega (
            arith,
            absent_within,
            length-append (take at (records_of s u row n)) (record_of_word s u w ∷ drop at (records_of s u row n)),
            length-drop at (records_of s u row n),
          ))

    module _ (sorted : Sorted (records_of s u row n)) (within : at < n) (there : key_at (records_of s u row n) at ≡ (record_of_word s u w).key) where
      abbrev old : ℕ
      old = get_or row at 0

      old_record : get_or (records_of s u row n) at nothing ≡ record_of_word s u old
      old_record =
          rw add-zero at (sym (get_or-drop at (records_of s u row n) 0 nothing)
          ∙ ap (λ (rs : List Record). get_or rs 0 nothing) (records_cons s u row n at r.room within))

      same_key : (record_of_word s u old).key ≡ (record_of_word s u w).key
      same_key = ap (λ (x : Record). x.key) (sym old_record) ∙ there

      -- the value chosen is that of the word answered
      module _ (place other word : ℕ) (first : value_in (source_of s u (get_or row at 0)) place ≡ (record_of_word s u (get_or row at 0)).val)
          (second : value_in (source_of s u w) other ≡ (record_of_word s u w).val)
          (chosen : word ≡ word_of g (value_at s u (get_or row at 0) place) (value_at s u w other) (get_or row at 0) w) where
        present_woven : take at (records_of s u row n) ++ (record_of_word s u word ∷ drop (at + 1) (records_of s u row n)) ≡ woven_of g s u row n (w ∷ []) 1
        unfolding woven_of records_of
        present_woven =
            let x : Record = record_of_word s u w in
            let spelt : record_of_word s u word ≡ chosen_at (choice_of g) x (records_of s u row n) at =
            word_spells s u old w g place other word first second chosen same_key ∙ rw (old_record, same_key) in
            sym (weave_present (choice_of g) x (records_of s u row n) sorted at (omega (arith, records_length s u row n r.room)) there ∙ rw spelt)

        pub replaced_woven : (row' : List ℕ) → row' ≡ set row at word → RowOf s u row' n (woven_of g s u row n (w ∷ []) 1)
        replaced_woven row' e =
            let stands = word_stands s u old w g place other word first second chosen (r.stands at within) standing in
            rw (← present_woven) (replaced_row stands at row' within e)
