-- What the calls come to: restore case by case; forget and save by what was written of the state register, and the pages with it.
use Prim.Native.Nat.{ℕ, ◌≤◌, ◌<◌}
use mathlib.Core.Path.{◌≡◌, refl, sym, ap, subst, ◌∙◌}
use mathlib.Core.Bool.{Bool, true, false, cond, ◌&&◌}
use mathlib.Core.Option.{Option, none, some}
use mathlib.Core.List.{List, [], ◌∷◌, ◌++◌}
use lib.ListN.{length, get_or}
use lib.Dec.{leb}
use borrow.Table.Steps.{cases}
use borrow.Author.Tests.{le-leb, lt-leb}
use Rattle.answer.specs.declared.Refusal.{Refusal}
use Rattle.answer.specs.declared.Refusal.TheVariants.{TooManyRecords, UnlawfulKey, KeyAbsent, NoRoom, WrongStates}
use Rattle.bytestring.specs.Bytes.{Bytes}
use Rattle.limits.specs.Limits.{most}
use Rattle.fips180.specs.Hash.{sha256}
use Rattle.value.specs.Value.{dag_cbor, value_digest}
use Rattle.key.specs.Key.{lawful}
use Rattle.tree.specs.Record.{Record}
use Rattle.tree.specs.Table.{SpeltTree, bytes_of_page, table_of}
use Rattle.tree.specs.Judge.{due, refused, accepted, judge}
use Rattle.promises.specs.Map.{find, is_there, put, remove}
use Rattle.promises.specs.Outcome.{stopped, wrote, sizes, settle}
use Rattle.promises.specs.Pages.{pages_of}
use Rattle.promises.specs.Promises.{Among}
use Rattle.promises.proofs.DifferenceLaws.{Within}
use Rattle.states.specs.Pages.{pages_in, all_apart}
use Rattle.states.specs.States.{state_key, state_value, state_register, state_pages, page_sequence, Buffers, bytes_or, refused_states, judge_states, unsaved, has_room, buffer_sizes, settle_saved, carry_out_plan, save_plan, forget_plan, on_states, save_outcome, forget_outcome, restore_tests, settle_restore, restore_from, restore_outcome}
use Rattle.filing.specs.Filed.{bytes_at}
use Rattle.summing.specs.Summed.{page_mark}
use Rattle.gathering.specs.Gathered.{gathered_from}
use Rattle.keeping.specs.Kept.{kept_from, sequence_of}
use Rattle.state_outputs.specs.Outputs.{KeyOf, with_sequence, with_pages}
use Rattle.states_reader.specs.Held.{StatesHeld}
use Rattle.reading.specs.Positions.{accepted_records}
use Rattle.reading.proofs.Listings.{records_in_lem}
use Rattle.writing.specs.Writing.{written, written_without}
use Rattle.named_states.proofs.Maps.{on_found, held_records, held_map, gathered_bytes, find_held, absent_held, register_removed, length_removed, register_set, length_set_state, register_pages, register_value}
use Rattle.named_states.proofs.Kept.{found_gathered, kept_sequence, kept_apart, set_apart, set_sequence}

-- ---- the buffers are refused
module _ (b : Buffers) (r : Refusal) (e : judge_states b ≡ refused_states r) where
  pub refused_restore : (name : List ℕ) (room : ℕ) → restore_outcome b name room ≡ stopped r
  unfolding restore_outcome restore_from
  refused_restore name room = rw e

  pub refused_forget : (name : List ℕ) (states pages : ℕ) → forget_outcome b name states pages ≡ unsaved r
  unfolding forget_outcome on_states
  refused_forget name states pages = rw e

  pub refused_save : (t name : List ℕ) (states pages : ℕ) → save_outcome b t name states pages ≡ unsaved r
  unfolding save_outcome on_states
  refused_save t name states pages = rw e

-- ---- the count and both outputs, of a result whose state register has these records and whose pages this sequence
settled_by_lem : (few first second : Bool) (m rs : List Record) (q : List ℕ) (pages : ℕ) → state_register m ≡ table_of rs → page_sequence m ≡ q
    → has_room q pages ≡ second
    → settle_saved (cond few (cond (first && second) none (some NoRoom)) (some TooManyRecords)) m
    ≡ with_sequence (settle (cond few (cond first none (some NoRoom)) (some TooManyRecords)) rs) q pages
unfolding settle_saved with_sequence settle
settled_by_lem false first second m rs q pages e s h = refl
settled_by_lem true false second m rs q pages e s h = refl
settled_by_lem true true false m rs q pages e s h = rw h
settled_by_lem true true true m rs q pages e s h = rw (h, e, s)

sizes_settled : (m rs : List Record) (q : List ℕ) (states pages : ℕ) → length m ≡ length rs → state_register m ≡ table_of rs
    → page_sequence m ≡ q
    → settle_saved (due (buffer_sizes m states pages)) m ≡ with_sequence (written rs states) q pages
unfolding due buffer_sizes written sizes
sizes_settled m rs q states pages l e s =
    rw (l, e, s) (settled_by_lem (leb (length rs) most) (has_room (table_of rs) states) (has_room q pages) m rs q pages e s refl)

there_gathered : (f : List ℕ → List ℕ) (o : Option (List ℕ)) → is_there (on_found f o) ≡ is_there o
unfolding is_there
there_gathered f none = refl
there_gathered f (some v) = refl

-- ---- the buffers are held, and k is the key of the name
module _ {s p k index labels pages : List ℕ} {count n : ℕ} (h : StatesHeld s p k index labels pages count n)
    (name : List ℕ) (key : KeyOf name k) where
  abbrev lent : Buffers
  lent = record { states = s; pages = p }

  unlawful_name : lawful k ≡ false → lawful (state_key name) ≡ false
  unlawful_name e = sym key.law ∙ e

  lawful_name : lawful k ≡ true → state_key name ≡ k
  lawful_name e = sym (key.same (sym key.law ∙ e))

  pub unlawful_restore : (room : ℕ) → lawful k ≡ false → restore_outcome (record { states = s; pages = p }) name room ≡ stopped UnlawfulKey
  unfolding restore_outcome restore_from restore_tests due settle_restore
  unlawful_restore room e = rw (h.judged, unlawful_name e)

  pub unlawful_forget : (states room : ℕ) → lawful k ≡ false
      → forget_outcome (record { states = s; pages = p }) name states room ≡ unsaved UnlawfulKey
  unfolding forget_outcome on_states forget_plan carry_out_plan due settle_saved
  unlawful_forget states room e = rw (h.judged, unlawful_name e)

  pub unaccepted_save : (t : List ℕ) (states room : ℕ) (r : Refusal) → judge t ≡ refused r
      → save_outcome (record { states = s; pages = p }) t name states room ≡ unsaved r
  unfolding save_outcome on_states save_plan carry_out_plan due settle_saved
  unaccepted_save t states room r e = rw (h.judged, e)

  pub unlawful_save : (t : List ℕ) (states room : ℕ) (u : SpeltTree) → judge t ≡ accepted u → lawful k ≡ false
      → save_outcome (record { states = s; pages = p }) t name states room ≡ unsaved UnlawfulKey
  unfolding save_outcome on_states save_plan carry_out_plan due settle_saved
  unlawful_save t states room u a e = rw (h.judged, a, unlawful_name e)

  -- restore of a lawful name
  module _ (own : lawful k ≡ true) (room : ℕ) where
    restore_tested : restore_outcome lent name room
        ≡ settle_restore
        (cond (is_there (find k (held_map h))) (cond (leb (length (bytes_or (find k (held_map h)))) room) none (some NoRoom)) (some KeyAbsent))
        (bytes_or (find k (held_map h)))
    unfolding restore_outcome restore_from restore_tests due
    restore_tested = rw (h.judged, lawful_name own, own)

    pub absent_restore : find k (held_records h) ≡ none → restore_outcome (record { states = s; pages = p }) name room ≡ stopped KeyAbsent
    unfolding settle_restore is_there
    absent_restore e = restore_tested ∙ rw (absent_held h k e)

    module _ (v : List ℕ) (i : ℕ) (e : find k (held_records h) ≡ some v) (d : sha256 (bytes_at h.raws i) ≡ value_digest v) where
      pub short_restore : room < length (gathered_from h.raws i) → restore_outcome (record { states = s; pages = p }) name room ≡ stopped NoRoom
      unfolding settle_restore is_there bytes_or
      short_restore l = restore_tested ∙ rw (found_gathered h k v i e d, lt-leb (length (gathered_from h.raws i)) room l)

      pub done_restore : length (gathered_from h.raws i) ≤ room
          → restore_outcome (record { states = s; pages = p }) name room ≡ wrote (gathered_from h.raws i)
      unfolding settle_restore is_there bytes_or
      done_restore l = restore_tested ∙ rw (found_gathered h k v i e d, le-leb (length (gathered_from h.raws i)) room l)

  -- forget and save of a lawful name, with a row of marks for the pages
  module _ (small : Bytes s) (smallPages : Bytes p) (marks : List ℕ) (noted : (i : ℕ) → i < n → get_or marks i 0 ≡ page_mark (get_or pages i 0))
      (own : lawful k ≡ true) (states room : ℕ) where
    forget_tested : forget_outcome lent name states room
        ≡ settle_saved (cond (is_there (find k (held_records h))) (due (buffer_sizes (remove k (held_map h)) states room)) (some KeyAbsent))
        (remove k (held_map h))
    unfolding forget_outcome on_states forget_plan carry_out_plan due
    forget_tested =
        let there : is_there (find k (held_map h)) ≡ is_there (find k (held_records h)) =
        ap is_there (find_held h k) ∙ there_gathered (gathered_bytes h) (find k (held_records h)) in
        rw (h.judged, lawful_name own, own, there)

    forget_settled : settle_saved (due (buffer_sizes (remove k (held_map h)) states room)) (remove k (held_map h))
        ≡ with_sequence (written (remove k (held_records h)) states) (sequence_of (kept_from marks 0 h.raws ++ [])) room
    forget_settled =
        sizes_settled (remove k (held_map h)) (remove k (held_records h)) (sequence_of (kept_from marks 0 h.raws ++ [])) states room
        (length_removed h small smallPages k) (register_removed h small smallPages k) (sym (kept_sequence h small smallPages marks noted))

    pub forget_comes_to : forget_outcome (record { states = s; pages = p }) name states room
        ≡ with_pages (written_without k (accepted_records (judge s)) states) (kept_from marks 0 h.raws ++ []) room
    unfolding with_pages with_sequence written_without settle_saved
    forget_comes_to =
        rw (kept_apart h small smallPages marks noted, records_in_lem h.indexed)
        (forget_tested ∙ cases (is_there (find k (held_records h))) (λ e. rw e forget_settled) (λ e. rw e))

    -- the register to be saved, its tree, its value as a state and its pages
    module _ (t : List ℕ) (u : SpeltTree) (a : judge t ≡ accepted u) where
      abbrev after : List Record
      after = put (record { key = k; val = t }) (held_map h)

      abbrev records_after : List Record
      records_after = put (record { key = k; val = state_value t }) (held_records h)

      save_tested : save_outcome lent t name states room
          ≡ settle_saved (cond (all_apart (state_pages after)) (due (buffer_sizes after states room)) (some WrongStates)) after
      unfolding save_outcome on_states save_plan carry_out_plan due
      save_tested = rw (h.judged, a, lawful_name own, own)

      save_with : (qs : List (List ℕ)) → Within qs (pages_in t) → Within (pages_in t) qs
          → save_outcome lent t name states room
          ≡ with_pages (written records_after states) (kept_from marks 0 h.raws ++ qs) room
      unfolding with_pages settle_saved
      save_with qs theirs all =
          let ps : List (List ℕ) = kept_from marks 0 h.raws ++ qs in
          save_tested ∙ rw (← set_apart h small smallPages marks noted t qs theirs all) (cases (all_apart ps)
          (λ e. rw e (sizes_settled after records_after (sequence_of ps) states room
          (length_set_state h small smallPages k t) (register_set h small smallPages k t)
          (sym (set_sequence h small smallPages marks noted t qs theirs all e))))
          (λ e. rw e))

      pub save_comes_to : Bytes t → save_outcome (record { states = s; pages = p }) t name states room
          ≡ with_pages (written (put (record { key = k; val = dag_cbor ∷ sha256 (bytes_of_page u) }) (accepted_records (judge s))) states)
          (kept_from marks 0 h.raws ++ pages_of u) room
      save_comes_to smallRegister =
          let same = register_pages t smallRegister u a in
          rw (← register_value t smallRegister u a, records_in_lem h.indexed)
          (save_with (pages_of u) (λ q i. subst (Among q) (sym same) i) (λ q i. subst (Among q) same i))
