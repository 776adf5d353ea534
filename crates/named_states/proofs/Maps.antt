-- The map of states and the records of its register: what is found, set and taken out in one is so in the other.
use Prim.Native.Nat.{ℕ}
use mathlib.Core.Path.{◌≡◌, refl, sym, ap, ◌∙◌}
use mathlib.Core.Bool.{true}
use mathlib.Core.Option.{Option, none, some}
use mathlib.Core.List.{List, [], ◌∷◌, map}
use lib.ListN.{length}
use Rattle.bytestring.specs.Bytes.{Bytes}
use Rattle.limits.specs.Limits.{deepest}
use Rattle.fips180.specs.Hash.{sha256}
use Rattle.fips180.proofs.Laws.{length_sha256}
use Rattle.value.specs.Value.{dag_cbor, is_codec, value_digest, is_value}
use Rattle.value.proofs.Laws.{parts_value}
use Rattle.key.proofs.Laws.{less-connected}
use Rattle.page.specs.Page.{page_bytes}
use Rattle.tree.specs.Record.{Record, records, spelt}
use Rattle.tree.specs.Table.{SpeltTree, bytes_of_page, table, tree_of_set, table_of}
use Rattle.tree.specs.Judge.{accepted, judge}
use Rattle.tree.proofs.Laws.{records_of_set, table_accepted, accepted_table, one_tree}
use Rattle.promises.specs.Map.{find, insert, put, remove}
use Rattle.promises.specs.Pages.{pages_of}
use Rattle.promises.proofs.MapLaws.{find_before, find_here, find_later, insert_before, insert_here, insert_later, remove_before, remove_here, remove_later}
use Rattle.states.specs.Pages.{pages_in, gather}
use Rattle.states.specs.States.{state_value, state_records, state_register, Buffers, buffers_of, bytes_or, gathered_states}
use Rattle.states.specs.Promises.{StatesFit}
use Rattle.states.proofs.Sequences.{pages_in_table}
use Rattle.states.proofs.Accepting.{first_digest_lem, length_pointing, pointing_fits}
use Rattle.states.proofs.Holding.{reads_no_other_states}
use Rattle.filing.specs.Filed.{pages_by_digest}
use Rattle.states_reader.specs.Held.{StatesHeld}

-- ---- other values under the same keys
abbrev pub revalued : (List ℕ → List ℕ) → Record → Record
revalued f r = record { key = r.key; val = f r.val }

abbrev pub on_found : (List ℕ → List ℕ) → Option (List ℕ) → Option (List ℕ)
on_found f none = none
on_found f (some v) = some (f v)

module _ (f : List ℕ → List ℕ) where
  find_revalued : (k : List ℕ) (m : List Record) → find k (map (revalued f) m) ≡ on_found f (find k m)
  unfolding find
  find_revalued k [] = refl
  find_revalued k (x ∷ m) =
      less-connected k x.key
      (λ h. find_before k (revalued f x) (map (revalued f) m) h ∙ ap (on_found f) (sym (find_before k x m h)))
      (λ e. find_here k (revalued f x) (map (revalued f) m) e ∙ ap (on_found f) (sym (find_here k x m e)))
      (λ h. find_later k (revalued f x) (map (revalued f) m) h ∙ find_revalued k m ∙ ap (on_found f) (sym (find_later k x m h)))

  pub remove_revalued : (k : List ℕ) (m : List Record) → map (revalued f) (remove k m) ≡ remove k (map (revalued f) m)
  unfolding remove
  remove_revalued k [] = refl
  remove_revalued k (x ∷ m) =
      less-connected k x.key
      (λ h. ap (map (revalued f)) (remove_before k x m h) ∙ sym (remove_before k (revalued f x) (map (revalued f) m) h))
      (λ e. ap (map (revalued f)) (remove_here k x m e) ∙ sym (remove_here k (revalued f x) (map (revalued f) m) e))
      (λ h. ap (map (revalued f)) (remove_later k x m h) ∙ ap (λ (l : List Record). revalued f x ∷ l) (remove_revalued k m)
      ∙ sym (remove_later k (revalued f x) (map (revalued f) m) h))

  put_revalued : (r : Record) (m : List Record) → map (revalued f) (put r m) ≡ put (revalued f r) (map (revalued f) m)
  unfolding put insert
  put_revalued r [] = refl
  put_revalued r (x ∷ m) =
      let new : List ℕ → List ℕ → List ℕ = λ old new. new in
      less-connected r.key x.key
      (λ h. ap (map (revalued f)) (insert_before new r x m h) ∙ sym (insert_before new (revalued f r) (revalued f x) (map (revalued f) m) h))
      (λ e. ap (map (revalued f)) (insert_here new r x m e) ∙ sym (insert_here new (revalued f r) (revalued f x) (map (revalued f) m) e))
      (λ h. ap (map (revalued f)) (insert_later new r x m h) ∙ ap (λ (l : List Record). revalued f x ∷ l) (put_revalued r m)
      ∙ sym (insert_later new (revalued f r) (revalued f x) (map (revalued f) m) h))

-- ---- the map that the buffers hold
module _ {s p k index labels pages : List ℕ} {count n : ℕ} (h : StatesHeld s p k index labels pages count n) where
  abbrev pub held_records : List Record
  held_records = records h.indexed.tree

  abbrev pub held_pages : List (List ℕ)
  held_pages = map page_bytes h.raws

  abbrev pub held_map : List Record
  held_map = gathered_states held_records held_pages

  abbrev pub gathered_bytes : List ℕ → List ℕ
  gathered_bytes v = bytes_or (gather deepest (pages_by_digest h.raws) (value_digest v))

  pub find_held : (j : List ℕ) → find j held_map ≡ on_found gathered_bytes (find j held_records)
  unfolding gathered_states
  find_held j = find_revalued gathered_bytes j held_records

  pub absent_held : (j : List ℕ) → find j held_records ≡ none → find j held_map ≡ none
  absent_held j e = find_held j ∙ ap (on_found gathered_bytes) e

  pub found_held : (j v : List ℕ) → find j held_records ≡ some v → find j held_map ≡ some (gathered_bytes v)
  found_held j v e = find_held j ∙ ap (on_found gathered_bytes) e

  module _ (small : Bytes s) (smallPages : Bytes p) where
    held_buffers : StatesFit held_map × (record { states = s; pages = p } ≡ buffers_of held_map)
    held_buffers =
        reads_no_other_states (record { states = record { list = s; small = small }; pages = record { list = p; small = smallPages } }) held_map
        h.judged

    pub held_fits : StatesFit held_map
    held_fits = held_buffers.0

    pub records_back : state_records held_map ≡ held_records
    unfolding state_register
    records_back =
        let register : s ≡ table_of (state_records held_map) = ap (λ (b : Buffers). b.states) held_buffers.1 in
        let again : judge s ≡ accepted (spelt (tree_of_set (state_records held_map))) =
        ap judge register ∙ table_accepted (state_records held_map) (pointing_fits held_map held_fits) in
        sym (records_of_set (state_records held_map)) ∙ ap records (one_tree s again h.indexed.judged)

    -- one state less
    pub records_removed : (j : List ℕ) → state_records (remove j held_map) ≡ remove j held_records
    unfolding state_records
    records_removed j = remove_revalued state_value j held_map ∙ ap (remove j) records_back

    pub register_removed : (j : List ℕ) → state_register (remove j held_map) ≡ table_of (remove j held_records)
    unfolding state_register
    register_removed j = ap table_of (records_removed j)

    pub length_removed : (j : List ℕ) → length (remove j held_map) ≡ length (remove j held_records)
    unfolding state_records
    length_removed j = sym (length_pointing (remove j held_map)) ∙ ap length (records_removed j)

    -- one state set
    pub records_set : (j t : List ℕ)
        → state_records (put (record { key = j; val = t }) held_map) ≡ put (record { key = j; val = state_value t }) held_records
    unfolding state_records
    records_set j t =
        put_revalued state_value (record { key = j; val = t }) held_map ∙ ap (put (record { key = j; val = state_value t })) records_back

    pub register_set : (j t : List ℕ)
        → state_register (put (record { key = j; val = t }) held_map) ≡ table_of (put (record { key = j; val = state_value t }) held_records)
    unfolding state_register
    register_set j t = ap table_of (records_set j t)

    pub length_set_state : (j t : List ℕ)
        → length (put (record { key = j; val = t }) held_map) ≡ length (put (record { key = j; val = state_value t }) held_records)
    unfolding state_records
    length_set_state j t = sym (length_pointing (put (record { key = j; val = t }) held_map)) ∙ ap length (records_set j t)

-- ---- a register that is accepted: its pages, and its value as a state
module _ (t : List ℕ) (small : Bytes t) (u : SpeltTree) (judged : judge t ≡ accepted u) where
  pub register_pages : pages_in t ≡ pages_of u
  unfolding table_of
  register_pages =
      let a = accepted_table t small u judged in
      ap pages_in (a.written ∙ ap table (sym a.spells)) ∙ pages_in_table u deepest a.good

  pub register_value : state_value t ≡ dag_cbor ∷ sha256 (bytes_of_page u)
  unfolding state_value
  register_value = rw register_pages (ap (λ (d : List ℕ). dag_cbor ∷ d) (first_digest_lem u))

  pub register_value_right : is_value (dag_cbor ∷ sha256 (bytes_of_page u)) ≡ true
  unfolding is_codec
  register_value_right = parts_value dag_cbor (sha256 (bytes_of_page u)) refl (length_sha256 (bytes_of_page u))
