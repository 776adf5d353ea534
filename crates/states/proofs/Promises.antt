-- The proofs of the promises in specs/Promises.antt.
use Prim.Native.Nat.{ℕ, ◌≤◌}
use mathlib.Core.Path.{◌≡◌, refl, sym, ap, ◌∙◌}
use mathlib.Core.Bool.{true, false≢true}
use mathlib.Core.Option.{Option, none, some}
use mathlib.Core.List.{List, [], ◌∷◌}
use native.Mathlib.Omega.{arith}
use lib.ListN.{length}
use borrow.Author.Tests.{le-leb}
use Rattle.answer.specs.Inner.{FirstFits}
use Rattle.answer.specs.declared.Refusal.TheVariants.{KeyAbsent}
use Rattle.answer.proofs.Laws.{two_come_apart}
use Rattle.fips180.specs.Hash.{sha256}
use Rattle.key.specs.Key.{lawful}
use Rattle.page.specs.Reading.{concat}
use Rattle.page.specs.Number.{number_bytes}
use Rattle.page.specs.Page.{gap_bytes, page_bytes}
use Rattle.tree.specs.Record.{Record, spelt}
use Rattle.tree.specs.Tree.{top_layer, part, entries_of, page_of, build, tree_of}
use Rattle.tree.specs.Table.{link_of, raw_entries, raw_page, bytes_of_page, table, tree_of_set, table_of}
use Rattle.tree.specs.Judge.{due, rising, Verdict, refused, accepted, judge}
use Rattle.tree.proofs.Laws.{due_none}
use Rattle.promises.specs.Map.{find, is_there, remove}
use Rattle.promises.specs.Outcome.{stopped, wrote}
use Rattle.promises.specs.Promises.{Among}
use Rattle.promises.proofs.MapLaws.{sorted_rising, rising_sorted, find_put_other, find_remove_same, find_remove_other}
use Rattle.states.specs.Pages.{pages_in, filed}
use Rattle.states.specs.States.{state_key, state_records, state_register, state_pages, page_sequence, Buffers, buffers_of, bytes_or, StatesVerdict, refused_states, accepted_states, judge_states, Saved, unsaved, saved, StatePlan, settle_saved, carry_out_plan, save_plan, forget_plan, on_states, save_outcome, forget_outcome, saved_answer, restore_tests, settle_restore, restore_from, restore_outcome, StateCall, save_call, forget_call, plan_of_call, saved_on_map, next_map, map_after, saved_on_buffers}
use Rattle.states.specs.Promises.{StatesFit, buffers, SavedComesApart, NoStates, StatesRefusedWhenDue, RestoreRefusedWhenDue, SameStatesSameBytes, name_of, OtherNames, RestoreGivesWhatWasSaved, ForgottenIsUnknown, Reached, UnreachedIsDropped}
use Rattle.states.proofs.Sequences.{pages_in_lem}
use Rattle.states.proofs.Filing.{all_each, filed_sorted, filed_stands, refiled, filed_digested, concat_values, found_among}
use Rattle.states.proofs.Accepting.{pages_filed, filed_good, filed_among}
use Rattle.states.proofs.Calls.{same_outcome, after_call, call_fits, calls_fit}
use Rattle.states.proofs.Steps.{key_injective, carried_plan, save_fits, forget_fits}
pub use Rattle.states.proofs.Accepting.{reads_its_states}
pub use Rattle.states.proofs.Holding.{reads_no_other_states}
pub use Rattle.states.proofs.Calls.{answers_as_the_states}
pub use Rattle.states.proofs.Unshared.{unshared_is_not_refused}
pub use Rattle.states.proofs.Orders.{save_replies, forget_replies, restore_replies}

-- ---- numbers and bytes
pub states_refused_when_due : StatesRefusedWhenDue
unfolding saved_on_map carry_out_plan settle_saved
states_refused_when_due b m h c =
    let o = reads_no_other_states b m h in
    rw o.1 (λ d. same_outcome c m o.0 ∙ rw d, λ r d. same_outcome c m o.0 ∙ rw d)

some_there : (o : Option (List ℕ)) → is_there o ≡ true → o ≡ some (bytes_or o)
unfolding is_there bytes_or
some_there none h = absurd (false≢true h)
some_there (some s) h = refl

pub restore_refused_when_due : RestoreRefusedWhenDue
unfolding restore_outcome restore_from settle_restore restore_tests
restore_refused_when_due b m h name room = rw h (
  λ d. (
    bytes_or (find (state_key name) m),
    some_there (find (state_key name) m) (due_none (restore_tests name m room) d).1.0,
    rw d,
  ),
  λ r d. rw d,
)

pub same_states_same_bytes : SameStatesSameBytes
same_states_same_bytes b c m n h k calls others e =
    (answers_as_the_states b m h calls).1 ∙ ap buffers_of e ∙ sym (answers_as_the_states c n k others).1

empty_table : state_register [] ≡ 0xA2 ∷ 0x61 ∷ 0x65 ∷ 0x80 ∷ 0x61 ∷ 0x6C ∷ 0xF6 ∷ []
unfolding state_register state_records table_of tree_of_set tree_of top_layer build part page_of entries_of spelt table bytes_of_page raw_page raw_entries link_of page_bytes number_bytes gap_bytes
empty_table = refl

pub no_states : NoStates
unfolding rising state_pages page_sequence filed
no_states = (
  record {
    count = omega arith;
    order = refl;
    each = tt;
    unshared = λ p q i j e. absurd i;
    register = omega (arith, ap length empty_table);
    pages = omega arith;
  },
  λ i. record { states = empty_table i; pages = [] },
)

-- ---- two lengths as one number
-- the length of a state register that was written is below 2^24
plan_short : (p : StatePlan) (states pages : ℕ) (o : Saved) → carry_out_plan p states pages ≡ o → FirstFits (saved_answer o)
unfolding saved_answer
plan_short p states pages (unsaved r) e = tt
plan_short p states pages (saved b) e =
    let c = carried_plan p states pages b e in
    omega (arith, c.register, ap (λ (b : Buffers). length b.states) c.written)

verdict_short : (v : StatesVerdict) (plan : List Record → StatePlan) (states pages : ℕ) → FirstFits (saved_answer (on_states v plan states pages))
unfolding on_states saved_answer
verdict_short (refused_states r) plan states pages = tt
verdict_short (accepted_states m) plan states pages = plan_short (plan m) states pages (carry_out_plan (plan m) states pages) refl

pub save_short : (b : Buffers) (s name : List ℕ) (states pages : ℕ) → FirstFits (saved_answer (save_outcome b s name states pages))
unfolding save_outcome
save_short b s name states pages = verdict_short (judge_states b) (save_plan (judge s) s name) states pages

pub forget_short : (b : Buffers) (name : List ℕ) (states pages : ℕ) → FirstFits (saved_answer (forget_outcome b name states pages))
unfolding forget_outcome
forget_short b name states pages = verdict_short (judge_states b) (forget_plan name) states pages

pub saved_comes_apart : SavedComesApart
unfolding saved_on_buffers
saved_comes_apart b (save_call s name states pages) =
    two_come_apart (saved_answer (save_outcome (buffers b) s.list name.list states pages))
    (save_short (buffers b) s.list name.list states pages)
saved_comes_apart b (forget_call name states pages) =
    two_come_apart (saved_answer (forget_outcome (buffers b) name.list states pages)) (forget_short (buffers b) name.list states pages)

-- ---- restore
-- a call of another name leaves what a name finds
other_save : (v : Verdict) (s name other : List ℕ) (m : List Record) → (other ≡ name → ⊥)
    → find (state_key name) (save_plan v s other m).result ≡ find (state_key name) m
unfolding save_plan
other_save (refused r) s name other m n = refl
other_save (accepted t) s name other m n =
    find_put_other (record { key = state_key other; val = s }) m (state_key name) (λ e. n (sym (key_injective name other e)))

other_plan : (name : List ℕ) (c : StateCall) (m : List Record) → StatesFit m → (name_of c ≡ name → ⊥)
    → find (state_key name) (plan_of_call c m).result ≡ find (state_key name) m
unfolding plan_of_call forget_plan
other_plan name (save_call s other states pages) m f n = other_save (judge s.list) s.list name other.list m n
other_plan name (forget_call other states pages) m f n =
    find_remove_other (state_key other.list) (state_key name) (λ e. n (sym (key_injective name other.list e))) m (rising_sorted m f.order)

other_next : (name : List ℕ) (c : StateCall) (m : List Record) → StatesFit m → (name_of c ≡ name → ⊥) → (o : Saved)
    → find (state_key name) (next_map o m (plan_of_call c m).result) ≡ find (state_key name) m
unfolding next_map
other_next name c m f n (unsaved r) = refl
other_next name c m f n (saved b) = other_plan name c m f n

other_calls : (name : List ℕ) (calls : List StateCall) (m : List Record) → StatesFit m → OtherNames name calls
    → find (state_key name) (map_after calls m) ≡ find (state_key name) m
unfolding map_after
other_calls name [] m f n = refl
other_calls name (c ∷ calls) m f n =
    other_calls name calls (after_call c m) (call_fits c m f).1 n.1 ∙ other_next name c m f n.0 (saved_on_map c m)

-- what a name finds is what restore gives
pub restore_found : (m : List Record) → StatesFit m → (name s : List ℕ) (room : ℕ) → lawful (state_key name) ≡ true
    → find (state_key name) m ≡ some s → length s ≤ room → restore_outcome (buffers_of m) name room ≡ wrote s
unfolding restore_outcome restore_from restore_tests settle_restore due bytes_or is_there
restore_found m f name s room l e h = rw (reads_its_states m f, e, l, le-leb (length s) room h)

restore_absent : (m : List Record) → StatesFit m → (name : List ℕ) (room : ℕ) → lawful (state_key name) ≡ true
    → find (state_key name) m ≡ none → restore_outcome (buffers_of m) name room ≡ stopped KeyAbsent
unfolding restore_outcome restore_from restore_tests settle_restore due bytes_or is_there
restore_absent m f name room l e = rw (reads_its_states m f, e, l)

pub restore_gives_what_was_saved : RestoreGivesWhatWasSaved
unfolding save_outcome on_states
restore_gives_what_was_saved b m o before later s name states pages c h others room long =
    let a = answers_as_the_states b m o before in
    let m₁ = map_after before m in
    let k : carry_out_plan (save_plan (judge s.list) s.list name.list m₁) states pages ≡ saved c = rw (a.1, reads_its_states m₁ a.2) at h in
    let g = save_fits m₁ a.2 s.list name.list s.small (judge s.list) refl states pages c k in
    let m₂ = (save_plan (judge s.list) s.list name.list m₁).result in
    let e : c ≡ buffers_of m₂ = (carried_plan (save_plan (judge s.list) s.list name.list m₁) states pages c k).written in
    let l = calls_fit later m₂ g.0 in
    let found = other_calls name.list later m₂ g.0 others ∙ g.2 in
    rw (e, l.1) (restore_found (map_after later m₂) l.2 name.list s.list room g.1 found long)

pub forgotten_is_unknown : ForgottenIsUnknown
unfolding forget_outcome on_states forget_plan
forgotten_is_unknown b m o before later name states pages c h others room =
    let a = answers_as_the_states b m o before in
    let m₁ = map_after before m in
    let k : carry_out_plan (forget_plan name.list m₁) states pages ≡ saved c = rw (a.1, reads_its_states m₁ a.2) at h in
    let m₂ = remove (state_key name.list) m₁ in
    let i = carried_plan (forget_plan name.list m₁) states pages c k in
    let e : c ≡ buffers_of m₂ = i.written in
    let f : StatesFit m₂ = forget_fits m₁ a.2 name.list states pages c k in
    let l = calls_fit later m₂ f in
    let gone = other_calls name.list later m₂ f others ∙ find_remove_same (state_key name.list) m₁ (rising_sorted m₁ a.2.order) in
    rw (e, l.1) (restore_absent (map_after later m₂) l.2 name.list room i.asked.0 gone)

-- ---- the pages written
reached : (m : List Record) → StatesFit m → Reached (page_sequence m) m
unfolding page_sequence
reached m f =
    let file = filed (state_pages m) in
    let e : pages_in (concat (λ (r : Record). r.val) file) ≡ pages_filed m =
    ap pages_in (concat_values file) ∙ pages_in_lem (pages_filed m) (filed_good m f.each) in
    record {
      kept = λ p i. rw e (found_among file (sha256 p) p (filed_stands (state_pages m) f.unshared p i));
      no_other = λ p i. all_each (λ q. Among q (state_pages m)) (pages_filed m) p (filed_among m) (rw e at i);
      order = rw (e, refiled file (filed_digested (state_pages m))) (sorted_rising file (filed_sorted (state_pages m)));
    }

pub unreached_is_dropped : UnreachedIsDropped
unreached_is_dropped b m h calls =
    let a = answers_as_the_states b m h calls in
    rw a.1 (reached (map_after calls m) a.2)
