-- Saves and forgets on the buffers of a map that fits: each answers as on the map, and they keep the buffers those of the map.
use Rattle.answer.specs.declared.Refusal.{Refusal}
use Rattle.std.specs.Prelude.{ℕ, Result}
use mathlib.Core.Path.{◌≡◌, refl, ap, ap₂}
use mathlib.Core.List.{List, [], ◌∷◌}
use Rattle.tree.specs.Record.{Record}
use Rattle.tree.specs.Judge.{judge}
use Rattle.states.specs.States.{Buffers, buffers_of, Saved, unsaved, saved, save_plan, forget_plan, on_states, save_outcome, forget_outcome, saved_answer, StateCall, save_call, forget_call, plan_of_call, states_room, pages_room, saved_on_map, next_map, answers_on_map, map_after, saved_on_buffers, next_buffers, answers_on_buffers, buffers_after}
use Rattle.states.specs.Promises.{StatesFit, AnswersAsTheStates}
use Rattle.states.proofs.Steps.{carried_plan, save_fits, forget_fits}
use Rattle.states.proofs.Accepting.{reads_its_states}
use Rattle.states.proofs.Holding.{reads_no_other_states}

-- ---- one call
-- on the buffers of a map that fits a plan is carried out with that map
pub same_outcome : (c : StateCall) (m : List Record) → StatesFit m → saved_on_buffers c (buffers_of m) ≡ saved_on_map c m
unfolding saved_on_buffers saved_on_map plan_of_call states_room pages_room save_outcome forget_outcome on_states
same_outcome (save_call s name states pages) m f = rw (reads_its_states m f)
same_outcome (forget_call name states pages) m f = rw (reads_its_states m f)

abbrev pub after_call : StateCall → List Record → List Record
after_call c m = next_map (saved_on_map c m) m (plan_of_call c m).result

-- the buffers that it wrote are those of its result, which fits
plan_fits : (c : StateCall) (m : List Record) → StatesFit m → (b : Buffers) → saved_on_map c m ≡ saved b
    → (b ≡ buffers_of (plan_of_call c m).result) × StatesFit (plan_of_call c m).result
unfolding saved_on_map plan_of_call states_room pages_room
plan_fits (save_call s name states pages) m f b h = (
  (carried_plan (save_plan (judge s.list) s.list name.list m) states pages b h).written,
  (save_fits m f s.list name.list s.small (judge s.list) refl states pages b h).0,
)
plan_fits (forget_call name states pages) m f b h =
    ((carried_plan (forget_plan name.list m) states pages b h).written, forget_fits m f name.list states pages b h)

step_by : (c : StateCall) (m : List Record) → StatesFit m → (o : Saved) → saved_on_map c m ≡ o
    → (next_buffers o (buffers_of m) ≡ buffers_of (next_map o m (plan_of_call c m).result)) × StatesFit (next_map o m (plan_of_call c m).result)
unfolding next_buffers next_map
step_by c m f (unsaved r) h = (refl, f)
step_by c m f (saved b) h = plan_fits c m f b h

pub call_fits : (c : StateCall) (m : List Record) → StatesFit m
    → (next_buffers (saved_on_buffers c (buffers_of m)) (buffers_of m) ≡ buffers_of (after_call c m)) × StatesFit (after_call c m)
call_fits c m f = rw (same_outcome c m f) (step_by c m f (saved_on_map c m) refl)

-- ---- lists of calls
pub calls_fit : (calls : List StateCall) (m : List Record) → StatesFit m
    → (answers_on_buffers calls (buffers_of m) ≡ answers_on_map calls m)
    × (buffers_after calls (buffers_of m) ≡ buffers_of (map_after calls m))
    × StatesFit (map_after calls m)
unfolding answers_on_buffers answers_on_map buffers_after map_after
calls_fit [] m f = (refl, refl, f)
calls_fit (c ∷ calls) m f =
    let s = call_fits c m f in
    let later = calls_fit calls (after_call c m) s.1 in (
      ap₂ (λ (a : Result (ℕ × ℕ) Refusal) (l : List (Result (ℕ × ℕ) Refusal)). a ∷ l) (ap saved_answer (same_outcome c m f)) (rw s.0 later.0),
      rw s.0 later.1,
      later.2,
    )

pub answers_as_the_states : AnswersAsTheStates
answers_as_the_states b m h calls =
    let o = reads_no_other_states b m h in
    rw o.1 (calls_fit calls m o.0)
