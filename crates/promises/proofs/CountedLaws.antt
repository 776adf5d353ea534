-- What a call answers and writes that counts something beside its table.
use Rattle.std.specs.Prelude.{Result, Err}
use Prim.Native.Nat.{ℕ}
use mathlib.Core.Path.{◌≡◌, refl, ◌∙◌}
use mathlib.Core.Option.{Option, none, some}
use mathlib.Core.List.{List}
use Rattle.bytestring.specs.Bytes.{zeros}
use Rattle.answer.specs.Inner.{with_second}
use Rattle.answer.specs.declared.Refusal.{Refusal}
use Rattle.tree.specs.Record.{Record}
use Rattle.promises.specs.Outcome.{settle, answer_of, output_of}
use Rattle.promises.specs.Counted.{CountedOutcome, stopped, settle_counted, counted_answer, counted_output}

abbrev pub CountedSays : CountedOutcome → ℕ → Result (ℕ × ℕ) Refusal → List ℕ → Type 0
CountedSays o room answer out = (answer ≡ counted_answer o) × (out ≡ counted_output o room)

pub counted_refused : {o : CountedOutcome} {r : Refusal} (room : ℕ) (answer : Result (ℕ × ℕ) Refusal) (out : List ℕ) → o ≡ stopped r
    → (answer ≡ Err r) × (out ≡ zeros room) → CountedSays o room answer out
unfolding counted_answer counted_output
counted_refused room answer out e says = (says.0 ∙ rw e, says.1 ∙ rw e)

-- a table that is written, and a count beside its length
pub counted_settled : (o : Option Refusal) (rs : List Record) (count room : ℕ)
    → CountedSays (settle_counted o rs count) room (with_second (answer_of (settle o rs)) count) (output_of (settle o rs) room)
unfolding settle answer_of output_of settle_counted counted_answer counted_output
counted_settled none rs count room = (refl, refl)
counted_settled (some r) rs count room = (refl, refl)
