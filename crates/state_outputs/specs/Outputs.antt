-- What the contracts inside this crate cite, and no public contract does.
use Rattle.keeping.specs.declared.Unkept.{Unkept}
use Rattle.answer.specs.declared.Refusal.{Refusal}
use Rattle.std.specs.Prelude.{ℕ, ◌≡◌, true, cond, List, length, Result}
use Rattle.answer.specs.declared.Refusal.TheVariants.{NoRoom, WrongStates}
use Rattle.key.specs.Key.{lawful}
use Rattle.promises.specs.Outcome.{Outcome, stopped, wrote, answer_of, output_of}
use Rattle.states.specs.Pages.{all_apart}
use Rattle.states.specs.States.{state_key, Saved, unsaved, saved, has_room, saved_answer, states_output, pages_output}
use Rattle.keeping.specs.Kept.{sequence_of, SequenceWritten}

-- The key of a state by its name; where it would be longer than any lawful key, some other unlawful string.
pub record KeyOf (name k : List ℕ) : Type 0 where
  pub law : lawful k ≡ lawful (state_key name)
  pub same : lawful (state_key name) ≡ true → k ≡ state_key name

-- What save and forget come to once the state register was written, or refused, and these pages with it.
unfoldable pub with_sequence : Outcome → List ℕ → ℕ → Saved
with_sequence (stopped r) q room = unsaved r
with_sequence (wrote t) q room = cond (has_room q room) (saved (record { states = t; pages = q })) (unsaved NoRoom)

unfoldable pub with_pages : Outcome → List (List ℕ) → ℕ → Saved
with_pages o ps room = cond (all_apart ps) (with_sequence o (sequence_of ps) room) (unsaved WrongStates)

-- Both outputs were written, or refused.
pub record BothWritten (answer : Result ℕ Refusal) (kept : Result ℕ Unkept) (states pages : List ℕ) (o : Outcome) (ps : List (List ℕ)) : Type 0 where
  pub answered : answer ≡ answer_of o
  pub register : states ≡ output_of o (length states)
  pub old : List ℕ
  pub room : length old ≡ length pages
  pub sequence : SequenceWritten ps old kept pages

-- The answer and both outputs are those of an outcome.
pub record SavedAs (o : Saved) (states pages : ℕ) (answer : Result (ℕ × ℕ) Refusal) (register sequence : List ℕ) : Type 0 where
  pub answered : answer ≡ saved_answer o
  pub register' : register ≡ states_output o states
  pub sequence' : sequence ≡ pages_output o pages
