-- What a caller has after a call.
use Rattle.std.specs.Prelude.{ℕ, List, [], ◌∷◌}
use Rattle.std.proofs.Math.Option.{Option, none, some}
use Rattle.value.specs.Value.{value_length}
use Rattle.answer.specs.Answer.{Said, said, said_of_two}
use Rattle.key.specs.Key.{slash_answer}
use Rattle.head.specs.declared.Head.{Head}
use Rattle.head.specs.Head.{zero_head}
use Rattle.promises.specs.Outcome.{check_outcome, lookup_answer, Listed, list_outcome, list_answer, list_key, list_value, Outcome, answer_of, output_of}
use Rattle.promises.specs.Moved.{Moved, put_outcome, join_outcome, remove_outcome, merge_outcome, moved_answer, moved_output, moved_head}
use Rattle.promises.specs.Range.{at_or_after_outcome, before_outcome, run_outcome}
use Rattle.promises.specs.Counted.{CountedOutcome, counted_answer, counted_output}
use Rattle.promises.specs.Difference.{difference_outcome}

-- An output: its length, and the bytes that stand in it after the call.
pub record Output : Type 0 where
  pub room : ℕ
  pub bytes : List ℕ

-- A head: what it is where the call is refused, and what it is after the call.
pub record HeadAfter : Type 0 where
  pub on_refusal : Head
  pub after : Head

-- What a call answered, its outputs, and its head where it has one.
pub record Reply : Type 0 where
  pub answer : Said
  pub outputs : List Output
  pub head : Option HeadAfter

-- The reply of each call; the contracts state the same answers and outputs.
abbrev pub slash_reply : List ℕ → Reply
slash_reply k = record { answer = said (slash_answer k); outputs = []; head = none }

-- Check's head is zero where it refuses.
abbrev pub check_reply : List ℕ → Reply
check_reply s =
    record {
      answer = said (check_outcome s).answer;
      outputs = [];
      head = some (record { on_refusal = zero_head; after = (check_outcome s).head });
    }

abbrev pub lookup_reply : List ℕ → List ℕ → Reply
lookup_reply s k = record { answer = said_of_two (lookup_answer s k); outputs = []; head = none }

abbrev pub record_reply : Listed → ℕ → Reply
record_reply o room =
    record {
      answer = said (list_answer o);
      outputs = record { room = room; bytes = list_key o room } ∷ record { room = value_length; bytes = list_value o } ∷ [];
      head = none;
    }

abbrev pub list_reply : List ℕ → ℕ → ℕ → Reply
list_reply s n room = record_reply (list_outcome s n room) room

abbrev pub at_or_after_reply : List ℕ → List ℕ → ℕ → Reply
at_or_after_reply s k room = record_reply (at_or_after_outcome s k room) room

abbrev pub before_reply : List ℕ → List ℕ → ℕ → Reply
before_reply s k room = record_reply (before_outcome s k room) room

abbrev pub writing_reply : Outcome → ℕ → Reply
writing_reply o room =
    record { answer = said (answer_of o); outputs = record { room = room; bytes = output_of o room } ∷ []; head = none }

abbrev pub run_reply : List ℕ → List ℕ → List ℕ → ℕ → Reply
run_reply s first last room = writing_reply (run_outcome s first last room) room

-- A call that is lent a head leaves it as it was where it refuses.
abbrev pub moved_reply : Moved → Head → ℕ → Reply
moved_reply o lent room =
    record {
      answer = said (moved_answer o);
      outputs = record { room = room; bytes = moved_output o room } ∷ [];
      head = some (record { on_refusal = lent; after = moved_head o lent });
    }

abbrev pub put_reply : List ℕ → Head → List ℕ → List ℕ → ℕ → Reply
put_reply s h k v room = moved_reply (put_outcome s h k v room) h room

abbrev pub join_reply : List ℕ → Head → List ℕ → List ℕ → ℕ → Reply
join_reply s h k v room = moved_reply (join_outcome s h k v room) h room

abbrev pub remove_reply : List ℕ → Head → List ℕ → ℕ → Reply
remove_reply s h k room = moved_reply (remove_outcome s h k room) h room

abbrev pub merge_reply : List ℕ → Head → List ℕ → ℕ → Reply
merge_reply s h u room = moved_reply (merge_outcome s h u room) h room

abbrev pub counted_reply : CountedOutcome → ℕ → Reply
counted_reply o room =
    record { answer = said_of_two (counted_answer o); outputs = record { room = room; bytes = counted_output o room } ∷ []; head = none }

abbrev pub difference_reply : List ℕ → List ℕ → ℕ → Reply
difference_reply s u room = counted_reply (difference_outcome s u room) room
