use Prim.Native.Nat.{ℕ, ◌≤◌, ◌<◌}
use Rattle.summing.specs.Summed.{note_at}
use Rattle.states_reader.proofs.reached.all_noted.Given as goal

abbrev pub invariant-loop-c : goal.invariant-loop-c
invariant-loop-c l = (i : ℕ) → i < l.c → 1 ≤ note_at l.pages i
