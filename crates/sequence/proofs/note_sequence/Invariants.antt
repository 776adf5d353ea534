use Prim.Native.Nat.{◌-◌, ◌≤◌}
use mathlib.Core.Path.{◌≡◌}
use lib.ListN.{length}
use Rattle.sequence.proofs.Sequences.{SequenceSoFar}
use Rattle.sequence.proofs.note_sequence.Given as goal

abbrev pub invariant-loop-at : goal.invariant-loop-at
invariant-loop-at l =
    (length l.links ≡ length l.initial.links) × (length l.pages ≡ length l.initial.pages) × (l.at ≤ length l.s) × (l.number ≤ l.at) × (l.count ≤ l.at)
    × SequenceSoFar l.s l.links l.pages l.number l.count l.at

abbrev pub decreases-loop-at : goal.decreases-loop-at
decreases-loop-at l = length l.s - l.at
