use Prim.Native.Nat.{◌+◌, ◌-◌}
use mathlib.Core.Path.{◌≡◌}
use lib.ListN.{length}
use Rattle.choice.proofs.Turns.{SoFar}
use Rattle.choice.proofs.choose.combine.Given as goal

abbrev pub invariant-loop-a : goal.invariant-loop-a
invariant-loop-a l = (length l.row ≡ length l.initial.row) × SoFar l.s l.u l.first l.n l.second l.m l.policy l.limit l.row l.keys l.notes l.others l.marks l.a l.b l.k

abbrev pub decreases-loop-a : goal.decreases-loop-a
decreases-loop-a l = (l.n - l.a.at) + (l.m - l.b.at)
