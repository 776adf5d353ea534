use Prim.Native.Nat.{◌*◌, ◌-◌, ◌≤◌}
use lib.ListN.{length}
use Rattle.digests.proofs.LabelLoops.{SoFar}
use Rattle.digests.proofs.labels_hold.Given as goal

abbrev pub invariant-loop-k : goal.invariant-loop-k
invariant-loop-k l = (47 * l.above ≤ l.page) × (l.page ≤ l.end) × (l.end ≤ length l.s) × SoFar l.s l.link l.above l.page l.label (l.above - l.k)
