use Prim.Native.Nat.{◌*◌, ◌≤◌}
use lib.ListN.{length}
use Rattle.index.specs.Chain.{chains_right}
use Rattle.digests.specs.Digests.{ChainsNoted}
use Rattle.digests.proofs.RowLoops.{AllSoFar}
use Rattle.digests.proofs.digests_hold.Given as goal

abbrev pub invariant-loop-i : goal.invariant-loop-i
invariant-loop-i l = (2 * l.n ≤ length l.row) × ChainsNoted l.s l.row l.n × AllSoFar l.s l.row l.n chains_right l.i
