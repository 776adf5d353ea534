use Prim.Native.Nat.{◌*◌, ◌≤◌}
use mathlib.Core.Path.{◌≡◌}
use lib.ListN.{length}
use Rattle.judge.specs.Prefixes.{prefixes_in}
use Rattle.digests.proofs.RowLoops.{AllSoFar}
use Rattle.judge.proofs.prefixes.prefixes_hold.Given as goal

abbrev pub invariant-loop-i : goal.invariant-loop-i
invariant-loop-i l = (2 * l.n ≤ length l.row) × (length l.buffer ≡ 65536) × AllSoFar l.s l.row l.n prefixes_in l.i
