use Rattle.std.proofs.Common.{◌≤◌, length}
use Rattle.key_order.specs.Inner.{SharedSoFar}
use Rattle.key_order.proofs.shared_count.Given as goal

abbrev pub invariant-loop-i : goal.invariant-loop-i
invariant-loop-i l = (l.i ≤ length l.s) × SharedSoFar l.s l.t l.i
