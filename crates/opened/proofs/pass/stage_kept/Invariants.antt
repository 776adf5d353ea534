use Prim.Native.Nat.{◌+◌, ◌-◌, ◌*◌, ◌≤◌}
use mathlib.Core.Path.{◌≡◌}
use lib.ListN.{length}
use Rattle.opened.proofs.Staging.{StagingTo}
use Rattle.opened.proofs.pass.stage_kept.Given as goal

abbrev pub invariant-loop-i : goal.invariant-loop-i
invariant-loop-i l =
    (length l.row ≡ length l.initial.row) × (l.staged ≤ l.from) × (l.opened ≤ 1 + 129 * l.i) × StagingTo l.chains l.m l.marks l.index l.row l.opened l.from l.staged l.i

abbrev pub decreases-loop-i : goal.decreases-loop-i
decreases-loop-i l = l.m - l.i
