use Rattle.std.proofs.Common.{◌*◌}
use Rattle.rounds.specs.Inner.{Beside}
use Rattle.rounds.proofs.schedule.schedules_of.Given as goal

abbrev pub invariant-loop-k : goal.invariant-loop-k
invariant-loop-k g l = Beside g.row.LANES (8 * g.row.LANES * l.k) l.m l.w
