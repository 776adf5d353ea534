use Rattle.std.proofs.Common.{◌+◌, ◌*◌}
use Rattle.rounds.specs.Inner.{Beside}
use Rattle.rounds.proofs.schedule.load_row.Given as goal

abbrev pub invariant-loop-i : goal.invariant-loop-i
invariant-loop-i g l = Beside g.row.LANES (g.row.LANES * l.t) l.m l.initial.w → Beside g.row.LANES (g.row.LANES * l.t + l.i) l.m l.w
