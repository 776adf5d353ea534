use Rattle.std.proofs.Common.{◌*◌}
use Rattle.rounds.specs.Inner.{Beside}
use Rattle.rounds.proofs.schedule.load_rows.Given as goal

abbrev pub invariant-loop-t : goal.invariant-loop-t
invariant-loop-t g l = Beside g.row.LANES (g.row.LANES * l.t) l.m l.w
