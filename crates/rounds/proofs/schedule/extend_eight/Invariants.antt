use Rattle.std.proofs.Common.{ℕ, ◌+◌, List}
use Rattle.rounds.specs.Inner.{Beside}
use Rattle.rounds.proofs.schedule.extend_eight.Given as goal

abbrev pub invariant-loop-i : goal.invariant-loop-i
invariant-loop-i g l = (m : List ℕ) → Beside g.row.LANES l.from m l.initial.w → Beside g.row.LANES (l.from + l.i) m l.w
