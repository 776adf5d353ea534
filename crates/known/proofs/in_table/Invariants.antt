use Rattle.known.proofs.LinkTable.{Seeking}
use Rattle.known.proofs.in_table.Given as goal

abbrev pub invariant-loop-n : goal.invariant-loop-n
invariant-loop-n l = Seeking l.s l.heads l.words l.digest l.n

abbrev pub decreases-loop-n : goal.decreases-loop-n
decreases-loop-n l = l.n
