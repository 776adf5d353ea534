use Rattle.layout.proofs.RunEnds.{OthersSoFar}
use Rattle.layout.proofs.runs.run_end.Given as goal

abbrev pub invariant-loop-i : goal.invariant-loop-i
invariant-loop-i l = OthersSoFar l.row l.layer l.lo l.i
