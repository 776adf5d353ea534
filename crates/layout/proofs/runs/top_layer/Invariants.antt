use Rattle.layout.proofs.RunEnds.{TopSoFar}
use Rattle.layout.proofs.runs.top_layer.Given as goal

abbrev pub invariant-loop-i : goal.invariant-loop-i
invariant-loop-i l = TopSoFar l.row l.n l.top l.i
