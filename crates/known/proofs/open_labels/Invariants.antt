use Rattle.known.proofs.Opening.{OpenSoFar}
use Rattle.known.proofs.open_labels.Given as goal

abbrev pub invariant-loop-k : goal.invariant-loop-k
invariant-loop-k l = OpenSoFar l.s l.heads l.words l.root l.u l.word l.most l.k
