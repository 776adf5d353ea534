use Prim.Native.Nat.{◌≤◌}
use Rattle.filing.proofs.Passing.{Same}
use Rattle.filing.proofs.pass_words.Given as goal

abbrev pub invariant-loop-k : goal.invariant-loop-k
invariant-loop-k l = (l.j ≤ l.k) × Same l.states l.sequence l.words l.total l.j l.digest l.k
