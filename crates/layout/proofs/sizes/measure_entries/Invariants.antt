use Prim.Native.Nat.{◌-◌}
use Rattle.layout.proofs.Measures.{Measured}
use Rattle.layout.proofs.sizes.measure_entries.Given as goal

abbrev pub invariant-loop-i : goal.invariant-loop-i
invariant-loop-i l = Measured l.s l.u l.row l.layer l.first l.hi l.keys l.notes l.previous l.held l.len l.i

abbrev pub decreases-loop-i : goal.decreases-loop-i
decreases-loop-i l = l.hi - l.i
