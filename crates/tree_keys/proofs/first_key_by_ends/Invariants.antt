use Prim.Native.Nat.{◌<◌}
use Rattle.bytestring.specs.Bytes.{Bytes}
use Rattle.tree_keys.proofs.FirstWays.{FirstSoFar}
use Rattle.tree_keys.proofs.first_key_by_ends.Given as goal

abbrev pub invariant-loop-steps : goal.invariant-loop-steps
invariant-loop-steps l = (l.c < l.n) × Bytes l.sequence × FirstSoFar l.states l.sequence l.labels l.pages l.n l.i l.c l.steps
