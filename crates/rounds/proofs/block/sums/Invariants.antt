use Rattle.std.proofs.Common.{◌≡◌, length}
use Rattle.rounds.proofs.RoundLaws.{Summed}
use Rattle.rounds.proofs.block.sums.Given as goal

abbrev pub invariant-loop-t : goal.invariant-loop-t
invariant-loop-t l = (length l.v ≡ 64) × Summed l.w l.t l.v
