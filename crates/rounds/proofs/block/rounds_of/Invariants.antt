use Rattle.std.proofs.Common.{◌≡◌, ℕ, ◌*◌, take}
use Rattle.std.specs.List.{fold}
use Rattle.fips180.specs.Hash.{round}
use Rattle.fips180.specs.declared.State.{State}
use Rattle.rounds.proofs.block.rounds_of.Given as goal

abbrev pub invariant-loop-k : goal.invariant-loop-k
invariant-loop-k l = l.x ≡ fold (λ (x : State) (y : ℕ). round x 0 y) l.s (take (8 * l.k) l.v)
