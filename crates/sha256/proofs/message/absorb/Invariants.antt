use mathlib.Core.Path.{◌≡◌}
use Prim.Native.Nat.{◌*◌}
use lib.ListN.{length}
use Rattle.fips180.specs.Hash.{after_blocks}
use Rattle.sha256.proofs.message.absorb.Given as goal

abbrev pub invariant-loop-k : goal.invariant-loop-k
invariant-loop-k g l = (length l.w ≡ g.row.WORDS) × (l.x ≡ after_blocks (g.row.LANES * l.k) l.initial.x l.m)
