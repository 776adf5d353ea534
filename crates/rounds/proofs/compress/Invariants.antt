use Rattle.std.proofs.Common.{◌≡◌}
use Rattle.fips180.specs.Hash.{after_blocks}
use Rattle.rounds.proofs.compress.Given as goal

abbrev pub invariant-loop-i : goal.invariant-loop-i
invariant-loop-i g l = l.x ≡ after_blocks l.i l.initial.x l.m
