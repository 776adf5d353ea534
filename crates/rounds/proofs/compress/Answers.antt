use Rattle.std.proofs.Common.{refl}
use Rattle.fips180.specs.Hash.{after_blocks}
use Rattle.rounds.proofs.RoundLaws.{block_more}
use Rattle.rounds.proofs.compress.Goals as goal

pub loop-i-init : goal.loop-i-init
unfolding after_blocks
loop-i-init g c = refl

pub loop-i-preserved : goal.loop-i-preserved
loop-i-preserved g c =
    let l = c.loop-i in
    block_more _ _ _ l.x _ l.i (c.schedule_at.ensures _ c.schedules_of.ensures) l.invariant c.rounds_of-x.ensures
