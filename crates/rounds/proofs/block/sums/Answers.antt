use Rattle.std.proofs.Common.{refl, ◌∙◌, arith, length-set}
use Rattle.fips180.specs.Hash.{K}
use Rattle.rounds.proofs.RoundLaws.{summed_none, summed_more, summed_all}
use Rattle.rounds.proofs.block.sums.Goals as goal

pub loop-t-init : goal.loop-t-init
unfolding K
loop-t-init c = (refl, summed_none _ _ refl)

pub loop-t-preserved : goal.loop-t-preserved
loop-t-preserved c =
    let l = c.loop-t in
    (length-set l.v l.t _ ∙ l.invariant.0, summed_more _ l.v l.t _ (omega arith) refl l.invariant.1)

pub returns : goal.returns
returns c = summed_all _ _ _ (omega arith) c.loop-t.invariant.1
