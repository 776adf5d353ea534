use Rattle.std.proofs.Common.{arith}
use Rattle.rounds.proofs.RoundLaws.{eight_more, rounds_end}
use Rattle.rounds.proofs.block.rounds_of.Goals as goal

pub loop-k-preserved : goal.loop-k-preserved
loop-k-preserved c = let l = c.loop-k in eight_more _ _ l.x _ l.k l.invariant c.rounds_by-x.ensures

pub returns : goal.returns
returns c =
    let l = c.loop-k in
    rounds_end _ _ _ l.x _ l.k (omega arith) (omega arith) (omega arith) c.sums-v.ensures l.invariant c.plus_of.ensures
