use Rattle.std.proofs.Common.{refl, ◌∙◌, arith, length-set}
use Rattle.rounds.proofs.Making.{made_none, made_more}
use Rattle.rounds.proofs.ScheduleLaws.{lane}
use Rattle.rounds.proofs.schedule.schedule_at.Goals as goal

pub loop-t-init : goal.loop-t-init
loop-t-init g c = (refl, made_none _ _)

pub loop-t-preserved : goal.loop-t-preserved
loop-t-preserved g c =
    let l = c.loop-t in
    (length-set l.r l.t _ ∙ l.invariant.0, made_more _ l.r l.t _ (omega arith) refl l.invariant.1)

pub returns : goal.returns
returns g c m b = let l = c.loop-t in lane g.row.LANES m _ l.r _ l.t (omega arith) (omega arith) l.invariant.0 l.invariant.1 b
