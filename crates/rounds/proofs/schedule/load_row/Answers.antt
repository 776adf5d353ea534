use Rattle.std.proofs.Common.{arith}
use Rattle.rounds.proofs.ScheduleLaws.{word_loaded}
use Rattle.rounds.proofs.schedule.load_row.Goals as goal

pub loop-i-preserved : goal.loop-i-preserved
loop-i-preserved g c b =
    let l = c.loop-i in
    word_loaded g.row.LANES _ l.w l.i c.args.t _ (omega arith) (omega arith) (omega arith) c.load.ensures (l.invariant b)
