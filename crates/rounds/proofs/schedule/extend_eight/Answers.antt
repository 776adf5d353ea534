use Rattle.std.proofs.Common.{arith}
use Rattle.rounds.proofs.ScheduleLaws.{word_made}
use Rattle.rounds.proofs.schedule.extend_eight.Goals as goal

pub loop-i-preserved : goal.loop-i-preserved
loop-i-preserved g c m b =
    let l = c.loop-i in
    word_made g.row.LANES m l.w c.args.from l.i _ (omega arith) (omega arith) (omega arith) c.next_word.ensures (l.invariant m b)
