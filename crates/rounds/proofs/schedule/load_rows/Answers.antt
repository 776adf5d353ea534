use Rattle.rounds.proofs.ScheduleLaws.{no_row}
use Rattle.rounds.proofs.Making.{made_none, made_at}
use Rattle.rounds.proofs.schedule.load_rows.Goals as goal

pub loop-t-init : goal.loop-t-init
loop-t-init g c = made_at _ _ (no_row g.row.LANES) (made_none _ _)
