use Rattle.choice.proofs.Turns.{sifted_row}
use Rattle.choice.proofs.choose.leave_held.Goals as goal

pub returns : goal.returns
returns c = sifted_row _ _ _ _ _ _ _ _ c.combine.ensures c.requires.1 _ c.unwrap_or.ensures
