use Rattle.row_words.proofs.WordLaws.{left_out}
use Rattle.row_words.proofs.leave_out.Goals as goal

pub returns : goal.returns
returns c = left_out c.args.row.now c.args.n c.args.at c.requires.0 c.requires.1 _ c.copy_within.ensures.after
