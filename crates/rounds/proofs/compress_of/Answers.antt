use Rattle.rounds.proofs.RoundLaws.{one_block}
use Rattle.rounds.proofs.compress_of.Goals as goal

pub returns : goal.returns
returns c = one_block _ _ _ c.requires c.compress.ensures
