use Rattle.std.proofs.Common.{arith}
use Rattle.rounds.proofs.ChLaws.{ch_shorter}
use Rattle.rounds.proofs.block.ch_of.Goals as goal

pub returns : goal.returns
returns c = let a = c.args in ch_shorter a.x a.y a.z (omega arith) (omega arith)
