use mathlib.Core.Path.{refl}
use Rattle.sha256.proofs.Blocks.{after_fours}
use Rattle.sha256.proofs.message.absorb_whole.Goals as goal

pub returns : goal.returns
returns c = let m = c.args.m.now in after_fours m _ _ _ _ _ refl c.start.ensures c.absorb-x.ensures c.absorb.ensures
