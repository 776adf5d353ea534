use mathlib.Core.Path.{refl, ◌∙◌}
use Rattle.sha256.proofs.Blocks.{one_by_one}
use Rattle.sha256.proofs.Whole.{done}
use Rattle.sha256.proofs.message.hash.Goals as goal

pub returns : goal.returns
returns c =
    let m = c.args.input.now in
    c.absorb.ensures ∙ one_by_one _ _ _ ∙ done m _ _ _ _ refl refl c.last_blocks.ensures c.absorb_whole-x.ensures
