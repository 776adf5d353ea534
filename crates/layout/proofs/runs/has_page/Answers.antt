use Prim.Native.Nat.{◌-◌}
use Rattle.layout.proofs.RunEnds.{page_bottom, page_within}
use Rattle.layout.proofs.runs.has_page.Goals as goal

pub returns-then-layer-gt0 : goal.returns-then-layer-gt0
returns-then-layer-gt0 c = page_within c.args.layer c.args.lo c.args.hi c.if-layer-gt0.true c.requires

pub returns-else-layer-gt0 : goal.returns-else-layer-gt0
returns-else-layer-gt0 c = page_bottom c.args.layer (c.args.hi - c.args.lo) c.if-layer-gt0.false
