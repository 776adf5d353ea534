use Rattle.layout.proofs.RunEnds.{top_none, top_more, top_all, greater_is}
use mathlib.Core.Path.{◌∙◌}
use Rattle.layout.proofs.runs.top_layer.Goals as goal

pub loop-i-init : goal.loop-i-init
loop-i-init c =
    let a = c.args in
    top_none a.row.now a.n

pub loop-i-preserved : goal.loop-i-preserved
loop-i-preserved c =
    let a = c.args in
    let l = c.loop-i in
    top_more a.row.now a.n l.top l.i l.invariant c.layer_in.result c.max-top.result c.loop-i-test.true c.layer_in.ensures (c.max-top.ensures ∙ greater_is _ _)

pub returns : goal.returns
returns c =
    let a = c.args in
    let l = c.loop-i in
    top_all a.row.now a.n l.top l.i l.invariant c.loop-i-test.false
