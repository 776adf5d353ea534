use mathlib.Core.Path.{sym, ◌∙◌}
use native.Mathlib.Omega.{arith}
use Rattle.layout.proofs.RunEnds.{others_none, others_more}
use Rattle.layout.proofs.runs.run_end.Goals as goal

pub loop-i-init : goal.loop-i-init
loop-i-init c =
    let a = c.args in
    others_none a.row.now a.layer a.lo

pub returns-then-layer_in-layer : goal.returns-then-layer_in-layer
returns-then-layer_in-layer c =
    let l = c.loop-i in
    record { from = omega arith; to = omega arith; other = l.invariant; stop = λ _. sym c.layer_in.ensures ∙ c.if-layer_in-layer.true }

pub loop-i-preserved : goal.loop-i-preserved
loop-i-preserved c =
    let l = c.loop-i in
    let a = c.args in
    others_more a.row.now a.layer a.lo l.i c.layer_in.result l.invariant c.layer_in.ensures c.if-layer_in-layer.false

pub returns : goal.returns
returns c =
    let l = c.loop-i in
    record { from = c.requires.0; to = omega arith; other = λ j h k. l.invariant j h (omega arith); stop = λ h. absurd (omega arith) }
