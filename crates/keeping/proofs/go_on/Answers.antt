use mathlib.Core.Path.{ap, sym}
use Rattle.keeping.specs.Inner.{progress_after}
use Rattle.keeping.proofs.go_on.Goals as goal

pub returns-then-part : goal.returns-then-part
returns-then-part c =
    let a = c.args in
    ap (progress_after a.i a.j a.place a.part a.length) (sym c.if-part.true)

pub returns : goal.returns
returns c =
    let a = c.args in
    ap (progress_after a.i a.j a.place a.part a.length) (sym c.if-part.false)
