use mathlib.Core.Path.{◌∙◌}
use Rattle.choice.proofs.Choosing.{parts_order}
use Rattle.choice.proofs.cursor.order_of.Goals as goal

pub returns : goal.returns
returns c =
    let a = c.args in
    c.compare.ensures ∙ parts_order a.keys.now a.others.now a.a.from a.a.size a.b.from a.b.size
