use mathlib.Core.Path.{◌∙◌}
use Rattle.bytestring.proofs.Tools.{part_is}
use Rattle.layout.proofs.records.length_after.Goals as goal

pub returns : goal.returns
returns c =
    let a = c.args in
    (c.entry_length.ensures.0 ∙ rw (part_is a.keys.now a.from a.size), c.entry_length.ensures.1)
