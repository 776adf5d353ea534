use mathlib.Core.Path.{◌∙◌}
use Rattle.bytestring.proofs.Tools.{part_is}
use Rattle.layout.proofs.records.hold.Goals as goal

pub returns : goal.returns
returns c =
    let a = c.args in
    c.write_bytes.ensures ∙ rw (part_is a.keys.now a.from a.size)
