use mathlib.Core.Path.{◌∙◌}
use Prim.Native.Nat.{◌+◌, ◌-◌}
use native.Mathlib.Omega.{arith}
use lib.ListN.{drop, length-take}
use Rattle.bytestring.proofs.Tools.{part_is}
use Rattle.layout.proofs.records.write_after.Goals as goal

pub write_entry-requires : goal.write_entry-requires
write_entry-requires c =
    let a = c.args in (
      omega (arith, length-take (a.from + a.size - a.from) (drop a.from a.keys.now), c.requires.1),
      rw (part_is a.keys.now a.from a.size) c.requires.2,
    )

pub returns : goal.returns
returns c =
    let a = c.args in
    let w = c.write_entry in record {
      output = w.ensures.output ∙ rw (part_is a.keys.now a.from a.size);
      count = w.ensures.count ∙ rw (part_is a.keys.now a.from a.size);
    }
