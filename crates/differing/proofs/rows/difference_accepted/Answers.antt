use Rattle.std.proofs.Common.{rules}
use native.Mathlib.Omega.{arith}
use Rattle.bytestring.proofs.Tools.{bytes_of_lem}
use Rattle.reading.proofs.Verdicts.{accepted_few, accepted_long}
use Rattle.differing.proofs.rows.difference_accepted.Goals as goal

pub with_rows-requires : goal.with_rows-requires
with_rows-requires c =
    let bytes = bytes_of_lem c.args.second.now (λ i h. omega (arith, c.type_inv.second i)) in
    let few = accepted_few bytes c.requires.2 in
    let long = accepted_long bytes c.requires.2 in search rules
