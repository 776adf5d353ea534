use mathlib.Core.Path.{refl}
use native.Mathlib.Omega.{arith}
use Rattle.bytestring.proofs.Tools.{bytes_of_lem}
use Rattle.judge.proofs.CutRows.{rows_cut}
use Rattle.judge.proofs.accepted.accept.Goals as goal

pub returns : goal.returns
returns c =
    let bytes = bytes_of_lem c.args.register.now (λ i h. omega (arith, c.type_inv.register i)) in
    let rows = rows_cut _ _ _ _ c.judge.ensures c.in_ok-count.was in
    (refl, record { bytes = bytes; records = rows.0; pages = rows.1 })
