use mathlib.Core.Path.{refl}
use native.Mathlib.Omega.{arith}
use Rattle.bytestring.proofs.Lending.{onto_place}
use Rattle.keeping.proofs.put_bytes.Goals as goal

pub returns-then-out-end : goal.returns-then-out-end
returns-then-out-end c = record { end = refl; put = λ h. absurd (omega (arith, c.if-out-end.true)) }

pub returns : goal.returns
returns c =
    let a = c.args in
    record { end = refl; put = λ h. onto_place a.out.now a.bytes.now _ a.at (omega (arith, h)) c.write_bytes.ensures }
