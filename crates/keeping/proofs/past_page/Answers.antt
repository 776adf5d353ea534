use mathlib.Core.Path.{subst}
use native.Mathlib.Omega.{arith}
use Rattle.bytestring.proofs.Tools.{bytes_of_lem}
use Rattle.page_reader.specs.Place.{PageIs}
use Rattle.keeping.proofs.Places.{past_read_page, no_page_there}
use Rattle.keeping.proofs.past_page.Goals as goal

pub returns : goal.returns
returns c =
    let a = c.args in
    let bytes = bytes_of_lem a.sequence.now (λ i h. omega (arith, c.type_inv.sequence i)) in
    let here = subst (PageIs a.sequence.now a.from) c.in-Ok.is c.read_page.ensures in
    past_read_page a.sequence.now a.from bytes _ here

pub returns-in_default : goal.returns-in_default
returns-in_default c =
    let a = c.args in
    let stopped = subst (PageIs a.sequence.now a.from) c.in_default.is c.read_page.ensures in
    no_page_there a.sequence.now a.from _ stopped a.from
