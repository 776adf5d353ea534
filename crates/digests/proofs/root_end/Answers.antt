use native.Mathlib.Omega.{arith}
use Rattle.bytestring.proofs.Tools.{bytes_of_lem}
use Rattle.digests.proofs.Roots.{none_ends, first_ends}
use Rattle.digests.proofs.root_end.Goals as goal

pub returns-then-n-eq0 : goal.returns-then-n-eq0
returns-then-n-eq0 c = none_ends c.requires (bytes_of_lem c.args.s.now (λ i h. omega (arith, c.type_inv.s i))) c.if-n-eq0.true

pub returns : goal.returns
returns c = first_ends c.requires (bytes_of_lem c.args.s.now (λ i h. omega (arith, c.type_inv.s i))) (omega arith) c.end_in.ensures
