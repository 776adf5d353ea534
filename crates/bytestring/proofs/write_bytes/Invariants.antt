use mathlib.Core.Path.{◌≡◌}
use lib.ListN.{length}
use Rattle.bytestring.proofs.Lending.{WrittenSoFar}
use Rattle.bytestring.proofs.write_bytes.Given as goal

abbrev pub invariant-loop-i : goal.invariant-loop-i
invariant-loop-i l = (length l.out ≡ length l.initial.out) × WrittenSoFar l.bytes l.initial.out l.out l.i
