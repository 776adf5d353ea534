use mathlib.Core.Path.{◌≡◌}
use mathlib.Core.Bool.{◌&&◌}
use lib.ListN.{length, drop}
use Rattle.bytestring.specs.Bytes.{equal}
use Rattle.bytestring.proofs.same_bytes.Given as goal

-- what was found so far and the bytes from i on together tell whether all are equal
abbrev pub invariant-loop-i : goal.invariant-loop-i
invariant-loop-i l = (length l.a ≡ length l.b) × ((l.same && equal (drop l.i l.a) (drop l.i l.b)) ≡ equal l.a l.b)
