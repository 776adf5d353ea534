use Prim.Native.Nat.{◌+◌, ◌≤◌}
use mathlib.Core.Path.{◌≡◌}
use lib.ListN.{length}
use Rattle.bytestring.specs.Bytes.{Bytes}
use Rattle.sequence.proofs.Links.{LinksSoFar}
use Rattle.sequence.proofs.note_links_after.Given as goal

abbrev pub invariant-loop-i : goal.invariant-loop-i
invariant-loop-i l =
    (length l.links ≡ length l.initial.links) × (l.total ≤ l.count + l.i) × Bytes l.s × LinksSoFar l.s l.first l.n l.initial.links l.count l.i l.at l.links l.total
