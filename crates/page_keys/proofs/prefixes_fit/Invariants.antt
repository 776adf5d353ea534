use Prim.Native.Nat.{◌≤◌}
use mathlib.Core.Path.{◌≡◌}
use lib.ListN.{length}
use Rattle.bytestring.specs.Bytes.{Bytes}
use Rattle.page_keys.proofs.Prefixes.{RowSoFar}
use Rattle.page_keys.proofs.prefixes_fit.Given as goal

abbrev pub invariant-loop-i : goal.invariant-loop-i
invariant-loop-i l = (length l.buffer ≡ length l.initial.buffer) × (65536 ≤ length l.buffer) × Bytes l.s × RowSoFar l.s l.first l.n l.i l.at l.buffer l.size
