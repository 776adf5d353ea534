use Prim.Native.Nat.{◌≤◌}
use mathlib.Core.Path.{◌≡◌}
use lib.ListN.{length}
use Rattle.path_writer.proofs.Copying.{CopiedTo}
use Rattle.path_writer.proofs.pages.write_path.Given as goal

abbrev pub invariant-loop-i : goal.invariant-loop-i
invariant-loop-i l = (length l.out ≡ length l.initial.out) × (l.next ≤ length l.out) × CopiedTo l.register l.chains l.n l.low l.high l.initial.out l.out l.next l.i
