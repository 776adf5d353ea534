use Prim.Native.Nat.{◌+◌, ◌-◌}
use mathlib.Core.Path.{◌≡◌}
use lib.ListN.{length}
use Rattle.opened.proofs.Staging.{Copying}
use Rattle.opened.proofs.pass.copy_words.Given as goal

abbrev pub invariant-loop-i : goal.invariant-loop-i
invariant-loop-i l = (length l.row ≡ length l.initial.row) × (l.k ≡ l.at + (l.i - l.from)) × Copying l.index l.initial.row l.from l.at l.row l.i l.k
