use Prim.Native.Nat.{ℕ, ◌*◌, ◌<◌}
use mathlib.Core.Path.{◌≡◌}
use lib.ListN.{length, get_or}
use Rattle.known.specs.Rows.{label_count}
use Rattle.opened.proofs.pass.begin_marks.Given as goal

abbrev pub invariant-loop-i : goal.invariant-loop-i
invariant-loop-i l = (length l.marks ≡ length l.initial.marks) × ((j : ℕ) → j < l.i → get_or l.marks j 0 ≡ label_count (get_or l.chains (2 * j) 0))
