use Prim.Native.Nat.{◌-◌, ◌*◌, ◌≤◌}
use mathlib.Core.Path.{◌≡◌}
use lib.ListN.{length}
use Rattle.known.specs.Known.{Linked}
use Rattle.known.proofs.Filling.{Filling}
use Rattle.known.proofs.fill.Given as goal

abbrev pub invariant-loop-i : goal.invariant-loop-i
invariant-loop-i l =
    (l.start ≤ l.i) × (length l.heads ≡ length l.initial.heads) × (length l.words ≡ length l.initial.words) × (l.count ≤ 129 * (l.i - l.start))
    × Linked l.s l.heads l.words l.count × Filling l.s l.known l.n l.start l.words l.count l.i
