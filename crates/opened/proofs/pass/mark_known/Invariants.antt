use mathlib.Core.Bool.{true}
use Prim.Native.Nat.{◌-◌, ◌≤◌}
use mathlib.Core.Path.{◌≡◌}
use lib.ListN.{length}
use Rattle.opened.proofs.Parts.{TakenTo}
use Rattle.opened.proofs.pass.mark_known.Given as goal

abbrev pub invariant-loop-done : goal.invariant-loop-done
invariant-loop-done l =
    (l.done ≤ l.n) × (length l.heads ≡ 4096) × (length l.words ≡ 4096) × (length l.marks ≡ length l.initial.marks) × (l.m ≤ length l.marks)
    × (length l.root ≡ 32) × (length l.top ≡ 32) × TakenTo l.s l.known l.n l.u l.chains l.m l.root l.top l.marks l.done true

abbrev pub decreases-loop-done : goal.decreases-loop-done
decreases-loop-done l = l.n - l.done
