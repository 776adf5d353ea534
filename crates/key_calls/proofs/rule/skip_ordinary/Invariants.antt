use Prim.Native.Nat.{◌+◌, ◌-◌, ◌≤◌}
use mathlib.Core.Path.{◌≡◌}
use lib.ListN.{length}
use Rattle.key_calls.specs.Inner.{OrdinaryFrom}
use Rattle.key_calls.proofs.rule.skip_ordinary.Given as goal

abbrev pub invariant-loop-i : goal.invariant-loop-i
invariant-loop-i l = (l.n ≡ length l.key) × (l.from + 8 ≤ l.n) × (l.from ≤ l.i) × (l.i ≤ l.n) × OrdinaryFrom l.key l.from l.i

abbrev pub decreases-loop-i : goal.decreases-loop-i
decreases-loop-i l = l.n - l.i
