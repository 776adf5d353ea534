use Prim.Native.Nat.{◌-◌, ◌≤◌}
use mathlib.Core.Path.{◌≡◌}
use lib.ListN.{length, drop}
use Rattle.key_calls.specs.Inner.{slash_or_end, passed}
use Rattle.key_calls.proofs.rule.slash_or_end.Given as goal

-- the pass from byte i on answers what the whole pass does
abbrev pub invariant-loop-i : goal.invariant-loop-i
invariant-loop-i l = (l.i ≤ length l.key) × (passed (length l.key) l.at l.i (drop l.i l.key) ≡ slash_or_end l.key)

abbrev pub decreases-loop-i : goal.decreases-loop-i
decreases-loop-i l = length l.key - l.i
