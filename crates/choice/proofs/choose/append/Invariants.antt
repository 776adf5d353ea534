use Prim.Native.Nat.{◌+◌, ◌-◌, ◌≤◌}
use mathlib.Core.Path.{◌≡◌}
use lib.ListN.{length, take, drop}
use Rattle.choice.proofs.Choosing.{AppendedSoFar}
use Rattle.choice.proofs.choose.append.Given as goal

abbrev pub invariant-loop-i : goal.invariant-loop-i
invariant-loop-i l =
    (l.k + (l.to - l.from) ≤ l.limit) × (l.limit ≤ length l.initial.row) × (length l.row ≡ length l.initial.row) × AppendedSoFar l.initial.row l.k (take (l.to - l.from) (drop l.from l.words)) l.row l.i
