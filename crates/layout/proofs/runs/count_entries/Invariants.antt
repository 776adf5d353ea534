use mathlib.Core.List.{List}
use Prim.Native.Nat.{ℕ, ◌-◌, ◌≤◌, ◌<◌}
use mathlib.Core.Path.{◌≡◌}
use lib.ListN.{get_or}
use Rattle.word.specs.Word.{layer_in}
use Rattle.layout.proofs.Measures.{Counted}
use Rattle.layout.proofs.runs.count_entries.Given as goal

abbrev pub invariant-loop-i : goal.invariant-loop-i
invariant-loop-i l =
    (l.count ≤ l.i) × (l.i ≤ l.hi) × (l.i < l.hi → layer_in (get_or l.row l.i 0) ≡ l.layer) × ((s u : List ℕ) → Counted s u l.row l.layer l.initial.i l.hi l.count l.i)

abbrev pub decreases-loop-i : goal.decreases-loop-i
decreases-loop-i l = l.hi - l.i
