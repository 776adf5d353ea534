use mathlib.Core.Path.{◌≡◌}
use lib.ListN.{length}
use Rattle.row.specs.Memory.{Remembers}
use Rattle.judge.proofs.LayerLoops.{LayersSoFar}
use Rattle.judge.proofs.layers.note_layers.Given as goal

abbrev pub invariant-loop-i : goal.invariant-loop-i
invariant-loop-i l =
    (length l.index ≡ length l.initial.index) × (length l.keys ≡ 16384) × (length l.notes ≡ 64) × Remembers l.s l.s l.keys l.notes × LayersSoFar l.s l.initial.index l.n l.first l.i l.index
