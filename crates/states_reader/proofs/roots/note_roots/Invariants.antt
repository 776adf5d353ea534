use mathlib.Core.Path.{◌≡◌}
use lib.ListN.{length}
use Rattle.row.specs.Memory.{Remembers}
use Rattle.states_reader.proofs.Noting.{RootsSoFar}
use Rattle.states_reader.proofs.roots.note_roots.Given as goal

abbrev pub invariant-loop-i : goal.invariant-loop-i
invariant-loop-i l =
    (length l.roots ≡ length l.initial.roots) × (length l.words ≡ length l.initial.words) × (length l.keys ≡ 16384) × (length l.notes ≡ 64)
    × Remembers l.states l.states l.keys l.notes × RootsSoFar l.states l.index l.count l.initial.words l.m l.roots l.words l.i
