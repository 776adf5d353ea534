use Prim.Native.Nat.{◌+◌, ◌≤◌}
use mathlib.Core.Path.{◌≡◌}
use lib.ListN.{length}
use Rattle.known.specs.Rows.{label_count}
use Rattle.known.specs.Known.{Linked}
use Rattle.known.proofs.Labels.{Adding}
use Rattle.known.proofs.add_chain.Given as goal

abbrev pub invariant-loop-k : goal.invariant-loop-k
invariant-loop-k l =
    (l.n ≡ label_count l.word) × (length l.heads ≡ length l.initial.heads) × (length l.words ≡ length l.initial.words) × (l.total ≤ l.count + l.k)
    × Linked l.s l.heads l.words l.total × Adding l.s l.word l.initial.words l.count l.words l.total l.k
