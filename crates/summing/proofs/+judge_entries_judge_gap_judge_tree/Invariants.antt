use Prim.Native.Nat.{◌+◌, ◌*◌}
use mathlib.Core.Path.{◌≡◌}
use lib.ListN.{length}
use Rattle.summing.specs.Inner.{SameSlices}
use Rattle.summing.proofs.Entries.{SummedSoFar}
use Rattle.summing.proofs.+judge_entries_judge_gap_judge_tree.Given as goal

abbrev pub decreases-judge_entries : goal.decreases-judge_entries
decreases-judge_entries l = 3 * l.layer + 1

abbrev pub invariant-judge_entries-loop-i : goal.invariant-judge_entries-loop-i
invariant-judge_entries-loop-i l =
    (length l.pages ≡ length l.initial.pages) × SameSlices l.initial.written l.written
    × SummedSoFar l.judging.states.now l.judging.sequence.now l.judging.labels.now l.judging.n l.initial.pages l.initial.written.counts.now l.initial.written.last.now l.initial.cur l.first l.entries l.layer l.judging.mark l.pages l.written.counts.now l.written.keys.now l.written.tags.now l.written.last.now l.buffer l.size l.cur l.at l.i

abbrev pub decreases-judge_gap : goal.decreases-judge_gap
decreases-judge_gap l = 3 * l.layer

abbrev pub decreases-judge_tree : goal.decreases-judge_tree
decreases-judge_tree l = 3 * l.layer + 2
