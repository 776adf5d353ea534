use Prim.Native.Nat.{◌≤◌}
use mathlib.Core.Path.{◌≡◌}
use lib.ListN.{length}
use Rattle.row_words.specs.RowWords.{BelowSecond}
use Rattle.row_words.proofs.WordLaws.{ChangedSoFar}
use Rattle.row_words.proofs.to_second.Given as goal

abbrev pub invariant-loop-i : goal.invariant-loop-i
invariant-loop-i l = (l.n ≤ length l.initial.index) × BelowSecond l.initial.index l.n × (length l.index ≡ length l.initial.index) × ChangedSoFar l.initial.index l.index l.i
