use Rattle.path_reader.proofs.Rows.{Onward}
use Rattle.path_reader.proofs.entries.judge_entries.Given as goal

abbrev pub invariant-loop-i : goal.invariant-loop-i
invariant-loop-i l = Onward l.s l.first l.n l.left l.key l.buffer l.size l.judged l.at l.i
