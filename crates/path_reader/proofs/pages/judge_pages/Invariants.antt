use Rattle.bytestring.specs.Bytes.{Bytes}
use Rattle.path_reader.proofs.Paths.{PathSoFar}
use Rattle.path_reader.proofs.pages.judge_pages.Given as goal

abbrev pub invariant-loop-level : goal.invariant-loop-level
invariant-loop-level l = Bytes l.path × PathSoFar l.path l.key l.initial.due l.due l.at l.level
