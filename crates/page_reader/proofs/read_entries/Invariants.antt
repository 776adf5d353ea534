use Rattle.page_reader.proofs.PagePlaces.{EntriesSoFar}
use Rattle.page_reader.proofs.read_entries.Given as goal

abbrev pub invariant-loop-i : goal.invariant-loop-i
invariant-loop-i l = EntriesSoFar l.count l.s l.at l.next l.i
