use borrow.Author.Rules.{rules}
use Rattle.page_reader.proofs.Places.{two_none, two_low, two_ends, two_there}
use Rattle.page_reader.proofs.read_two_bytes.Goals as goal

pub returns-then-s-at : goal.returns-then-s-at
returns-then-s-at c = search (rules, two_none)

pub returns-then-high-eq0 : goal.returns-then-high-eq0
returns-then-high-eq0 c = search (rules, two_low)

pub returns-then-s-at-2 : goal.returns-then-s-at-2
returns-then-s-at-2 c = search (rules, two_ends)

pub returns : goal.returns
returns c = search (rules, two_there)
