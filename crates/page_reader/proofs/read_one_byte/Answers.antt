use borrow.Author.Rules.{rules}
use Rattle.page_reader.proofs.Places.{one_none, one_low, one_there}
use Rattle.page_reader.proofs.read_one_byte.Goals as goal

pub returns-then-s-at : goal.returns-then-s-at
returns-then-s-at c = search (rules, one_none)

pub returns-then-n-ge24 : goal.returns-then-n-ge24
returns-then-n-ge24 c = search (rules, one_there)

pub returns : goal.returns
returns c = search (rules, one_low)
