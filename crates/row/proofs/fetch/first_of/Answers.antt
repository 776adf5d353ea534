use borrow.Author.Rules.{rules}
use Rattle.row.proofs.Ways.{from_first_lem, from_nowhere}
use Rattle.row.proofs.fetch.first_of.Goals as goal

pub returns : goal.returns
returns c = search (rules, from_first_lem)

pub returns-in_default : goal.returns-in_default
returns-in_default c = search (rules, from_nowhere)
