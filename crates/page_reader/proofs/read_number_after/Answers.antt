use borrow.Author.Rules.{rules}
use Rattle.page_reader.proofs.Places.{number_after, stop_after}
use Rattle.page_reader.proofs.read_number_after.Goals as goal

pub returns : goal.returns
returns c = search (rules, number_after)

pub returns-in_err-to : goal.returns-in_err-to
returns-in_err-to c = search (rules, stop_after)
