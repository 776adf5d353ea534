use borrow.Author.Rules.{rules}
use Rattle.page_reader.proofs.PagePlaces.{start_stopped, remainder_ends, shares_stopped, entry_there}
use Rattle.page_reader.proofs.read_entry.Goals as goal

pub returns-then-saturating_sub-size : goal.returns-then-saturating_sub-size
returns-then-saturating_sub-size c = search (rules, remainder_ends)

pub returns : goal.returns
returns c = search (rules, entry_there)

pub returns-in_err-shares : goal.returns-in_err-shares
returns-in_err-shares c = search (rules, shares_stopped)

pub returns-in_err-size : goal.returns-in_err-size
returns-in_err-size c = search (rules, start_stopped)
