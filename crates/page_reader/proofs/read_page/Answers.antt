use borrow.Author.Rules.{rules}
use Rattle.page_reader.proofs.PagePlaces.{first_within, count_stopped, entries_stopped, left_stopped, page_there}
use Rattle.page_reader.proofs.read_page.Goals as goal

pub read_entries-requires : goal.read_entries-requires
read_entries-requires c = search (rules, first_within)

pub returns : goal.returns
returns c = search (rules, page_there, c.in_ok-left.was, c.in_ok-past.was, c.in_ok-count.was)

pub returns-in_err-left : goal.returns-in_err-left
returns-in_err-left c = search (rules, left_stopped)

pub returns-in_err-past : goal.returns-in_err-past
returns-in_err-past c = search (rules, entries_stopped)

pub returns-in_err-count : goal.returns-in_err-count
returns-in_err-count c = search (rules, count_stopped)
