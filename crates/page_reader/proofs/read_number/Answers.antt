use borrow.Author.Rules.{rules}
use Rattle.page_reader.proofs.Places.{number_none, number_low, number_there, number_one, number_two, number_high}
use Rattle.page_reader.proofs.read_number.Goals as goal

pub returns-then-s-at : goal.returns-then-s-at
returns-then-s-at c = search (rules, number_none)

pub returns-then-first-least : goal.returns-then-first-least
returns-then-first-least c = search (rules, number_low)

pub returns-in-0-to-23 : goal.returns-in-0-to-23
returns-in-0-to-23 c = search (rules, number_there)

pub returns-in-24 : goal.returns-in-24
returns-in-24 c = search (rules, number_one)

pub returns-in-25 : goal.returns-in-25
returns-in-25 c = search (rules, number_two)

pub returns-in_default : goal.returns-in_default
returns-in_default c = search (rules, number_high)
