use borrow.Author.Rules.{rules}
use Rattle.page_writer.proofs.Sizes.{length_first, length_one, length_two}
use Rattle.page_writer.proofs.number_length.Goals as goal

pub returns-in-0-to-23 : goal.returns-in-0-to-23
returns-in-0-to-23 c = search (rules, length_first)

pub returns-in-24-to-255 : goal.returns-in-24-to-255
returns-in-24-to-255 c = search (rules, length_one)

pub returns-in_default : goal.returns-in_default
returns-in_default c = search (rules, length_two)
