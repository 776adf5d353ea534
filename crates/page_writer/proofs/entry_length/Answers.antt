use Rattle.page_writer.proofs.Sizes.{shares_fit, entry_size}
use borrow.Author.Rules.{rules}
use Rattle.page_writer.proofs.entry_length.Goals as goal

pub overflow_sub-size : goal.overflow_sub-size
overflow_sub-size c = search (rules, shares_fit)

pub returns : goal.returns
returns c = (search (rules, entry_size), search rules)
