use borrow.Author.Rules.{rules}
use Rattle.page_writer.proofs.Writers.{value_written}
use Rattle.page_writer.proofs.write_value.Goals as goal

pub returns : goal.returns
returns c = search (rules, value_written)
