use borrow.Author.Rules.{rules}
use Rattle.page.specs.Page.{link}
use Rattle.page_reader.proofs.read_link.Goals as goal

pub returns : goal.returns
unfolding link
returns c = search rules
