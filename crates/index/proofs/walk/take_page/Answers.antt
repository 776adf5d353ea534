use Rattle.index.proofs.Pages.{page_taken}
use borrow.Author.Rules.{rules}
use Rattle.index.proofs.walk.take_page.Goals as goal

pub returns : goal.returns
returns c = search (rules, page_taken)
