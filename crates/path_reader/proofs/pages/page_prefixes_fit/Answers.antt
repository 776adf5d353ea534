use borrow.Author.Rules.{rules}
use Rattle.path_reader.proofs.PageTests.{prefixes_told, prefixes_untold}
use Rattle.path_reader.proofs.pages.page_prefixes_fit.Goals as goal

pub returns-then-told : goal.returns-then-told
returns-then-told c = search (rules, prefixes_told)

pub returns : goal.returns
returns c = search (rules, prefixes_untold)
