use borrow.Author.Rules.{rules}
use Rattle.path_reader.proofs.PageTests.{said_is}
use Rattle.path_reader.proofs.pages.said_by.Goals as goal

pub returns-in-On : goal.returns-in-On
returns-in-On c = search (rules, said_is)

pub returns-in-Value : goal.returns-in-Value
returns-in-Value c = search (rules, said_is)

pub returns-in-Gap : goal.returns-in-Gap
returns-in-Gap c = search (rules, said_is)
