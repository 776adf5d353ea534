use borrow.Author.Rules.{rules}
use Rattle.path_reader.proofs.PageTests.{first_within, prefixes_read, prefixes_unread}
use Rattle.path_reader.proofs.pages.prefixes_again.Goals as goal

pub prefixes_fit-requires : goal.prefixes_fit-requires
prefixes_fit-requires c = (search rules, search (rules, first_within))

pub returns : goal.returns
returns c = search (rules, prefixes_read)

pub returns-in_default : goal.returns-in_default
returns-in_default c = search (rules, prefixes_unread)
