use Rattle.judge.proofs.PrefixPages.{page_starts, page_tested, page_not_there}
use borrow.Author.Rules.{rules}
use Rattle.judge.proofs.prefixes.page_prefixes.Goals as goal

pub prefixes_fit-requires : goal.prefixes_fit-requires
prefixes_fit-requires c = (search rules, search (rules, page_starts))

pub returns : goal.returns
returns c = search (rules, page_tested)

pub returns-in_default : goal.returns-in_default
returns-in_default c = search (rules, page_not_there)
