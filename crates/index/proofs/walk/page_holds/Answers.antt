use borrow.Author.Rules.{rules}
use Rattle.index.proofs.Pages.{page_has_entry, root_is_bare, page_has_left}
use Rattle.index.proofs.walk.page_holds.Goals as goal

pub returns-then-count-gt0 : goal.returns-then-count-gt0
returns-then-count-gt0 c = search (rules, page_has_entry)

pub returns-then-link-eq0 : goal.returns-then-link-eq0
returns-then-link-eq0 c = search (rules, root_is_bare)

pub returns : goal.returns
returns c = search (rules, page_has_left)
