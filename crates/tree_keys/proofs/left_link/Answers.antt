use borrow.Author.Rules.{rules}
use Rattle.tree_keys.proofs.Lefts.{short_page, no_link_begins, link_begins}
use Rattle.tree_keys.proofs.left_link.Goals as goal

pub returns-then-end-at-lt-LEAST_WITH_LEFT : goal.returns-then-end-at-lt-LEAST_WITH_LEFT
returns-then-end-at-lt-LEAST_WITH_LEFT c = search (rules, short_page)

pub returns-then-sequence-end : goal.returns-then-sequence-end
returns-then-sequence-end c = search (rules, link_begins)

pub returns : goal.returns
returns c = search (rules, no_link_begins)
