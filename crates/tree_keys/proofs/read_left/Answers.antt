use borrow.Author.Rules.{rules}
use Rattle.tree_keys.proofs.Lefts.{left_not_read, left_read}
use Rattle.tree_keys.proofs.read_left.Goals as goal

pub returns : goal.returns
returns c = search (rules, left_read)

pub returns-in_default : goal.returns-in_default
returns-in_default c = search (rules, left_not_read)
