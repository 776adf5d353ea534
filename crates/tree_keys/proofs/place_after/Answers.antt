use borrow.Author.Rules.{rules}
use Rattle.tree_keys.proofs.Lefts.{next_place, end_place}
use Rattle.tree_keys.proofs.place_after.Goals as goal

pub returns-then-i-n : goal.returns-then-i-n
returns-then-i-n c = search (rules, next_place)

pub returns : goal.returns
returns c = search (rules, end_place)
