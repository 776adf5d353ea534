use borrow.Author.Rules.{rules}
use Rattle.tree_keys.proofs.Keeping.{turn_within}
use Rattle.tree_keys.proofs.turn_of.Goals as goal

pub returns : goal.returns
returns c = search (rules, turn_within)
