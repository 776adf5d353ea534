use borrow.Author.Rules.{rules}
use Rattle.known.proofs.Filling.{known_root, known_link}
use Rattle.known.proofs.is_known.Goals as goal

pub returns-then-same_digest : goal.returns-then-same_digest
returns-then-same_digest c = search (rules, known_root)

pub returns : goal.returns
returns c = search (rules, known_link)
