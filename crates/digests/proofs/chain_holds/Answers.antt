use Rattle.digests.proofs.LabelLoops.{chain_root, chain_linked}
use borrow.Author.Rules.{rules}
use Rattle.digests.proofs.chain_holds.Goals as goal

pub returns-then-link-eq0 : goal.returns-then-link-eq0
returns-then-link-eq0 c = search (rules, chain_root)

pub returns : goal.returns
returns c = search (rules, chain_linked)
