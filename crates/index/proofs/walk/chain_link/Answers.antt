use borrow.Author.Tests.{eq-eqb, ne_eqb}
use Rattle.index.proofs.walk.chain_link.Goals as goal

pub returns-then-link-eq0 : goal.returns-then-link-eq0
returns-then-link-eq0 c = rw (eq-eqb c.args.link 0 c.if-link-eq0.true)

pub returns : goal.returns
returns c = rw (ne_eqb c.args.link 0 c.if-link-eq0.false)
