use Rattle.summing.proofs.Keys.{none_before, first_compared}
use Rattle.summing.proofs.first_follows.Goals as goal

pub returns-then-size-eq0 : goal.returns-then-size-eq0
returns-then-size-eq0 c =
    let a = c.args in
    none_before a.judging.now.states.now a.judging.now.sequence.now a.judging.now.labels.now a.pages.now a.judging.now.n a.c a.before.now a.size c.if-size-eq0.true

pub first_key-key-requires : goal.first_key-key-requires
first_key-key-requires c = (c.requires.0, c.requires.1)

pub returns : goal.returns
returns c =
    let a = c.args in
    first_compared a.judging.now.states.now a.judging.now.sequence.now a.judging.now.labels.now a.pages.now a.judging.now.n a.c a.before.now a.size c.if-size-eq0.false
    c.first_key-key.result c.first_key-key.ensures c.key_rises.result c.key_rises.ensures
