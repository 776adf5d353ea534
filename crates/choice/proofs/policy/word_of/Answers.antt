use Rattle.choice.specs.Choice.{word_of}
use Rattle.choice.proofs.policy.word_of.Goals as goal

pub returns-then-not-greater : goal.returns-then-not-greater
unfolding word_of
returns-then-not-greater c = rw (c.if-not-greater.true)

pub returns : goal.returns
unfolding word_of
returns c = rw (c.if-not-greater.false, c.word_of_both.ensures, c.order_of_values-values.ensures)
