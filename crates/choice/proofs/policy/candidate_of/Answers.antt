use Rattle.choice.proofs.policy.candidate_of.Goals as goal

pub returns-in-Less : goal.returns-in-Less
returns-in-Less c = rw (c.in-Less.is, c.keeps_first.ensures)

pub returns-in-Equal : goal.returns-in-Equal
returns-in-Equal c = rw (c.in-Equal.is, c.word_of_both.ensures, c.keeps_of_both.ensures, c.order_of_values-values.ensures)

pub returns-in-Greater : goal.returns-in-Greater
returns-in-Greater c = rw c.in-Greater.is
