use borrow.Author.Rules.{rules}
use Rattle.labels.proofs.Labels.{label_first, label_above}
use Rattle.labels.proofs.last_label.Goals as goal

pub returns-then-above_in-eq0 : goal.returns-then-above_in-eq0
returns-then-above_in-eq0 c = search (rules, label_first)

pub returns : goal.returns
returns c = search (rules, label_above)
