use native.Mathlib.Omega.{arith}
use Rattle.known.proofs.Labels.{no_labels, some_labels}
use Rattle.known.proofs.label_count.Goals as goal

pub returns-then-link_in-eq0 : goal.returns-then-link_in-eq0
returns-then-link_in-eq0 c = no_labels c.args.word (omega arith)

pub returns : goal.returns
returns c = rw c.above_in.ensures (some_labels c.args.word (λ e. omega arith))
