use mathlib.Core.Path.{◌≡◌}
use Rattle.known.specs.Rows.{label_count}
use Rattle.staging.proofs.Words.{Putting}
use Rattle.staging.proofs.stage_chain.Given as goal

abbrev pub invariant-loop-k : goal.invariant-loop-k
invariant-loop-k l = (l.n ≡ label_count l.word) × Putting l.initial.words l.total l.number l.words l.k
