use mathlib.Core.List.{[]}
use Rattle.keeping.proofs.Naming.{named_in_second, named_in_first, not_of_chain}
use Rattle.keeping.proofs.label_digest.Goals as goal

pub returns-then-label-lt-FROM_FIRST : goal.returns-then-label-lt-FROM_FIRST
returns-then-label-lt-FROM_FIRST c =
    let a = c.args in
    named_in_second a.states.now a.sequence.now [] a.label c.requires _ c.if-label-lt-FROM_FIRST.true c.digest_at.ensures

pub returns : goal.returns
returns c =
    let a = c.args in
    named_in_first a.states.now a.sequence.now [] a.label c.requires _ c.if-label-lt-FROM_FIRST.false
    (not_of_chain a.states.now a.sequence.now a.label c.requires) c.digest_at-2.ensures
