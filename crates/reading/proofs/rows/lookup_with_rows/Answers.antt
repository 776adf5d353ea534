use mathlib.Core.Path.{◌≡◌, subst}
use borrow.Author.Rules.{rules}
use Rattle.std.specs.Prelude.{Err}
use Rattle.promises.specs.Outcome.{lookup_answer}
use Rattle.judge.proofs.Accepting.{accepted_same, accepted_stands, accepted_refused}
use Rattle.reading.proofs.Answering.{answer_refused}
use Rattle.reading.proofs.rows.lookup_with_rows.Goals as goal

pub lookup_accepted-requires : goal.lookup_accepted-requires
lookup_accepted-requires c = accepted_stands _ _ c.accept.ensures c.in_ok-accepted.was

pub returns-in_err-accepted : goal.returns-in_err-accepted
returns-in_err-accepted c =
    let a = c.args in
    subst (λ r. r ≡ lookup_answer a.register.now a.key.now) {x = Err c.in_err-accepted.field-0.0} {y = c.from_residual.result} (search rules)
    (answer_refused _ _ (accepted_refused _ _ c.accept.ensures c.in_err-accepted.was))

pub returns : goal.returns
returns c = rw (accepted_same _ _ c.accept.ensures c.in_ok-accepted.was) at c.lookup_accepted.ensures
