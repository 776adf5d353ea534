use Rattle.promises.specs.Moved.{merge_outcome}
use Rattle.checking.proofs.Heads.{lent_judged}
use Rattle.writing.proofs.Moving.{gives_refusal, plan_refused}
use Rattle.merging.proofs.rows.merge_with_rows.Goals as goal

pub returns-in-Err : goal.returns-in-Err
unfolding merge_outcome
returns-in-Err c =
    let it = gives_refusal _ _ _ _ (plan_refused _ _ _ _ (lent_judged _ _ _ _ _ c.judge_lent.ensures c.in-Err.is)) (c.refuse_headed.ensures.headed, c.refuse_headed.ensures.output) in record { headed = it.0; output = it.1 }
