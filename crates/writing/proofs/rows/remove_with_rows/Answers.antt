use Rattle.promises.specs.Moved.{remove_outcome}
use Rattle.checking.proofs.Heads.{lent_rows, lent_judged}
use Rattle.writing.proofs.Moving.{gives_refusal, plan_refused}
use Rattle.writing.proofs.rows.remove_with_rows.Goals as goal

pub remove_accepted-requires : goal.remove_accepted-requires
remove_accepted-requires c = lent_rows _ _ _ _ _ c.judge_lent.ensures c.in-Ok.is

pub returns-in-Err : goal.returns-in-Err
unfolding remove_outcome
returns-in-Err c =
    let it = gives_refusal _ _ _ _ (plan_refused _ _ _ _ (lent_judged _ _ _ _ _ c.judge_lent.ensures c.in-Err.is)) (c.refuse_headed.ensures.headed, c.refuse_headed.ensures.output) in record { headed = it.0; output = it.1 }
