use native.Mathlib.Omega.{arith}
use Rattle.checking.proofs.Heads.{lent_rows, lent_judged}
use Rattle.writing.proofs.Moving.{gives_refusal, set_refused}
use Rattle.writing.proofs.rows.set_value_with_rows.Goals as goal

pub set_accepted-requires : goal.set_accepted-requires
set_accepted-requires c =
    let rows = lent_rows _ _ _ _ _ c.judge_lent.ensures c.in-Ok.is in
    (rows.0, rows.1, rows.2, λ k few long. omega (arith, c.requires.2 k few long, c.judge_lent.auto.index))

pub returns-in-Err : goal.returns-in-Err
returns-in-Err c =
    let it = gives_refusal _ _ _ _ (set_refused _ _ _ _ _ _ (lent_judged _ _ _ _ _ c.judge_lent.ensures c.in-Err.is)) (c.refuse_headed.ensures.headed, c.refuse_headed.ensures.output) in record { headed = it.0; output = it.1 }
