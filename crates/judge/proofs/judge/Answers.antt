use native.Mathlib.Omega.{arith}
use Rattle.judge.proofs.Verdicts.{too_long, walk_stopped, walked_whole}
use borrow.Author.Rules.{rules}
use Rattle.std.proofs.lemmas.Result.{err_from_is_err_and}
use Rattle.judge.proofs.judge.Goals as goal

pub returns-then-s-gt-LONGEST : goal.returns-then-s-gt-LONGEST
returns-then-s-gt-LONGEST c = search (rules, too_long)

pub verdict_of-requires : goal.verdict_of-requires
verdict_of-requires c =
    let a = c.args in
    let pre = c.requires in
    let w = c.walk in
    (omega (arith, c.if-s-gt-LONGEST), λ k few long. omega (arith, w.auto, pre.0 k few long), λ k few long. omega (arith, w.auto, pre.1 k few long), walked_whole a.s.now w.new.index w.new.row w.result c.in_ok-st.st w.ensures c.in_ok-st.was)

pub returns-in_err-st : goal.returns-in_err-st
returns-in_err-st c =
    let a = c.args in
    let w = c.walk in
    let (r, is, gives) = err_from_is_err_and c.from_residual.result c.from_residual.ensures.1 in
    rw is (walk_stopped a.s.now w.new.index w.new.row w.result c.in_err-st.field-0.0 (omega (arith, c.if-s-gt-LONGEST)) w.ensures c.in_err-st.was r gives)
