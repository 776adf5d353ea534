use borrow.Author.Rules.{rules}
use native.Mathlib.Omega.{arith}
use Rattle.opened.proofs.Staging.{none_copied, one_copied, all_copied}
use Rattle.opened.proofs.pass.copy_words.Goals as goal

pub loop-i-init : goal.loop-i-init
loop-i-init c = (search rules, omega arith, search (rules, none_copied))

pub second_word-requires : goal.second_word-requires
second_word-requires c = c.requires.0.small c.loop-i.i (omega arith)

pub loop-i-preserved : goal.loop-i-preserved
loop-i-preserved c =
    let a = c.args in
    let l = c.loop-i in
    (search rules, omega (arith, l.invariant.1), rw c.second_word.ensures (one_copied a.index.now a.row.now a.from a.at l.row l.i l.k l.invariant.2 (omega arith) (omega arith) (omega arith)))

pub returns : goal.returns
returns c =
    let a = c.args in
    let l = c.loop-i in
    all_copied a.index.now a.row.now a.from a.to a.at l.row l.i l.k l.invariant.1 l.invariant.2 (omega arith)
