use borrow.Author.Rules.{rules}
use native.Mathlib.Omega.{arith}
use lib.ListN.{length}
use Rattle.known.proofs.Labels.{some_row_labels, row_few}
use Rattle.known.proofs.Filling.{none_linked, none_filled, one_filled, filled_to, filled_all}
use Rattle.known.proofs.fill.Goals as goal

pub loop-i-init : goal.loop-i-init
loop-i-init c =
    let a = c.args in
    (search rules, search rules, search rules, omega arith, none_linked a.s.now _ a.words.now (length a.heads.now) (search rules) c.requires.2 c.requires.3 c.requires.4, none_filled a.s.now a.known.now a.n a.start a.words.now)

pub returns-then-words-count : goal.returns-then-words-count
returns-then-words-count c =
    let a = c.args in
    let l = c.loop-i in
    filled_to a.s.now a.known.now a.n a.start l.heads l.words l.count l.i c.requires.0 l.invariant.4 l.invariant.0 (omega (arith, l.invariant.2, c.requires.3)) l.invariant.3 l.invariant.5 (omega arith) (omega (arith, c.label_count.ensures))

pub add_chain-count-requires : goal.add_chain-count-requires
add_chain-count-requires c =
    let a = c.args in
    let l = c.loop-i in
    (search rules, search rules, some_row_labels a.s.now a.known.now a.n l.i (omega arith) c.requires.0)

pub loop-i-preserved : goal.loop-i-preserved
loop-i-preserved c =
    let a = c.args in
    let l = c.loop-i in
    let few = row_few a.s.now a.known.now a.n l.i (omega arith) c.requires.0 in
    (search rules, search rules, omega (arith, l.invariant.2, c.add_chain-count.auto), omega (arith, few, l.invariant.3, c.add_chain-count.ensures.few), search rules, one_filled a.s.now a.known.now a.n a.start l.words l.count l.i l.invariant.5 (omega arith) _ _ _ c.add_chain-count.ensures)

pub returns : goal.returns
returns c =
    let a = c.args in
    let l = c.loop-i in
    filled_all a.s.now a.known.now a.n a.start l.heads l.words l.count l.i c.requires.0 l.invariant.4 l.invariant.0 (omega (arith, l.invariant.2, c.requires.3)) l.invariant.3 l.invariant.5 (omega arith)
