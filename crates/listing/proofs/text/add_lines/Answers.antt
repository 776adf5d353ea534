use borrow.Author.Rules.{rules}
use native.Mathlib.Omega.{arith}
use Rattle.row.proofs.Memories.{fresh_zeros}
use Rattle.listing.proofs.Lines.{lines_begin, lines_end, lines_more, lines_short}
use Rattle.listing.proofs.text.add_lines.Goals as goal

pub loop-i-init : goal.loop-i-init
loop-i-init c =
    let a = c.args in
    (search rules, search rules, search rules, search rules, fresh_zeros a.s.now a.s.now _ 64 (search rules), lines_begin a.s.now a.index.now a.out.now a.at)

pub add_line-requires : goal.add_line-requires
add_line-requires c =
    let l = c.loop-i in
    (l.invariant.3.first, l.invariant.3.stands l.i c.loop-i-test.true, l.invariant.4, l.invariant.2)

pub returns-in_err-next : goal.returns-in_err-next
returns-in_err-next c =
    let l = c.loop-i in
    lines_short _ _ _ _ _ _ _ l.invariant.5 _ (omega arith) c.loop-i-test.true l.invariant.3.room _ _ _ _ c.add_line.ensures c.in_err-next.was (search rules)

pub loop-i-preserved : goal.loop-i-preserved
loop-i-preserved c =
    let l = c.loop-i in
    (search rules, search rules, search rules, search rules, c.add_line.ensures.remembers, lines_more _ _ _ _ _ _ _ l.invariant.5 _ (omega arith) c.loop-i-test.true l.invariant.3.room _ _ _ _ c.add_line.ensures _ c.in_ok-next.was)

pub returns : goal.returns
returns c =
    let l = c.loop-i in
    lines_end _ _ _ _ _ _ _ l.invariant.5 _ (omega arith) (omega arith)
