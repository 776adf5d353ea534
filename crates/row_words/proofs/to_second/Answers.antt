use borrow.Author.Rules.{rules}
use native.Mathlib.Omega.{arith}
use lib.ListN.{length-set}
use Rattle.row_words.proofs.WordLaws.{changed_none, next_below, changed_more, changed_all}
use Rattle.row_words.proofs.to_second.Goals as goal

pub loop-i-init : goal.loop-i-init
loop-i-init c = (search rules, search rules, search rules, changed_none _)

pub second_word-requires : goal.second_word-requires
second_word-requires c = let l = c.loop-i in next_below _ _ _ l.invariant.3 _ l.invariant.1 (search rules)

pub loop-i-preserved : goal.loop-i-preserved
loop-i-preserved c =
    let l = c.loop-i in
    (search rules, search rules, simp length-set (search rules), changed_more _ _ _ l.invariant.3 (omega arith) _ c.second_word.ensures)

pub returns : goal.returns
returns c = search (rules, changed_all)
