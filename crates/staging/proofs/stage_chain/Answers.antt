use native.Mathlib.Omega.{arith}
use Rattle.known.specs.Rows.{label_count}
use Rattle.known.proofs.Labels.{count_above}
use Rattle.staging.proofs.Words.{none_put, one_put, all_put}
use Rattle.staging.proofs.stage_chain.Goals as goal

pub loop-k-init : goal.loop-k-init
loop-k-init c =
    let a = c.args in
    (c.label_count-n.ensures, none_put a.words.now a.total a.number)

pub overflow_cast-words : goal.overflow_cast-words
overflow_cast-words c =
    let a = c.args in
    omega (arith, c.loop-k.invariant.0, count_above a.word)

pub overflow_add-words : goal.overflow_add-words
overflow_add-words c =
    let a = c.args in
    omega (arith, c.loop-k.invariant.0, count_above a.word, c.requires.0)

pub bounds-words-total : goal.bounds-words-total
bounds-words-total c = omega (arith, c.loop-k.invariant.0, c.loop-k.invariant.1.size, c.requires.1)

pub loop-k-preserved : goal.loop-k-preserved
loop-k-preserved c =
    let a = c.args in
    let l = c.loop-k in
    let room = c.requires.1 in
    (l.invariant.0, one_put a.words.now a.total a.number l.words l.k l.invariant.1 (omega (arith, l.invariant.0, l.invariant.1.size)))

pub returns : goal.returns
returns c =
    let a = c.args in
    let l = c.loop-k in
    all_put a.words.now a.total a.number l.words l.k _ (label_count a.word) l.invariant.1 (omega arith) l.invariant.0
