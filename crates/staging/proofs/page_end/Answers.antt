use borrow.Author.Rules.{rules}
use mathlib.Core.Path.{◌∙◌, sym}
use native.Mathlib.Omega.{arith}
use Rattle.staging.proofs.Places.{root_end, last_end, other_end, start_small}
use Rattle.staging.proofs.page_end.Goals as goal

pub returns-then-word-lt-FROM_CHAINS : goal.returns-then-word-lt-FROM_CHAINS
returns-then-word-lt-FROM_CHAINS c = search (rules, root_end)

pub bounds-chains-i : goal.bounds-chains-i
bounds-chains-i c = omega (arith, c.requires.chain c.if-word-lt-FROM_CHAINS.false)

pub bounds-chains-i-then-number-above_in : goal.bounds-chains-i-then-number-above_in
bounds-chains-i-then-number-above_in c = c.requires.chain c.if-word-lt-FROM_CHAINS.false

pub returns-then-number-above_in : goal.returns-then-number-above_in
returns-then-number-above_in c =
    let a = c.args in
    let h = c.if-word-lt-FROM_CHAINS.false in
    c.end_in.ensures
    ∙ last_end a.chains.now a.word h a.root_end (c.if-number-above_in.true ∙ c.above_in.ensures)

pub overflow_add-result : goal.overflow_add-result
overflow_add-result c = omega (arith, c.page_start.ensures, start_small c.args.chains.now c.args.word)

pub returns : goal.returns
returns c =
    let a = c.args in
    let h = c.if-word-lt-FROM_CHAINS.false in
    rw c.page_start.ensures
    (other_end a.chains.now a.word h a.root_end (λ e. c.if-number-above_in.false (e ∙ sym c.above_in.ensures)))
