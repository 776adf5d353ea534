use borrow.Author.Rules.{rules}
use native.Mathlib.Omega.{arith}
use Rattle.listing.proofs.Adding.{adds_nothing, adds_then, adds_short, adds_none, adds_same, no_digits, one_digit, more_digits}
use Rattle.listing.proofs.text.+add_digits.Goals as goal

pub returns-then-most-eq0 : goal.returns-then-most-eq0
returns-then-most-eq0 t c =
    let a = c.args in
    adds_same (adds_nothing a.out.now a.at) (no_digits a.most a.n (omega arith))

pub returns-then-n-lt10 : goal.returns-then-n-lt10
returns-then-n-lt10 t c =
    let a = c.args in
    adds_same c.add_byte.ensures (one_digit a.most a.n (omega arith) (omega arith))

pub returns-in_err-next : goal.returns-in_err-next
returns-in_err-next t c =
    let a = c.args in
    adds_none (adds_same (adds_short c.add_digits.ensures c.in_err-next.was _) (more_digits a.most a.n (omega arith) (omega arith))) (search rules)

pub returns : goal.returns
returns t c =
    let a = c.args in
    adds_same (adds_then c.add_digits.ensures c.in_ok-next.was c.add_byte-2.ensures) (more_digits a.most a.n (omega arith) (omega arith))
