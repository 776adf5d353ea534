use borrow.Author.Rules.{rules}
use Prim.Native.Nat.{◌+◌}
use native.Mathlib.Omega.{arith}
use Rattle.filing.proofs.Places.{next_begins, none_next}
use Rattle.filing.proofs.page_end.Goals as goal

pub overflow_cast-result : goal.overflow_cast-result
overflow_cast-result c = omega (arith, c.type_inv.pages (c.args.i + 1))

pub returns-then-i-n : goal.returns-then-i-n
returns-then-i-n c = search (rules, next_begins)

pub returns : goal.returns
returns c = search (rules, none_next)
