use borrow.Author.Rules.{rules}
use Prim.Native.Nat.{◌+◌, ◌-◌}
use mathlib.Core.Path.{◌≡◌}
use native.Mathlib.Omega.{arith}
use Rattle.listing.proofs.Lines.{short_line, whole_line}
use Rattle.listing.proofs.text.add_line.Goals as goal

pub returns : goal.returns
returns c =
    let f = c.recall-found in
    let size : f.result.from + f.result.size - f.result.from ≡ f.result.size = omega arith in
    whole_line f.ensures size c.add.ensures c.in_ok-next.was c.value_at-value.ensures c.line_end.ensures c.add-2.ensures

pub returns-in_err-next : goal.returns-in_err-next
returns-in_err-next c =
    let f = c.recall-found in
    let size : f.result.from + f.result.size - f.result.from ≡ f.result.size = omega arith in
    short_line f.ensures size c.add.ensures c.in_err-next.was (search rules)
