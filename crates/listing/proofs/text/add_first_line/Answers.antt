use Rattle.listing.proofs.Adding.{adds_then, adds_short, adds_none}
use borrow.Author.Rules.{rules}
use Rattle.listing.proofs.text.add_first_line.Goals as goal

pub returns-in_err-first : goal.returns-in_err-first
returns-in_err-first c = adds_none (adds_short c.add.ensures c.in_err-first.was _) (search rules)

pub returns-in_err-next : goal.returns-in_err-next
returns-in_err-next c = adds_none (adds_then c.add.ensures c.in_ok-first.was (adds_short c.add_digits.ensures c.in_err-next.was _)) (search rules)

pub returns : goal.returns
returns c = adds_then c.add.ensures c.in_ok-first.was (adds_then c.add_digits.ensures c.in_ok-next.was c.add_byte.ensures)
