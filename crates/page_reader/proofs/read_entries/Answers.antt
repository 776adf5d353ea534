use borrow.Author.Rules.{rules}
use native.Mathlib.Omega.{arith}
use Rattle.page_reader.proofs.PagePlaces.{entries_none, entries_all, entries_more, entry_stopped}
use Rattle.page_reader.proofs.read_entries.Goals as goal

pub loop-i-init : goal.loop-i-init
loop-i-init c = search (rules, entries_none)

pub returns-in_err-next : goal.returns-in_err-next
returns-in_err-next c = search (rules, entry_stopped _ _ _ _ _ c.loop-i.invariant (omega (arith, c.loop-i-test.true)) _ c.read_entry.ensures _ c.in_err-next.was)

pub loop-i-preserved : goal.loop-i-preserved
loop-i-preserved c = search (rules, entries_more)

pub returns : goal.returns
returns c = search (rules, entries_all)
