use borrow.Author.Rules.{rules}
use Rattle.page_reader.proofs.Located.{end_short, null_short, null_located, link_short, link_located}
use Rattle.page_reader.proofs.locate_entry_end.Goals as goal

pub returns-then-left-lt3 : goal.returns-then-left-lt3
returns-then-left-lt3 c = search (rules, end_short)

pub returns-then-left : goal.returns-then-left
returns-then-left c = search (rules, null_short)

pub returns-then-s-at : goal.returns-then-s-at
returns-then-s-at c = search (rules, null_located)

pub returns-then-left-2 : goal.returns-then-left-2
returns-then-left-2 c = search (rules, link_short)

pub returns : goal.returns
returns c = search (rules, link_located)
