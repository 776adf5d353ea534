use borrow.Author.Rules.{rules}
use Rattle.page_reader.proofs.Places.{left_taken, exact_none, exact_ends, exact_departs}
use Rattle.page_reader.proofs.stop_before_end.Goals as goal

pub returns-then-s-at : goal.returns-then-s-at
returns-then-s-at c = search (rules, exact_none)

pub slice_bounds-same_bytes-end-2 : goal.slice_bounds-same_bytes-end-2
slice_bounds-same_bytes-end-2 c = search (rules, left_taken)

pub returns-then-same_bytes : goal.returns-then-same_bytes
returns-then-same_bytes c = search (rules, exact_ends)

pub returns : goal.returns
returns c = search (rules, exact_departs)
