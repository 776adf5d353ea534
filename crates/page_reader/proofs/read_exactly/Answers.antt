use native.Mathlib.Omega.{arith}
use borrow.Author.Rules.{rules}
use Rattle.page_reader.proofs.Places.{exact_empty, exact_there, exact_differs}
use Rattle.page_reader.proofs.read_exactly.Goals as goal

pub returns-then-bytes-eq0 : goal.returns-then-bytes-eq0
returns-then-bytes-eq0 c = search (rules, exact_empty)

pub slice_bounds-same_bytes-end : goal.slice_bounds-same_bytes-end
slice_bounds-same_bytes-end c = omega arith

pub returns-then-same_bytes : goal.returns-then-same_bytes
returns-then-same_bytes c = search (rules, exact_there)

pub returns : goal.returns
returns c = search (rules, exact_differs)
