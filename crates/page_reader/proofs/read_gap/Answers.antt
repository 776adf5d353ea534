use borrow.Author.Rules.{rules}
use native.Mathlib.Omega.{arith}
use Rattle.page_reader.proofs.Places.{digest_within, gap_none, gap_null, gap_stops, gap_there}
use Rattle.page_reader.proofs.read_gap.Goals as goal

pub returns-then-s-at : goal.returns-then-s-at
returns-then-s-at c = search (rules, gap_none)

pub returns-then-s-at-2 : goal.returns-then-s-at-2
returns-then-s-at-2 c = search (rules, gap_null)

pub overflow_add-result-2 : goal.overflow_add-result-2
overflow_add-result-2 c = omega (arith, digest_within _ _ _ _ _ _ _ c.read_link.ensures c.in_ok-digest.was)

pub returns : goal.returns
returns c = search (rules, gap_there)

pub returns-in_err-digest : goal.returns-in_err-digest
returns-in_err-digest c = search (rules, gap_stops)
