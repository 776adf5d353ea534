use borrow.Author.Rules.{rules}
use native.Mathlib.Omega.{arith}
use Rattle.page_reader.proofs.Places.{digest_within}
use Rattle.page_reader.proofs.PagePlaces.{gap_stopped, value_stopped, end_there}
use Rattle.page_reader.proofs.read_gap_and_value.Goals as goal

pub overflow_add-result : goal.overflow_add-result
overflow_add-result c = omega (arith, digest_within _ _ _ _ _ _ _ c.read_value_after.ensures c.in_ok-value.was)

pub returns : goal.returns
returns c = search (rules, end_there)

pub returns-in_err-value : goal.returns-in_err-value
returns-in_err-value c = search (rules, value_stopped)

pub returns-in_err-link : goal.returns-in_err-link
returns-in_err-link c = search (rules, gap_stopped)
