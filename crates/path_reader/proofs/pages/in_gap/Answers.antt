use borrow.Author.Rules.{rules}
use Rattle.path_reader.proofs.PageTests.{gap_ends, gap_linked}
use Rattle.path_reader.proofs.pages.in_gap.Goals as goal

pub returns-then-link-eq0 : goal.returns-then-link-eq0
returns-then-link-eq0 c = search (rules, gap_ends)

pub returns : goal.returns
returns c = search (rules, gap_linked)
