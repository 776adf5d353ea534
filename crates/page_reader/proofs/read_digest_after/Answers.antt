use borrow.Author.Rules.{rules}
use Rattle.page_reader.proofs.Places.{stop_after, digest_ends, digest_there}
use Rattle.page_reader.proofs.read_digest_after.Goals as goal

pub returns-then-saturating_sub-lt-DIGEST : goal.returns-then-saturating_sub-lt-DIGEST
returns-then-saturating_sub-lt-DIGEST c = search (rules, digest_ends, c.in_ok-to.was)

pub returns : goal.returns
returns c = search (rules, digest_there, c.in_ok-to.was)

pub returns-in_err-to : goal.returns-in_err-to
returns-in_err-to c = search (rules, stop_after)
