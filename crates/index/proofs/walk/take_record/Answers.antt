use Rattle.index.proofs.Records.{record_taken}
use borrow.Author.Rules.{rules}
use Rattle.index.proofs.walk.take_record.Goals as goal

pub returns : goal.returns
returns c = search (rules, record_taken)
