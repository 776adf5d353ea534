use borrow.Author.Rules.{rules}
use Rattle.path_reader.proofs.Keys.{entry_taken}
use Rattle.path_reader.proofs.entries.take_entry.Goals as goal

pub returns : goal.returns
returns c = search (rules, entry_taken)
