use borrow.Author.Rules.{rules}
use Rattle.page_reader.proofs.PagePlaces.{empty_gap_there}
use Rattle.page_reader.proofs.read_entry_end.Goals as goal

pub returns-then-empty_gap_before_value : goal.returns-then-empty_gap_before_value
returns-then-empty_gap_before_value c = search (rules, empty_gap_there)
