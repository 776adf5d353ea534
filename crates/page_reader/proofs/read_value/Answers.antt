use borrow.Author.Rules.{rules}
use Rattle.page_reader.proofs.Places.{value_stops, value_from_codec}
use Rattle.page_reader.proofs.read_value.Goals as goal

pub returns : goal.returns
returns c = search (rules, value_from_codec)

pub returns-in_err-to : goal.returns-in_err-to
returns-in_err-to c = search (rules, value_stops)
