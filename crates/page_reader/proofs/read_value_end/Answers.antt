use borrow.Author.Rules.{rules}
use Rattle.page_reader.proofs.Places.{codec_none, codec_departs, value_end_lem}
use Rattle.page_reader.proofs.read_value_end.Goals as goal

pub returns-then-s-at : goal.returns-then-s-at
returns-then-s-at c = search (rules, codec_none)

pub returns-then-is_codec : goal.returns-then-is_codec
returns-then-is_codec c = search (rules, value_end_lem)

pub returns : goal.returns
returns c = search (rules, codec_departs)
