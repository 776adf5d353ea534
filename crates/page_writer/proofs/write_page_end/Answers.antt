use borrow.Author.Rules.{rules}
use Rattle.page_writer.specs.Front.{page_end_bytes}
use Rattle.page_writer.proofs.write_page_end.Goals as goal

pub returns : goal.returns
unfolding page_end_bytes
returns c = search rules
