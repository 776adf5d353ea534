use borrow.Author.Rules.{rules}
use Rattle.page_writer.specs.Front.{page_start_bytes}
use Rattle.page_writer.proofs.write_page_start.Goals as goal

pub returns : goal.returns
unfolding page_start_bytes
returns c = search rules
