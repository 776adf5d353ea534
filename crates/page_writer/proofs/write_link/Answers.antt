use borrow.Author.Rules.{rules}
use Rattle.bytestring.proofs.Lending.{onto}
use Rattle.page.specs.Page.{link_bytes}
use Rattle.page_writer.proofs.write_link.Goals as goal

pub returns : goal.returns
unfolding link_bytes
returns c = search (rules, onto)
