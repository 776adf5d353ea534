use Rattle.path_writer.proofs.pages.chain_pages.Goals as goal

pub returns : goal.returns
returns c = rw (c.end_in-end.ensures, c.page_in.ensures, c.above_in.ensures)
