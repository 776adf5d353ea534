use Rattle.writer.proofs.Whole.{row_ready}
use Rattle.writer.proofs.write_pages.Goals as goal

pub write_page-requires : goal.write_page-requires
write_page-requires c =
    let given = c.requires in
    (row_ready given.0, given.1, given.2)
