use Rattle.page_writer.proofs.Writers.{link_written, null_written}
use Rattle.page_writer.proofs.write_gap.Goals as goal

pub returns-in-Some : goal.returns-in-Some
returns-in-Some c = let it = link_written _ _ _ _ c.in-Some.is c.write_link.ensures in record { output = it.0; count = it.1 }

pub returns-in-None : goal.returns-in-None
returns-in-None c = let it = null_written _ _ _ c.in-None.is c.write_bytes.ensures in record { output = it.0; count = it.1 }
