use borrow.Author.Rules.{rules}
use Rattle.page_writer.proofs.Writers.{start_written}
use Rattle.page_writer.proofs.write_entry_start.Goals as goal

pub returns : goal.returns
returns c =
    record {
      output = search (rules, start_written);
      count = search rules;
    }
