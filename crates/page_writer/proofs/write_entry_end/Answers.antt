use borrow.Author.Rules.{rules}
use Rattle.page_writer.proofs.Writers.{end_written}
use Rattle.page_writer.proofs.write_entry_end.Goals as goal

pub returns : goal.returns
returns c =
    record {
      output = search (rules, end_written);
      count = search rules;
    }
