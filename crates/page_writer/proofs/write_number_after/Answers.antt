use borrow.Author.Rules.{rules}
use Rattle.bytestring.proofs.Lending.{onto}
use Rattle.page_writer.proofs.write_number_after.Goals as goal

pub returns : goal.returns
returns c =
    record {
      output = search (rules, onto);
      count = search rules;
    }
