use borrow.Author.Rules.{rules}
use Rattle.listing.proofs.Verdicts.{lists_input}
use Rattle.listing.proofs.main.Goals as goal

pub print_listing-requires : goal.print_listing-requires
print_listing-requires c = lists_input c.read_full.new.buffer c.list_input-length.new.out c.in_ok-n.n c.list_input-length.result (search rules) c.list_input-length.ensures.1
