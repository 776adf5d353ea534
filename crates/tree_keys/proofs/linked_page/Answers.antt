use borrow.Author.Rules.{rules}
use Rattle.tree_keys.proofs.Following.{word_names, word_there, link_found}
use Rattle.tree_keys.proofs.linked_page.Goals as goal

pub find_word-requires : goal.find_word-requires
find_word-requires c =
    let w = c.requires in record {
      n_in_bounds = (w.filed.room, w.filed.names, word_names w);
      rising = (w.filed.order, word_there w);
    }

pub returns : goal.returns
returns c = search (rules, link_found)
