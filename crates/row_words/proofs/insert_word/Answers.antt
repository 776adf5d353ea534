use Rattle.row_words.proofs.WordLaws.{word_inserted}
use Rattle.row_words.proofs.insert_word.Goals as goal

pub returns : goal.returns
returns c = word_inserted c.args.row.now c.args.n c.args.at c.args.word c.requires.0 c.requires.1 _ c.copy_within.ensures.after
