use borrow.Author.Rules.{rules}
use mathlib.Core.Path.{sym}
use lib.Seq.{length-take-le}
use Rattle.path_reader.proofs.Keys.{past_ended, past_long, past_less, past_equal, past_greater}
use Rattle.path_reader.proofs.entries.past_entry.Goals as goal

pub returns-then-buffer-size : goal.returns-then-buffer-size
returns-then-buffer-size c = search (rules, past_long)

pub slice_bounds-compare-end : goal.slice_bounds-compare-end
slice_bounds-compare-end c = sym (length-take-le _ _ (search rules))

pub returns-in-Less : goal.returns-in-Less
returns-in-Less c = search (rules, past_less)

pub returns-in-Equal : goal.returns-in-Equal
returns-in-Equal c = search (rules, past_equal)

pub returns-in-Greater : goal.returns-in-Greater
returns-in-Greater c = search (rules, past_greater)

pub returns-in-Value : goal.returns-in-Value
returns-in-Value c = search (rules, past_ended)

pub returns-in-Gap : goal.returns-in-Gap
returns-in-Gap c = search (rules, past_ended)
