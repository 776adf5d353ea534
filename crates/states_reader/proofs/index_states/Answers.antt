use borrow.Author.Rules.{rules}
use Rattle.states_reader.proofs.Verdicts.{index_accepted, index_refused}
use Rattle.states_reader.proofs.index_states.Goals as goal

pub returns : goal.returns
returns c = search (rules, index_accepted, c.in_ok-count.was)

pub returns-in_err-count : goal.returns-in_err-count
returns-in_err-count c = search (rules, index_refused, c.in_err-count.was)
