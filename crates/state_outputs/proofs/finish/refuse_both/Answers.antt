use Rattle.states.specs.States.{saved_answer, states_output, pages_output}
use borrow.Author.Rules.{rules}
use Rattle.state_outputs.proofs.finish.refuse_both.Goals as goal

pub returns : goal.returns
unfolding saved_answer states_output pages_output
returns c = search rules
