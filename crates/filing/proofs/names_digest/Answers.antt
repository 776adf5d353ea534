use borrow.Author.Rules.{rules}
use Rattle.filing.proofs.Places.{named_in_pages, named_in_states}
use Rattle.filing.proofs.names_digest.Goals as goal

pub returns-then-word-lt-FROM_STATES : goal.returns-then-word-lt-FROM_STATES
returns-then-word-lt-FROM_STATES c =
    let a = c.args in
    rw (← named_in_pages a.states.now a.sequence.now a.word (search rules)) c.same_digest.ensures

pub returns : goal.returns
returns c =
    let a = c.args in
    rw (← named_in_states a.states.now a.sequence.now a.word (search rules) (search rules)) c.same_digest-2.ensures
