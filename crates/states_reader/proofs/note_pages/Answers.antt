use borrow.Author.Rules.{rules}
use native.Mathlib.Omega.{arith}
use Rattle.std.proofs.lemmas.Result.{err_from_is_err_and}
use Rattle.states_reader.proofs.Verdicts.{too_long, read_whole, read_refused, read_too_many}
use Rattle.states_reader.proofs.note_pages.Goals as goal

pub returns-then-sequence-gt-LONGEST : goal.returns-then-sequence-gt-LONGEST
returns-then-sequence-gt-LONGEST c = λ t. too_long c.args.sequence.now t (omega arith)

pub returns-then-n-gt-MOST_PAGES : goal.returns-then-n-gt-MOST_PAGES
returns-then-n-gt-MOST_PAGES c = search (rules, read_too_many, c.in_ok-n.was)

pub returns : goal.returns
returns c = record { noted = search (rules, read_whole, c.in_ok-n.was); short = search rules; few = search rules }

pub returns-in_err-n : goal.returns-in_err-n
returns-in_err-n c =
    let s = c.note_sequence in
    let (r, is, gives) = err_from_is_err_and c.from_residual.result c.from_residual.ensures.1 in
    rw is (λ t. read_refused c.args.sequence.now s.new.links s.new.pages s.result s.ensures (omega arith) c.in_err-n.field-0.0 c.in_err-n.was r gives t)
