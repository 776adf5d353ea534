use borrow.Author.Rules.{rules}
use Rattle.std.proofs.lemmas.Result.{err_from_is_err_and}
use Rattle.path_reader.proofs.PageTests.{ends_later, end_within, wrong_prefix, unlawful_key, not_rising, not_due, page_said, page_stopped}
use Rattle.path_reader.proofs.pages.judge_page.Goals as goal

pub returns-then-not-page_prefixes_fit : goal.returns-then-not-page_prefixes_fit
returns-then-not-page_prefixes_fit c = search (rules, wrong_prefix, c.in_ok-p.was)

pub returns-then-not-judged : goal.returns-then-not-judged
returns-then-not-judged c = search (rules, unlawful_key, c.in_ok-p.was)

pub returns-then-not-page_prefixes_fit-2 : goal.returns-then-not-page_prefixes_fit-2
returns-then-not-page_prefixes_fit-2 c = search (rules, wrong_prefix, c.in_ok-p.was)

pub returns-then-not-judged-2 : goal.returns-then-not-judged-2
returns-then-not-judged-2 c = search (rules, not_rising, c.in_ok-p.was)

pub slice_bounds-digest_of-count : goal.slice_bounds-digest_of-count
slice_bounds-digest_of-count c = search (rules, ends_later)

pub slice_bounds-digest_of-start : goal.slice_bounds-digest_of-start
slice_bounds-digest_of-start c = search (rules, ends_later)

pub slice_bounds-digest_of-end : goal.slice_bounds-digest_of-end
slice_bounds-digest_of-end c = search (rules, end_within)

pub returns-then-not-same_bytes : goal.returns-then-not-same_bytes
returns-then-not-same_bytes c = search (rules, not_due, c.in_ok-p.was)

pub returns : goal.returns
returns c = search (rules, page_said, c.in_ok-p.was)

pub returns-in_err-p : goal.returns-in_err-p
returns-in_err-p c =
    let a = c.args in
    let w = c.read_page in
    let (r, is, gives) = err_from_is_err_and c.from_residual.result c.from_residual.ensures.1 in
    rw is (page_stopped a.path.now a.at a.key.now a.due.now w.result w.ensures c.in_err-p.field-0.0 c.in_err-p.was r gives)
