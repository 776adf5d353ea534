use borrow.Author.Rules.{rules}
use Rattle.std.proofs.lemmas.Result.{err_from_is_err_and}
use native.Mathlib.Omega.{arith}
use Rattle.bytestring.proofs.Tools.{bytes_of_lem}
use Rattle.path_reader.proofs.Paths.{path_start, page_too_deep, path_ends, path_refused, value_within, path_present, path_absent, path_linked}
use Rattle.path_reader.proofs.pages.judge_pages.Goals as goal

pub loop-level-init : goal.loop-level-init
loop-level-init c =
    let path = c.args.path.now in
    (bytes_of_lem path (λ i h. omega (arith, c.type_inv.path i)), search (rules, path_start))

pub at_end-requires : goal.at_end-requires
at_end-requires c = search (rules, value_within)

pub returns-in-Present : goal.returns-in-Present
returns-in-Present c = search (rules, path_present)

pub returns-in-Absent : goal.returns-in-Absent
returns-in-Absent c = search (rules, path_absent)

pub returns-in_err-value : goal.returns-in_err-value
returns-in_err-value c =
    let a = c.args in
    let l = c.loop-level in
    let w = c.judge_page in
    let (r, is, gives) = err_from_is_err_and c.from_residual.result c.from_residual.ensures.1 in
    rw (is, gives) (path_refused a.path.now a.key.now a.root l.due l.at l.level l.invariant.1 c.loop-level-test.true w.result w.ensures c.in_err-value.field-0.0 c.in_err-value.was)

pub loop-level-preserved : goal.loop-level-preserved
loop-level-preserved c = search (rules, path_linked)

pub returns-then-at-path : goal.returns-then-at-path
returns-then-at-path c = search (rules, page_too_deep)

pub returns : goal.returns
returns c = search (rules, path_ends)
