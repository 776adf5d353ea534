use native.Mathlib.Omega.{arith}
use borrow.Author.Rules.{rules}
use Rattle.std.proofs.lemmas.Result.{err_from_is_err_and}
use Rattle.path_reader.proofs.Paths.{path_too_long, key_refused, root_length, path_judged}
use Rattle.path_reader.proofs.verify.Goals as goal

pub returns-then-path-gt-LONGEST : goal.returns-then-path-gt-LONGEST
returns-then-path-gt-LONGEST c = search (rules, path_too_long)

pub returns-in_err-slash : goal.returns-in_err-slash
returns-in_err-slash c =
    let a = c.args in
    let w = c.slash in
    let (r, is, gives) = err_from_is_err_and c.from_residual.result c.from_residual.ensures.1 in
    rw (is, gives) (key_refused a.path.now a.key.now a.root.now (omega (arith, c.if-path-gt-LONGEST)) w.result w.ensures c.in_err-slash.field-0.0 c.in_err-slash.was)

pub returns-then-root-ne-DIGEST : goal.returns-then-root-ne-DIGEST
returns-then-root-ne-DIGEST c = search (rules, root_length)

pub returns : goal.returns
returns c = search (rules, path_judged, c.in_ok-slash.was)
