use mathlib.Core.Path.{refl}
use Rattle.path_writer.proofs.Outcomes.{path_fits, path_lacks}
use borrow.Author.Rules.{rules}
use Rattle.path_writer.proofs.pages.write_whole.Goals as goal

pub returns-then-out-bytes : goal.returns-then-out-bytes
returns-then-out-bytes c =
    let a = c.args in
    path_lacks a.bytes.now a.out.now (search rules) c.refuse.ensures.answer c.refuse.ensures.output

pub returns : goal.returns
returns c =
    let a = c.args in
    path_fits a.bytes.now a.out.now (search rules) _ _ _ c.write_bytes.ensures refl c.clear.ensures
