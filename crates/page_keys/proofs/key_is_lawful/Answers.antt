use borrow.Author.Rules.{rules}
use mathlib.Core.Path.{sym}
use lib.Seq.{length-take-le}
use Rattle.page_keys.proofs.Tests.{key_too_long, key_tested}
use Rattle.page_keys.proofs.key_is_lawful.Goals as goal

pub returns-then-buffer-size : goal.returns-then-buffer-size
returns-then-buffer-size c = search (rules, key_too_long)

pub slice_bounds-slash-end : goal.slice_bounds-slash-end
slice_bounds-slash-end c = sym (length-take-le _ _ (search rules))

pub returns : goal.returns
returns c = search (rules, key_tested)
