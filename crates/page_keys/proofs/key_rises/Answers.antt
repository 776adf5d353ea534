use borrow.Author.Rules.{rules}
use mathlib.Core.Path.{sym}
use lib.Seq.{length-take-le}
use Rattle.page_keys.proofs.Tests.{no_last, no_key, key_compared}
use Rattle.page_keys.proofs.key_rises.Goals as goal

pub returns-then-last-last_size : goal.returns-then-last-last_size
returns-then-last-last_size c = search (rules, no_last)

pub returns-then-buffer-size : goal.returns-then-buffer-size
returns-then-buffer-size c = search (rules, no_key)

pub slice_bounds-compare-end : goal.slice_bounds-compare-end
slice_bounds-compare-end c = sym (length-take-le _ _ (search rules))

pub slice_bounds-compare-end-2 : goal.slice_bounds-compare-end-2
slice_bounds-compare-end-2 c = sym (length-take-le _ _ (search rules))

pub returns : goal.returns
returns c = search (rules, key_compared)
