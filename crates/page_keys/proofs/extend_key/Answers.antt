use borrow.Author.Rules.{rules}
use Rattle.page_keys.proofs.Buffers.{extended_full, extended_more}
use Rattle.page_keys.proofs.extend_key.Goals as goal

pub returns-then-buffer-keep : goal.returns-then-buffer-keep
returns-then-buffer-keep c = search (rules, extended_full)

pub returns : goal.returns
returns c = search (rules, extended_more)
