use Rattle.judge.specs.Prefixes.{prefixes_in}
use Rattle.digests.proofs.RowLoops.{all_start}
use Rattle.judge.proofs.PrefixLoops.{prefixes_end, prefixes_wrong, prefixes_more}
use borrow.Author.Rules.{rules}
use Rattle.judge.proofs.prefixes.prefixes_hold.Goals as goal

pub loop-i-init : goal.loop-i-init
loop-i-init c = (search rules, search rules, all_start _ _ _ prefixes_in)

pub returns-then-not-page_prefixes : goal.returns-then-not-page_prefixes
returns-then-not-page_prefixes c = search (rules, prefixes_wrong)

pub loop-i-preserved : goal.loop-i-preserved
loop-i-preserved c = (search rules, search rules, search (rules, prefixes_more))

pub returns : goal.returns
returns c = search (rules, prefixes_end)
