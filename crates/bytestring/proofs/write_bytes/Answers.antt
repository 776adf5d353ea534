use borrow.Author.Rules.{rules}
use mathlib.Core.Path.{refl}
use lib.ListN.{length-set}
use Rattle.bytestring.proofs.Lending.{written_all, written_more}
use Rattle.bytestring.proofs.write_bytes.Goals as goal

pub loop-i-init : goal.loop-i-init
loop-i-init c = (search rules, refl)

pub loop-i-preserved : goal.loop-i-preserved
loop-i-preserved c = (simp length-set (search rules), search (rules, written_more))

pub returns : goal.returns
returns c = search (rules, written_all)
