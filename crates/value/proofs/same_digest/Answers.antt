use Rattle.std.proofs.Common.{rules}
use Rattle.value.proofs.Comparing.{too_few_bytes}
use Rattle.value.proofs.same_digest.Goals as goal

pub returns-in-None : goal.returns-in-None
returns-in-None c = search (rules, too_few_bytes)
