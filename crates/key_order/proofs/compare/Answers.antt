use Rattle.key_order.proofs.Shared.{order_is}
use Rattle.key_order.proofs.compare.Goals as goal

pub returns : goal.returns
returns c = order_is _ _ _ c.cmp.ensures
