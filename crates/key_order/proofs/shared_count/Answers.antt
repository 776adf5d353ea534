use Rattle.std.proofs.Common.{rules, ◌∙◌}
use Rattle.key_order.proofs.Shared.{all_shared, byte_differs, byte_agrees, shared_cut}
use Rattle.key_order.proofs.shared_count.Goals as goal

pub loop-i-preserved : goal.loop-i-preserved
loop-i-preserved c = (search rules, search (rules, byte_agrees))

pub returns : goal.returns
returns c = all_shared _ _ _ c.loop-i.invariant.1 _ c.loop-i-test.false (search rules) (search rules) ∙ shared_cut c.args.a.now c.args.b.now _ (search rules)

pub returns-then-s-i : goal.returns-then-s-i
returns-then-s-i c =
    byte_differs _ _ _ c.loop-i.invariant.1 (search rules) (search rules) (search rules) ∙ shared_cut c.args.a.now c.args.b.now _ (search rules)
