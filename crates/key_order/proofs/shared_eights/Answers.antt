use Rattle.std.proofs.Common.{rules, ◌∙◌}
use Rattle.key_order.proofs.Shared.{part_fits, behind_part, part_agrees}
use Rattle.key_order.proofs.shared_eights.Goals as goal

pub loop-x-preserved : goal.loop-x-preserved
loop-x-preserved c =
    let a = c.args.a.now in
    let b = c.args.b.now in
    let at = c.loop-x.n in
    let (_, _, h, k, m, n, e, f, u) = c.loop-x.invariant in
    let (first, second) = c.in-Some.ensures.steps in
    let x = first.1.1 ∙ m in
    let y = second.1.1 ∙ n in
    let rest = behind_part a _ _ _ at 8 e first.1.0 x in
    let other = behind_part b _ _ _ at 8 f second.1.0 y in (
      search rules,
      search rules,
      part_fits a _ _ _ at 8 e first.1.0 x h,
      part_fits b _ _ _ at 8 f second.1.0 y k,
      first.0 ∙ m,
      second.0 ∙ n,
      rest,
      other,
      part_agrees a b _ _ at u e f _ _ _ _ 8 first.1.0 second.1.0 x y (c.same.ensures c.if-not-same.false),
    )
