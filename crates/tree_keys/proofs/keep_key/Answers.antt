use borrow.Author.Rules.{rules}
use Prim.Native.Nat.{◌+◌, ◌-◌, ◌*◌}
use mathlib.Core.Path.{◌≡◌}
use native.Mathlib.Omega.{arith}
use Rattle.tree_keys.proofs.Keeping.{end_within, key_kept}
use Rattle.tree_keys.proofs.keep_key.Goals as goal

pub bounds-tags-end : goal.bounds-tags-end
bounds-tags-end c = search (rules, end_within)

pub returns : goal.returns
returns c =
    let pre = c.requires in
    let turn = c.turn_of-turn.result in
    let whole : 256 * turn + 256 - 256 * turn ≡ 256 = omega arith in
    key_kept _ _ _ _ _ _ turn _ c.turn_of-turn.ensures whole pre.3 pre.0 c.write_bytes.ensures
