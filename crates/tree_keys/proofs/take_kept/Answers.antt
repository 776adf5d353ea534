use borrow.Author.Rules.{rules}
use Prim.Native.Nat.{ℕ, ◌+◌, ◌*◌, ◌%◌, ◌≤◌}
use native.Mathlib.Omega.{arith}
use lib.ListN.{length, get_or}
use Rattle.tree_keys.proofs.Keeping.{key_copied}
use Rattle.tree_keys.proofs.take_kept.Goals as goal

pub returns : goal.returns
returns c =
    let a = c.args in
    let pre = c.requires in
    let size : ℕ = get_or a.tags.now a.k 0 % 512 in
    let short : size ≤ 256 = omega (arith, pre.2) in
    let fits : 256 * a.k + size ≤ length a.keys.now = omega (arith, pre.0, pre.1) in record {
      size = search rules;
      key = key_copied a.keys.now a.last.now _ (256 * a.k) size c.write_bytes.ensures fits pre.3 short;
    }
