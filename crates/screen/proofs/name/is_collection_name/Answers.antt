use Prim.Native.Nat.{◌+◌}
use mathlib.Core.Path.{sym, ◌∙◌}
use native.Mathlib.Omega.{arith}
use lib.ListN.{length, set, length-set}
use lib.Seq.{length-take-le}
use Rattle.key.specs.Key.{slash_byte}
use Rattle.screen.proofs.Naming.{key_tried, name_tested, name_long}
use borrow.Author.Rules.{rules}
use Rattle.screen.proofs.name.is_collection_name.Goals as goal

pub returns-then-n : goal.returns-then-n
returns-then-n c = sym (name_long c.args.name.now (search rules))

pub slice_bounds-key-end : goal.slice_bounds-key-end
slice_bounds-key-end c =
    let w = c.write_bytes in
    omega (arith, length-set w.new.out (length c.args.name.now) slash_byte, w.auto.out)

pub slice_bounds-slash-end : goal.slice_bounds-slash-end
slice_bounds-slash-end c =
    let w = c.write_bytes in
    let n = length c.args.name.now in
    sym (length-take-le (n + 2) (set w.new.out n slash_byte) (omega (arith, length-set w.new.out n slash_byte, w.auto.out)))

pub returns : goal.returns
returns c =
    let name = c.args.name.now in
    c.is_ok.ensures.value ∙ name_tested name c.slash.result (key_tried name _ c.write_bytes.ensures (omega arith) ∙ sym c.slash.ensures)
