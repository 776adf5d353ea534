use Prim.Native.Nat.{ℕ, ◌+◌}
use mathlib.Core.Path.{sym, ap, ◌∙◌}
use mathlib.Core.List.{List}
use native.Mathlib.Omega.{arith}
use lib.ListN.{length, take}
use lib.Seq.{length-take-le}
use Rattle.tree.specs.Judge.{judge}
use Rattle.row.specs.Search.{count_below}
use Rattle.reading.specs.Positions.{accepted_records}
use Rattle.screen.proofs.Naming.{one_behind}
use Rattle.screen.proofs.name.count_before.Goals as goal

pub slice_bounds-lower_bound-end : goal.slice_bounds-lower_bound-end
slice_bounds-lower_bound-end c =
    let w = c.write_bytes in
    sym (length-take-le (length c.args.name.now + 1) w.new.out (omega (arith, w.auto.out, c.requires.1)))

pub returns : goal.returns
returns c =
    let a = c.args in
    let key = ap (take (length a.name.now + 1)) c.write_bytes.ensures ∙ one_behind a.name.now a.next 256 c.requires.1 in record {
      number = c.lower_bound.ensures.number ∙ ap (λ (k : List ℕ). count_below k (accepted_records (judge a.accepted.now.register.now))) key;
      within = c.lower_bound.ensures.within;
    }
