use Rattle.std.proofs.Common.{◌≡◌, true, length}
use Rattle.std.specs.Iterator.Adapters.{zip_first, zip_second}
use Rattle.std.specs.Slice.Iter.{iter_rest}
use Rattle.key_order.proofs.same.Given as goal

-- where the bytes so far are the same, the two are the same if what is left is
abbrev pub invariant-loop-x : goal.invariant-loop-x
invariant-loop-x l =
    (goal.iterator-loop-x).can_next l.x-iterator
    × (goal.iterator-loop-x).is_finite l.x-iterator
    × (length (iter_rest (zip_first l.x-iterator)) ≡ length (iter_rest (zip_second l.x-iterator)))
    × (l.same ≡ true → iter_rest (zip_first l.x-iterator) ≡ iter_rest (zip_second l.x-iterator) → l.a ≡ l.b)
