use Rattle.std.proofs.Common.{◌≡◌, ◌≤◌, length, drop}
use Rattle.std.specs.Iterator.Adapters.{zip_first, zip_second}
use Rattle.std.specs.Slice.Iter.{chunks_exact_rest, chunks_exact_size}
use Rattle.key_order.specs.Inner.{SharedSoFar}
use Rattle.key_order.proofs.shared_eights.Given as goal

abbrev pub invariant-loop-x : goal.invariant-loop-x
invariant-loop-x l =
    (goal.iterator-loop-x).can_next l.x-iterator
    × (goal.iterator-loop-x).is_finite l.x-iterator
    × (l.n ≤ length l.a)
    × (l.n ≤ length l.b)
    × (chunks_exact_size (zip_first l.x-iterator) ≡ 8)
    × (chunks_exact_size (zip_second l.x-iterator) ≡ 8)
    × (chunks_exact_rest (zip_first l.x-iterator) ≡ drop l.n l.a)
    × (chunks_exact_rest (zip_second l.x-iterator) ≡ drop l.n l.b)
    × SharedSoFar l.a l.b l.n
