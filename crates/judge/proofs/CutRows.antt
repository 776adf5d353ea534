-- The rows of an accepted register, cut to the words of its records and of its chains.
use Rattle.std.specs.Prelude.{Result, Ok}
use Rattle.answer.specs.declared.Refusal.{Refusal}
use Rattle.judge.specs.Verdict.{RegisterSays}
use Prim.Native.Nat.{ℕ, suc, ◌+◌, ◌*◌, ◌/◌, ◌≤◌, ◌<◌}
use mathlib.Core.Path.{◌≡◌, sym, ap, subst}
use mathlib.Core.List.{List, [], ◌∷◌}
use native.Mathlib.Omega.{arith}
use lib.ListN.{length, take, get_or}
use lib.Seq.{get_or-take, length-take-le}
use Rattle.tree.specs.Table.{SpeltTree}
use Rattle.index.specs.Slot.{Slot, slots}
use Rattle.index.specs.Chain.{Chain, ChainsAt}
use Rattle.index.specs.Walk.{HoldsWords, Indexes, WordOf, blank}
use Rattle.index.specs.Accepted.{AcceptedIndex, ChainRow}

words_cut : (row : List ℕ) (n : ℕ) (xs : List Slot) → n ≤ length row → Indexes row xs → Indexes (take n row) xs
unfolding HoldsWords
words_cut row n xs room w i h g =
    let inside : i < n = omega (arith, g, length-take-le n row room) in
    rw (get_or-take n row i 0 inside) (w i h (omega (arith, inside, room)))

-- a row may be longer than the count of its words: cut, it still is one
pub index_cut : {s index : List ℕ} {count : ℕ} → AcceptedIndex s index count → AcceptedIndex s (take count index) (length (take count index))
index_cut {s} {index} {count} a =
    let e = length-take-le count index a.room in
    record { tree = a.tree; judged = a.judged; size = omega (arith, e, a.size); room = omega arith; indexed = words_cut index count _ a.room a.indexed }

chains_at_cut : (s row : List ℕ) (n k : ℕ) (cs : List Chain) → n ≤ length row → ChainsAt s row k cs → ChainsAt s (take n row) k cs
unfolding ChainsAt
chains_at_cut s row n k [] room w = tt
chains_at_cut s row n k (c ∷ cs) room w = (
  λ g.
      let inside : 2 * k + 1 < n = omega (arith, g, length-take-le n row room) in
      rw (get_or-take n row (2 * k) 0 (omega (arith, inside)), get_or-take n row (2 * k + 1) 0 inside) (w.0 (omega (arith, inside, room))),
  chains_at_cut s row n (suc k) cs room w.1,
)

pub chains_cut : {s row : List ℕ} {n : ℕ} → ChainRow s row n → ChainRow s (take (2 * n) row) (length (take (2 * n) row) / 2)
chains_cut {s} {row} {n} w =
    let e = length-take-le (2 * n) row w.room in
    record {
      tree = w.tree;
      judged = w.judged;
      size = omega (arith, e, w.size);
      few = omega (arith, e, w.few);
      room = omega arith;
      stands = chains_at_cut s row (2 * n) 0 _ w.room w.stands;
      right = w.right;
    }

-- of what judge answers
pub rows_cut : (s index row : List ℕ) (x : Result (ℕ × ℕ) Refusal) {count n : ℕ} → RegisterSays s x index row → x ≡ Ok (count, n)
    → AcceptedIndex s (take count index) (length (take count index)) × ChainRow s (take (2 * n) row) (length (take (2 * n) row) / 2)
rows_cut s index row x says e =
    let rows = subst (λ (y : Result (ℕ × ℕ) Refusal). RegisterSays s y index row) e says in (index_cut rows.0, chains_cut rows.1)
