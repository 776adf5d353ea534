-- Where a key stands among records in key order: how many come before it, and how many up to it.
use Prim.Native.Nat.{ℕ, suc, ◌+◌, ◌≤◌, ◌<◌}
use mathlib.Core.Path.{◌≡◌, sym, ap, ◌∙◌}
use mathlib.Core.Bool.{Bool, true, false, not}
use mathlib.Core.List.{List, [], ◌∷◌, ◌++◌, append-nil}
use native.Mathlib.Nat.{zero-add}
use native.Mathlib.Omega.{arith}
use lib.ListN.{length}
use Rattle.bytestring.proofs.Tools.{All, all_weaken}
use Rattle.key.specs.Key.{less}
use Rattle.key.proofs.Laws.{less_asymmetric, less_same}
use Rattle.tree.specs.Record.{Record}
use Rattle.promises.proofs.MapLaws.{Before, Below, below_before, Sorted, sorted_split, sorted_sides}
use Rattle.row.specs.Search.{count_front, count_below, count_up_to}
use Rattle.row.proofs.Counting.{front_few}

-- ---- records in two parts
-- a count stops at a record that fails the test, and goes on behind records that pass it
module _ (test : List ℕ → Bool) where
  front_stops : (xs : List Record) (y : Record) (ys : List Record) → test y.key ≡ false → count_front test (xs ++ (y ∷ ys)) ≡ count_front test xs
  unfolding count_front
  front_stops [] y ys h = rw h
  front_stops (x ∷ xs) y ys h = rw (front_stops xs y ys h)

  front_passes : (xs ys : List Record) → All (λ x. test x.key ≡ true) xs → count_front test (xs ++ ys) ≡ length xs + count_front test ys
  unfolding count_front
  front_passes [] ys a = sym (zero-add (count_front test ys))
  front_passes (x ∷ xs) ys a = rw (a.0, front_passes xs ys a.1) (omega arith)

-- ---- the positions of a key
-- The records stand from a position on: the key's own position is low, and that behind it is high; where it is absent the two are the same.
pub record Stands (k : List ℕ) (low high from : ℕ) (rs : List Record) : Type 0 where
  pub lower : low ≡ from + count_below k rs
  pub upper : high ≡ from + count_up_to k rs
  pub order : Sorted rs

module _ {k : List ℕ} {low high from : ℕ} where
  pub stands_within : (rs : List Record) → Stands k low high from rs → (from ≤ low) × (low ≤ from + length rs) × (high ≤ from + length rs)
  stands_within rs s =
      omega (arith, s.lower, s.upper, front_few (λ key. less key k) rs, front_few (λ key. not (less k key)) rs)

  pub stands_alone : (rs : List Record) → Stands k low high from (rs ++ []) → Stands k low high from rs
  stands_alone rs s = rw append-nil at s

  -- a record, with those before it and those behind it
  module _ (xs : List Record) (r : Record) (ys : List Record) (s : Stands k low high from (xs ++ (r ∷ ys))) where
    pub stands_before : Before k r.key → Stands k low high from xs
    stands_before h = record {
      lower = s.lower ∙ ap (λ (n : ℕ). from + n) (front_stops (λ key. less key k) xs r ys (less_asymmetric k r.key h));
      upper = s.upper ∙ ap (λ (n : ℕ). from + n) (front_stops (λ key. not (less k key)) xs r ys (rw h));
      order = (sorted_split xs (r ∷ ys) s.order).0;
    }

    below : Below r.key xs
    below = (sorted_sides xs r ys s.order).0

    passed : Below k xs → (low ≡ from + (length xs + count_below k (r ∷ ys))) × (high ≡ from + (length xs + count_up_to k (r ∷ ys)))
    passed a =
        let up = all_weaken {A = Record} (λ x. Before x.key k) (λ x. not (less k x.key) ≡ true) (λ x h. rw (less_asymmetric x.key k h)) xs a in (
          s.lower ∙ ap (λ (n : ℕ). from + n) (front_passes (λ key. less key k) xs (r ∷ ys) a),
          s.upper ∙ ap (λ (n : ℕ). from + n) (front_passes (λ key. not (less k key)) xs (r ∷ ys) up),
        )

    pub stands_here : k ≡ r.key → (low ≡ from + length xs) × (from + length xs < high)
    unfolding count_front
    stands_here e =
        let at = passed (rw e below) in
        let l : count_below k (r ∷ ys) ≡ 0 = rw (less_same r.key k (sym e)) in
        let h : 0 < count_up_to k (r ∷ ys) = rw (less_same k r.key e) (omega arith) in
        (omega arith, omega arith)

    pub stands_behind : Before r.key k → Stands k low high (from + length xs + 1) ys
    unfolding count_front
    stands_behind h =
        let at = passed (below_before r.key k xs h below) in
        let l : count_below k (r ∷ ys) ≡ suc (count_below k ys) = rw h in
        let u : count_up_to k (r ∷ ys) ≡ suc (count_up_to k ys) = rw (less_asymmetric r.key k h) in
        record {
          lower = omega arith;
          upper = omega arith;
          order = (sorted_split xs (r ∷ ys) s.order).1.1;
        }
