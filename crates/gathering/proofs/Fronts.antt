-- Bytes at the front of an output, and more behind them.
use Rattle.std.specs.Prelude.{Some, None}
use Prim.Native.Nat.{ℕ, ◌+◌, ◌-◌, ◌≤◌}
use mathlib.Core.Path.{◌≡◌, refl, sym, ap}
use mathlib.Core.List.{List, [], ◌++◌}
use native.Mathlib.Omega.{arith}
use lib.ListN.{length, take, drop, length-append, length-drop}
use lib.Seq.{length-take-le}
use Rattle.bytestring.proofs.Lending.{lent, back, onto}
use Rattle.gathering.specs.Gathered.{WrittenFront}

pub nothing_written : (o : List ℕ) → WrittenFront [] o (Some 0) o
nothing_written o = (refl, refl)

-- what is too long by itself is too long with more behind it
pub still_lacks : (a b o o' : List ℕ) → WrittenFront a o None o' → WrittenFront (a ++ b) o None o'
still_lacks a b o o' w = (omega (arith, w.0, length-append a b), w.1)

-- ---- the output after the first bytes
module _ (a o : List ℕ) (k : ℕ) (xs : List ℕ) (w : WrittenFront a o (Some k) xs) (same : length xs ≡ length o) where
  pub front_fits : k ≤ length xs
  front_fits = omega (arith, w.0, ap length w.1, length-append a (drop (length a) o))

  lent_length : length (lent k xs) ≡ length xs - k
  lent_length = length-take-le (length xs - k) (drop k xs) (omega (arith, length-drop k xs))

  module _ (b ys : List ℕ) where
    pub back_length : length ys ≡ length (lent k xs) → length (back k xs ys) ≡ length o
    back_length e =
        omega (
          arith,
          front_fits,
          lent_length,
          length-append (take k xs) (ys ++ drop (length xs - k) (drop k xs)),
          length-append ys (drop (length xs - k) (drop k xs)),
          length-take-le k xs front_fits,
          length-drop (length xs - k) (drop k xs),
          length-drop k xs,
        )

    -- with more behind them
    pub then_more : (m : ℕ) → WrittenFront b (lent k xs) (Some m) ys → WrittenFront (a ++ b) o (Some (k + m)) (back k xs ys)
    then_more m v = (omega (arith, w.0, v.0, length-append a b), onto o a b k xs ys w.1 (sym w.0) v.1)

    -- or with too little room for it
    pub then_lacks : WrittenFront b (lent k xs) None ys → WrittenFront (a ++ b) o None (back k xs ys)
    then_lacks v = (omega (arith, w.0, v.0, lent_length, front_fits, length-append a b), back_length v.1)

    pub sum_fits : (m : ℕ) → WrittenFront b (lent k xs) (Some m) ys → length ys ≡ length (lent k xs) → k + m ≤ length o
    sum_fits m v e = omega (arith, v.0, ap length v.1, length-append b (drop (length b) (lent k xs)), lent_length, front_fits)
