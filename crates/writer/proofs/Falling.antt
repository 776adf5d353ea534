-- The recursion over the pages goes down.
use Prim.Native.Nat.{ℕ, ◌+◌, ◌<◌}
use mathlib.Core.Path.{◌≡◌}
use native.Mathlib.Omega.{arith}

module _ {t m : ℕ} where
  pub one_below : m + 1 ≡ t → m < t
  one_below e = omega arith

  pub two_below : m + 2 ≡ t → m < t
  two_below e = omega arith

pub next_below : {t : ℕ} (m : ℕ) → m + 2 ≡ t → m + 1 < t
next_below m e = omega arith
