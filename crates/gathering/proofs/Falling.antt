-- The recursion goes down: by one layer with each link.
use Prim.Native.Nat.{ℕ, ◌+◌, ◌-◌, ◌*◌, ◌≤◌, ◌<◌}
use mathlib.Core.Path.{◌≡◌}
use native.Mathlib.Omega.{arith}

pub link_falls : {t layer : ℕ} → 3 * layer ≡ t → 1 ≤ layer → 3 * (layer - 1) + 2 < t
link_falls e h = omega arith

pub below_one : {t m : ℕ} → m + 1 ≡ t → m < t
below_one e = omega arith

pub below_two : {t m : ℕ} → m + 2 ≡ t → m < t
below_two e = omega arith

pub one_less : {t : ℕ} (m : ℕ) → m + 2 ≡ t → m + 1 < t
one_less m e = omega arith
