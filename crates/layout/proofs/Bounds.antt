-- Bounds of the numbers that the loops count with.
use Prim.Native.Nat.{ℕ, ◌+◌, ◌-◌, ◌*◌, ◌≤◌, ◌<◌}
use native.Mathlib.Omega.{arith}
use mir.Syntax.{w64}
use mir.Val.{Fits}

-- a row has at most 4096 words
module _ {i hi : ℕ} (h : i < hi) where
  pub next_within : i + 1 ≤ hi
  next_within = omega arith

  pub next_fits : hi ≤ 4096 → Fits w64 (i + 1)
  next_fits few = omega arith

  pub word_fits : hi ≤ 4096 → Fits w64 (i * 8)
  word_fits few = omega arith

  pub word_within : {size : ℕ} → hi ≤ size → i < size
  word_within k = omega arith

  pub range_falls : {next : ℕ} → i + 1 ≤ next → next ≤ hi → hi - next < hi - i
  range_falls k l = omega arith
