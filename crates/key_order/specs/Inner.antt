-- What contracts inside this crate cite, and no public contract does.
use Rattle.std.specs.Prelude.{ℕ, ◌+◌, ◌≡◌, List, drop}
use Rattle.key.specs.Key.{shared}

-- The first i bytes of two keys are shared, and those behind them that are shared too make up the count.
abbrev pub SharedSoFar : List ℕ → List ℕ → ℕ → Type 0
SharedSoFar a b i = i + shared (drop i a) (drop i b) ≡ shared a b
