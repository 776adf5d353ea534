-- What contracts inside this crate cite, and no public contract does.
use Rattle.std.specs.Prelude.{◌≡◌, ℕ, ◌*◌, ◌/◌, ◌%◌, ◌<◌, List, take, drop, slice_index, slice_index_or}
use Rattle.fips180.specs.Words.{◌⊞◌}
use Rattle.fips180.specs.Hash.{K, schedule}

-- The first n of l are, place by place, those of f.
unfoldable pub Made : (ℕ → ℕ) → ℕ → List ℕ → Type 0
Made f n l = (x : ℕ) → x < n → slice_index l x ≡ f x

-- Blocks beside each other, as many as there are lanes: word t of block i stands at place lanes * t + i. The words of w at
-- places below n are those of the schedules of the blocks of m.
abbrev pub Beside : ℕ → ℕ → List ℕ → List ℕ → Type 0
Beside lanes n m w = Made (λ (p : ℕ). slice_index (schedule 64 (take 64 (drop (64 * (p % lanes)) m))) (p / lanes)) n w

-- The words of v are the sums of the constants of the rounds and the words of w.
abbrev pub Sums : List ℕ → List ℕ → Type 0
Sums w v = Made (λ (t : ℕ). slice_index_or K t 0 ⊞ slice_index_or w t 0) 64 v
