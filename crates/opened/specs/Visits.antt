-- The passes over a register's chains: which chains are visited, how many of their pages are opened, and which records are left out.
use Rattle.std.specs.Prelude.{ℕ, zero, suc, ◌+◌, ◌-◌, ◌≤◌, ◌≡◌, Bool, true, false, cond, not, ◌&&◌, List, [], ◌∷◌, ◌++◌, get_or, replicate}
use Rattle.index.specs.Chain.{Chain}
use Rattle.known.specs.Known.{is_among, labels_before}

-- ---- labels
-- No label is among these digests.
unfoldable pub none_among : List (List ℕ) → List (List ℕ) → Bool
none_among digests [] = true
none_among digests (d ∷ labels) = not (is_among digests d) && none_among digests labels

-- ---- the pass
-- The chains that are visited, after the first k: those below a chain with a label among the digests are passed over.
unfoldable pub visited : List (List ℕ) → ℕ → List Chain → List Chain
visited digests k [] = []
visited digests (suc k) (c ∷ cs) = visited digests k cs
visited digests zero (c ∷ cs) = c ∷ visited digests (cond (none_among digests c.labels) 0 c.below) cs

-- The pages of visited chains that are opened; the root, which has no label, is not counted.
unfoldable pub open_in : List (List ℕ) → List Chain → ℕ
open_in digests [] = 0
open_in digests (c ∷ cs) = labels_before digests c.labels + open_in digests cs

-- Whether each record from the p-th to the e-th is kept: those under a visited chain with a label among the digests are left out.
unfoldable pub kept : List (List ℕ) → ℕ → ℕ → List Chain → List Bool
kept digests p e [] = replicate (e - p) true
kept digests p e (c ∷ cs) =
    cond (none_among digests c.labels) (kept digests p e cs)
    (replicate (c.from - p) true ++ (replicate c.records false ++ kept digests (c.from + c.records) e cs))

-- What is left out stands in order between the p-th record and the e-th.
unfoldable pub Ordered : List (List ℕ) → ℕ → ℕ → List Chain → Type 0
Ordered digests p e [] = p ≤ e
Ordered digests p e (c ∷ cs) =
    (none_among digests c.labels ≡ false → p ≤ c.from)
    × Ordered digests (cond (none_among digests c.labels) p (c.from + c.records)) e cs

-- The marks of visited chains, the first of which is the i-th: how many labels stand before the first among the digests.
unfoldable pub MarksAt : List (List ℕ) → List ℕ → ℕ → ℕ → List Chain → Type 0
MarksAt digests marks i k [] = Unit {0}
MarksAt digests marks i (suc k) (c ∷ cs) = MarksAt digests marks (suc i) k cs
MarksAt digests marks i zero (c ∷ cs) =
    (get_or marks i 0 ≡ labels_before digests c.labels)
    × MarksAt digests marks (suc i) (cond (none_among digests c.labels) 0 c.below) cs
