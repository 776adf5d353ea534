-- The row of a register's chains: what its words say, and where the labels of a chain stand.
use Rattle.std.specs.Prelude.{ℕ, zero, suc, ◌+◌, ◌-◌, ◌*◌, ◌≤◌, ◌<◌, ◌≡◌, cond, List, [], ◌∷◌, ◌++◌, length, take, get_or, eqb}
use Rattle.limits.specs.Limits.{most, deepest}
use Rattle.value.specs.Value.{digest_length, digest_in}
use Rattle.word.specs.Word.{page_in, link_in, above_in}
use Rattle.index.specs.Chain.{Chain, ChainWords, no_chain}

-- No chain of a list has more chains below it than follow it there.
unfoldable pub Inside : List Chain → Type 0
Inside [] = Unit {0}
Inside (c ∷ cs) = (c.below ≤ length cs) × Inside cs

-- The chains below a chain follow it, and each of them has those below it among them.
unfoldable pub Nested : List Chain → Type 0
Nested [] = Unit {0}
Nested (c ∷ cs) = (c.below ≤ length cs) × Inside (take c.below cs) × Nested cs

-- The first 2n words of the row are those of these chains. No chain has more than 129 labels.
pub record Chained (s row : List ℕ) (n : ℕ) (cs : List Chain) : Type 0 where
  pub size : length cs ≡ n
  pub few : n ≤ most
  pub room : 2 * n ≤ length row
  pub words : (i : ℕ) → i < n → ChainWords s (get_or row (2 * i) 0) (get_or row (2 * i + 1) 0) (get_or cs i no_chain)
  pub short : (i : ℕ) → i < n → length (get_or cs i no_chain).labels ≤ deepest
  pub nested : Nested cs

-- The words are those of some chains.
pub record SomeChains (s row : List ℕ) (n : ℕ) : Type 0 where
  pub list : List Chain
  pub chained : Chained s row n list

-- All labels of a row of chains.
unfoldable pub labels_of : List Chain → List (List ℕ)
labels_of [] = []
labels_of (c ∷ cs) = c.labels ++ labels_of cs

-- ---- the labels of one chain
-- How many labels a chain has, by its first word.
unfoldable pub label_count : ℕ → ℕ
label_count w = cond (eqb (link_in w) 0) 0 (above_in w + 1)

-- The place of the k-th label: the first at `link`, the others at the end of the pages without entries, of which the first is at `at`.
unfoldable pub place_from : ℕ → ℕ → ℕ → ℕ
place_from link at zero = link
place_from link at (suc k) = at + 47 * k + 15

-- The same by the first word of a chain.
abbrev pub label_place : ℕ → ℕ → ℕ
label_place w k = place_from (link_in w) (page_in w - 47 * above_in w) k

-- A label stands at a place of s.
pub record LabelAt (s : List ℕ) (q : ℕ) (label : List ℕ) : Type 0 where
  pub after : 0 < q
  pub within : q + digest_length ≤ length s
  pub bytes : digest_in s q ≡ label

-- These labels stand in s at the places that the word gives.
pub record LabelsStand (s : List ℕ) (w : ℕ) (labels : List (List ℕ)) : Type 0 where
  pub count : label_count w ≡ length labels
  pub start : 47 * above_in w ≤ page_in w
  pub stand : (k : ℕ) → k < length labels → LabelAt s (label_place w k) (get_or labels k [])

-- Some labels stand there.
pub record SomeLabels (s : List ℕ) (w : ℕ) : Type 0 where
  pub labels : List (List ℕ)
  pub stand : LabelsStand s w labels
