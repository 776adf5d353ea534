-- What the pass over the digests says.
use Rattle.std.specs.Prelude.{ℕ, suc, ◌-◌, ◌*◌, ◌≤◌, ◌≡◌, Bool, List, length, take, drop}
use Rattle.word.specs.Word.{page_in, link_in, above_in, end_in}
use Rattle.tree.specs.Table.{SpeltTree, bytes_of_page}
use Rattle.tree.specs.Judge.{accepted, judge}
use Rattle.index.specs.Chain.{Chain, labels_right, chains_right, LabelsAt, ChainsAt}

-- The first words of a row are those of n chains.
pub record ChainsNoted (s row : List ℕ) (n : ℕ) : Type 0 where
  pub chains : List Chain
  pub number : length chains ≡ n
  pub room : 2 * n ≤ length row
  pub words : ChainsAt s row 0 chains

-- Whether each label of a chain is the digest of its page.
unfoldable pub LabelsSay : List ℕ → ℕ → ℕ → ℕ → ℕ → Bool → Type 0
LabelsSay s link above at to r =
    (labels : List (List ℕ)) (t : SpeltTree) → length labels ≡ suc above → LabelsAt s link (at - 47 * above) labels at
    → take (to - at) (drop at s) ≡ bytes_of_page t → r ≡ labels_right labels t

-- The same by the two words of a chain, whether it has labels or none.
unfoldable pub ChainSays : List ℕ → ℕ → ℕ → Bool → Type 0
ChainSays s w v r =
    (labels : List (List ℕ)) (t : SpeltTree) → above_in w ≡ length labels - 1 → LabelsAt s (link_in w) (page_in w - 47 * above_in w) labels (page_in w)
    → take (end_in v - page_in w) (drop (page_in w) s) ≡ bytes_of_page t → r ≡ labels_right labels t

-- The same of all chains of a row.
abbrev pub DigestsSay : List ℕ → List ℕ → ℕ → Bool → Type 0
DigestsSay s row n r = (d : ChainsNoted s row n) → r ≡ chains_right d.chains

-- The root of a register that is accepted ends here.
pub record RootEnd (s : List ℕ) (to : ℕ) : Type 0 where
  pub within : to ≤ length s
  pub bytes : (t : SpeltTree) → judge s ≡ accepted t → take to s ≡ bytes_of_page t
