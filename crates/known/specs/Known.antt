-- The table of links: the labels of a register's chains are added to it, and a digest is looked for in it.
use Rattle.std.specs.Prelude.{ℕ, suc, ◌+◌, ◌*◌, ◌/◌, ◌^◌, ◌≤◌, ◌<◌, ◌≡◌, Bool, false, cond, ◌||◌, List, [], ◌∷◌, ◌++◌, map, length, take, get_or}
use Rattle.std.proofs.Math.Option.{Option, none, some}
use Rattle.value.specs.Value.{digest_length, digest_in}
use Rattle.bytestring.specs.Bytes.{equal}
use Rattle.word.specs.Word.{place_in, older_in}
use Rattle.page_reader.specs.Place.{link_at}
use Rattle.index.specs.Chain.{Chain}
use Rattle.known.specs.Rows.{Chained, labels_of, label_count, LabelsStand}

-- The digest in a link, in front of more digests.
unfoldable pub link_or : Option (List ℕ) → List (List ℕ) → List (List ℕ)
link_or none more = more
link_or (some digest) more = digest ∷ more

-- Whether a digest is among some.
unfoldable pub is_among : List (List ℕ) → List ℕ → Bool
is_among [] digest = false
is_among (d ∷ ds) digest = equal d digest || is_among ds digest

-- The digest of a link stands within s. Place 0 means no link.
abbrev pub LinkFits : List ℕ → ℕ → Type 0
LinkFits s at = 0 < at → at + digest_length ≤ length s

-- ---- the table of links
-- The first twelve bits of a digest.
unfoldable pub first_bits : List ℕ → ℕ
first_bits digest = get_or digest 0 0 * 16 + get_or digest 1 0 / 16

-- The digest that the j-th word leads to.
abbrev pub linked_digest : List ℕ → List ℕ → ℕ → List ℕ
linked_digest s words j = digest_in s (place_in (get_or words j 0))

-- From the link numbered n one comes, by the links before with the same bits, to the link numbered m.
pub data Leads (words : List ℕ) : ℕ → ℕ → Type 0 where
  here : {n : ℕ} → Leads words (suc n) (suc n)
  older : {n m : ℕ} → Leads words (older_in (get_or words n 0)) m → Leads words (suc n) m

-- The first `count` words are those of links, and each link is found by its first bits. Places and numbers fit a word.
pub record Linked (s heads words : List ℕ) (count : ℕ) : Type 0 where
  pub room : count ≤ length words
  pub buckets : length heads ≡ 4096
  pub places : length s < 2 ^ 32
  pub numbers : length words < 2 ^ 32
  pub last : (b : ℕ) → get_or heads b 0 ≤ count
  pub falls : (j : ℕ) → j < count → older_in (get_or words j 0) ≤ j
  pub within : (j : ℕ) → j < count → place_in (get_or words j 0) + digest_length ≤ length s
  pub found : (j : ℕ) → j < count → Leads words (get_or heads (first_bits (linked_digest s words j)) 0) (suc j)

-- The words are those of some links.
pub record Tabled (s heads words : List ℕ) : Type 0 where
  pub count : ℕ
  pub linked : Linked s heads words count

-- The digests that words lead to.
abbrev pub digests_in : List ℕ → List ℕ → List (List ℕ)
digests_in s words = map (λ (w : ℕ). digest_in s (place_in w)) words

-- Whether a digest is among those of the table.
abbrev pub InTable : List ℕ → List ℕ → List ℕ → List ℕ → Bool → Type 0
InTable s heads words digest r = (count : ℕ) → Linked s heads words count → r ≡ is_among (digests_in s (take count words)) digest

-- One link was added, or none where the place is 0.
pub record AddedLink (s words : List ℕ) (at count : ℕ) (heads' words' : List ℕ) (r : ℕ) : Type 0 where
  pub linked : Linked s heads' words' r
  pub few : r ≤ count + 1
  pub digests : digests_in s (take r words') ≡ digests_in s (take count words) ++ link_or (link_at s at) []

-- The labels of a chain were added, by its first word.
pub record AddedChain (s words : List ℕ) (w count : ℕ) (heads' words' : List ℕ) (r : ℕ) : Type 0 where
  pub linked : Linked s heads' words' r
  pub few : r ≤ count + label_count w
  pub digests : (labels : List (List ℕ)) → LabelsStand s w labels → digests_in s (take r words') ≡ digests_in s (take count words) ++ labels

-- The table has the labels of the chains from the start-th to before the r-th, at least one where there is one.
pub record Filled (s row : List ℕ) (n start : ℕ) (heads words : List ℕ) (r : ℕ) : Type 0 where
  pub ahead : start ≤ r
  pub most : r ≤ n
  pub onward : start < n → start < r
  pub count : ℕ
  pub linked : Linked s heads words count
  pub digests : (cs : List Chain) → Chained s row n cs → labels_of (take start cs) ++ digests_in s (take count words) ≡ labels_of (take r cs)

-- Whether a digest is the root's or among those of the table.
abbrev pub IsKnown : List ℕ → List ℕ → List ℕ → List ℕ → List ℕ → Bool → Type 0
IsKnown s heads words root digest r =
    (count : ℕ) → Linked s heads words count → r ≡ is_among (root ∷ digests_in s (take count words)) digest

-- How many labels stand before the first that is among these digests.
unfoldable pub labels_before : List (List ℕ) → List (List ℕ) → ℕ
labels_before digests [] = 0
labels_before digests (d ∷ labels) = cond (is_among digests d) 0 (suc (labels_before digests labels))

-- How many labels of a chain stand before one that is known, among the first `most`; the table has the digests.
abbrev pub OpenLabels : List ℕ → List ℕ → List ℕ → List ℕ → List ℕ → ℕ → ℕ → ℕ → Type 0
OpenLabels s heads words root u w most r =
    (labels : List (List ℕ)) → LabelsStand u w labels → (count : ℕ) → Linked s heads words count
    → r ≡ labels_before (root ∷ digests_in s (take count words)) (take most labels)
