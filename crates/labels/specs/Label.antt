-- What is said of a digest that stands in a register.
use Rattle.std.specs.Prelude.{ℕ, ◌+◌, ◌*◌, ◌/◌, ◌≤◌, ◌<◌, ◌≡◌, List, length, get_or, Option, Some, None}
use Rattle.word.specs.Word.{page_in}
use Rattle.value.specs.Value.{digest_length, digest_in}
use Rattle.fips180.specs.Hash.{sha256}
use Rattle.index.specs.Chain.{Labelled}

-- The labels of all chains of a row, which has two words for each.
abbrev pub EachLabelled : List ℕ → List ℕ → Type 0
EachLabelled s chains = Labelled s chains (length chains / 2)

-- The page with entries of the chain found stands at this place.
abbrev pub ChainFound : List ℕ → ℕ → Option ℕ → Type 0
ChainFound chains page (Some i) = (i < length chains / 2) × (page_in (get_or chains (2 * i) 0) ≡ page)
ChainFound chains page None = Unit {0}

-- The digest of these bytes stands in s at this place.
pub record DigestStands (s bytes : List ℕ) (place : ℕ) : Type 0 where
  pub fits : place + digest_length ≤ length s
  pub digest : digest_in s place ≡ sha256 bytes

-- The same of a place that was found; none says nothing.
abbrev pub DigestFound : List ℕ → List ℕ → Option ℕ → Type 0
DigestFound s bytes (Some place) = DigestStands s bytes place
DigestFound s bytes None = Unit {0}
