-- The pages of a register by words that name their digests.
use Rattle.std.specs.Prelude.{ℕ, ◌+◌, ◌-◌, ◌*◌, ◌/◌, ◌≤◌, ◌<◌, ◌≡◌, cond, List, length, take, drop, get_or, ltb, eqb}
use Rattle.fips180.specs.Hash.{sha256}
use Rattle.word.specs.Word.{page_in, above_in, end_in}
use Rattle.promises.specs.Promises.{Among}
use Rattle.links.specs.Links.{from_first, from_chains, chain_word, label_number, digest_named, Names}

-- The root is named by the word 2^24: its digest is lent beside the register. Every other page belongs to a chain, and its word names the
-- label that leads to it. Where the page of a word begins and ends; the root ends at a place that is given.
unfoldable pub page_start : List ℕ → ℕ → ℕ
page_start chains w =
    cond (ltb w from_chains) 0 (page_in (chain_word chains w) - 47 * (above_in (chain_word chains w) - label_number w))

unfoldable pub page_end : ℕ → List ℕ → ℕ → ℕ
page_end rootEnd chains w =
    cond (ltb w from_chains) rootEnd
    (cond (eqb (label_number w) (above_in (chain_word chains w))) (end_in (get_or chains (2 * ((w - from_chains) / 256) + 1) 0)) (page_start chains w + 47))

-- The bytes of the page of a word.
abbrev pub page_named : List ℕ → ℕ → List ℕ → ℕ → List ℕ
page_named register rootEnd chains w = take (page_end rootEnd chains w - page_start chains w) (drop (page_start chains w) register)

-- A word that names a label of a chain: the two words of the chain are there, and it has that label.
pub record PageThere (chains : List ℕ) (w : ℕ) : Type 0 where
  pub chain : from_chains ≤ w → 2 * ((w - from_chains) / 256) + 1 < length chains
  pub label : from_chains ≤ w → label_number w ≤ above_in (chain_word chains w)
  pub above : from_chains ≤ w → 47 * above_in (chain_word chains w) ≤ page_in (chain_word chains w)

-- A word is that of a page of the register: the page stands there, and the word names its digest.
pub record PageWord (root register : List ℕ) (rootEnd : ℕ) (chains : List ℕ) (w : ℕ) : Type 0 where
  pub names : Names root register chains w
  pub there : PageThere chains w
  pub kind : from_first ≤ w
  pub rises : page_start chains w ≤ page_end rootEnd chains w
  pub within : page_end rootEnd chains w ≤ length register
  pub digest : digest_named root register chains w ≡ sha256 (page_named register rootEnd chains w)

-- The first m words are those of the pages in a list: of each of them, and of no other.
pub record PageWords (root register : List ℕ) (rootEnd : ℕ) (chains words : List ℕ) (m : ℕ) (pages : List (List ℕ)) : Type 0 where
  pub room : m ≤ length words
  pub each : (j : ℕ) → j < m → PageWord root register rootEnd chains (get_or words j 0)
  pub no_other : (j : ℕ) → j < m → Among (page_named register rootEnd chains (get_or words j 0)) pages
  pub all : (q : List ℕ) → Among q pages → (j : ℕ) × (j < m) × (page_named register rootEnd chains (get_or words j 0) ≡ q)
