-- What the pass over the prefix lengths says.
use Rattle.std.specs.Prelude.{ℕ, ◌≡◌, Bool, true, ◌&&◌, List, [], ◌∷◌}
use Rattle.page.specs.Page.{RawPage, page}
use Rattle.page_reader.specs.Place.{Reads}
use Rattle.tree.specs.OnePage.{prefixes_of}
use Rattle.tree.specs.Table.{raw_page}
use Rattle.index.specs.Chain.{Chain}
use Rattle.digests.specs.Digests.{ChainsNoted}

-- Whether the prefix lengths of the page at a place are right.
unfoldable pub PagePrefixes : List ℕ → ℕ → Bool → Type 0
PagePrefixes s at r = (p : RawPage) (to : ℕ) → Reads page s at p to → r ≡ prefixes_of [] p.entries

-- Those of the pages with entries of all chains.
unfoldable pub prefixes_in : List Chain → Bool
prefixes_in [] = true
prefixes_in (c ∷ cs) = prefixes_of [] (raw_page c.here).entries && prefixes_in cs

abbrev pub RowPrefixes : List ℕ → List ℕ → ℕ → Bool → Type 0
RowPrefixes s row n r = (d : ChainsNoted s row n) → r ≡ prefixes_in d.chains
