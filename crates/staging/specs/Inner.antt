-- What contracts inside this crate cite, and no public contract does.
use Rattle.std.specs.Prelude.{ℕ, zero, suc, ◌+◌, ◌*◌, ◌≡◌, List, [], ◌∷◌, ◌++◌, length, take, get_or}
use Rattle.known.specs.Rows.{label_count}
use Rattle.links.specs.Links.{from_first, from_chains}

-- The words of the first pages of the i-th chain of a row.
unfoldable pub chain_page_words : ℕ → ℕ → List ℕ
chain_page_words i zero = []
chain_page_words i (suc k) = chain_page_words i k ++ ((from_chains + 256 * i + k) ∷ [])

-- The words of all pages of the first i chains of a row: a chain has a page for each of its labels.
unfoldable pub row_page_words : List ℕ → ℕ → List ℕ
row_page_words chains zero = []
row_page_words chains (suc i) = row_page_words chains i ++ chain_page_words i (label_count (get_or chains (2 * i) 0))

-- The same after the word of the root.
abbrev pub register_page_words : List ℕ → ℕ → List ℕ
register_page_words chains i = from_first ∷ row_page_words chains i

-- More words were put after the first `total`, and r is the new number.
pub record AddedWords (words : List ℕ) (total : ℕ) (more words' : List ℕ) (r : ℕ) : Type 0 where
  pub size : length words' ≡ length words
  pub number : r ≡ total + length more
  pub added : take r words' ≡ take total words ++ more
