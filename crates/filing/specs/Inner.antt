-- What contracts inside this crate cite, and no public contract does.
use Rattle.std.specs.Prelude.{ℕ, suc, ◌^◌, ◌≤◌, ◌<◌, ◌≡◌, cond, List, length, get_or, ltb}
use Rattle.page.specs.Page.{RawPage}
use Rattle.sequence.specs.Noted.{PagesFrom}
use Rattle.filing.specs.Filed.{link_named}

-- So many pages stand one after the other in p, at the places of a row.
pub record StandingPages (p pages : List ℕ) (n : ℕ) : Type 0 where
  pub raws : List RawPage
  pub number : length raws ≡ n
  pub room : n ≤ length pages
  pub places : PagesFrom p pages 0 0 raws

-- A page ends where the next begins, and the last at the end of p.
unfoldable pub page_end : List ℕ → List ℕ → ℕ → ℕ → ℕ
page_end p pages n i = cond (ltb (suc i) n) (get_or pages (suc i) 0) (length p)

-- The words from the j-th to the last of `total` name digests in one of two strings, and no labels of chains.
abbrev pub InStrings : List ℕ → ℕ → ℕ → Type 0
InStrings words j total = (k : ℕ) → j ≤ k → k < total → get_or words k 0 < 2 ^ 25

-- From the j-th word on those before the r-th name the digest, and the r-th does not.
pub record Passed (s p words : List ℕ) (total j : ℕ) (digest : List ℕ) (r : ℕ) : Type 0 where
  pub ahead : j ≤ r
  pub within : r ≤ total
  pub same : (k : ℕ) → j ≤ k → k < r → link_named s p (get_or words k 0) ≡ digest
  pub other : r < total → link_named s p (get_or words r 0) ≡ digest → ⊥
