-- What contracts inside this crate cite, and no public contract does.
use Rattle.std.specs.Prelude.{ℕ, suc, ◌+◌, ◌-◌, ◌*◌, ◌≤◌, ◌<◌, ◌≡◌, cond, List, [], ◌∷◌, ◌++◌, length, take, drop, get_or, set, ltb}
use Rattle.std.proofs.Math.Option.{Option, some}
use Rattle.bytestring.specs.Bytes.{Bytes}
use Rattle.limits.specs.Limits.{longest_key}
use Rattle.value.specs.Value.{digest_length, digest_in}
use Rattle.page.specs.Reading.{read, times}
use Rattle.page.specs.Page.{RawEntry, entry, RawPage, page}
use Rattle.page_reader.specs.Place.{Reads, link_at}
use Rattle.promises.specs.Promises.{Among}
use Rattle.page_keys.specs.Buffer.{LastIs}
use Rattle.summaries.specs.Summary.{Summary, summary_of_page}
use Rattle.sequence.specs.Noted.{links_by_place}
use Rattle.filing.specs.Filed.{page_place}
use Rattle.tree_keys.specs.Ends.{tag_page, SummaryAt}
use Rattle.tree_keys.specs.declared.KeyAt.{KeyAt}
use Rattle.tree_keys.specs.declared.OwnEnd.{OwnEnd}

-- ---- one page
-- Where the i-th of n pages ends: where the next begins, and the last at the end of p.
unfoldable pub place_after : List ℕ → List ℕ → ℕ → ℕ → ℕ
place_after p pages n i = cond (ltb (suc i) n) (page_place (get_or pages (suc i) 0)) (length p)

-- A key stands in p; where so many entries are read from a place on, it is the remainder of the first.
pub record OwnFirst (p : List ℕ) (first count : ℕ) (k : KeyAt) : Type 0 where
  pub within : k.place + k.size ≤ length p
  pub remainder : (e : RawEntry) (es : List RawEntry) (past : ℕ) → times count entry (drop first p) ≡ read (e ∷ es) (drop past p)
      → take k.size (drop k.place p) ≡ e.remainder

-- The same of the page that is read at a place, and has entries.
pub record PageFirst (p : List ℕ) (at : ℕ) (k : KeyAt) : Type 0 where
  pub within : k.place + k.size ≤ length p
  pub remainder : (raw : RawPage) (to : ℕ) → Reads page p at raw to → (e : RawEntry) (es : List RawEntry) → raw.entries ≡ e ∷ es
      → take k.size (drop k.place p) ≡ e.remainder

abbrev pub LinkWithin : List ℕ → ℕ → Type 0
LinkWithin p link = 0 < link → link + digest_length ≤ length p

-- The place of the digest of the left link of the page that is read between two places, or 0.
pub record LeftIs (p : List ℕ) (at end left : ℕ) : Type 0 where
  pub within : LinkWithin p left
  pub link : Bytes p → (raw : RawPage) → Reads page p at raw end → link_at p left ≡ raw.left

-- The end of a page: the place of the digest of the last gap's link, or 0 where this gap is empty and the last key is the page's own.
pub record EndsWith (p : List ℕ) (raw : RawPage) (last : List ℕ) (r : OwnEnd) : Type 0 where
  pub linked : 0 < r.link → Among (digest_in p r.link) (links_by_place raw)
  pub own : (child : List ℕ → Option Summary) (x : Summary) → summary_of_page child raw ≡ some x → r.link ≡ 0 → LastIs last r.size x.last
  pub below : (child : List ℕ → Option Summary) (x y : Summary) → summary_of_page child raw ≡ some x → 0 < r.link → child (digest_in p r.link) ≡ some y
      → x.last ≡ y.last

-- The end of a page whose entries are read from a place on. Its left link is given where no entries are, and may be given where some are.
pub record LeftGiven (p : List ℕ) (left : ℕ) (es : List RawEntry) (gap : Option (List ℕ)) : Type 0 where
  pub none_else : es ≡ [] → gap ≡ link_at p left
  pub given : 0 < left → gap ≡ link_at p left

abbrev pub EntriesEndWith : List ℕ → ℕ → ℕ → ℕ → List ℕ → OwnEnd → Type 0
EntriesEndWith p first count left last r =
    (es : List RawEntry) (past : ℕ) → times count entry (drop first p) ≡ read es (drop past p)
    → (gap : Option (List ℕ)) → LeftGiven p left es gap → EndsWith p (record { entries = es; left = gap }) last r

-- The end of the page that is read at a place.
abbrev pub PageEndsWith : List ℕ → ℕ → List ℕ → OwnEnd → Type 0
PageEndsWith p at last r = (raw : RawPage) (to : ℕ) → Reads page p at raw to → EndsWith p raw last r

-- ---- from page to page
-- The tree under the c-th page has the last key of the tree under the i-th, and is `steps` layers below it at least.
abbrev pub SameLast : List RawPage → ℕ → ℕ → ℕ → Type 0
SameLast raws i c steps = (x : Summary) → SummaryAt raws i x → (y : Summary) × SummaryAt raws c y × (y.last ≡ x.last) × (y.layer + steps ≤ 128)

abbrev pub SameFirst : List RawPage → ℕ → ℕ → ℕ → Type 0
SameFirst raws i c steps = (x : Summary) → SummaryAt raws i x → (y : Summary) × SummaryAt raws c y × (y.first ≡ x.first) × (y.layer + steps ≤ 128)

-- ---- keys that are kept
-- The r-th tag is one of the i-th page.
pub record TagFound (tags : List ℕ) (i r : ℕ) : Type 0 where
  pub within : r < length tags
  pub tag : tag_page (get_or tags r 0) ≡ 1 + i

-- The buffer of the last key was kept for the i-th page, in the place of another key that was kept. The last tag is no page's: it says whose
-- turn is next.
pub record KeyKept (keys tags : List ℕ) (i : ℕ) (last : List ℕ) (size : ℕ) (keys' tags' : List ℕ) : Type 0 where
  pub turn : ℕ
  pub next : ℕ
  pub within : turn + 1 < length tags
  pub short : next ≤ longest_key
  pub bytes : keys' ≡ take (longest_key * turn) keys ++ (last ++ drop (longest_key * turn + longest_key) keys)
  pub tag : tags' ≡ set (set tags turn (512 * (1 + i) + size)) (length tags - 1) next
