-- What contracts inside this crate cite, and no public contract does.
use Rattle.std.specs.Prelude.{ℕ, suc, ◌+◌, ◌≤◌, ◌<◌, ◌≡◌, List, [], ◌∷◌, ◌++◌, length, drop, get_or, Option}
use Rattle.std.proofs.Math.Option.{some}
use Rattle.bytestring.specs.Bytes.{Bytes}
use Rattle.limits.specs.Limits.{deepest}
use Rattle.value.specs.Value.{digest_length}
use Rattle.page.specs.Reading.{read, times}
use Rattle.page.specs.Page.{RawEntry, entry, RawPage}
use Rattle.page_reader.specs.Place.{link_at}
use Rattle.promises.specs.Promises.{Among}
use Rattle.states.specs.Pages.{link_list, links_after, gather}
use Rattle.states.specs.States.{bytes_or}
use Rattle.summaries.specs.Summary.{Summary, summary}
use Rattle.sequence.specs.Noted.{links_by_place}
use Rattle.filing.specs.Filed.{no_page, pages_by_digest, Filed}
use Rattle.gathering.specs.declared.FiledPages.{FiledPages}
use Rattle.gathering.specs.Gathered.{gathered_from, WrittenFront}

-- The bytes gathered from these digests, one after the other.
unfoldable pub gathered_from_all : List RawPage → List (List ℕ) → List ℕ
gathered_from_all raws [] = []
gathered_from_all raws (digest ∷ digests) = bytes_or (gather deepest (pages_by_digest raws) digest) ++ gathered_from_all raws digests

-- A digest leads to a tree that has a summary of the layer below.
abbrev pub LeadsBelow : List RawPage → ℕ → List ℕ → Type 0
LeadsBelow raws layer digest = (y : Summary) × (summary deepest (pages_by_digest raws) digest ≡ some y) × (suc y.layer ≡ layer)

-- All links of the i-th page lead to the layer below.
pub record TreeStands (s p labels pages : List ℕ) (n i layer : ℕ) : Type 0 where
  pub raws : List RawPage
  pub filed : Filed s p labels pages n raws
  pub bytes : Bytes p
  pub within : i < n
  pub low : layer < deepest
  pub below : (digest : List ℕ) → Among digest (links_by_place (get_or raws i no_page)) → LeadsBelow raws layer digest

-- The link whose digest stands at a place, if there is one, is a link of such a page.
pub record LinkStands (s p labels pages : List ℕ) (n link layer : ℕ) : Type 0 where
  pub i : ℕ
  pub tree : TreeStands s p labels pages n i layer
  pub within : 0 < link → link + digest_length ≤ length p
  pub among : (digest : List ℕ) → Among digest (link_list (link_at p link)) → Among digest (links_by_place (get_or tree.raws i no_page))

-- The links after the entries from a place on are links of such a page.
pub record EntriesStand (s p labels pages : List ℕ) (n first count layer : ℕ) : Type 0 where
  pub i : ℕ
  pub tree : TreeStands s p labels pages n i layer
  pub entries : List RawEntry
  pub past : ℕ
  pub reads : times count entry (drop first p) ≡ read entries (drop past p)
  pub among : (digest : List ℕ) → Among digest (links_after entries) → Among digest (links_by_place (get_or tree.raws i no_page))

-- What is gathered in each case.
abbrev pub TreeGathered : List ℕ → List ℕ → List ℕ → List ℕ → ℕ → ℕ → ℕ → List ℕ → Option ℕ → List ℕ → Type 0
TreeGathered s p labels pages n i layer out r out' = (g : TreeStands s p labels pages n i layer) → WrittenFront (gathered_from g.raws i) out r out'

abbrev pub LinkGathered : List ℕ → List ℕ → List ℕ → List ℕ → ℕ → ℕ → ℕ → List ℕ → Option ℕ → List ℕ → Type 0
LinkGathered s p labels pages n link layer out r out' =
    (g : LinkStands s p labels pages n link layer) → WrittenFront (gathered_from_all g.tree.raws (link_list (link_at p link))) out r out'

abbrev pub EntriesGathered : List ℕ → List ℕ → List ℕ → List ℕ → ℕ → ℕ → ℕ → ℕ → List ℕ → Option ℕ → List ℕ → Type 0
EntriesGathered s p labels pages n first count layer out r out' =
    (g : EntriesStand s p labels pages n first count layer) → WrittenFront (gathered_from_all g.tree.raws (links_after g.entries)) out r out'

-- ---- the same of pages that are lent together
abbrev pub TreeStandsIn : FiledPages → ℕ → ℕ → Type 0
TreeStandsIn f i layer = TreeStands f.states.now f.sequence.now f.labels.now f.pages.now f.n i layer

abbrev pub LinkStandsIn : FiledPages → ℕ → ℕ → Type 0
LinkStandsIn f link layer = LinkStands f.states.now f.sequence.now f.labels.now f.pages.now f.n link layer

abbrev pub EntriesStandIn : FiledPages → ℕ → ℕ → ℕ → Type 0
EntriesStandIn f first count layer = EntriesStand f.states.now f.sequence.now f.labels.now f.pages.now f.n first count layer

abbrev pub TreeGatheredIn : FiledPages → ℕ → ℕ → List ℕ → Option ℕ → List ℕ → Type 0
TreeGatheredIn f i layer out r out' = TreeGathered f.states.now f.sequence.now f.labels.now f.pages.now f.n i layer out r out'

abbrev pub LinkGatheredIn : FiledPages → ℕ → ℕ → List ℕ → Option ℕ → List ℕ → Type 0
LinkGatheredIn f link layer out r out' = LinkGathered f.states.now f.sequence.now f.labels.now f.pages.now f.n link layer out r out'

abbrev pub EntriesGatheredIn : FiledPages → ℕ → ℕ → ℕ → List ℕ → Option ℕ → List ℕ → Type 0
EntriesGatheredIn f first count layer out r out' = EntriesGathered f.states.now f.sequence.now f.labels.now f.pages.now f.n first count layer out r out'
