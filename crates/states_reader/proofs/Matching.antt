-- Pages that roots reach: each of their links leads to a page, and each of them is a root's page or linked.
use Prim.Native.Nat.{ℕ, zero, suc, ◌<◌}
use mathlib.Core.Path.{◌≡◌, refl, sym, ap, subst, ◌∙◌}
use mathlib.Core.Bool.{true, false≢true}
use mathlib.Core.Logic.{◌⊎◌, inl, inr, ⊎_elim}
use mathlib.Core.Option.{Option, none, some, none-ne-some}
use mathlib.Core.List.{List, [], ◌∷◌, ◌++◌, map, append-nil}
use native.Mathlib.Omega.{arith}
use lib.ListN.{length, get_or}
use Rattle.bytestring.proofs.Tools.{All, all_at}
use Rattle.limits.specs.Limits.{deepest}
use Rattle.fips180.specs.Hash.{sha256}
use Rattle.page.specs.Reading.{read}
use Rattle.page.specs.Page.{RawEntry, RawPage, page_bytes, page}
use Rattle.page.proofs.Pages.{GoodPage, page_reads}
use Rattle.tree.specs.Record.{Record}
use Rattle.promises.specs.Map.{find, is_there}
use Rattle.promises.specs.Promises.{Among}
use Rattle.promises.proofs.DifferenceLaws.{among_left, among_right}
use Rattle.states.specs.Pages.{link_list, links_after, links_of_read}
use Rattle.states.proofs.Filing.{among-split, find_all, FiledFrom}
use Rattle.states.proofs.Gathered.{file_from}
use Rattle.summaries.specs.Summary.{Summary, summary, summary_of_found, root_of_parts, root_of_page, root_of_read, root_of_found, is_root, ReachedIn, ReachedFrom}
use Rattle.summaries.proofs.Fixed.{summary_fixed, summary_page, links_summed}
use Rattle.sequence.specs.Noted.{links_by_place, links_of_all}
use Rattle.filing.specs.Filed.{no_page, bytes_at, pages_by_digest}
use Rattle.tree_keys.proofs.Following.{links_order, order_links}

-- ---- pages by their numbers
pub at_among : (raws : List RawPage) (c : ℕ) → c < length raws → Among (bytes_at raws c) (map page_bytes raws)
at_among [] c h = absurd (omega arith)
at_among (r ∷ raws) zero h = inl refl
at_among (r ∷ raws) (suc c) h = inr (at_among raws c (omega arith))

pub among_at : (raws : List RawPage) (b : List ℕ) → Among b (map page_bytes raws) → (c : ℕ) × (c < length raws) × (bytes_at raws c ≡ b)
among_at [] b i = absurd i
among_at (r ∷ raws) b (inl e) = (0, omega arith, sym e)
among_at (r ∷ raws) b (inr i) = let w = among_at raws b i in (suc w.0, omega (arith, w.1), w.2)

-- the links of a page are links of all, and each of these is one of a page
links_of_page : (raws : List RawPage) (c : ℕ) (d : List ℕ) → c < length raws → Among d (links_by_place (get_or raws c no_page)) → Among d (links_of_all raws)
unfolding links_of_all
links_of_page [] c d h i = absurd (omega arith)
links_of_page (r ∷ raws) zero d h i = among_left (links_by_place r) (links_of_all raws) d i
links_of_page (r ∷ raws) (suc c) d h i = among_right (links_by_place r) (links_of_all raws) d (links_of_page raws c d (omega arith) i)

page_of_link : (raws : List RawPage) (d : List ℕ) → Among d (links_of_all raws)
    → (c : ℕ) × (c < length raws) × Among d (links_by_place (get_or raws c no_page))
unfolding links_of_all
page_of_link [] d i = absurd i
page_of_link (r ∷ raws) d i =
    among-split (links_by_place r) (links_of_all raws) d i
    (λ j. (0, omega arith, j))
    (λ j. let w = page_of_link raws d j in (suc w.0, omega (arith, w.1), w.2))

-- ---- roots
root_found : (x : Option Summary) (o : Option (List ℕ)) → root_of_found x o ≡ true → (b : List ℕ) × (o ≡ some b)
unfolding root_of_found
root_found x none h = absurd (false≢true h)
root_found x (some b) h = (b, refl)

summary_there : (x : Option Summary) → is_there x ≡ true → (y : Summary) × (x ≡ some y)
unfolding is_there
summary_there none h = absurd (false≢true h)
summary_there (some y) h = (y, refl)

there : (f : List ℕ → Option Summary) (o : Option (List ℕ)) (x : Summary) → summary_of_found f o ≡ some x → (b : List ℕ) × (o ≡ some b)
unfolding summary_of_found
there f none x h = absurd (none-ne-some _ h)
there f (some b) x h = (b, refl)

-- the root of a page has a summary, or the page has no links
root_summed : (x : Option Summary) (es : List RawEntry) (left : Option (List ℕ)) → root_of_parts x es left ≡ true
    → ((y : Summary) × (x ≡ some y)) ⊎ (link_list left ++ links_after es ≡ [])
unfolding root_of_parts link_list links_after
root_summed x [] none h = inr refl
root_summed x [] (some d) h = absurd (false≢true h)
root_summed x (e ∷ es) left h = inl (summary_there x h)

module _ (raws : List RawPage) (good : All GoodPage raws) where
  abbrev file : List Record
  file = pages_by_digest raws

  -- a page that is found, by its number
  record FoundPage (digest b : List ℕ) : Type 0 where
    number : ℕ
    within : number < length raws
    bytes : bytes_at raws number ≡ b
    digested : digest ≡ sha256 b
    reads : page b ≡ read (get_or raws number no_page) []

  found_page : (digest b : List ℕ) → find digest file ≡ some b → FoundPage digest b
  found_page digest b e =
      let w = find_all (FiledFrom (map page_bytes raws)) file digest b (file_from (map page_bytes raws)) e in
      let c = among_at raws b w.1 in
      let raw : RawPage = get_or raws c.0 no_page in
      let ok : GoodPage raw = all_at GoodPage no_page raws good c.0 c.1 in
      record {
        number = c.0;
        within = c.1;
        bytes = c.2;
        digested = w.0;
        reads = ap page (sym c.2 ∙ sym (append-nil (page_bytes raw))) ∙ page_reads raw [] ok;
      }

  -- its links, in either order
  links_read : {digest b : List ℕ} (f : FoundPage digest b) (d : List ℕ) → Among d (links_of_read (page b))
      → Among d (link_list (get_or raws f.number no_page).left ++ links_after (get_or raws f.number no_page).entries)
  unfolding links_of_read
  links_read f d i = rw f.reads at i

  links_listed : {digest b : List ℕ} (f : FoundPage digest b) (d : List ℕ) → Among d (links_of_read (page b)) → Among d (links_of_all raws)
  links_listed f d i = links_of_page raws f.number d f.within (order_links (get_or raws f.number no_page) d (links_read f d i))

  -- ---- a digest that is named
  pub named_there : (digest : List ℕ) → is_root file digest ≡ true → (c : ℕ) × (c < length raws) × (sha256 (bytes_at raws c) ≡ digest)
  unfolding is_root
  named_there digest h =
      let w = root_found (summary deepest file digest) (find digest file) h in
      let f = found_page digest w.0 w.1 in
      (f.number, f.within, ap sha256 f.bytes ∙ sym f.digested)

  pub reached_named : (m : ℕ) (digest q : List ℕ) → ReachedIn file m digest q → (sha256 q ≡ digest) ⊎ Among (sha256 q) (links_of_all raws)
  unfolding ReachedIn
  reached_named zero digest q r = absurd r
  reached_named (suc m) digest q (b, found, inl e) = inl (ap sha256 e ∙ sym (found_page digest b found).digested)
  reached_named (suc m) digest q (b, found, inr w) =
      ⊎_elim
      (λ e. inr (subst (λ (d : List ℕ). Among d (links_of_all raws)) (sym e) (links_listed (found_page digest b found) w.0 w.1)))
      (λ i. inr i)
      (reached_named m w.0 q w.2)

  -- ---- the links of what is reached lead to pages
  summed_found : (digest : List ℕ) (x : Summary) → summary deepest file digest ≡ some x → (b : List ℕ) × (find digest file ≡ some b)
  summed_found digest x h = there (summary deepest file) (find digest file) x (sym (summary_fixed file digest) ∙ h)

  summed_links : (m : ℕ) (digest : List ℕ) (x : Summary) → summary deepest file digest ≡ some x → (q : List ℕ) → ReachedIn file m digest q
      → (d : List ℕ) → Among d (links_of_read (page q)) → (y : Summary) × (summary deepest file d ≡ some y)
  unfolding ReachedIn
  summed_links zero digest x h q r d i = absurd r
  summed_links (suc m) digest x h q (b, found, r) d i =
      let f = found_page digest b found in
      let raw : RawPage = get_or raws f.number no_page in
      let sums = links_summed (summary deepest file) raw x (summary_page file digest b [] raw x h found f.reads) in
      ⊎_elim
      (λ e. let y = sums d (links_read f d (subst (λ (l : List ℕ). Among d (links_of_read (page l))) e i)) in (y.0, y.1))
      (λ w. let y = sums w.0 (links_read f w.0 w.1) in summed_links m w.0 y.0 y.1 q w.2 d i)
      r

  root_links : (digest : List ℕ) → is_root file digest ≡ true → (m : ℕ) (q : List ℕ) → ReachedIn file m digest q
      → (d : List ℕ) → Among d (links_of_read (page q)) → (y : Summary) × (summary deepest file d ≡ some y)
  unfolding is_root root_of_found root_of_read root_of_page ReachedIn
  root_links digest h zero q r d i = absurd r
  root_links digest h (suc m) q (b, found, r) d i =
      let f = found_page digest b found in
      let raw : RawPage = get_or raws f.number no_page in
      let parts : root_of_parts (summary deepest file digest) raw.entries raw.left ≡ true = rw (found, f.reads) at h in
      ⊎_elim
      (λ y. summed_links (suc m) digest y.0 y.1 q (b, found, r) d i)
      (λ none-there.
      let no_link_lem : (l : List ℕ) → Among l (links_of_read (page b)) → ⊥ = λ l j. subst (Among l) none-there (links_read f l j) in
      ⊎_elim
      (λ e. absurd (no_link_lem d (subst (λ (l : List ℕ). Among d (links_of_read (page l))) e i)))
      (λ w. absurd (no_link_lem w.0 w.1))
      r)
      (root_summed (summary deepest file digest) raw.entries raw.left parts)

  -- a link of all leads to a page, where the page that it is of is reached from a root
  pub link_leads : (d : List ℕ) → Among d (links_of_all raws)
      → ((c : ℕ) → c < length raws → (digest : List ℕ) × (is_root file digest ≡ true) × ReachedFrom file digest (bytes_at raws c))
      → (c : ℕ) × (c < length raws) × (sha256 (bytes_at raws c) ≡ d)
  unfolding links_of_read
  link_leads d i reached =
      let w = page_of_link raws d i in
      let raw : RawPage = get_or raws w.0 no_page in
      let reads : page (bytes_at raws w.0) ≡ read raw [] =
      ap page (sym (append-nil (page_bytes raw))) ∙ page_reads raw [] (all_at GoodPage no_page raws good w.0 w.1) in
      let among : Among d (links_of_read (page (bytes_at raws w.0))) = rw reads (links_order raw d w.2) in
      let r = reached w.0 w.1 in
      let y = root_links r.0 r.1 r.2.0 (bytes_at raws w.0) r.2.1 d among in
      let b = summed_found d y.0 y.1 in
      let f = found_page d b.0 b.1 in
      (f.number, f.within, ap sha256 f.bytes ∙ sym f.digested)
