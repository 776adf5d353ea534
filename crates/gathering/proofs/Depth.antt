-- More depth leaves what is gathered as it is, and where a digest has a summary its tree is gathered.
use Prim.Native.Nat.{ℕ, zero, suc, ◌≤◌, ◌<◌}
use mathlib.Core.Path.{◌≡◌, refl, sym, ap, ◌∙◌}
use mathlib.Core.Logic.{inl, inr}
use mathlib.Core.Option.{Option, none, some, none-ne-some}
use mathlib.Core.List.{List, [], ◌∷◌, ◌++◌, append_assoc}
use native.Mathlib.Omega.{arith}
use Rattle.limits.specs.Limits.{deepest}
use Rattle.page.specs.Reading.{Read, read, ends_early, departs}
use Rattle.page.specs.Page.{RawPage, page}
use Rattle.tree.specs.Record.{Record}
use Rattle.promises.specs.Map.{find}
use Rattle.promises.specs.Promises.{Among}
use Rattle.states.specs.Pages.{link_list, links_after, links_of_read, together, gather_all, gather_page, gather}
use Rattle.states.specs.States.{bytes_or}
use Rattle.states.proofs.Gathered.{together_inv}
use Rattle.summaries.specs.Summary.{Summary, summary_of_read, summary_of_found, summary}
use Rattle.summaries.proofs.Fixed.{summary_layer, links_summed}
use Rattle.filing.specs.Filed.{pages_by_digest}
use Rattle.gathering.specs.Inner.{gathered_from_all, LeadsBelow}

-- ---- more depth
module _ (f g : List ℕ → Option (List ℕ)) (more : (digest b : List ℕ) → f digest ≡ some b → g digest ≡ some b) where
  all_more : (digests : List (List ℕ)) (b : List ℕ) → gather_all f digests ≡ some b → gather_all g digests ≡ some b
  unfolding gather_all together
  all_more [] b h = h
  all_more (digest ∷ digests) b h =
      let k = together_inv (f digest) (gather_all f digests) b h in
      rw (more digest k.first k.left, all_more digests k.second k.right) (ap some (sym k.whole))

  page_more : (o : Option (List ℕ)) (b : List ℕ) → gather_page f o ≡ some b → gather_page g o ≡ some b
  unfolding gather_page together
  page_more none b h = h
  page_more (some p) b h =
      let k = together_inv (some p) (gather_all f (links_of_read (page p))) b h in
      ap (together (some p)) (all_more (links_of_read (page p)) k.second k.right)
      ∙ ap (λ (o : Option (List ℕ)). together o (some k.second)) k.left ∙ ap some (sym k.whole)

pub gather_raised : (pages : List Record) (d e : ℕ) (digest b : List ℕ) → d ≤ e → gather d pages digest ≡ some b → gather e pages digest ≡ some b
unfolding gather
gather_raised pages zero e digest b l h = absurd (none-ne-some _ h)
gather_raised pages (suc d) zero digest b l h = absurd (omega arith)
gather_raised pages (suc d) (suc e) digest b l h =
    page_more (gather d pages) (gather e pages) (λ link c k. gather_raised pages d e link c (omega arith) k) (find digest pages) b h

-- ---- a digest with a summary
abbrev There : Option (List ℕ) → Type 0
There o = (b : List ℕ) × (o ≡ some b)

all_there : (f : List ℕ → Option (List ℕ)) (digests : List (List ℕ)) → ((digest : List ℕ) → Among digest digests → There (f digest))
    → There (gather_all f digests)
unfolding gather_all together
all_there f [] h = ([], refl)
all_there f (digest ∷ digests) h =
    let one = h digest (inl refl) in
    let rest = all_there f digests (λ link i. h link (inr i)) in
    (one.0 ++ rest.0, rw (one.1, rest.1))

module _ (f : List ℕ → Option (List ℕ)) (child : List ℕ → Option Summary)
    (gives : (digest : List ℕ) (x : Summary) → child digest ≡ some x → There (f digest)) where
  read_there : (r : Read RawPage) (x : Summary) → summary_of_read child r ≡ some x → There (gather_all f (links_of_read r))
  unfolding summary_of_read links_of_read
  read_there ends_early x h = absurd (none-ne-some _ h)
  read_there departs x h = absurd (none-ne-some _ h)
  read_there (read p rest) x h =
      all_there f (link_list p.left ++ links_after p.entries) (λ link i.
      let y = links_summed child p x h link i in
      gives link y.0 y.1)

  found_there : (o : Option (List ℕ)) (x : Summary) → summary_of_found child o ≡ some x → There (gather_page f o)
  unfolding summary_of_found gather_page together
  found_there none x h = absurd (none-ne-some _ h)
  found_there (some p) x h = let k = read_there (page p) x h in (p ++ k.0, rw k.1)

gather_summed : (pages : List Record) (d : ℕ) (digest : List ℕ) (x : Summary) → summary d pages digest ≡ some x → There (gather d pages digest)
unfolding summary gather
gather_summed pages zero digest x h = absurd (none-ne-some _ h)
gather_summed pages (suc d) digest x h =
    found_there (gather d pages) (summary d pages) (λ link y k. gather_summed pages d link y k) (find digest pages) x h

-- ---- links that lead to the layer below
module _ (raws : List RawPage) (layer : ℕ) (low : layer < deepest) where
  -- one step is spent on the page that links to it
  link_there : (digest : List ℕ) → LeadsBelow raws layer digest
      → gather 128 (pages_by_digest raws) digest ≡ some (bytes_or (gather deepest (pages_by_digest raws) digest))
  unfolding bytes_or
  link_there digest (y, sums, falls) =
      let pages = pages_by_digest raws in
      let depth = suc y.layer in
      let b = gather_summed pages depth digest y (summary_layer pages deepest digest y sums) in
      let full : gather deepest pages digest ≡ some b.0 = gather_raised pages depth deepest digest b.0 (omega arith) b.1 in
      gather_raised pages depth 128 digest b.0 (omega arith) b.1 ∙ rw full

  pub links_there : (digests : List (List ℕ)) → ((digest : List ℕ) → Among digest digests → LeadsBelow raws layer digest)
      → gather_all (gather 128 (pages_by_digest raws)) digests ≡ some (gathered_from_all raws digests)
  unfolding gather_all together gathered_from_all
  links_there [] h = refl
  links_there (digest ∷ digests) h = rw (link_there digest (h digest (inl refl)), links_there digests (λ link i. h link (inr i)))

pub from_both : (raws : List RawPage) (ds es : List (List ℕ)) → gathered_from_all raws (ds ++ es) ≡ gathered_from_all raws ds ++ gathered_from_all raws es
unfolding gathered_from_all
from_both raws [] es = refl
from_both raws (d ∷ ds) es =
    rw (from_both raws ds es)
    (sym (append_assoc (bytes_or (gather deepest (pages_by_digest raws) d)) (gathered_from_all raws ds) (gathered_from_all raws es)))
