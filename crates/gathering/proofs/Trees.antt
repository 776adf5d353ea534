-- The tree under a filed page, and the trees under its links.
use Rattle.std.specs.Prelude.{Option, Some}
use Prim.Native.Nat.{ℕ, zero, suc, ◌-◌, ◌≤◌, ◌<◌}
use mathlib.Core.Path.{◌≡◌, refl, sym, ap, subst, ◌∙◌}
use mathlib.Core.Logic.{inl, inr}
use mathlib.Core.Option.{some}
use mathlib.Core.List.{List, [], ◌∷◌, ◌++◌, map, append-nil}
use native.Mathlib.Omega.{arith}
use lib.ListN.{length, drop, get_or}
use Rattle.bytestring.specs.Bytes.{Bytes}
use Rattle.bytestring.proofs.Tools.{bytes_drop}
use Rattle.limits.specs.Limits.{deepest}
use Rattle.fips180.specs.Hash.{sha256}
use Rattle.value.specs.Value.{digest_in}
use Rattle.page.specs.Reading.{read}
use Rattle.page.specs.Page.{RawPage, page_bytes, page}
use Rattle.page.proofs.Pages.{page_reads, page_spells}
use Rattle.page_reader.specs.Place.{link_at}
use Rattle.promises.specs.Map.{find}
use Rattle.promises.specs.Promises.{Among}
use Rattle.promises.proofs.MapLaws.{rising_sorted}
use Rattle.states.specs.Pages.{link_list, links_after, links_of_read, together, gather_page, gather}
use Rattle.states.specs.States.{bytes_or}
use Rattle.states.proofs.Holding.{file_stands}
use Rattle.summaries.specs.Summary.{Summary, summary}
use Rattle.summaries.proofs.Fixed.{links_summed}
use Rattle.sequence.specs.Noted.{links_by_place}
use Rattle.filing.specs.Filed.{page_place, no_page, bytes_at, pages_by_digest, Filed}
use Rattle.tree_keys.specs.Ends.{SummaryAt, Leads, LeadsTo}
use Rattle.tree_keys.proofs.Following.{links_order, order_links, pages_rise, page_summary, layer_low, link_leads}
use Rattle.summing.specs.Summed.{note_at}
use Rattle.gathering.specs.Gathered.{gathered_from, Notes, WrittenFront}
use Rattle.gathering.specs.Inner.{gathered_from_all, LeadsBelow, TreeStands, LinkStands, TreeGathered}
use Rattle.gathering.proofs.Depth.{links_there}
use Rattle.gathering.proofs.Fronts.{nothing_written}

-- ---- a filed page under its digest
bytes_filed : (raws : List RawPage) (c : ℕ) → c < length raws → Among (bytes_at raws c) (map page_bytes raws)
bytes_filed [] c h = absurd (omega arith)
bytes_filed (r ∷ raws) zero h = inl refl
bytes_filed (r ∷ raws) (suc c) h = inr (bytes_filed raws c (omega arith))

module _ {s p labels pages : List ℕ} {n i layer : ℕ} (g : TreeStands s p labels pages n i layer) where
  abbrev raw : RawPage
  raw = get_or g.raws i no_page

  under_digest : find (sha256 (bytes_at g.raws i)) (pages_by_digest g.raws) ≡ some (bytes_at g.raws i)
  under_digest =
      file_stands (map page_bytes g.raws) (rising_sorted (pages_by_digest g.raws) (pages_rise g.filed)) (bytes_at g.raws i)
      (bytes_filed g.raws i (omega (arith, g.within, g.filed.number)))

  read_back : page (bytes_at g.raws i) ≡ read raw []
  read_back =
      let at = g.filed.places i g.within in
      let place = page_place (get_or pages i 0) in
      let good = (page_spells.back (drop place p) (drop at.0 p) raw (bytes_drop place p g.bytes) at.1.reads).1 in
      ap page (sym (append-nil (page_bytes raw))) ∙ page_reads raw [] good

  -- the page, and the trees under its links
  pub gathered_page : gathered_from g.raws i ≡ bytes_at g.raws i ++ gathered_from_all g.raws (link_list raw.left ++ links_after raw.entries)
  unfolding gathered_from gather gather_page links_of_read together bytes_or
  gathered_page =
      rw (
        under_digest,
        read_back,
        links_there g.raws layer g.low (link_list raw.left ++ links_after raw.entries)
            (λ digest j. g.below digest (order_links raw digest j)),
      )

-- ---- a page whose tree has a summary, and the empty page
module _ {s p labels pages : List ℕ} {n : ℕ} {raws : List RawPage} (f : Filed s p labels pages n raws) (b : Bytes p) (i : ℕ) (h : i < n) where
  pub summed_stands : (x : Summary) → SummaryAt raws i x → (layer : ℕ) → x.layer ≡ layer → TreeStands s p labels pages n i layer
  summed_stands x q layer e = record {
    raws = raws;
    filed = f;
    bytes = b;
    within = h;
    low = omega (arith, layer_low f b i h x q);
    below = λ digest j.
        let raw = get_or raws i no_page in
        let y = links_summed (summary deepest (pages_by_digest raws)) raw x (page_summary f b i h x q) digest (links_order raw digest j) in
        (y.0, y.1, y.2 ∙ e);
  }

  no_links : get_or raws i no_page ≡ no_page → (digest : List ℕ) → Among digest (links_by_place (get_or raws i no_page)) → ⊥
  unfolding links_by_place link_list links_after
  no_links e digest j = subst (λ (r : RawPage). Among digest (links_by_place r)) e j

  pub empty_stands : get_or raws i no_page ≡ no_page → TreeStands s p labels pages n i 0
  empty_stands e = record { raws = raws; filed = f; bytes = b; within = h; low = omega arith; below = λ digest j. absurd (no_links e digest j) }

-- ---- a link
linked_digest_lem : (p : List ℕ) (link : ℕ) → (link ≡ 0 → ⊥) → link_list (link_at p link) ≡ digest_in p link ∷ []
unfolding link_at link_list
linked_digest_lem p zero z = absurd (z refl)
linked_digest_lem p (suc before) z = refl

module _ {s p labels pages : List ℕ} {n link layer : ℕ} (g : LinkStands s p labels pages n link layer) where
  pub link_none : link ≡ 0 → (o : List ℕ) → WrittenFront (gathered_from_all g.tree.raws (link_list (link_at p link))) o (Some 0) o
  unfolding link_at link_list gathered_from_all
  link_none z o = rw z (nothing_written o)

  module _ (z : link ≡ 0 → ⊥) where
    linked : Among (digest_in p link) (links_by_place (get_or g.tree.raws g.i no_page))
    linked = g.among (digest_in p link) (rw (linked_digest_lem p link z) (inl refl))

    pub link_leads_on : Leads s p labels n link
    link_leads_on = link_leads g.tree.filed g.i link g.tree.within (g.within (omega (arith, z))) linked

    below : LeadsBelow g.tree.raws layer (digest_in p link)
    below = g.tree.below (digest_in p link) linked

    pub layer_above : 1 ≤ layer
    layer_above = omega (arith, below.2)

    module _ (r : ℕ) (to : LeadsTo s p labels n link r) where
      digest_is : sha256 (bytes_at g.tree.raws r) ≡ digest_in p link
      digest_is = to.digest pages g.tree.raws g.tree.filed

      pub next_stands : TreeStands s p labels pages n r (layer - 1)
      next_stands =
          summed_stands g.tree.filed g.tree.bytes r to.number below.0
          (ap (summary deepest (pages_by_digest g.tree.raws)) digest_is ∙ below.1) (layer - 1) (omega (arith, below.2))

      link_gathers : gathered_from_all g.tree.raws (link_list (link_at p link)) ≡ gathered_from g.tree.raws r
      unfolding gathered_from gathered_from_all
      link_gathers = rw (linked_digest_lem p link z, append-nil, digest_is)

      pub link_followed : (o : List ℕ) (k : Option ℕ) (o' : List ℕ) → TreeGathered s p labels pages n r (layer - 1) o k o'
          → WrittenFront (gathered_from_all g.tree.raws (link_list (link_at p link))) o k o'
      unfolding next_stands summed_stands
      link_followed o k o' v = rw link_gathers (v next_stands)

-- ---- a page with a note
module _ {s p labels pages : List ℕ} {n : ℕ} {raws : List RawPage} (w : Notes s p labels pages n raws)
    (b : Bytes p) (i : ℕ) (h : i < n) (noted : 1 ≤ note_at pages i) where
  pub noted_stands : note_at pages i ≤ deepest → TreeStands s p labels pages n i (note_at pages i - 1)
  noted_stands k =
      let x = w.layers i h noted k in
      summed_stands w.filed b i h x.0 x.1 (note_at pages i - 1) (omega (arith, x.2))

  pub alone_stands : deepest < note_at pages i → TreeStands s p labels pages n i 0
  alone_stands k = empty_stands w.filed b i h (w.alone i h k)

  module _ (o : List ℕ) (r : Option ℕ) (o' : List ℕ) where
    pub noted_gathered : note_at pages i ≤ deepest → TreeGathered s p labels pages n i (note_at pages i - 1) o r o'
        → WrittenFront (gathered_from raws i) o r o'
    unfolding noted_stands summed_stands
    noted_gathered k v = v (noted_stands k)

    pub alone_gathered : deepest < note_at pages i → TreeGathered s p labels pages n i 0 o r o' → WrittenFront (gathered_from raws i) o r o'
    unfolding alone_stands empty_stands
    alone_gathered k v = v (alone_stands k)
