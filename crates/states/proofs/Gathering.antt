-- Gathering the pages of an accepted register from its root digest gives its bytes back.
use Prim.Native.Nat.{ℕ, zero, suc}
use mathlib.Core.Path.{◌≡◌, refl, sym, ap, ◌∙◌}
use mathlib.Core.Bool.{true}
use mathlib.Core.Option.{Option, none, some}
use mathlib.Core.List.{List, [], ◌∷◌, ◌++◌, append_assoc, append-nil}
use Rattle.bytestring.proofs.Tools.{and_inv, All, all_split}
use Rattle.bytestring.specs.Bytes.{equal}
use Rattle.bytestring.proofs.Equal.{equal_true}
use Rattle.fips180.specs.Hash.{sha256}
use Rattle.page.specs.Reading.{read}
use Rattle.page.specs.Page.{page_bytes, page as page_at}
use Rattle.page.proofs.Pages.{GoodPage, page_reads}
use Rattle.tree.specs.Tree.{page, Gap, empty, under, Entries, end, entry}
use Rattle.tree.specs.Record.{Record, Spelt}
use Rattle.tree.specs.Table.{SpeltTree, link_of, raw_entries, raw_page, bytes_of_page, table, table_under, table_from}
use Rattle.tree.specs.Judge.{digests_right, digests_right_under, digests_right_from}
use Rattle.tree.proofs.Laws.{AllUnder, AllFrom, Good}
use Rattle.promises.specs.Map.{find}
use Rattle.promises.specs.Pages.{pages_of, pages_of_gap, pages_of_entries}
use Rattle.states.specs.Pages.{link_list, links_after, links_of_read, together, gather_all, gather_page, gather}

-- ---- strings one after the other
together_none : (s : Option (List ℕ)) → together (some []) s ≡ s
unfolding together
together_none none = refl
together_none (some s) = refl

together_assoc : (r s t : Option (List ℕ)) → together (together r s) t ≡ together r (together s t)
unfolding together
together_assoc none s t = refl
together_assoc (some r) none t = refl
together_assoc (some r) (some s) none = refl
together_assoc (some r) (some s) (some t) = ap some (append_assoc r s t)

pub gather_append : (f : List ℕ → Option (List ℕ)) (ds es : List (List ℕ)) → gather_all f (ds ++ es) ≡ together (gather_all f ds) (gather_all f es)
unfolding gather_all
gather_append f [] es = sym (together_none (gather_all f es))
gather_append f (d ∷ ds) es = rw (gather_append f ds es) (sym (together_assoc (f d) (gather_all f ds) (gather_all f es)))

pub links_of : (t : SpeltTree) → GoodPage (raw_page t)
    → links_of_read (page_at (bytes_of_page t)) ≡ link_list (raw_page t).left ++ links_after (raw_page t).entries
unfolding links_of_read bytes_of_page
links_of t g =
    let p = raw_page t in
    let e : page_at (page_bytes p) ≡ read p [] = ap page_at (sym (append-nil (page_bytes p))) ∙ page_reads p [] g in
    rw e

-- ---- pages that stand under their digests
module _ (pages : List Record) where
  abbrev pub UnderDigest : List ℕ → Type 0
  UnderDigest p = find (sha256 p) pages ≡ some p

  module _
      (f : List ℕ → Option (List ℕ))
      (P : SpeltTree → Type 0)
      (gathers : (t : SpeltTree) → P t → digests_right t ≡ true → All UnderDigest (pages_of t) → f (sha256 (bytes_of_page t)) ≡ some (table t))
    where
      gathers_under : (g : Gap Spelt (List ℕ)) → AllUnder P g → digests_right_under g ≡ true → All UnderDigest (pages_of_gap g)
          → gather_all f (link_list (link_of g)) ≡ some (table_under g)
      unfolding gather_all link_list link_of table digests_right pages_of together
      gathers_under empty p d h = refl
      gathers_under (under digest t) p d h =
          let k = and_inv (equal digest (sha256 (bytes_of_page t))) d in
          rw (equal_true digest (sha256 (bytes_of_page t)) k.0, gathers t p k.1 h, append-nil (table t))

      gathers_from : (es : Entries Spelt (List ℕ)) → AllFrom P es → digests_right_from es ≡ true → All UnderDigest (pages_of_entries es)
          → gather_all f (links_after (raw_entries es)) ≡ some (table_from es)
      unfolding links_after raw_entries table digests_right pages_of together gather_all
      gathers_from end p d h = refl
      gathers_from (entry e g es) p d h =
          let k = and_inv (digests_right_under g) d in
          let i = all_split UnderDigest (pages_of_gap g) (pages_of_entries es) h in
          rw (
            gather_append f (link_list (link_of g)) (links_after (raw_entries es)),
            gathers_under g p.0 k.0 i.0,
            gathers_from es p.1 k.1 i.1,
          )

  pub gather_tree : (d : ℕ) (t : SpeltTree) → Good d t → digests_right t ≡ true → All UnderDigest (pages_of t)
      → gather d pages (sha256 (bytes_of_page t)) ≡ some (table t)
  unfolding gather gather_page table digests_right pages_of together raw_page
  gather_tree zero t g r h = absurd g
  gather_tree (suc d) (page g es) good r h =
      let k = and_inv (digests_right_under g) r in
      let i = all_split UnderDigest (pages_of_gap g) (pages_of_entries es) h.1 in
      rw (
        h.0,
        links_of (page g es) good.0,
        gather_append (gather d pages) (link_list (link_of g)) (links_after (raw_entries es)),
        gathers_under (gather d pages) (Good d) (gather_tree d) g good.1 k.0 i.0,
        gathers_from (gather d pages) (Good d) (gather_tree d) es good.2 k.1 i.1,
      )
