-- What is gathered is the table of a tree whose pages stand in the sequence.
use Prim.Native.Nat.{ℕ, zero, suc}
use mathlib.Core.Path.{◌≡◌, refl, sym, ap, ap₂, subst, ◌∙◌}
use mathlib.Core.Bool.{true}
use mathlib.Core.Option.{Option, none, some, none-ne-some, some-injective}
use mathlib.Core.List.{List, [], ◌∷◌, ◌++◌, append-nil, map}
use Rattle.bytestring.proofs.Tools.{and_both, All, all_append}
use Rattle.bytestring.specs.Bytes.{equal}
use Rattle.bytestring.proofs.Equal.{equal_refl}
use Rattle.fips180.specs.Hash.{sha256}
use Rattle.page.specs.Reading.{read}
use Rattle.page.specs.Page.{RawEntry, RawPage, page_bytes, page as page_at}
use Rattle.page.proofs.Pages.{GoodPage, page_reads}
use Rattle.tree.specs.Tree.{page, Gap, empty, under, Entries, end, entry}
use Rattle.tree.specs.Record.{Record, Spelt}
use Rattle.tree.specs.Table.{SpeltTree, link_of, raw_entries, raw_page, bytes_of_page, table, table_under, table_from}
use Rattle.tree.specs.Judge.{digests_right, digests_right_under, digests_right_from}
use Rattle.tree.proofs.Laws.{AllUnder, AllFrom, Good}
use Rattle.promises.specs.Map.{find}
use Rattle.promises.specs.Promises.{Among}
use Rattle.promises.specs.Pages.{pages_of, pages_of_gap, pages_of_entries}
use Rattle.states.specs.Pages.{by_digest, link_list, links_after, links_of_read, together, gather_all, gather_page, gather}
use Rattle.states.proofs.Sequences.{PageBytes}
use Rattle.states.proofs.Gathering.{gather_append}
use Rattle.states.proofs.Filing.{all_each, each_all, find_all, FiledFrom}

-- ---- two strings together are both there
pub record Together (x y : Option (List ℕ)) (s : List ℕ) : Type 0 where
  pub first : List ℕ
  pub second : List ℕ
  pub left : x ≡ some first
  pub right : y ≡ some second
  pub whole : s ≡ first ++ second

pub together_inv : (x y : Option (List ℕ)) (s : List ℕ) → together x y ≡ some s → Together x y s
unfolding together
together_inv none y s h = absurd (none-ne-some _ h)
together_inv (some a) none s h = absurd (none-ne-some _ h)
together_inv (some a) (some b) s h =
    record { first = a; second = b; left = refl; right = refl; whole = sym (some-injective (a ++ b) s h) }

module _ (ps : List (List ℕ)) where
  abbrev pub AmongPages : List ℕ → Type 0
  AmongPages p = Among p ps

  -- pages of a list, filed by digest as they come
  pub as_listed : (qs : List (List ℕ)) → All AmongPages qs → All (FiledFrom ps) (map by_digest qs)
  as_listed [] a = tt
  as_listed (q ∷ qs) a = ((refl, a.0), as_listed qs a.1)

  pub record Gathered (d : ℕ) (digest s : List ℕ) : Type 0 where
    pub tree : SpeltTree
    pub bytes : s ≡ table tree
    pub good : Good d tree
    pub root : digest ≡ sha256 (bytes_of_page tree)
    pub digests : digests_right tree ≡ true
    pub within : All AmongPages (pages_of tree)

  module _ (d : ℕ) (f : List ℕ → Option (List ℕ)) (gives : (digest s : List ℕ) → f digest ≡ some s → Gathered d digest s) where
    record GatheredGap (o : Option (List ℕ)) (s : List ℕ) : Type 0 where
      gap : Gap Spelt (List ℕ)
      link : link_of gap ≡ o
      bytes : s ≡ table_under gap
      good : AllUnder (Good d) gap
      digests : digests_right_under gap ≡ true
      within : All AmongPages (pages_of_gap gap)

    gap_gives : (o : Option (List ℕ)) (s : List ℕ) → gather_all f (link_list o) ≡ some s → GatheredGap o s
    unfolding gather_all link_list link_of table pages_of digests_right
    gap_gives none s h = record { gap = empty; link = refl; bytes = sym (some-injective [] s h); good = tt; digests = refl; within = tt }
    gap_gives (some digest) s h =
        let b = together_inv (f digest) (some []) s h in
        let g = gives digest b.first b.left in
        let e : [] ≡ b.second = some-injective [] b.second b.right in
        record {
          gap = under digest g.tree;
          link = refl;
          bytes = b.whole ∙ ap (λ (l : List ℕ). b.first ++ l) (sym e) ∙ append-nil b.first ∙ g.bytes;
          good = g.good;
          digests = and_both (subst (λ (x : List ℕ). equal digest x ≡ true) g.root (equal_refl digest)) g.digests;
          within = g.within;
        }

    record GatheredEntries (es : List RawEntry) (s : List ℕ) : Type 0 where
      entries : Entries Spelt (List ℕ)
      raw : raw_entries entries ≡ es
      bytes : s ≡ table_from entries
      good : AllFrom (Good d) entries
      digests : digests_right_from entries ≡ true
      within : All AmongPages (pages_of_entries entries)

    entries_give : (es : List RawEntry) (s : List ℕ) → gather_all f (links_after es) ≡ some s → GatheredEntries es s
    unfolding gather_all links_after raw_entries table pages_of digests_right
    entries_give [] s h = record { entries = end; raw = refl; bytes = sym (some-injective [] s h); good = tt; digests = refl; within = tt }
    entries_give (e ∷ es) s h =
        let parts = sym (gather_append f (link_list e.after) (links_after es)) ∙ h in
        let b = together_inv (gather_all f (link_list e.after)) (gather_all f (links_after es)) s parts in
        let g = gap_gives e.after b.first b.left in
        let l = entries_give es b.second b.right in
        record {
          entries = entry (record { shares = e.shares; remainder = e.remainder; val = e.val }) g.gap l.entries;
          raw = λ i. record { shares = e.shares; remainder = e.remainder; after = g.link i; val = e.val } ∷ l.raw i;
          bytes = b.whole ∙ ap₂ (λ (x : List ℕ) (y : List ℕ). x ++ y) g.bytes l.bytes;
          good = (g.good, l.good);
          digests = and_both g.digests l.digests;
          within = all_append AmongPages (pages_of_gap g.gap) (pages_of_entries l.entries) g.within l.within;
        }

  abbrev pub file : List Record
  file = map by_digest ps

  pub file_from : All (FiledFrom ps) file
  file_from = as_listed ps (each_all AmongPages ps (λ p i. i))

  module _ (good : All PageBytes ps) where
    -- a page and what is gathered from its links
    page_joined : (d : ℕ) (f : List ℕ → Option (List ℕ)) (gives : (digest s : List ℕ) → f digest ≡ some s → Gathered d digest s)
        → (digest s p rest u v : List ℕ) (raw : RawPage) → GoodPage raw → p ≡ page_bytes raw → digest ≡ sha256 p → AmongPages p
        → s ≡ p ++ rest → rest ≡ u ++ v
        → GatheredGap d f gives raw.left u → GatheredEntries d f gives raw.entries v → Gathered (suc d) digest s
    unfolding table pages_of bytes_of_page raw_page digests_right
    page_joined d f gives digest s p rest u v raw fields spelt root i e₁ e₂ g l =
        let again : RawPage = record { entries = raw_entries l.entries; left = link_of g.gap } in
        let same : again ≡ raw = λ i. record { entries = l.raw i; left = g.link i } in
        let bytes : p ≡ page_bytes again = spelt ∙ ap page_bytes (sym same) in
        record {
          tree = page g.gap l.entries;
          bytes = rw (e₁, e₂, bytes, g.bytes, l.bytes);
          good = (subst GoodPage (sym same) fields, g.good, l.good);
          root = root ∙ ap sha256 bytes;
          digests = and_both g.digests l.digests;
          within = (subst AmongPages bytes i, all_append AmongPages (pages_of_gap g.gap) (pages_of_entries l.entries) g.within l.within);
        }

    module _ (d : ℕ) (gives : (digest s : List ℕ) → gather d file digest ≡ some s → Gathered d digest s) where
      page_gives : (digest s p : List ℕ) (raw : RawPage) → GoodPage raw → p ≡ page_bytes raw → digest ≡ sha256 p → AmongPages p
          → gather_page (gather d file) (some p) ≡ some s → Gathered (suc d) digest s
      unfolding gather_page links_of_read
      page_gives digest s p raw fields spelt root i h =
          let reads : page_at p ≡ read raw [] = ap page_at (spelt ∙ sym (append-nil (page_bytes raw))) ∙ page_reads raw [] fields in
          let b = together_inv (some p) (gather_all (gather d file) (links_of_read (page_at p))) s h in
          let links : gather_all (gather d file) (link_list raw.left ++ links_after raw.entries) ≡ some b.second =
          ap (λ r. gather_all (gather d file) (links_of_read r)) (sym reads) ∙ b.right in
          let c =
          together_inv (gather_all (gather d file) (link_list raw.left)) (gather_all (gather d file) (links_after raw.entries)) b.second
          (sym (gather_append (gather d file) (link_list raw.left) (links_after raw.entries)) ∙ links) in
          page_joined d (gather d file) gives digest s p b.second c.first c.second raw fields spelt root i
          (b.whole ∙ ap (λ (x : List ℕ). x ++ b.second) (sym (some-injective p b.first b.left))) c.whole
          (gap_gives d (gather d file) gives raw.left c.first c.left)
          (entries_give d (gather d file) gives raw.entries c.second c.right)

      found_gives : (digest s : List ℕ) (o : Option (List ℕ)) → find digest file ≡ o → gather_page (gather d file) o ≡ some s
          → Gathered (suc d) digest s
      unfolding gather_page
      found_gives digest s none e h = absurd (none-ne-some _ h)
      found_gives digest s (some p) e h =
          let at = find_all (FiledFrom ps) file digest p file_from e in
          let one = all_each PageBytes ps p good at.1 in
          page_gives digest s p one.0 one.1.0 one.1.1 at.0 at.1 h

    pub gather_back : (d : ℕ) (digest s : List ℕ) → gather d file digest ≡ some s → Gathered d digest s
    unfolding gather
    gather_back zero digest s h = absurd (none-ne-some _ h)
    gather_back (suc d) digest s h = found_gives d (gather_back d) digest s (find digest file) refl h
