-- What was read ends where it would end if it were written: it takes as many bytes.
use Prim.Native.Nat.{ℕ, zero, suc, ◌+◌, ◌-◌, ◌≤◌}
use mathlib.Core.Path.{◌≡◌, refl, sym, ap, subst, ◌∙◌}
use mathlib.Core.Option.{Option, none, some}
use mathlib.Core.List.{List, [], ◌∷◌, ◌++◌}
use native.Mathlib.Omega.{arith}
use lib.ListN.{length, take, drop, length-drop}
use lib.Seq.{length-take-le}
use Rattle.bytestring.specs.Bytes.{Bytes}
use Rattle.value.specs.Value.{value_in}
use Rattle.page.specs.Reading.{read, Reader}
use Rattle.page.specs.Number.{number_bytes}
use Rattle.page.specs.Page.{link_bytes, gap_bytes, RawEntry, page_bytes}
use Rattle.page_reader.specs.Place.{link_at, EntryHere, PageHere}
use Rattle.page_reader.specs.declared.EntryAt.{EntryAt}
use Rattle.page_reader.specs.declared.PageAt.{PageAt}
use Rattle.page.proofs.Readers.{read_sub, andThen-inv, Spells, step}
use Rattle.page.proofs.Pages.{entry_spells}
use Rattle.page_reader.proofs.Spelling.{read_ends, reads_end, page_here, page_ends, page_part, page_count, page_first}
use Rattle.tree.specs.Tree.{page, Gap, Entries}
use Rattle.tree.specs.Record.{Spelt}
use Rattle.tree.specs.Table.{SpeltTree, link_of, raw_entries, raw_page, bytes_of_page, table, table_under, read_under, read_from, read_tree}
use Rattle.tree.specs.Place.{length_of_entry, first_entry}
use Rattle.tree.proofs.Tables.{tree_spells}
use Rattle.index.specs.Chain.{only_link}

-- ---- what the parts of a table are read from
pub under_link : (tree : Reader SpeltTree) (o : Option (List ℕ)) (l rest : List ℕ) (g : Gap Spelt (List ℕ)) → read_under tree o l ≡ read g rest → link_of g ≡ o
unfolding read_under link_of
under_link tree none l rest g h = read_sub (λ j r. link_of j ≡ none) h refl
under_link tree (some d) l rest g h = andThen-inv (tree l) (λ t u e q. read_sub (λ j r. link_of j ≡ some d) q refl) h

pub from_entries : (tree : Reader SpeltTree) (rs : List RawEntry) (l rest : List ℕ) (es : Entries Spelt (List ℕ)) → read_from tree rs l ≡ read es rest → raw_entries es ≡ rs
unfolding read_from raw_entries
from_entries tree [] l rest es h = read_sub (λ j r. raw_entries j ≡ []) h refl
from_entries tree (r ∷ rs) l rest es h =
    andThen-inv (read_under tree r.after l) (λ g u a q.
    andThen-inv (read_from tree rs u) (λ more v b z.
    read_sub (λ j x. raw_entries j ≡ r ∷ rs) z (rw (under_link tree r.after l u g a, from_entries tree rs u v more b))) q) h

-- ---- the table under a gap
under_spells : (d : ℕ) (o : Option (List ℕ)) → Spells (read_under (read_tree d) o) table_under (λ g. Unit {0})
unfolding read_under table
under_spells d none = record { back = λ s rest g b q. read_sub (λ j r. (s ≡ table_under j ++ r) × Unit {0}) q (refl, tt) }
under_spells d (some digest) = record {
  back = λ s rest g b. step (tree_spells d) s b (λ t u e _ _ q. read_sub (λ j r. (s ≡ table_under j ++ r) × Unit {0}) q (e, tt));
}

pub under_ends : (s : List ℕ) (d at to : ℕ) (o : Option (List ℕ)) (g : Gap Spelt (List ℕ)) → Bytes s → at ≤ length s → to ≤ length s
    → read_under (read_tree d) o (drop at s) ≡ read g (drop to s) → to ≡ at + length (table_under g)
under_ends s d at to o g b l h q = read_ends (under_spells d o) s at to g b l h q

-- ---- an entry
module _ (s : List ℕ) (at : ℕ) (e : EntryAt) (slice : Bytes s) (here : EntryHere s at e) where
  pub entry_ends : (g : Gap Spelt (List ℕ)) → link_of g ≡ link_at s e.link
      → e.end ≡ at + length_of_entry (record { shares = e.shares; remainder = take e.size (drop e.remainder s); val = value_in s e.value }) g
  entry_ends g q =
      rw q (reads_end entry_spells slice here.whole)

-- ---- a page of a tree
module _ (s : List ℕ) (at : ℕ) (p : PageAt) (slice : Bytes s) (here : PageHere s at p)
    (g : Gap Spelt (List ℕ)) (es : Entries Spelt (List ℕ)) (left : link_of g ≡ link_at s p.left) (row : raw_entries es ≡ here.row.entries) where
  pub tree_page_ends : p.end ≡ at + length (bytes_of_page (page g es))
  unfolding bytes_of_page raw_page
  tree_page_ends = rw (left, row) (page_ends slice here)

  pub tree_page_part : bytes_of_page (page g es) ≡ take (p.end - at) (drop at s)
  unfolding bytes_of_page raw_page
  tree_page_part = rw (left, row) (page_part slice here)

  pub tree_page_count : length (raw_entries es) ≡ p.count
  tree_page_count = ap length row ∙ page_count slice here

  pub tree_page_first : p.first ≡ at + first_entry es
  tree_page_first = rw row (page_first slice here)

pub none_read : (l : List RawEntry) → length l ≡ 0 → l ≡ []
none_read [] h = refl
none_read (e ∷ l) h = absurd (omega arith)

pub link_some : (s : List ℕ) (at : ℕ) → (at ≡ 0 → ⊥) → link_at s at ≡ some (take 32 (drop at s))
unfolding link_at
link_some s zero f = absurd (f refl)
link_some s (suc before) f = refl

-- ---- a page without entries, whose left link leads on
link_length : (d : List ℕ) → length d ≡ 32 → length (only_link d) ≡ 47
unfolding page_bytes number_bytes gap_bytes link_bytes
link_length d h = omega arith

pub link_page : (s : List ℕ) (at : ℕ) (p : PageAt) → Bytes s → PageHere s at p → p.count ≡ 0 → (p.left ≡ 0 → ⊥)
    → (p.end ≡ at + 47) × (p.left ≡ at + 15) × (take 47 (drop at s) ≡ only_link (take 32 (drop (at + 15) s)))
link_page s at p slice here none-there linked =
    let empty-row : here.row.entries ≡ [] = none_read here.row.entries (page_count slice here ∙ none-there) in
    let digest : List ℕ = take 32 (drop p.left s) in
    let label : link_at s p.left ≡ some digest = link_some s p.left linked in
    let last = here.left (omega (arith, linked)) in
    let size : length digest ≡ 32 = length-take-le 32 (drop p.left s) (omega (arith, length-drop p.left s, here.whole.within)) in
    let bytes : page_bytes (page_here slice here) ≡ only_link digest = rw (empty-row, label) in
    let whole : p.end ≡ at + 47 = omega (arith, page_ends slice here, ap length bytes, link_length digest size) in
    let place : p.left ≡ at + 15 = omega arith in
    let n : p.end - at ≡ 47 = omega arith in
    (whole, place, subst (λ (q : ℕ). take 47 (drop at s) ≡ only_link (take 32 (drop q s))) place (ap (λ (k : ℕ). take k (drop at s)) (sym n) ∙ sym (page_part slice here) ∙ bytes))
