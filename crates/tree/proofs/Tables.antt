-- Reading a table gives the tree it was written from, and what is read is the table of the tree.
use Prim.Native.Nat.{ℕ, zero, suc}
use mathlib.Core.Path.{◌≡◌, refl, sym, ap, ◌∙◌}
use mathlib.Core.Option.{Option, none, some}
use mathlib.Core.List.{List, [], ◌∷◌, ◌++◌, append_assoc}
use Rattle.page.specs.Reading.{read, Reader}
use Rattle.page.specs.Page.{RawEntry, page_bytes, page as page_at}
use Rattle.page.proofs.Readers.{ends_early≢read, departs≢read, read_sub, Spells, step}
use Rattle.page.proofs.Pages.{GoodPage, page_reads, page_spells}
use Rattle.tree.specs.Tree.{page, Gap, empty, under, Entries, end, entry}
use Rattle.tree.specs.Record.{Spelt}
use Rattle.tree.specs.Table.{SpeltTree, link_of, raw_entries, raw_page, bytes_of_page, table, table_under, table_from, read_under, read_from, read_tree}

-- ---- trees whose pages have good fields, at most so many deep
abbrev pub AllUnder : (SpeltTree → Type 0) → Gap Spelt (List ℕ) → Type 0
AllUnder P empty = Unit {0}
AllUnder P (under digest p) = P p

abbrev pub AllFrom : (SpeltTree → Type 0) → Entries Spelt (List ℕ) → Type 0
AllFrom P end = Unit {0}
AllFrom P (entry e g es) = AllUnder P g × AllFrom P es

abbrev pub Good : ℕ → SpeltTree → Type 0
Good zero t = ⊥
Good (suc d) (page g es) = GoodPage (raw_page (page g es)) × AllUnder (Good d) g × AllFrom (Good d) es

-- pages with good fields and the same bytes have the same fields
pub page_injective : (t u : SpeltTree) → GoodPage (raw_page t) → GoodPage (raw_page u) → bytes_of_page t ≡ bytes_of_page u → raw_page t ≡ raw_page u
unfolding bytes_of_page
page_injective t u g h e =
    let same : read (raw_page t) [] ≡ read (raw_page u) [] =
    sym (page_reads (raw_page t) [] g) ∙ ap (λ (s : List ℕ). page_at (s ++ [])) e ∙ page_reads (raw_page u) [] h in
    cc

-- ---- reading what was written
module _ (tree : Reader SpeltTree) (P : SpeltTree → Type 0) (reads : (t : SpeltTree) (rest : List ℕ) → P t → tree (table t ++ rest) ≡ read t rest) where
  under_reads : (g : Gap Spelt (List ℕ)) (rest : List ℕ) → AllUnder P g → read_under tree (link_of g) (table_under g ++ rest) ≡ read g rest
  unfolding read_under link_of table
  under_reads empty rest h = refl
  under_reads (under digest t) rest h = rw (reads t rest h)

  from_reads : (es : Entries Spelt (List ℕ)) (rest : List ℕ) → AllFrom P es → read_from tree (raw_entries es) (table_from es ++ rest) ≡ read es rest
  unfolding read_from raw_entries table
  from_reads end rest h = refl
  from_reads (entry e g es) rest h =
      rw (append_assoc (table_under g) (table_from es) rest, under_reads g (table_from es ++ rest) h.0, from_reads es rest h.1)

pub tree_reads : (d : ℕ) (t : SpeltTree) (rest : List ℕ) → Good d t → read_tree d (table t ++ rest) ≡ read t rest
unfolding read_tree table bytes_of_page raw_page
tree_reads zero t rest h = absurd h
tree_reads (suc d) (page g es) rest h =
    rw (
      append_assoc (page_bytes (raw_page (page g es))) (table_under g ++ table_from es) rest,
      page_reads (raw_page (page g es)) ((table_under g ++ table_from es) ++ rest) h.0,
      append_assoc (table_under g) (table_from es) rest,
      under_reads (read_tree d) (Good d) (tree_reads d) g (table_from es ++ rest) h.1,
      from_reads (read_tree d) (Good d) (tree_reads d) es rest h.2,
    )

-- ---- what is read is what would be written
module _ {tree : Reader SpeltTree} {P : SpeltTree → Type 0} (spells : Spells tree table P) where
  under_spells : (o : Option (List ℕ)) → Spells (read_under tree o) table_under (λ g. (link_of g ≡ o) × AllUnder P g)
  unfolding read_under link_of table
  under_spells none = record { back = λ s rest g b q. read_sub (λ j r. (s ≡ table_under j ++ r) × ((link_of j ≡ none) × AllUnder P j)) q (refl, (refl, tt)) }
  under_spells (some digest) = record {
    back = λ s rest g b.
        step spells s b (λ t s₁ e₁ g₁ b₁ q. read_sub (λ j r. (s ≡ table_under j ++ r) × ((link_of j ≡ some digest) × AllUnder P j)) q (e₁, (refl, g₁)));
  }

  from_spells : (rs : List RawEntry) → Spells (read_from tree rs) table_from (λ es. (raw_entries es ≡ rs) × AllFrom P es)
  unfolding read_from raw_entries table
  from_spells [] = record { back = λ s rest es b q. read_sub (λ j r. (s ≡ table_from j ++ r) × ((raw_entries j ≡ []) × AllFrom P j)) q (refl, (refl, tt)) }
  from_spells (r ∷ rs) = record {
    back = λ s rest es b.
        step (under_spells r.after) s b (λ g s₁ e₁ g₁ b₁.
        step (from_spells rs) s₁ b₁ (λ more s₂ e₂ g₂ b₂ q.
        read_sub (λ j u. (s ≡ table_from j ++ u) × ((raw_entries j ≡ r ∷ rs) × AllFrom P j)) q
        (rw (append_assoc (table_under g) (table_from more) s₂, e₁, e₂), (rw (g₁.0, g₂.0), (g₁.1, g₂.1)))));
  }

no_tree : (s rest : List ℕ) (t : SpeltTree) → read_tree zero s ≡ read t rest → ⊥
unfolding read_tree
no_tree [] rest t h = ends_early≢read h
no_tree (b ∷ s) rest t h = departs≢read h

pub tree_spells : (d : ℕ) → Spells (read_tree d) table (Good d)
unfolding read_tree table bytes_of_page raw_page
tree_spells zero = record { back = λ s rest t b h. absurd (no_tree s rest t h) }
tree_spells (suc d) = record {
  back = λ s rest t b.
      step page_spells s b (λ p s₁ e₁ g₁ b₁.
      step (under_spells (tree_spells d) p.left) s₁ b₁ (λ g s₂ e₂ g₂ b₂.
      step (from_spells (tree_spells d) p.entries) s₂ b₂ (λ es s₃ e₃ g₃ b₃ q.
      read_sub (λ j r. (s ≡ table j ++ r) × Good (suc d) j) q (
        rw (append_assoc (page_bytes (raw_page (page g es))) (table_under g ++ table_from es) s₃, append_assoc (table_under g) (table_from es) s₃, e₁, e₂, e₃, g₂.0, g₃.0),
        (rw (g₂.0, g₃.0) g₁, g₂.1, g₃.1),
      ))));
}
