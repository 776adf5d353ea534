-- The tables along a range of records, as the loop goes, and a page with its table by their parts.
use Prim.Native.Nat.{ℕ, zero, suc, ◌+◌, ◌-◌, ◌≤◌, ◌<◌}
use mathlib.Core.Path.{◌≡◌, refl, sym, ap, ◌∙◌}
use mathlib.Core.List.{List, [], ◌++◌, append_assoc}
use native.Mathlib.Omega.{arith}
use lib.ListN.{length, length-append}
use Rattle.page_writer.specs.Front.{page_start_bytes, page_end_bytes}
use Rattle.page_writer.proofs.Sizes.{page_parts}
use Rattle.tree.specs.Tree.{Page, page, Gap, Entries, Placed, part, page_of, build}
use Rattle.tree.specs.Record.{Record, spelt, spelt_under, spelt_from}
use Rattle.tree.specs.Table.{raw_entries, raw_page, bytes_of_page, table, table_under, table_from, digest_of}
use Rattle.layout.specs.Build.{span, gap_for, entries_at, entries_bytes, count_of}
use Rattle.layout.proofs.Ranges.{link_to, Cuts, no_entries, one_entry}
use Rattle.writer.specs.Wrote.{tables_of}

-- the table below a gap
abbrev pub table_in : Gap Record (List ℕ) → List ℕ
table_in g = table_under (spelt_under g)

-- ---- the tables below the entries, one by one
pub no_tables : (n : ℕ) (f : ℕ → Placed Record) (before : List ℕ) (i hi : ℕ) → hi ≤ i → tables_of before (entries_at n f i hi) ≡ []
unfolding table_from spelt_from
no_tables n f before i hi h = rw (no_entries n f i hi h)

module _ (n : ℕ) (f : ℕ → Placed Record) (before : List ℕ) (i hi next : ℕ) (h : i < hi) (e : (f i).layer ≡ n) (c : Cuts f n (i + 1) hi next) where
  abbrev gap : Gap Record (List ℕ)
  gap = gap_for n (span f (i + 1) (next - (i + 1)))

  pub tables_turn : tables_of before (entries_at n f i hi) ≡ table_in gap ++ tables_of (f i).item.key (entries_at n f next hi)
  unfolding table_from spelt_from
  tables_turn = rw (one_entry n f before i hi next h e c)

-- ---- a page and its table by their parts
build_is : (n : ℕ) (rs : List (Placed Record)) → build digest_of n rs ≡ page_of (gap_for n) (part n rs)
unfolding build gap_for
build_is zero rs = refl
build_is (suc n) rs = refl

page_bytes_lem : (g : Gap Record (List ℕ)) (es : Entries Record (List ℕ))
    → bytes_of_page (spelt (page g es)) ≡ (page_start_bytes (count_of [] es) ++ entries_bytes [] es) ++ page_end_bytes (link_to g)
unfolding bytes_of_page raw_page spelt
page_bytes_lem g es =
    page_parts (record { entries = raw_entries (spelt_from [] es); left = link_to g })
    ∙ sym (append_assoc (page_start_bytes (count_of [] es)) (entries_bytes [] es) (page_end_bytes (link_to g)))

page_table : (g : Gap Record (List ℕ)) (es : Entries Record (List ℕ)) → table (spelt (page g es)) ≡ bytes_of_page (spelt (page g es)) ++ (table_in g ++ tables_of [] es)
unfolding table spelt
page_table g es = refl

module _ (n : ℕ) (f : ℕ → Placed Record) (lo hi first : ℕ) (c : Cuts f n lo hi first) where
  abbrev tree : Page Record (List ℕ)
  tree = build digest_of n (span f lo (hi - lo))

  abbrev left : Gap Record (List ℕ)
  left = gap_for n (span f lo (first - lo))

  abbrev es : Entries Record (List ℕ)
  es = entries_at n f first hi

  page_is : tree ≡ page left es
  unfolding entries_at page_of
  page_is = build_is n (span f lo (hi - lo)) ∙ rw (c.first, c.rest)

  pub bytes_are : bytes_of_page (spelt tree) ≡ (page_start_bytes (count_of [] es) ++ entries_bytes [] es) ++ page_end_bytes (link_to left)
  bytes_are = rw page_is (page_bytes_lem left es)

  pub table_is : table (spelt tree) ≡ bytes_of_page (spelt tree) ++ (table_in left ++ tables_of [] es)
  table_is = rw page_is (page_table left es)

  pub page_length : length (bytes_of_page (spelt tree)) ≡ length (page_start_bytes (count_of [] es) ++ entries_bytes [] es) + length (page_end_bytes (link_to left))
  page_length = ap length bytes_are ∙ length-append (page_start_bytes (count_of [] es) ++ entries_bytes [] es) (page_end_bytes (link_to left))

  pub table_length : length (table (spelt tree)) ≡ length (bytes_of_page (spelt tree)) + length (table_in left ++ tables_of [] es)
  table_length = ap length table_is ∙ length-append (bytes_of_page (spelt tree)) (table_in left ++ tables_of [] es)

-- behind the first page
pub behind_page : Page Record (List ℕ) → List ℕ
behind_page (page g es) = table_in g ++ tables_of [] es

pub table_front : (t : Page Record (List ℕ)) → table (spelt t) ≡ bytes_of_page (spelt t) ++ behind_page t
unfolding behind_page
table_front (page g es) = page_table g es

pub table_longer : (t : Page Record (List ℕ)) → length (bytes_of_page (spelt t)) ≤ length (table (spelt t))
table_longer t = omega (arith, ap length (table_front t), length-append (bytes_of_page (spelt t)) (behind_page t))
