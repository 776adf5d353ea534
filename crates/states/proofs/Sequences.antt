-- Reading a sequence of pages gives back the pages it was written from, and what is read is the sequence of its pages; a register is one.
use Prim.Native.Nat.{ℕ, zero, suc, ◌+◌, ◌≤◌}
use mathlib.Core.Path.{◌≡◌, refl, sym, ap, ap₂, ◌∙◌}
use mathlib.Core.List.{List, [], ◌∷◌, ◌++◌, append_assoc, map}
use native.Mathlib.Omega.{arith}
use lib.ListN.{length, length-append}
use Rattle.bytestring.specs.Bytes.{Bytes}
use Rattle.bytestring.proofs.Tools.{All, all_append}
use Rattle.page.specs.Reading.{read, and_then, concat}
use Rattle.page.specs.Page.{RawPage, page_bytes, page as page_at}
use Rattle.page.proofs.Readers.{read_sub, step, andThen-inv}
use Rattle.page.proofs.Pages.{GoodPage, page_reads, page_spells}
use Rattle.tree.specs.Tree.{page, Gap, empty, under, Entries, end, entry}
use Rattle.tree.specs.Record.{Spelt}
use Rattle.tree.specs.Table.{SpeltTree, raw_page, bytes_of_page, table, table_under, table_from}
use Rattle.tree.proofs.Laws.{AllUnder, AllFrom, Good}
use Rattle.promises.specs.Pages.{pages_of, pages_of_gap, pages_of_entries}
use Rattle.states.specs.Pages.{read_pages, sequence, bytes_of_each, pages_in}

-- ---- the bytes of a page
page_size : (p : RawPage) → 1 ≤ length (page_bytes p)
unfolding page_bytes
page_size p = omega arith

-- the bytes of a page with good fields
abbrev pub PageBytes : List ℕ → Type 0
PageBytes b = (p : RawPage) × (GoodPage p × (b ≡ page_bytes p))

-- ---- there
read_next : (n : ℕ) (p : RawPage) (rest : List ℕ)
    → read_pages (suc n) (page_bytes p ++ rest) ≡ and_then (page_at (page_bytes p ++ rest)) (λ q t. and_then (read_pages n t) (λ qs u. read (q ∷ qs) u))
unfolding read_pages page_bytes
read_next n p rest = refl

nothing_read : (n : ℕ) → read_pages n [] ≡ read [] []
unfolding read_pages
nothing_read zero = refl
nothing_read (suc n) = refl

pages_read_lem : (ps : List RawPage) (n : ℕ) → All GoodPage ps → length (concat page_bytes ps) ≤ n → read_pages n (concat page_bytes ps) ≡ read ps []
pages_read_lem [] n g h = nothing_read n
pages_read_lem (p ∷ ps) zero g h = absurd (omega (arith, page_size p, length-append (page_bytes p) (concat page_bytes ps)))
pages_read_lem (p ∷ ps) (suc n) g h =
    rw (
      read_next n p (concat page_bytes ps),
      page_reads p (concat page_bytes ps) g.0,
      pages_read_lem ps n g.1 (omega (arith, page_size p, length-append (page_bytes p) (concat page_bytes ps))),
    )

pub sequence_reads : (ps : List RawPage) → All GoodPage ps → sequence (concat page_bytes ps) ≡ read ps []
unfolding sequence
sequence_reads ps g = pages_read_lem ps (length (concat page_bytes ps)) g (omega arith)

-- the pages of a sequence that is written from bytes of pages
pub record RawPages (bs : List (List ℕ)) : Type 0 where
  pub raw : List RawPage
  pub good : All GoodPage raw
  pub are : map page_bytes raw ≡ bs
  pub spell : concat page_bytes raw ≡ concat (λ b. b) bs

pub raw_pages : (bs : List (List ℕ)) → All PageBytes bs → RawPages bs
raw_pages [] g = record { raw = []; good = tt; are = refl; spell = refl }
raw_pages (b ∷ bs) g =
    let w = raw_pages bs g.1 in
    record {
      raw = g.0.0 ∷ w.raw;
      good = (g.0.1.0, w.good);
      are = ap₂ (λ (x : List ℕ) (l : List (List ℕ)). x ∷ l) (sym g.0.1.1) w.are;
      spell = ap₂ (λ (x : List ℕ) (l : List ℕ). x ++ l) (sym g.0.1.1) w.spell;
    }

pub pages_in_lem : (bs : List (List ℕ)) → All PageBytes bs → pages_in (concat (λ b. b) bs) ≡ bs
unfolding pages_in bytes_of_each
pages_in_lem bs g =
    let w = raw_pages bs g in
    rw (← w.spell, sequence_reads w.raw w.good) w.are

-- ---- back
pub record Sequence (s : List ℕ) (ps : List RawPage) : Type 0 where
  pub spells : s ≡ concat page_bytes ps
  pub good : All GoodPage ps

back : (n : ℕ) (s rest : List ℕ) (ps : List RawPage) → Bytes s → length s ≤ n → read_pages n s ≡ read ps rest → Sequence s ps
unfolding read_pages
back zero [] rest ps b h q = read_sub (λ j r. Sequence [] j) q (record { spells = refl; good = tt })
back zero (x ∷ s) rest ps b h q = absurd (omega arith)
back (suc n) [] rest ps b h q = read_sub (λ j r. Sequence [] j) q (record { spells = refl; good = tt })
back (suc n) (x ∷ s) rest ps b h q =
    step page_spells (x ∷ s) b (λ p t e g bt.
    andThen-inv (read_pages n t) (λ l u k z.
    let i = back n t u l bt (omega (arith, ap length e, page_size p, length-append (page_bytes p) t)) k in
    read_sub (λ j r. Sequence (x ∷ s) j) z (record { spells = rw (← i.spells) e; good = (g, i.good) }))) q

pub sequence_back : (s rest : List ℕ) (ps : List RawPage) → Bytes s → sequence s ≡ read ps rest → Sequence s ps
unfolding sequence
sequence_back s rest ps b q = back (length s) s rest ps b (omega arith) q

-- ---- the table of a tree is the sequence of its pages
pub concat_append : (a b : List (List ℕ)) → concat (λ l. l) (a ++ b) ≡ concat (λ l. l) a ++ concat (λ l. l) b
concat_append [] b = refl
concat_append (x ∷ a) b = rw (concat_append a b, append_assoc x (concat (λ l. l) a) (concat (λ l. l) b))

mutual
  unfolding pages_of table

  pub table_pages : (t : SpeltTree) → table t ≡ concat (λ b. b) (pages_of t)
  table_pages (page g es) = rw (concat_append (pages_of_gap g) (pages_of_entries es), table_pages_under g, table_pages_from es)

  table_pages_under : (g : Gap Spelt (List ℕ)) → table_under g ≡ concat (λ b. b) (pages_of_gap g)
  table_pages_under empty = refl
  table_pages_under (under digest p) = table_pages p

  table_pages_from : (es : Entries Spelt (List ℕ)) → table_from es ≡ concat (λ b. b) (pages_of_entries es)
  table_pages_from end = refl
  table_pages_from (entry e g es) = rw (concat_append (pages_of_gap g) (pages_of_entries es), table_pages_under g, table_pages_from es)

mutual
  unfolding pages_of bytes_of_page

  pub pages_good : (t : SpeltTree) (d : ℕ) → Good d t → All PageBytes (pages_of t)
  pages_good (page g es) zero h = absurd h
  pages_good (page g es) (suc d) h =
      let below = all_append PageBytes (pages_of_gap g) (pages_of_entries es) (pages_good_under g d h.1) (pages_good_from es d h.2) in
      ((raw_page (page g es), (h.0, refl)), below)

  pages_good_under : (g : Gap Spelt (List ℕ)) (d : ℕ) → AllUnder (Good d) g → All PageBytes (pages_of_gap g)
  pages_good_under empty d h = tt
  pages_good_under (under digest p) d h = pages_good p d h

  pages_good_from : (es : Entries Spelt (List ℕ)) (d : ℕ) → AllFrom (Good d) es → All PageBytes (pages_of_entries es)
  pages_good_from end d h = tt
  pages_good_from (entry e g es) d h =
      all_append PageBytes (pages_of_gap g) (pages_of_entries es) (pages_good_under g d h.0) (pages_good_from es d h.1)

pub pages_in_table : (t : SpeltTree) (d : ℕ) → Good d t → pages_in (table t) ≡ pages_of t
pages_in_table t d h = ap pages_in (table_pages t) ∙ pages_in_lem (pages_of t) (pages_good t d h)
