-- Pages that stand in a row: where each ends, and that the pages of a sequence do.
use Prim.Native.Nat.{ℕ, zero, suc, ◌+◌, ◌<◌}
use mathlib.Core.Path.{◌≡◌, refl, sym, ap, subst, ◌∙◌}
use mathlib.Core.List.{List, [], ◌∷◌}
use native.Mathlib.Omega.{arith}
use lib.ListN.{length, get_or, length-append}
use lib.Dec.{ltb}
use borrow.Author.Tests.{ltb-true, ltb-false}
use borrow.Table.Steps.{cases}
use Rattle.bytestring.specs.Bytes.{Bytes}
use Rattle.page.specs.Reading.{concat}
use Rattle.page.specs.Page.{RawPage, page_bytes, page}
use Rattle.page.proofs.Pages.{page_spells}
use Rattle.page_reader.specs.Place.{Reads}
use Rattle.page_reader.proofs.Spelling.{reads_end}
use Rattle.states.proofs.Sequences.{sequence_back}
use Rattle.sequence.specs.Noted.{PagesFrom}
use Rattle.filing.specs.Filed.{page_place, no_page, bytes_at, Staged, Filed}
use Rattle.filing.proofs.Places.{page_read_at}
use Rattle.filing.proofs.Filing.{standing_pages}
use Rattle.tree_keys.specs.Ends.{row_place, InRow}
use Rattle.tree_keys.specs.Inner.{place_after}

-- ---- places in a row
row_next : (raws : List RawPage) (i : ℕ) → i < length raws → row_place raws (suc i) ≡ row_place raws i + length (bytes_at raws i)
unfolding row_place
row_next [] i h = absurd (omega arith)
row_next (r ∷ raws) zero h = omega arith
row_next (r ∷ raws) (suc i) h = omega (arith, row_next raws i (omega arith))

row_whole : (raws : List RawPage) → row_place raws (length raws) ≡ length (concat page_bytes raws)
unfolding row_place
row_whole [] = refl
row_whole (r ∷ raws) = omega (arith, row_whole raws, length-append (page_bytes r) (concat page_bytes raws))

-- ---- the end of a filed page
module _ {s p labels pages : List ℕ} {n : ℕ} {raws : List RawPage} (b : Bytes p) (f : Filed s p labels pages n raws) (row : InRow pages n raws) (i : ℕ) (h : i < n) where
  place_follows : row_place raws (suc i) ≡ place_after p pages n i
  unfolding place_after
  place_follows =
      cases (ltb (suc i) n)
      (λ q. rw q (sym (row (suc i) (ltb-true (suc i) n q))))
      (λ q.
      let last : suc i ≡ length raws = omega (arith, f.number, ltb-false (suc i) n q) in
      rw q (ap (row_place raws) last ∙ row_whole raws ∙ ap length (sym (sequence_back p [] raws b f.reads).spells)))

  pub row_reads : Reads page p (page_place (get_or pages i 0)) (get_or raws i no_page) (place_after p pages n i)
  row_reads =
      let x = f.places i h in
      let e : x.0 ≡ place_after p pages n i = omega (arith, reads_end page_spells b x.1, row i h, row_next raws i (omega (arith, f.number)), place_follows) in
      subst (λ (to : ℕ). Reads page p (page_place (get_or pages i 0)) (get_or raws i no_page) to) e x.1

-- ---- the pages of a sequence stand in a row
row_from : (p words : List ℕ) → Bytes p → (k at : ℕ) (raws : List RawPage) → PagesFrom p words k at raws
    → (i : ℕ) → i < length raws → get_or words (k + i) 0 ≡ at + row_place raws i
unfolding PagesFrom row_place
row_from p words b k at [] w i h = absurd (omega arith)
row_from p words b k at (r ∷ raws) w zero h =
    let here : k + 0 ≡ k = omega arith in
    rw here (omega (arith, w.0))
row_from p words b k at (r ∷ raws) w (suc i) h =
    let next : k + suc i ≡ suc k + i = omega arith in
    rw next (omega (arith, row_from p words b (suc k) w.1.0 raws w.1.2 i (omega arith), reads_end page_spells b w.1.1))

pub staged_row : {s p words : List ℕ} {total : ℕ} {pages : List ℕ} {n : ℕ} → Bytes p → (g : Staged s p words total pages n) → InRow pages n g.raws
staged_row {p} {pages} b g i h =
    let w = page_read_at (standing_pages g) i h in
    let same : 0 + i ≡ i = omega arith in
    let e = row_from p pages b 0 0 g.raws g.places i (omega (arith, g.number)) in
    omega (arith, rw same at e, w.ahead, w.within, g.short)
