-- What the words of a sequence name: its pages, and the digests of their links.
use Prim.Native.Nat.{ℕ, zero, suc, ◌+◌, ◌≤◌, ◌<◌}
use mathlib.Core.Path.{◌≡◌, refl, sym, ap, subst, ◌∙◌}
use mathlib.Core.Logic.{inl, inr, ⊎_elim}
use mathlib.Core.List.{List, [], ◌∷◌}
use native.Mathlib.Omega.{arith}
use lib.ListN.{length, take, get_or, get_or-map}
use lib.Seq.{get_or-take}
use Rattle.value.specs.Value.{digest_in}
use Rattle.page.specs.Page.{RawPage, page}
use Rattle.page_reader.specs.Place.{Reads}
use Rattle.promises.specs.Promises.{Among}
use Rattle.sequence.specs.Noted.{links_of_all, PagesFrom, SequenceNoted}
use Rattle.sequence.specs.Inner.{blank_page}

-- ---- pages
page_from : (s words : List ℕ) (k at : ℕ) (raws : List RawPage) → PagesFrom s words k at raws
    → (i : ℕ) → i < length raws → (j : ℕ) → j ≡ k + i → (to : ℕ) × Reads page s (get_or words j 0) (get_or raws i blank_page) to
unfolding PagesFrom
page_from s words k at [] w i h j e = absurd (omega arith)
page_from s words k at (p ∷ ps) w zero h j e =
    let place : get_or words j 0 ≡ at = ap (λ (n : ℕ). get_or words n 0) {x = j} {y = k} (omega arith) ∙ w.0 in
    (w.1.0, rw place w.1.1)
page_from s words k at (p ∷ ps) w (suc i) h j e = page_from s words (suc k) w.1.0 ps w.1.2 i (omega arith) j (omega arith)

-- the i-th word is the place of the i-th page
pub page_at_lem : (s words : List ℕ) (raws : List RawPage) → PagesFrom s words 0 0 raws
    → (i : ℕ) → i < length raws → (to : ℕ) × Reads page s (get_or words i 0) (get_or raws i blank_page) to
page_at_lem s words raws w i h = page_from s words 0 0 raws w i h i (omega arith)

-- ---- links
at_among : (l : List (List ℕ)) (i : ℕ) (d : List ℕ) → i < length l → Among (get_or l i d) l
at_among [] i d h = absurd (omega arith)
at_among (x ∷ l) zero d h = inl refl
at_among (x ∷ l) (suc i) d h = inr (at_among l i d (omega arith))

among_at : (l : List (List ℕ)) (d x : List ℕ) → Among x l → (i : ℕ) × (i < length l) × (get_or l i d ≡ x)
among_at [] d x w = absurd w
among_at (y ∷ l) d x w =
    ⊎_elim
    (λ e. (0, omega arith, sym e))
    (λ v. let r = among_at l d x v in (suc r.0, omega (arith, r.1), r.2))
    w

module _ {s links pages : List ℕ} {n m : ℕ} (w : SequenceNoted s links pages n m) (room : m ≤ length links) where
  -- the i-th word is the place of the i-th link's digest
  pub link_place : (i : ℕ) → i < m → get_or (links_of_all w.raws) i (digest_in s 0) ≡ digest_in s (get_or links i 0)
  link_place i h =
      ap (λ (l : List (List ℕ)). get_or l i (digest_in s 0)) (sym (w.digests room)) ∙ get_or-map (digest_in s) (take m links) i 0
      ∙ ap (digest_in s) (get_or-take m links i 0 h)

  pub link_at : ((d : List ℕ) → Among d (links_of_all w.raws) → (i : ℕ) × (i < m) × (digest_in s (get_or links i 0) ≡ d))
      × ((i : ℕ) → i < m → Among (digest_in s (get_or links i 0)) (links_of_all w.raws))
  link_at = (
    λ d v.
        let r = among_at (links_of_all w.raws) (digest_in s 0) d v in
        let h : r.0 < m = omega (arith, r.1, w.count) in
        (r.0, h, sym (link_place r.0 h) ∙ r.2),
    λ i h.
        subst (λ (d : List ℕ). Among d (links_of_all w.raws)) (link_place i h)
        (at_among (links_of_all w.raws) i (digest_in s 0) (omega (arith, w.count))),
  )
