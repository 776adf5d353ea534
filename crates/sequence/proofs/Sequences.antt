-- A sequence read page by page, in the facts that the branches of the code leave.
use Rattle.std.specs.Prelude.{Result, Ok, Err}
use Prim.Native.Nat.{ℕ, zero, suc, ◌+◌, ◌≤◌, ◌<◌}
use mathlib.Core.Path.{◌≡◌, refl, sym, ap, subst, ◌∙◌}
use mathlib.Core.List.{List, [], ◌∷◌, ◌++◌, append_assoc, append-nil}
use native.Mathlib.Omega.{arith}
use native.Mathlib.Numerals.{add-one}
use lib.ListN.{length, drop, get_or, set, length-append, length-drop, length-set, drop_of_length-le}
use lib.Seq.{get_or-set_same, get_or-set_other}
use lib.Dec.{eqb}
use borrow.Author.Tests.{eqb-true, eqb-false}
use borrow.Table.Steps.{cases}
use Rattle.page.specs.Reading.{Read, read, ends_early, departs, and_then}
use Rattle.page.specs.Page.{RawPage, page}
use Rattle.page_reader.specs.Place.{read_stop, link_at, PageHere, PageIs}
use Rattle.page_reader.specs.declared.Stop.{Stop}
use Rattle.page_reader.specs.declared.PageAt.{PageAt}
use Rattle.page_reader.proofs.Places.{then_stops}
use Rattle.states.specs.Pages.{read_pages, sequence, link_list, links_after}
use Rattle.sequence.specs.Noted.{links_by_place, links_of_all, PagesFrom, SequenceNoted}
use Rattle.sequence.specs.Inner.{LinksNoted, LinkNoted, EntriesNoted}
use Rattle.sequence.proofs.Sizes.{page_takes}

-- ---- one page, and then a sequence
then_same : {A B : Type 0} (r : Read A) (f g : A → List ℕ → Read B)
    → ((a : A) (t : List ℕ) → r ≡ read a t → f a t ≡ g a t) → and_then r f ≡ and_then r g
then_same (read a t) f g h = h a t refl
then_same ends_early f g h = refl
then_same departs f g h = refl

abbrev page_before : RawPage → Read (List RawPage) → Read (List RawPage)
page_before p r = and_then r (λ ps u. read (p ∷ ps) u)

no_pages : (most : ℕ) → read_pages most [] ≡ read [] []
unfolding read_pages
no_pages zero = refl
no_pages (suc most) = refl

-- a page takes a byte, so that as many pages as bytes are most
most_enough : (m n : ℕ) (s : List ℕ) → length s ≤ m → length s ≤ n → read_pages m s ≡ read_pages n s
unfolding read_pages
most_enough zero n [] h k = sym (no_pages n)
most_enough zero n (b ∷ s) h k = absurd (omega arith)
most_enough (suc m) n [] h k = sym (no_pages n)
most_enough (suc m) zero (b ∷ s) h k = absurd (omega arith)
most_enough (suc m) (suc n) (b ∷ s) h k =
    then_same (page (b ∷ s)) (λ p t. page_before p (read_pages m t)) (λ p t. page_before p (read_pages n t))
    (λ p t e. let fewer = page_takes (b ∷ s) p t e in ap (page_before p) (most_enough m n t (omega arith) (omega arith)))

pub sequence_none : sequence [] ≡ read [] []
unfolding sequence read_pages
sequence_none = refl

pub sequence_next : (s : List ℕ) → 0 < length s → sequence s ≡ and_then (page s) (λ p t. and_then (sequence t) (λ ps u. read (p ∷ ps) u))
unfolding sequence read_pages
sequence_next [] h = absurd (omega arith)
sequence_next (b ∷ s) h =
    then_same (page (b ∷ s)) (λ p t. page_before p (read_pages (length s) t)) (λ p t. page_before p (read_pages (length t) t))
    (λ p t e. let fewer = page_takes (b ∷ s) p t e in ap (page_before p) (most_enough (length s) (length t) t (omega arith) (omega arith)))

-- ---- a page that was read, where it stands
module _ (s : List ℕ) (at : ℕ) (got : Result PageAt Stop) (w : PageIs s at got) (p : PageAt) (q : got ≡ Ok p) where
  page_stands : PageHere s at p
  page_stands = subst (PageIs s at) q w

  pub page_ahead_lem : at + p.count + 2 ≤ p.end
  page_ahead_lem = omega (arith, page_stands.start.ahead, page_stands.row.ahead, page_stands.inside)

  pub page_inside : p.end ≤ length s
  page_inside = page_stands.whole.within

  pub left_low : p.left ≤ length s
  left_low =
      cases (eqb p.left 0)
      (λ z. omega (arith, eqb-true p.left 0 z))
      (λ z. omega (arith, page_stands.left (omega (arith, eqb-false p.left 0 z)), page_inside))

-- ---- the loop over pages
-- Pages were read up to a place, and are noted as far as there is room: where their words stand, others follow as they would from that place.
pub record SequenceSoFar (s links pages : List ℕ) (n m at : ℕ) : Type 0 where
  pub raws : List RawPage
  pub reads : (ps : List RawPage) → sequence (drop at s) ≡ read ps [] → sequence s ≡ read (raws ++ ps) []
  pub stops : (stop : Stop) → sequence (drop at s) ≡ read_stop stop → sequence s ≡ read_stop stop
  pub number : length raws ≡ n
  pub noted : LinksNoted s links m (links_of_all raws)
  pub places : n ≤ length pages → (words : List ℕ) → ((i : ℕ) → i < n → get_or words i 0 ≡ get_or pages i 0)
      → (ps : List RawPage) → PagesFrom s words n at ps → PagesFrom s words 0 0 (raws ++ ps)

links_more : (ps : List RawPage) (p : RawPage) → links_of_all (ps ++ (p ∷ [])) ≡ links_of_all ps ++ links_by_place p
unfolding links_of_all
links_more [] p = append-nil (links_by_place p)
links_more (q ∷ ps) p = rw (links_more ps p) (sym (append_assoc (links_by_place q) (links_of_all ps) (links_by_place p)))

pub sequence_begins : (s links pages : List ℕ) → SequenceSoFar s links pages 0 0 0
unfolding links_of_all
sequence_begins s links pages = record {
  raws = [];
  reads = λ ps e. e;
  stops = λ stop e. e;
  number = refl;
  noted = record { count = refl; stand = λ h. refl; within = λ h i k. absurd (omega arith) };
  places = λ h words same ps w. w;
}

module _ (s links pages : List ℕ) (n m at : ℕ) (u : SequenceSoFar s links pages n m at) where
  pub sequence_ends : length s ≤ at → at ≤ length s → SequenceNoted s links pages n m
  unfolding PagesFrom
  sequence_ends h k =
      let none_left : drop at s ≡ [] = drop_of_length-le s h in
      record {
        raws = u.raws;
        reads = rw append-nil at (u.reads [] (rw none_left sequence_none));
        number = u.number;
        count = u.noted.count;
        digests = u.noted.stand;
        within = u.noted.within;
        places = λ room. subst (PagesFrom s pages 0 0) (append-nil u.raws) (u.places room pages (λ i l. refl) [] (omega arith));
      }

  module _ (h : at < length s) (got : Result PageAt Stop) (w : PageIs s at got) where
    page_comes : sequence (drop at s) ≡ and_then (page (drop at s)) (λ p t. and_then (sequence t) (λ ps v. read (p ∷ ps) v))
    page_comes = sequence_next (drop at s) (omega (arith, length-drop at s))

    pub sequence_stops : (stop : Stop) → got ≡ Err stop → sequence s ≡ read_stop stop
    sequence_stops stop q = u.stops stop (page_comes ∙ then_stops _ stop (subst (PageIs s at) q w))

    module _ (p : PageAt) (q : got ≡ Ok p) where
      here : PageHere s at p
      here = page_stands s at got w p q

      abbrev page_read : RawPage
      page_read = record { entries = here.row.entries; left = link_at s p.left }

      page_passed : sequence (drop at s) ≡ page_before page_read (sequence (drop p.end s))
      page_passed = page_comes ∙ rw here.whole.reads

      reads_more : (ps : List RawPage) → sequence (drop p.end s) ≡ read ps [] → sequence s ≡ read ((u.raws ++ (page_read ∷ [])) ++ ps) []
      reads_more ps e = rw (append_assoc u.raws (page_read ∷ []) ps) (u.reads (page_read ∷ ps) (page_passed ∙ rw e))

      links_noted : (links₁ links₂ : List ℕ) (m₁ m₂ : ℕ)
          → EntriesNoted s p.first p.count links m links₁ m₁ → LinkNoted links₁ p.left m₁ links₂ m₂
          → LinksNoted s links₂ m₂ (links_of_all (u.raws ++ (page_read ∷ [])))
      unfolding EntriesNoted LinkNoted links_by_place
      links_noted links₁ links₂ m₁ m₂ entries left =
          let es = here.row.entries in
          let one = entries es p.past here.row.reads (links_of_all u.raws) u.noted in
          let two = left s (links_of_all u.raws ++ links_after es) (λ z. omega (arith, here.left z, here.whole.within)) one in
          rw (links_more u.raws page_read, ← append_assoc (links_of_all u.raws) (links_after es) (link_list (link_at s p.left))) two

      module _ (pages' : List ℕ) (e : pages' ≡ set pages n at) where
        places_more : n + 1 ≤ length pages' → (words : List ℕ) → ((i : ℕ) → i < n + 1 → get_or words i 0 ≡ get_or pages' i 0)
            → (ps : List RawPage) → PagesFrom s words (n + 1) p.end ps → PagesFrom s words 0 0 ((u.raws ++ (page_read ∷ [])) ++ ps)
        unfolding PagesFrom
        places_more room words same ps v =
            let there : n < length pages = omega (arith, ap length e, length-set pages n at) in
            let last : get_or words n 0 ≡ at = same n (omega arith) ∙ rw e (get_or-set_same pages n at 0 there) in
            let first : (i : ℕ) → i < n → get_or words i 0 ≡ get_or pages i 0 =
            λ i k. same i (omega arith) ∙ rw e (get_or-set_other pages n i at 0 (λ z. omega arith)) in
            rw (append_assoc u.raws (page_read ∷ []) ps)
            (u.places (omega arith) words first (page_read ∷ ps) (last, (p.end, here.whole, rw add-one at v)))

        pub sequence_goes_on : (links₁ links₂ : List ℕ) (m₁ m₂ : ℕ)
            → EntriesNoted s p.first p.count links m links₁ m₁ → LinkNoted links₁ p.left m₁ links₂ m₂
            → SequenceSoFar s links₂ pages' (n + 1) m₂ p.end
        sequence_goes_on links₁ links₂ m₁ m₂ entries left = record {
          raws = u.raws ++ (page_read ∷ []);
          reads = reads_more;
          stops = λ stop e. u.stops stop (page_passed ∙ then_stops _ stop e);
          number = omega (arith, length-append u.raws (page_read ∷ []), u.number);
          noted = links_noted links₁ links₂ m₁ m₂ entries left;
          places = places_more;
        }
