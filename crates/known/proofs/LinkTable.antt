-- The table of links: one link more, and the search for a digest.
use Prim.Native.Nat.{ℕ, zero, suc, ◌+◌, ◌-◌, ◌≤◌, ◌<◌}
use mathlib.Core.Path.{◌≡◌, refl, sym, ap, subst, ◌∙◌}
use mathlib.Core.Bool.{Bool, true, false, or-true, false≢true}
use mathlib.Core.List.{List, [], ◌∷◌, append-nil, map-append}
use native.Mathlib.Omega.{arith}
use native.Mathlib.Numerals.{add-one}
use lib.ListN.{length, take, drop, get_or, set, length-set}
use lib.Seq.{get_or-set_same, get_or-set_other, take-suc-set}
use lib.Dec.{eqb}
use borrow.Author.Tests.{eqb-true, eqb-false}
use borrow.Table.Steps.{cases}
use Rattle.bytestring.proofs.Equal.{equal_true, equal_refl, equal-cases}
use Rattle.bytestring.specs.Bytes.{equal}
use Rattle.page_reader.specs.Place.{link_at}
use Rattle.word.specs.Word.{place_in, older_in}
use Rattle.known.specs.Known.{link_or, is_among, LinkFits, first_bits, linked_digest, Leads, here, older, Linked, Tabled, digests_in, InTable, AddedLink}

-- ---- places
pub link_fits : (s : List ℕ) (at : ℕ) → LinkFits s at → (at ≡ 0 → ⊥) → at + 32 ≤ length s
link_fits s at h f = h (omega arith)

pub link_there : (s : List ℕ) (at : ℕ) → (at ≡ 0 → ⊥) → link_or (link_at s at) [] ≡ take 32 (drop at s) ∷ []
unfolding link_or link_at
link_there s zero f = absurd (f refl)
link_there s (suc before) f = refl

-- the 32 bytes from a place on, by its two ends
-- ---- one link more
pub no_link_added : (s heads words : List ℕ) (count at : ℕ) → Linked s heads words count → at ≡ 0 → AddedLink s words at count heads words count
unfolding link_or link_at
no_link_added s heads words count at l e = record {
  linked = l;
  few = omega arith;
  digests = sym (rw e (append-nil (digests_in s (take count words))));
}

module _ (s heads words : List ℕ) (count at b w : ℕ) (l : Linked s heads words count) (room : count < length words) (fits : LinkFits s at) (some : at ≡ 0 → ⊥)
    (eb : b ≡ first_bits (take 32 (drop at s))) (small : b < 4096) (ew : (place_in w ≡ at) × (older_in w ≡ get_or heads b 0)) where
  abbrev words' : List ℕ
  words' = set words count w

  abbrev heads' : List ℕ
  heads' = set heads b (count + 1)

  inside : at + 32 ≤ length s
  inside = link_fits s at fits some

  word_new : get_or words' count 0 ≡ w
  word_new = get_or-set_same words count w 0 room

  word_kept : (j : ℕ) → j < count → get_or words' j 0 ≡ get_or words j 0
  word_kept j h = get_or-set_other words count j w 0 (λ q. omega arith)

  head_new : get_or heads' b 0 ≡ suc count
  head_new = get_or-set_same heads b (count + 1) 0 (omega (arith, l.buckets)) ∙ add-one count

  head_kept : (f : ℕ) → (f ≡ b → ⊥) → get_or heads' f 0 ≡ get_or heads f 0
  head_kept f h = get_or-set_other heads b f (count + 1) 0 h

  -- by links before the new one
  leads_kept : {n m : ℕ} → Leads words n m → n ≤ count → Leads words' n m
  leads_kept here h = here
  leads_kept (older {n} {m} r) h = older {n = n} {m = m} (rw (word_kept n h) (leads_kept r (omega (arith, l.falls n h))))

  leads_still : (f j : ℕ) → Leads words (get_or heads f 0) (suc j) → Leads words' (get_or heads' f 0) (suc j)
  leads_still f j r =
      cases (eqb f b)
      (λ e.
      let q : f ≡ b = eqb-true f b e in
      let before : Leads words' (get_or heads b 0) (suc j) = leads_kept (subst (λ (x : ℕ). Leads words (get_or heads x 0) (suc j)) q r) (l.last b) in
      rw (q, head_new) (older {n = count} {m = suc j} (rw (word_new, ew.1) before)))
      (λ e. rw (head_kept f (eqb-false f b e)) (leads_kept r (l.last f)))

  new_last : (f : ℕ) → get_or heads' f 0 ≤ count + 1
  new_last f =
      cases (eqb f b)
      (λ e. rw (eqb-true f b e, head_new) (omega arith))
      (λ e. rw (head_kept f (eqb-false f b e)) (omega (arith, l.last f)))

  -- what holds of the words before and of the new one
  each_word : (P : ℕ → ℕ → Type 0) → ((j : ℕ) → j < count → P j (get_or words j 0)) → P count w → (j : ℕ) → j < count + 1 → P j (get_or words' j 0)
  each_word P f g j h =
      cases (eqb j count)
      (λ e. rw (eqb-true j count e, word_new) g)
      (λ e. let k : j < count = omega (arith, eqb-false j count e) in rw (word_kept j k) (f j k))

  new_found : Leads words' (get_or heads' (first_bits (take 32 (drop (place_in w) s))) 0) (suc count)
  new_found = rw (ew.0, ← eb, head_new) here

  new_linked : Linked s heads' words' (count + 1)
  new_linked = record {
    room = omega (arith, length-set words count w);
    buckets = length-set heads b (count + 1) ∙ l.buckets;
    places = l.places;
    numbers = omega (arith, length-set words count w, l.numbers);
    last = new_last;
    falls = each_word (λ j x. older_in x ≤ j) l.falls (omega (arith, ew.1, l.last b));
    within = each_word (λ _ x. place_in x + 32 ≤ length s) l.within (omega (arith, ew.0, inside));
    found = each_word (λ j x. Leads words' (get_or heads' (first_bits (take 32 (drop (place_in x) s))) 0) (suc j))
        (λ j h. leads_still (first_bits (linked_digest s words j)) j (l.found j h)) new_found;
  }

  pub link_added : AddedLink s words at count heads' words' (count + 1)
  link_added = record {
    linked = new_linked;
    few = omega arith;
    digests = rw (add-one count, take-suc-set words count w room, map-append, ew.0, link_there s at some);
  }

-- ---- the search
-- From the link numbered n one comes to each link with the digest that the first bits lead to.
pub record Seeking (s heads words digest : List ℕ) (n : ℕ) : Type 0 where
  pub low : (count : ℕ) → Linked s heads words count → n ≤ count
  pub onward : (m : ℕ) → linked_digest s words m ≡ digest → Leads words (get_or heads (first_bits digest) 0) (suc m) → Leads words n (suc m)

-- the digests of the first words, one by one
among_none : (s words digest : List ℕ) (count : ℕ) → ((j : ℕ) → j < count → linked_digest s words j ≡ digest → ⊥)
    → is_among (digests_in s (take count words)) digest ≡ false
unfolding is_among
among_none s words digest zero f = refl
among_none s [] digest (suc count) f = refl
among_none s (w ∷ words) digest (suc count) f =
    equal-cases (take 32 (drop (place_in w) s)) digest
    (λ e q. absurd (f 0 (omega arith) q))
    (λ e q. rw e (among_none s words digest count (λ j k. f (suc j) (omega arith))))

among_one : (s words digest : List ℕ) (count j : ℕ) → j < count → count ≤ length words → linked_digest s words j ≡ digest
    → is_among (digests_in s (take count words)) digest ≡ true
unfolding is_among
among_one s words digest zero j k h e = absurd (omega arith)
among_one s [] digest (suc count) j k h e = absurd (omega arith)
among_one s (w ∷ words) digest (suc count) zero k h e = rw (e, equal_refl digest)
among_one s (w ∷ words) digest (suc count) (suc j) k h e =
    rw (among_one s words digest count j (omega arith) (omega arith) e) (or-true (equal (take 32 (drop (place_in w) s)) digest))

leads_nowhere : {words : List ℕ} {n m : ℕ} → Leads words n m → n ≡ 0 → ⊥
leads_nowhere here e = omega arith
leads_nowhere (older r) e = omega arith

leads_past : {words : List ℕ} {n m : ℕ} → Leads words n m → (n ≡ m → ⊥) → Leads words (older_in (get_or words (n - 1) 0)) m
leads_past here f = absurd (f refl)
leads_past (older {n} {m} r) f = let z : suc n - 1 ≡ n = omega arith in rw z r

module _ (s heads words digest : List ℕ) (t : Tabled s heads words) where
  pub seeking_begins : (b : ℕ) → b ≡ first_bits digest → Seeking s heads words digest (get_or heads b 0)
  seeking_begins b e = record { low = λ count l. l.last b; onward = λ m q r. rw e r }

  module _ (n : ℕ) (u : Seeking s heads words digest n) where
    pub not_in_table : n ≡ 0 → InTable s heads words digest false
    not_in_table e count l =
        sym (among_none s words digest count (λ j h q. leads_nowhere (u.onward j q (rw (← q) (l.found j h))) e))

    module _ (f : n ≡ 0 → ⊥) where
      in_words : n - 1 < t.count
      in_words = omega (arith, u.low t.count t.linked)

      pub number_within : n - 1 < length words
      number_within = omega (arith, in_words, t.linked.room)

      pub number_falls : (next : ℕ) → next ≡ older_in (get_or words (n - 1) 0) → next < n
      number_falls next e = omega (arith, t.linked.falls (n - 1) in_words)

      module _ (at : ℕ) (place : at ≡ place_in (get_or words (n - 1) 0)) (r : Bool) (e : r ≡ equal (take 32 (drop at s)) digest) where
        compared : r ≡ equal (linked_digest s words (n - 1)) digest
        compared = e ∙ ap (λ (i : ℕ). equal (take 32 (drop i s)) digest) place

        pub is_in_table : r ≡ true → InTable s heads words digest true
        is_in_table h count l =
            sym (among_one s words digest count (n - 1) (omega (arith, u.low count l)) l.room (equal_true _ digest (sym compared ∙ h)))

        differs : r ≡ false → (m : ℕ) → linked_digest s words m ≡ digest → n ≡ suc m → ⊥
        differs h m q k =
            let z : n - 1 ≡ m = omega arith in
            false≢true (sym h ∙ compared ∙ rw (z, q, equal_refl digest))

        pub seeking_goes_on : r ≡ false → (next : ℕ) → next ≡ older_in (get_or words (n - 1) 0) → Seeking s heads words digest next
        seeking_goes_on h next g = record {
          low = λ count l. omega (arith, u.low count l, l.falls (n - 1) (omega (arith, u.low count l)));
          onward = λ m q w. rw g (leads_past (u.onward m q w) (differs h m q));
        }
