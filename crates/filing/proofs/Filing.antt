-- The loop over pages: each page gets a label, and the words that name its digest are passed.
use Prim.Native.Nat.{ℕ, suc, ◌+◌, ◌-◌, ◌^◌, ◌≤◌, ◌<◌}
use mathlib.Core.Path.{◌≡◌, refl, sym, ap, subst, ◌∙◌}
use mathlib.Core.Bool.{true, false, false≢true}
use mathlib.Core.List.{List}
use native.Mathlib.Omega.{arith}
use lib.ListN.{length, get_or, set}
use lib.Seq.{get_or-set_same, get_or-set_other}
use lib.Dec.{eqb, ltb}
use borrow.Author.Tests.{eqb-true, eqb-false, ltb-true, ltb-false}
use borrow.Table.Steps.{cases}
use Rattle.key.specs.Key.{less}
use Rattle.key.proofs.Laws.{less_transitive, less-connected}
use Rattle.page.specs.Page.{RawPage, page}
use Rattle.page_reader.specs.Place.{Reads}
use Rattle.promises.proofs.MapLaws.{Before, before_other}
use Rattle.filing.specs.Filed.{page_place, no_page, link_named, Staged, Matched, Filed, FilingSays}
use Rattle.filing.specs.Inner.{StandingPages, page_end, InStrings, Passed}
use Rattle.filing.proofs.Places.{page_read_at}
use Rattle.filing.proofs.Rises.{digest_at, pages_rise_at, all_rising, not_falling}

-- The first i pages have labels. The words before the j-th name their digests, and the j-th names a greater one. From there on the words
-- stand as at first.
pub record FiledSoFar (s p words : List ℕ) (total : ℕ) (raws : List RawPage) (labels : List ℕ) (i j : ℕ) : Type 0 where
  pub rest : (k : ℕ) → j ≤ k → get_or labels k 0 ≡ get_or words k 0
  pub taken : (k : ℕ) → k < i → (m : ℕ) × (m < total) × (get_or labels k 0 ≡ get_or words m 0)
  pub digests : (k : ℕ) → k < i → link_named s p (get_or labels k 0) ≡ digest_at raws k
  pub passed : (k : ℕ) → k < j → (m : ℕ) × (m < i) × (digest_at raws m ≡ link_named s p (get_or words k 0))
  pub rise : (k m : ℕ) → k < m → m < i → Before (digest_at raws k) (digest_at raws m)
  pub greater : (k : ℕ) → k < i → j < total → Before (digest_at raws k) (link_named s p (get_or words j 0))

pub none_filed : (s p words : List ℕ) (total : ℕ) (raws : List RawPage) → FiledSoFar s p words total raws words 0 0
none_filed s p words total raws = record {
  rest = λ k h. refl;
  taken = λ k h. absurd (omega arith);
  digests = λ k h. absurd (omega arith);
  passed = λ k h. absurd (omega arith);
  rise = λ k m h l. absurd (omega arith);
  greater = λ k h l. absurd (omega arith);
}

-- ---- what staged pages give
module _ {s p words : List ℕ} {total : ℕ} {pages : List ℕ} {n : ℕ} (g : Staged s p words total pages n) where
  abbrev pub standing_pages : StandingPages p pages n
  standing_pages = record { raws = g.raws; number = g.number; room = g.page_room; places = g.places }

  -- no word names a label of a chain, as there are no chains
  pub in_strings : (labels : List ℕ) (j : ℕ) → ((k : ℕ) → j ≤ k → get_or labels k 0 ≡ get_or words k 0) → InStrings labels j total
  in_strings labels j same k h l =
      cases (ltb (get_or labels k 0) (2 ^ 25))
      (λ q. ltb-true (get_or labels k 0) (2 ^ 25) q)
      (λ q. absurd (omega (arith, (g.names k l).chain (rw (← same k h) (ltb-false (get_or labels k 0) (2 ^ 25) q)))))

module _ {s p words : List ℕ} {total : ℕ} {pages : List ℕ} {n : ℕ} (g : Staged s p words total pages n) (labels : List ℕ) (i j : ℕ)
    (u : FiledSoFar s p words total g.raws labels i j) where
  abbrev word : ℕ → List ℕ
  word k = link_named s p (get_or words k 0)

  abbrev digest : ℕ → List ℕ
  digest = digest_at g.raws

  -- ---- one page more
  module _ (ahead : i ≤ j) (there : i < length labels) where
    abbrev labels' : List ℕ
    labels' = set labels i (get_or labels j 0)

    new_label : get_or labels' i 0 ≡ get_or labels j 0
    new_label = get_or-set_same labels i (get_or labels j 0) 0 there

    other_label : (k : ℕ) → (k ≡ i → ⊥) → get_or labels' k 0 ≡ get_or labels k 0
    other_label k f = get_or-set_other labels i k (get_or labels j 0) 0 f

    pub same_rest : (k : ℕ) → j ≤ k → get_or labels' k 0 ≡ get_or words k 0
    same_rest k h =
        cases (eqb k i)
        (λ q. let e : k ≡ i = eqb-true k i q in
        let f : i ≡ j = omega arith in
        ap (λ (x : ℕ). get_or labels' x 0) e ∙ new_label ∙ ap (λ (x : ℕ). get_or labels x 0) (sym f ∙ sym e) ∙ u.rest k h)
        (λ q. other_label k (eqb-false k i q) ∙ u.rest k h)

    -- the first i pages, or the i-th
    up_to {κ} : {C : Type κ} (k : ℕ) → k < i + 1 → (k < i → C) → (k ≡ i → C) → C
    up_to k h f e = cases (eqb k i) (λ q. e (eqb-true k i q)) (λ q. f (omega (arith, eqb-false k i q)))

    module _ (more : j < total) (found : List ℕ) (is : found ≡ digest i) (named : link_named s p (get_or labels j 0) ≡ found) (r : ℕ)
        (w : Passed s p labels' total j found r) where
      this_word : word j ≡ digest i
      this_word = ap (link_named s p) (sym (u.rest j (omega arith))) ∙ named ∙ is

      less_than_this : (k : ℕ) → k < i → Before (digest k) (digest i)
      less_than_this k h = rw (← this_word) (u.greater k h more)

      passed_word : (k : ℕ) → j ≤ k → k < r → word k ≡ digest i
      passed_word k h l = ap (link_named s p) (sym (same_rest k h)) ∙ w.same k h l ∙ is

      next_other : r < total → word r ≡ digest i → ⊥
      next_other l e = w.other l (ap (link_named s p) (same_rest r w.ahead) ∙ e ∙ sym is)

      pub goes_ahead : j < r
      goes_ahead =
          cases (eqb r j)
          (λ q. let e : r ≡ j = eqb-true r j q in absurd (next_other (omega arith) (ap word e ∙ this_word)))
          (λ q. omega (arith, eqb-false r j q, w.ahead))

      next_greater : r < total → Before (digest i) (word r)
      next_greater l =
          let e : suc (r - 1) ≡ r = omega (arith, goes_ahead) in
          let last : word (r - 1) ≡ digest i = passed_word (r - 1) (omega (arith, goes_ahead)) (omega (arith, goes_ahead)) in
          let order : less (word r) (word (r - 1)) ≡ false = subst (λ (x : ℕ). less (word x) (word (r - 1)) ≡ false) e (g.order (r - 1) (omega arith)) in
          let not_less : less (word r) (digest i) ≡ false = subst (λ (d : List ℕ). less (word r) d ≡ false) last order in
          less-connected (digest i) (word r) (λ q. q) (λ q. absurd (next_other l (sym q))) (λ q. absurd (false≢true (sym not_less ∙ q)))

      pub one_filed : FiledSoFar s p words total g.raws labels' (i + 1) r
      one_filed = record {
        rest = λ k h. same_rest k (omega (arith, w.ahead));
        taken = λ k h. up_to k h
            (λ l. let t = u.taken k l in (t.0, t.1, other_label k (λ e. omega arith) ∙ t.2))
            (λ e. (j, more, rw e (new_label ∙ u.rest j (omega arith))));
        digests = λ k h. up_to k h
            (λ l. ap (link_named s p) (other_label k (λ e. omega arith)) ∙ u.digests k l)
            (λ e. rw e (ap (link_named s p) new_label ∙ named ∙ is));
        passed = λ k h. cases (ltb k j)
            (λ q. let t = u.passed k (ltb-true k j q) in (t.0, omega (arith, t.1), t.2))
            (λ q. (i, omega arith, sym (passed_word k (ltb-false k j q) h)));
        rise = λ k m h l. up_to m l (λ t. u.rise k m h t) (λ e. rw e (less_than_this k (omega arith)));
        greater = λ k h l. up_to k h
            (λ t. less_transitive (digest k) (digest i) (word r) (less_than_this k t) (next_greater l))
            (λ e. rw e (next_greater l));
      }

  -- ---- words and pages that do not match
  module _ (m : Matched s p words total g.raws) where
    -- the words that were passed name the digests of earlier pages
    not_passed : i < n → (k : ℕ) → k < j → word k ≡ digest i → ⊥
    not_passed h k l e =
        let t = u.passed k l in
        before_other (digest t.0) (digest i) (pages_rise_at g.raws m.rise t.0 i t.1 (omega (arith, g.number))) (t.2 ∙ e)

    pub no_word_left : i < n → total ≤ j → ⊥
    no_word_left h l =
        let t = m.linked i (omega (arith, g.number)) in
        not_passed h t.0 (omega (arith, t.1)) t.2

    -- so a word from the j-th on names the i-th page's digest, and the j-th does not name a greater one
    not_greater : i < n → less (digest i) (word j) ≡ false
    not_greater h =
        let t = m.linked i (omega (arith, g.number)) in
        cases (ltb t.0 j)
        (λ q. absurd (not_passed h t.0 (ltb-true t.0 j q) t.2))
        (λ q. subst (λ (d : List ℕ). less d (word j) ≡ false) t.2 (not_falling word total g.order j t.0 (ltb-false t.0 j q) t.1))

    pub must_be_named : i < n → j < total → (found : List ℕ) → found ≡ digest i → (link_named s p (get_or labels j 0) ≡ found → ⊥) → ⊥
    must_be_named h l found is f =
        let t = m.present j l in
        cases (ltb t.0 i)
        (λ q. before_other (digest t.0) (word j) (u.greater t.0 (ltb-true t.0 i q) l) t.2)
        (λ q. cases (eqb t.0 i)
        (λ e. f (ap (link_named s p) (u.rest j (omega arith)) ∙ sym t.2 ∙ ap digest (eqb-true t.0 i e) ∙ sym is))
        (λ e.
        let later : i < t.0 = omega (arith, ltb-false t.0 i q, eqb-false t.0 i e) in
        let less-here : less (digest i) (word j) ≡ true = rw (← t.2) (pages_rise_at g.raws m.rise i t.0 later t.1) in
        false≢true (sym (not_greater h) ∙ less-here)))

    pub no_word_over : n ≤ i → j < total → ⊥
    no_word_over h l =
        let t = m.present j l in
        before_other (digest t.0) (word j) (u.greater t.0 (omega (arith, t.1, g.number)) l) t.2

  -- ---- all pages filed
  module _ (all : i ≡ n) (ahead : i ≤ j) (within : j ≤ total) (size : length labels ≡ length words) where
    stands : (k : ℕ) → k < n → (to : ℕ) × Reads page p (page_place (get_or pages k 0)) (get_or g.raws k no_page) to
    stands k h =
        let w = page_read_at (standing_pages g) k h in
        let e : get_or pages k 0 ≡ page_place (get_or pages k 0) = omega (arith, w.ahead, w.within, g.short) in
        (page_end p pages n k, subst (λ (x : ℕ). Reads page p x (get_or g.raws k no_page) (page_end p pages n k)) e w)

    rises : (k : ℕ) → suc k < n → Before (digest k) (digest (suc k))
    rises k h = u.rise k (suc k) (omega arith) (omega arith)

    all_filed : total ≤ j → Filed s p labels pages n g.raws
    all_filed h = record {
      reads = g.reads;
      number = g.number;
      short = g.short;
      room = omega (arith, g.room);
      page_room = g.page_room;
      places = stands;
      names = λ k l. let t = u.taken k (omega arith) in rw t.2 (g.names t.0 t.1);
      digests = λ k l. u.digests k (omega arith);
      order = λ k l. rw (u.digests k (omega arith), u.digests (suc k) (omega arith)) (rises k l);
      linked = λ d a.
          let v = g.links d a in
          let t = u.passed v.0 (omega (arith, v.1)) in
          (t.0, omega (arith, t.1), t.2 ∙ v.2);
    }

    pub filing_ends : FilingSays s p words total pages n g.raws (eqb j total) labels
    filing_ends =
        cases (eqb j total)
        (λ q. let e : j ≡ total = eqb-true j total q in
        rw q (record {
          filed = all_filed (omega arith);
          rise = all_rising g.raws (λ k h. rises k (omega (arith, g.number)));
          all = λ k h. let t = u.passed k (omega arith) in (t.0, omega (arith, t.1), t.2);
        }))
        (λ q. rw q (λ m. no_word_over m (omega arith) (omega (arith, eqb-false j total q))))
