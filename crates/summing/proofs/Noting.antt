-- The word and the count of one page, written.
use Prim.Native.Nat.{ℕ, suc, ◌≤◌, ◌<◌}
use mathlib.Core.Path.{◌≡◌, sym, ap, subst, ◌∙◌}
use mathlib.Core.List.{List}
use native.Mathlib.Omega.{arith}
use lib.Dec.{eqb}
use lib.ListN.{get_or, length-set}
use lib.Seq.{get_or-set_same, get_or-set_other}
use borrow.Author.Tests.{eqb-true, eqb-false}
use borrow.Table.Steps.{cases}
use Rattle.limits.specs.Limits.{deepest}
use Rattle.fips180.specs.Hash.{sha256}
use Rattle.page.specs.Page.{RawPage, page}
use Rattle.page_reader.specs.Place.{Reads}
use Rattle.promises.specs.Promises.{Among}
use Rattle.summaries.specs.Summary.{Summary, ReachedFrom}
use Rattle.sequence.specs.Noted.{links_by_place}
use Rattle.filing.specs.Filed.{page_place, no_page, bytes_at, pages_by_digest, Filed}
use Rattle.tree_keys.specs.Ends.{SummaryAt}
use Rattle.summing.specs.Summed.{page_note, page_mark, note_at, Summings, Reaching}
use Rattle.summing.specs.Inner.{PageNoted}

module _ {s p labels pages counts : List ℕ} {n : ℕ} {raws : List RawPage} (before : Summings s p labels pages counts n raws) {i place note mark count : ℕ} (h : i < n)
    {pages₁ counts₁ : List ℕ} (noted : PageNoted pages counts i place note mark count pages₁ counts₁) where
  word_here : get_or pages₁ i 0 ≡ noted.word
  word_here = rw (noted.words, get_or-set_same pages i noted.word 0 (omega (arith, before.filed.page_room)))

  word_other : (j : ℕ) → (i ≡ j → ⊥) → get_or pages₁ j 0 ≡ get_or pages j 0
  word_other j f = rw (noted.words, get_or-set_other pages i j noted.word 0 (λ e. f (sym e)))

  count_here : get_or counts₁ i 0 ≡ count
  count_here = rw (noted.numbers, get_or-set_same counts i count 0 (omega (arith, before.room)))

  count_other : (j : ℕ) → (i ≡ j → ⊥) → get_or counts₁ j 0 ≡ get_or counts j 0
  count_other j f = rw (noted.numbers, get_or-set_other counts i j count 0 (λ e. f (sym e)))

  pub note_here : note_at pages₁ i ≡ note
  note_here = ap page_note word_here ∙ noted.noted

  note_other : (j : ℕ) → (i ≡ j → ⊥) → note_at pages₁ j ≡ note_at pages j
  note_other j f = ap page_note (word_other j f)

  -- by the page itself or another
  by_page : (P : ℕ → Type 0) (j : ℕ) → P i → ((i ≡ j → ⊥) → P j) → P j
  by_page P j a b = cases (eqb i j) (λ q. subst P (eqb-true i j q) a) (λ q. b (eqb-false i j q))

  noted_filed : (to : ℕ) × Reads page p place (get_or raws i no_page) to → Filed s p labels pages₁ n raws
  noted_filed r =
      let f = before.filed in
      record {
        reads = f.reads;
        number = f.number;
        short = f.short;
        room = f.room;
        page_room = rw (noted.words, length-set pages i noted.word) f.page_room;
        places = λ j k.
            by_page (λ (m : ℕ). (to : ℕ) × Reads page p (page_place (get_or pages₁ m 0)) (get_or raws m no_page) to) j
            (rw (word_here, noted.stands) r)
            (λ other. rw (word_other j other) (f.places j k));
        names = f.names;
        digests = f.digests;
        order = f.order;
        linked = f.linked;
      }

  still_noted : 1 ≤ note → (c : ℕ) → 1 ≤ note_at pages c → 1 ≤ note_at pages₁ c
  still_noted k c l = by_page (λ (m : ℕ). 1 ≤ note_at pages₁ m) c (omega (arith, note_here)) (λ other. rw (note_other c other) l)

  pub noted_summings : (to : ℕ) × Reads page p place (get_or raws i no_page) to → 1 ≤ note
      → (note ≤ deepest → (x : Summary) × SummaryAt raws i x × (suc x.layer ≡ note) × (x.count ≡ count))
      → (deepest < note → get_or raws i no_page ≡ no_page)
      → ((digest : List ℕ) → Among digest (links_by_place (get_or raws i no_page)) → (c : ℕ) × (c < n) × (sha256 (bytes_at raws c) ≡ digest) × (1 ≤ note_at pages c))
      → Summings s p labels pages₁ counts₁ n raws
  noted_summings r k sum bare links = record {
    filed = noted_filed r;
    room = rw (noted.numbers, length-set counts i count) before.room;
    summed = λ j l.
        by_page (λ (m : ℕ). 1 ≤ note_at pages₁ m → note_at pages₁ m ≤ deepest
        → (x : Summary) × SummaryAt raws m x × (suc x.layer ≡ note_at pages₁ m) × (x.count ≡ get_or counts₁ m 0)) j
        (λ a b.
        let x = sum (omega (arith, note_here)) in
        (x.0, x.1, x.2 ∙ sym note_here, x.3 ∙ sym count_here))
        (λ other a b.
        let x = before.summed j l (rw (← note_other j other) a) (rw (← note_other j other) b) in
        (x.0, x.1, x.2 ∙ sym (note_other j other), x.3 ∙ sym (count_other j other)));
    alone = λ j l.
        by_page (λ (m : ℕ). deepest < note_at pages₁ m → get_or raws m no_page ≡ no_page) j
        (λ a. bare (omega (arith, note_here)))
        (λ other a. before.alone j l (rw (← note_other j other) a));
    closed = λ j l.
        by_page (λ (m : ℕ). 1 ≤ note_at pages₁ m → (digest : List ℕ) → Among digest (links_by_place (get_or raws m no_page))
        → (c : ℕ) × (c < n) × (sha256 (bytes_at raws c) ≡ digest) × (1 ≤ note_at pages₁ c)) j
        (λ a d e. let x = links d e in (x.0, x.1, x.2, still_noted k x.0 x.3))
        (λ other a d e.
        let x = before.closed j l (rw (← note_other j other) a) d e in
        (x.0, x.1, x.2, still_noted k x.0 x.3));
  }

  pub noted_reaching : {pages₀ counts₀ : List ℕ} {digest : List ℕ} → Reaching raws n mark digest pages₀ counts₀ pages counts → (1 ≤ note_at pages₀ i → ⊥)
      → ReachedFrom (pages_by_digest raws) digest (bytes_at raws i) → Reaching raws n mark digest pages₀ counts₀ pages₁ counts₁
  noted_reaching {pages₀} {counts₀} {digest} a new r = record {
    stays = λ j l k.
        let other : i ≡ j → ⊥ = λ e. new (rw e k) in
        let x = a.stays j l k in
        (word_other j other ∙ x.0, count_other j other ∙ x.1);
    fresh = λ j l k.
        by_page (λ (m : ℕ). 1 ≤ note_at pages₁ m → (page_mark (get_or pages₁ m 0) ≡ mark) × ReachedFrom (pages_by_digest raws) digest (bytes_at raws m)) j
        (λ b. (ap page_mark word_here ∙ noted.marked, r))
        (λ other b.
        let x = a.fresh j l k (rw (← note_other j other) b) in
        (ap page_mark (word_other j other) ∙ x.0, x.1));
  }
