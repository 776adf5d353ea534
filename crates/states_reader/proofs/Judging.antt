-- The roots judged one after the other: what they reach, and with which mark.
use Rattle.std.specs.Prelude.{Some, None, Option as OptionOf}
use Rattle.std.specs.Option.{option_eq}
use Rattle.std.proofs.lemmas.Option.{none-some, same_Some}
use Prim.Native.Nat.{ℕ, zero, suc, ◌+◌, ◌≤◌, ◌<◌}
use mathlib.Core.Path.{◌≡◌, refl, sym, ap, subst, ◌∙◌}
use mathlib.Core.Bool.{Bool, true, false, not, false≢true}
use mathlib.Core.Logic.{⊎_elim}
use mathlib.Core.Option.{some-injective}
use mathlib.Core.List.{List}
use native.Mathlib.Omega.{arith}
use lib.Dec.{eqb, ltb}
use lib.ListN.{length, get_or, replicate, length-replicate, get_or-replicate}
use borrow.Author.Tests.{eqb-true, eqb-false, ne_eqb, ltb-true, ltb-false}
use borrow.Table.Steps.{cases}
use Rattle.bytestring.specs.Bytes.{Bytes}
use Rattle.fips180.specs.Hash.{sha256}
use Rattle.limits.specs.Limits.{longest_key}
use Rattle.page.specs.Page.{RawPage, page}
use Rattle.promises.specs.Map.{find}
use Rattle.promises.specs.Promises.{Among}
use Rattle.promises.proofs.MapLaws.{before_other}
use Rattle.states.specs.Pages.{links_of_read}
use Rattle.summaries.specs.Summary.{is_root, ReachedIn, ReachedFrom}
use Rattle.filing.specs.Filed.{no_page, bytes_at, link_named, Filed}
use Rattle.filing.proofs.Rises.{pages_rise_at}
use Rattle.tree_keys.specs.Ends.{KeptKeys}
use Rattle.tree_keys.proofs.Following.{pages_rise, order_links}
use Rattle.summing.specs.Summed.{page_mark, note_at, Summings, RootSays}
use Rattle.summing.specs.Inner.{raws_in, file_of, LeadsOn, JudgedAt}
use Rattle.summing.proofs.Reaching.{judged_stays}
use Rattle.summing.proofs.Pages.{page_found, page_back}
use Rattle.gathering.specs.Gathered.{Notes}
use Rattle.states_reader.specs.Held.{most_pages}
use Rattle.states_reader.specs.Inner.{is_own, root_digest, Rooted, Judging, RootJudged, WordSays, ReachedByOther, OthersJudged, SomeWrong, OthersSay, RootsJudged, JudgedSays}
use Rattle.states_reader.proofs.Noting.{up_to}

-- ---- noted pages are closed under links
-- pages of one digest are one page
pub one_page_lem : {s p labels pages : List ℕ} {n : ℕ} (f : Filed s p labels pages n (raws_in p)) (c d : ℕ) → c < n → d < n
    → sha256 (bytes_at (raws_in p) c) ≡ sha256 (bytes_at (raws_in p) d) → c ≡ d
one_page_lem {p = p} f c d h l e =
    let digest : ℕ → List ℕ = λ i. sha256 (bytes_at (raws_in p) i) in
    cases (ltb c d)
    (λ q.
    absurd (before_other (digest c) (digest d) (pages_rise_at (raws_in p) (pages_rise f) c d (ltb-true c d q) (omega (arith, f.number))) e))
    (λ q. cases (ltb d c)
    (λ r.
    absurd (before_other (digest d) (digest c) (pages_rise_at (raws_in p) (pages_rise f) d c (ltb-true d c r) (omega (arith, f.number))) (sym e)))
    (λ r. omega (arith, ltb-false c d q, ltb-false d c r)))

module _ {s p labels pages counts : List ℕ} {n : ℕ} (u : Summings s p labels pages counts n (raws_in p)) (b : Bytes p) where
  -- what is reached from the digest of a noted page is noted
  reached_noted : (m : ℕ) (digest : List ℕ) → JudgedAt p n pages digest → (q : List ℕ) → ReachedIn (file_of p) m digest q
      → (c : ℕ) × (c < n) × (bytes_at (raws_in p) c ≡ q) × (1 ≤ note_at pages c)
  unfolding ReachedIn links_of_read
  reached_noted zero digest j q r = absurd r
  reached_noted (suc m) digest (c, h, e, k) q (l, found, r) =
      let here : bytes_at (raws_in p) c ≡ l =
      some-injective (bytes_at (raws_in p) c) l (sym (page_found u.filed c h) ∙ ap (λ (d : List ℕ). find d (file_of p)) e ∙ found) in
      ⊎_elim
      (λ same. (c, h, here ∙ sym same, k))
      (λ w.
      let there : Among w.0 (links_of_read (page (bytes_at (raws_in p) c))) = rw here w.1 in
      let among = rw (page_back u.filed b c h) at there in
      let next = u.closed c h k w.0 (order_links (get_or (raws_in p) c no_page) w.0 among) in
      reached_noted m w.0 next q w.2)
      r

  pub noted_on : (digest : List ℕ) → JudgedAt p n pages digest → (c : ℕ) → c < n → ReachedFrom (file_of p) digest (bytes_at (raws_in p) c)
      → 1 ≤ note_at pages c
  noted_on digest j c h (m, r) =
      let w = reached_noted m digest j (bytes_at (raws_in p) c) r in
      let same : w.0 ≡ c = one_page_lem u.filed w.0 c w.1 h (ap sha256 w.2) in
      subst (λ (x : ℕ). 1 ≤ note_at pages x) same w.3

  notes_of : Notes s p labels pages n (raws_in p)
  notes_of = record {
    filed = u.filed;
    layers = λ i h k l. let x = u.summed i h k l in (x.0, x.1, x.2);
    alone = u.alone;
  }

-- a page is noted now, or was not
noted-or {κ} : {C : Type κ} (pages : List ℕ) (c : ℕ) → (note_at pages c ≡ 0 → C) → (1 ≤ note_at pages c → C) → C
noted-or pages c f g =
    cases (eqb (note_at pages c) 0) (λ q. f (eqb-true (note_at pages c) 0 q)) (λ q. g (omega (arith, eqb-false (note_at pages c) 0 q)))

-- one's own root, or another
pub not_own : (own : OptionOf ℕ) (i : ℕ) → (own ≡ Some i → ⊥) → is_own own i ≡ false
not_own None i f = refl
not_own (Some o) i f = ne_eqb i o (λ q. f (ap (λ (x : ℕ). Some x) (sym q)))

pub is_other : (own : OptionOf ℕ) (i : ℕ) → is_own own i ≡ false → own ≡ Some i → ⊥
is_other own i h e = eqb-false i i (subst (λ (o : OptionOf ℕ). is_own o i ≡ false) e h) refl

-- the test of a position
pub is_mine : (own : OptionOf ℕ) (i : ℕ) → option_eq eqb own (Some i) ≡ true → own ≡ Some i
is_mine None i h = absurd (false≢true h)
is_mine (Some o) i h = ap (λ (x : ℕ). Some x) (eqb-true o i h)

pub not_mine : (own : OptionOf ℕ) (i : ℕ) → option_eq eqb own (Some i) ≡ false → own ≡ Some i → ⊥
not_mine None i h e = none-some i e
not_mine (Some o) i h e = eqb-false o i h (same_Some o i e)

-- ---- the others, one after the other
pub no_others : (s p roots : List ℕ) (n : ℕ) (own : OptionOf ℕ) (pages : List ℕ) → ((c : ℕ) → c < n → note_at pages c ≡ 0) → OthersJudged s p roots n own 0 pages
no_others s p roots n own pages f = record {
  right = λ j h. absurd (omega arith);
  noted = λ j h. absurd (omega arith);
  reached = λ c h k. absurd (omega (arith, f c h));
}

module _ {s p roots : List ℕ} {n : ℕ} {own : OptionOf ℕ} {i : ℕ} {pages : List ℕ} (u : OthersJudged s p roots n own i pages) where
  pub own_left_out : own ≡ Some i → OthersJudged s p roots n own (i + 1) pages
  own_left_out e = record {
    right = λ j h f. up_to i j h (λ l. u.right j l f) (λ q. absurd (f (e ∙ ap (λ (x : ℕ). Some x) (sym q))));
    noted = λ j h f. up_to i j h (λ l. u.noted j l f) (λ q. absurd (f (e ∙ ap (λ (x : ℕ). Some x) (sym q))));
    reached = λ c h k. let w = u.reached c h k in (w.0, (w.1.0, omega (arith, w.1.1), w.1.2, w.1.3));
  }

  module _ {counts pages' counts' : List ℕ} (j : RootJudged p n (root_digest s p roots i) 1 pages counts pages' counts') (f : own ≡ Some i → ⊥) where
    pub others_more : OthersJudged s p roots n own (i + 1) pages'
    others_more = record {
      right = λ k h g. up_to i k h (λ l. u.right k l g) (λ e. rw e j.right);
      noted = λ k h g. up_to i k h (λ l. judged_stays p j.grown (root_digest s p roots k) (u.noted k l g)) (λ e. rw e j.noted);
      reached = λ c h k.
          noted-or pages c
          (λ z. let w = j.grown.fresh c h z k in (w.0, (i, omega arith, f, w.1)))
          (λ o.
          let w = u.reached c h o in
          (ap page_mark (j.grown.stays c h o).0 ∙ w.0, (w.1.0, omega (arith, w.1.1), w.1.2, w.1.3)));
    }

-- ---- all
module _ {s p labels roots : List ℕ} {count : ℕ} {own : OptionOf ℕ} {n : ℕ} {pages counts : List ℕ} (b : Bytes p) (u : OthersJudged s p roots n own count pages)
    (v : Summings s p labels pages counts n (raws_in p)) where
  by_other : (c : ℕ) → c < n → ReachedByOther s p roots own count (bytes_at (raws_in p) c) → 1 ≤ note_at pages c
  by_other c h w = noted_on v b (root_digest s p roots w.0) (u.noted w.0 w.1 w.2) c h w.3

  pub without_own : own ≡ None → RootsJudged s p labels roots count own n pages
  without_own l = record {
    notes = notes_of v b;
    right = λ j h. u.right j h (λ e. none-some j (sym l ∙ e));
    reached = λ c h k. let w = (u.reached c h k).1 in (w.0, w.1, w.3);
    noted = λ c h j g r. by_other c h (j, g, (λ e. none-some j (sym l ∙ e)), r);
    marked = λ c h k m. (u.reached c h k).1;
    unmarked = λ c h w. (u.reached c h (by_other c h w)).0;
  }

  module _ {pages' counts' : List ℕ} {mine : ℕ} (is : own ≡ Some mine) (there : mine < count)
      (j : RootJudged p n (root_digest s p roots mine) 0 pages counts pages' counts')
      (v' : Summings s p labels pages' counts' n (raws_in p)) where
    own-or {κ} : {C : Type κ} (k : ℕ) → (k ≡ mine → C) → ((own ≡ Some k → ⊥) → C) → C
    own-or k f g = cases (eqb k mine) (λ q. f (eqb-true k mine q)) (λ q. g (λ e. eqb-false k mine q (sym (same_Some mine k (sym is ∙ e)))))

    pub with_own : RootsJudged s p labels roots count own n pages'
    with_own = record {
      notes = notes_of v' b;
      right = λ k h. own-or k (λ e. rw e j.right) (λ f. u.right k h f);
      reached = λ c h k.
          noted-or pages c
          (λ z. (mine, there, (j.grown.fresh c h z k).1))
          (λ o. let w = (u.reached c h o).1 in (w.0, w.1, w.3));
      noted = λ c h k g r.
          noted_on v' b (root_digest s p roots k)
          (own-or k (λ e. rw e j.noted) (λ f. judged_stays p j.grown (root_digest s p roots k) (u.noted k g f))) c h r;
      marked = λ c h k m.
          noted-or pages c
          (λ z. absurd (omega (arith, (j.grown.fresh c h z k).0)))
          (λ o. (u.reached c h o).1);
      unmarked = λ c h w.
          let o = by_other c h w in
          ap page_mark (j.grown.stays c h o).0 ∙ (u.reached c h o).0;
    }

-- ---- one root
module _ {s p labels pages counts keys tags last : List ℕ} {n : ℕ} (u : Judging s p labels pages counts keys tags last n) (word : ℕ)
    (leads : LeadsOn p n (link_named s p word)) where
  pub root_there : (i : ℕ) × (i < n) × (link_named s p (get_or labels i 0) ≡ link_named s p word)
  root_there = (leads.0, leads.1, u.summings.filed.digests leads.0 leads.1 ∙ leads.2)

  module _ (i : ℕ) (h : i < n) (e : link_named s p (get_or labels i 0) ≡ link_named s p word) where
    digest_is : sha256 (bytes_at (raws_in p) i) ≡ link_named s p word
    digest_is = sym (u.summings.filed.digests i h) ∙ e

    pub root_says : (mark : ℕ) (r : Bool) (pages' counts' keys' tags' last' : List ℕ) → RootSays s p labels pages counts n i mark r pages' counts'
        → ((raws : List RawPage) → Summings s p labels pages counts n raws → r ≡ true → KeptKeys raws n keys' tags')
        → length tags' ≡ length tags → length last' ≡ length last
        → WordSays s p labels n (link_named s p word) mark pages counts r pages' counts' keys' tags' last'
    root_says mark true pages' counts' keys' tags' last' says keeps k l =
        let w = says (raws_in p) u.summings in (
          record {
            right = rw (← digest_is) w.0;
            grown = rw (← digest_is) w.2;
            noted = (i, h, digest_is, w.3);
          },
          record {
            summings = w.1;
            kept = keeps (raws_in p) u.summings refl;
            places = omega (arith, u.places);
            room = l ∙ u.room;
          },
        )
    root_says mark false pages' counts' keys' tags' last' says keeps k l = rw (← digest_is) (says (raws_in p) u.summings)

-- the answer by cases
module _ (s p labels : List ℕ) (n : ℕ) (digest : List ℕ) (mark : ℕ) (pages counts : List ℕ) where
  pub root_right : (r : Bool) (pages' counts' keys' tags' last' : List ℕ)
      → WordSays s p labels n digest mark pages counts r pages' counts' keys' tags' last' → not r ≡ false
      → RootJudged p n digest mark pages counts pages' counts' × Judging s p labels pages' counts' keys' tags' last' n
  root_right true pages' counts' keys' tags' last' w q = w
  root_right false pages' counts' keys' tags' last' w q = absurd (false≢true (sym q))

  pub root_wrong : (r : Bool) (pages' counts' keys' tags' last' : List ℕ)
      → WordSays s p labels n digest mark pages counts r pages' counts' keys' tags' last' → not r ≡ true → is_root (file_of p) digest ≡ false
  root_wrong true pages' counts' keys' tags' last' w q = absurd (false≢true q)
  root_wrong false pages' counts' keys' tags' last' w q = w

module _ (s p labels roots : List ℕ) (count : ℕ) (own : OptionOf ℕ) (n : ℕ) where
  pub others_right : (r : Bool) (pages' counts' keys' tags' last' : List ℕ)
      → OthersSay s p labels roots count own n r pages' counts' keys' tags' last' → not r ≡ false
      → OthersJudged s p roots n own count pages' × Judging s p labels pages' counts' keys' tags' last' n
  others_right true pages' counts' keys' tags' last' w q = w
  others_right false pages' counts' keys' tags' last' w q = absurd (false≢true (sym q))

  pub others_wrong : (r : Bool) (pages' counts' keys' tags' last' : List ℕ)
      → OthersSay s p labels roots count own n r pages' counts' keys' tags' last' → not r ≡ true → SomeWrong s p roots count
  others_wrong true pages' counts' keys' tags' last' w q = absurd (false≢true q)
  others_wrong false pages' counts' keys' tags' last' w q = w

  pub others_end : {i : ℕ} {pages' counts' keys' tags' last' : List ℕ} → OthersJudged s p roots n own i pages'
      → Judging s p labels pages' counts' keys' tags' last' n → i ≤ count → count ≤ i
      → OthersSay s p labels roots count own n true pages' counts' keys' tags' last'
  others_end {i} {pages'} u v h l = let e : i ≡ count = omega arith in (subst (λ (x : ℕ). OthersJudged s p roots n own x pages') e u, v)

  pub judged_right : (r : Bool) (pages' : List ℕ) → JudgedSays s p labels roots count own n r pages' → not r ≡ false
      → RootsJudged s p labels roots count own n pages'
  judged_right true pages' w q = w
  judged_right false pages' w q = absurd (false≢true (sym q))

  pub judged_wrong : (r : Bool) (pages' : List ℕ) → JudgedSays s p labels roots count own n r pages' → not r ≡ true → SomeWrong s p roots count
  judged_wrong true pages' w q = absurd (false≢true q)
  judged_wrong false pages' w q = w

  -- one's own root, after the others
  pub own_says : {pages counts : List ℕ} → Bytes p → OthersJudged s p roots n own count pages → Summings s p labels pages counts n (raws_in p)
      → (mine : ℕ) → own ≡ Some mine → mine < count → (r : Bool) (pages' counts' keys' tags' last' : List ℕ)
      → WordSays s p labels n (root_digest s p roots mine) 0 pages counts r pages' counts' keys' tags' last'
      → JudgedSays s p labels roots count own n r pages'
  own_says b u v mine e h true pages' counts' keys' tags' last' w = with_own b u v e h w.0 w.1.summings
  own_says b u v mine e h false pages' counts' keys' tags' last' w = (mine, h, w)

-- the counts, keys and tags that the judging begins with
pub nothing_summed : {s p labels pages roots : List ℕ} {count n : ℕ} (g : Rooted s p labels pages roots count n) (counts keys tags last : List ℕ)
    → length counts ≡ most_pages → length keys ≡ 16384 → length tags ≡ 64 → ((k : ℕ) → k < 64 → get_or tags k 0 ≡ 0) → length last ≡ longest_key
    → Judging s p labels pages counts keys tags last n
nothing_summed {p = p} g counts keys tags last a b c z d = record {
  summings = record {
    filed = g.filed;
    room = omega (arith, g.few);
    summed = λ i h k. absurd (omega (arith, g.unnoted i h));
    alone = λ i h k. absurd (omega (arith, g.unnoted i h));
    closed = λ i h k. absurd (omega (arith, g.unnoted i h));
  };
  kept = record {
    room = omega arith;
    size = λ k h. omega (arith, z k (omega arith));
    right = λ k i h e. absurd (omega (arith, z k (omega arith)));
  };
  places = omega arith;
  room = d;
}

pub zeros_summed : {s p labels pages roots : List ℕ} {count n : ℕ} (g : Rooted s p labels pages roots count n) (a b c d : ℕ)
    → a ≡ most_pages → b ≡ 16384 → c ≡ 64 → d ≡ longest_key
    → Judging s p labels pages (replicate a 0) (replicate b 0) (replicate c 0) (replicate d 0) n
zeros_summed g a b c d e f h l =
    nothing_summed g (replicate a 0) (replicate b 0) (replicate c 0) (replicate d 0)
    (length-replicate {A = ℕ} a 0 ∙ e) (length-replicate {A = ℕ} b 0 ∙ f) (length-replicate {A = ℕ} c 0 ∙ h)
    (λ k o. get_or-replicate c k 0 0 (omega arith)) (length-replicate {A = ℕ} d 0 ∙ l)
