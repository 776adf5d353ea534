-- What a tally or a summary that is there was made from.
use Prim.Native.Nat.{ℕ, suc, ◌≤◌}
use mathlib.Core.Path.{◌≡◌, refl, sym, ap, subst, ◌∙◌}
use mathlib.Core.Bool.{true, ◌&&◌}
use mathlib.Core.Option.{Option, none, some, none-ne-some, some-injective}
use mathlib.Core.List.{List, [], ◌∷◌}
use lib.Dec.{eqb, leb}
use borrow.Author.Tests.{leb-true, le-leb, eqb-true, eq-eqb}
use Rattle.bytestring.proofs.Tools.{cond-inv, and_inv}
use Rattle.limits.specs.Limits.{most}
use Rattle.key.specs.Key.{lawful, shared}
use Rattle.key.specs.Layer.{layer_of}
use Rattle.page.specs.Page.{RawEntry, RawPage}
use Rattle.tree.specs.OnePage.{key_after}
use Rattle.summaries.specs.Summary.{Summary, Tally, no_tally, agrees, passes, key_fits, with_key, page_fits, with_page, after_page, after_gap, after_entry, then_tally, after_entries, summed, summed_tally, summary_of_page}

-- ---- one linked page
pub record ChildTaken (o : Option Summary) (t u : Tally) : Type 0 where
  pub child : Summary
  pub there : o ≡ some child
  pub layers : agrees t.layer (suc child.layer) ≡ true
  pub rises : passes t.last child.first ≡ true
  pub after : with_page child t ≡ u

pub child_taken : (o : Option Summary) (t u : Tally) → after_page o t ≡ some u → ChildTaken o t u
unfolding after_page page_fits
child_taken none t u h = absurd (none-ne-some _ h)
child_taken (some x) t u h =
    cond-inv (page_fits x t)
    (λ e q.
    let k = and_inv (agrees t.layer (suc x.layer)) e in
    record { child = x; there = refl; layers = k.0; rises = k.1; after = some-injective (with_page x t) u q })
    (λ e q. absurd (none-ne-some _ q)) h

pub taken_child : (x : Summary) (t : Tally) → agrees t.layer (suc x.layer) ≡ true → passes t.last x.first ≡ true
    → after_page (some x) t ≡ some (with_page x t)
unfolding after_page page_fits
taken_child x t a p = rw (a, p)

-- ---- an entry
pub record EntryTaken (child : List ℕ → Option Summary) (before : List ℕ) (e : RawEntry) (t u : Tally) : Type 0 where
  pub shares : eqb e.shares (shared before (key_after before e)) ≡ true
  pub law : lawful (key_after before e) ≡ true
  pub layers : agrees t.layer (layer_of (key_after before e)) ≡ true
  pub rises : passes t.last (key_after before e) ≡ true
  pub gap : after_gap child e.after (with_key (key_after before e) t) ≡ some u

pub entry_taken : (child : List ℕ → Option Summary) (before : List ℕ) (e : RawEntry) (t u : Tally) → after_entry child before e t ≡ some u
    → EntryTaken child before e t u
unfolding after_entry key_fits
entry_taken child before e t u h =
    cond-inv (eqb e.shares (shared before (key_after before e)) && key_fits (key_after before e) t)
    (λ c q.
    let k = and_inv (eqb e.shares (shared before (key_after before e))) c in
    let l = and_inv (lawful (key_after before e)) k.1 in
    let m = and_inv (agrees t.layer (layer_of (key_after before e))) l.1 in
    record { shares = k.0; law = l.0; layers = m.0; rises = m.1; gap = q })
    (λ c q. absurd (none-ne-some _ q)) h

pub taken_entry : (child : List ℕ → Option Summary) (before : List ℕ) (e : RawEntry) (t u : Tally) → EntryTaken child before e t u
    → after_entry child before e t ≡ some u
unfolding after_entry key_fits
taken_entry child before e t u k = rw (k.shares, k.law, k.layers, k.rises) k.gap

-- ---- one step after another
pub record ThenTaken (o : Option Tally) (f : Tally → Option Tally) (u : Tally) : Type 0 where
  pub between : Tally
  pub there : o ≡ some between
  pub after : f between ≡ some u

pub then_taken : (o : Option Tally) (f : Tally → Option Tally) (u : Tally) → then_tally o f ≡ some u → ThenTaken o f u
unfolding then_tally
then_taken none f u h = absurd (none-ne-some _ h)
then_taken (some t) f u h = record { between = t; there = refl; after = h }

pub taken_then : (o : Option Tally) (f : Tally → Option Tally) (t u : Tally) → o ≡ some t → f t ≡ some u → then_tally o f ≡ some u
unfolding then_tally
taken_then o f t u e h = rw e h

-- ---- a page
pub record TallySummed (t : Tally) (x : Summary) : Type 0 where
  pub layer : t.layer ≡ some x.layer
  pub count : t.count ≡ x.count
  pub first : t.first ≡ some x.first
  pub last : t.last ≡ some x.last
  pub low : x.layer ≤ 128
  pub few : x.count ≤ most

pub summed_inv : (layer : Option ℕ) (n : ℕ) (f l : Option (List ℕ)) (x : Summary) → summed layer n f l ≡ some x
    → TallySummed (record { layer = layer; count = n; first = f; last = l }) x
unfolding summed
summed_inv none n f l x h = absurd (none-ne-some _ h)
summed_inv (some m) n none l x h = absurd (none-ne-some _ h)
summed_inv (some m) n (some f) none x h = absurd (none-ne-some _ h)
summed_inv (some m) n (some f) (some l) x h =
    cond-inv (leb m 128 && leb n most)
    (λ c q.
    let k = and_inv (leb m 128) c in
    subst (TallySummed (record { layer = some m; count = n; first = some f; last = some l }))
    (some-injective (record { layer = m; count = n; first = f; last = l }) x q)
    (record { layer = refl; count = refl; first = refl; last = refl; low = leb-true m 128 k.0; few = leb-true n most k.1 }))
    (λ c q. absurd (none-ne-some _ q)) h

pub summed_there : (t : Tally) (x : Summary) → TallySummed t x → summed_tally (some t) ≡ some x
unfolding summed_tally summed
summed_there t x s = rw (s.layer, s.count, s.first, s.last, le-leb x.layer 128 s.low, le-leb x.count most s.few)

pub record PageSummed (child : List ℕ → Option Summary) (p : RawPage) (x : Summary) : Type 0 where
  pub left : Tally
  pub whole : Tally
  pub gap : after_gap child p.left no_tally ≡ some left
  pub entries : after_entries child [] p.entries left ≡ some whole
  pub sums : TallySummed whole x

tally_summed : (o : Option Tally) (x : Summary) → summed_tally o ≡ some x → (t : Tally) × (o ≡ some t) × TallySummed t x
unfolding summed_tally
tally_summed none x h = absurd (none-ne-some _ h)
tally_summed (some t) x h = (t, refl, summed_inv t.layer t.count t.first t.last x h)

pub page_summed : (child : List ℕ → Option Summary) (p : RawPage) (x : Summary) → summary_of_page child p ≡ some x → PageSummed child p x
unfolding summary_of_page
page_summed child p x h =
    let s = tally_summed (then_tally (after_gap child p.left no_tally) (after_entries child [] p.entries)) x h in
    let k = then_taken (after_gap child p.left no_tally) (after_entries child [] p.entries) s.0 s.1 in
    record { left = k.between; whole = s.0; gap = k.there; entries = k.after; sums = s.2 }

pub summed_page : (child : List ℕ → Option Summary) (p : RawPage) (x : Summary) → PageSummed child p x → summary_of_page child p ≡ some x
unfolding summary_of_page then_tally
summed_page child p x k = rw (k.gap, k.entries) (summed_there k.whole x k.sums)

-- ---- the layer
pub agrees_some : (m n : ℕ) → agrees (some m) n ≡ true → m ≡ n
unfolding agrees
agrees_some m n h = eqb-true m n h

module _ (n : ℕ) where
  -- a linked page is one layer below
  pub child_layer : {o : Option Summary} {t u : Tally} (k : ChildTaken o t u) → agrees u.layer n ≡ true → suc k.child.layer ≡ n
  child_layer k a = agrees_some (suc k.child.layer) n (ap (λ (v : Tally). agrees v.layer n) k.after ∙ a)

  module _ (child : List ℕ → Option Summary) where
    -- what agrees with the layer of the whole agrees with that of each part before it
    pub gap_agrees : (o : Option (List ℕ)) (t u : Tally) → after_gap child o t ≡ some u → agrees u.layer n ≡ true → agrees t.layer n ≡ true
    unfolding after_gap
    gap_agrees none t u h a = ap (λ (v : Tally). agrees v.layer n) (some-injective t u h) ∙ a
    gap_agrees (some digest) t u h a =
        let k = child_taken (child digest) t u h in
        ap (agrees t.layer) (sym (child_layer k a)) ∙ k.layers

    pub entry_agrees : (before : List ℕ) (e : RawEntry) (t u : Tally) → EntryTaken child before e t u → agrees u.layer n ≡ true
        → (layer_of (key_after before e) ≡ n) × (agrees t.layer n ≡ true)
    entry_agrees before e t u k a =
        let l = agrees_some (layer_of (key_after before e)) n (gap_agrees e.after (with_key (key_after before e) t) u k.gap a) in
        (l, ap (agrees t.layer) (sym l) ∙ k.layers)

    pub entries_agree : (before : List ℕ) (es : List RawEntry) (t u : Tally) → after_entries child before es t ≡ some u → agrees u.layer n ≡ true
        → agrees t.layer n ≡ true
    unfolding after_entries
    entries_agree before [] t u h a = ap (λ (v : Tally). agrees v.layer n) (some-injective t u h) ∙ a
    entries_agree before (e ∷ es) t u h a =
        let k = then_taken (after_entry child before e t) (after_entries child (key_after before e) es) u h in
        (entry_agrees before e t k.between (entry_taken child before e t k.between k.there)
        (entries_agree (key_after before e) es k.between u k.after a)).1

-- the layer of the whole agrees with itself
pub whole_agrees : (t : Tally) (x : Summary) → TallySummed t x → agrees t.layer x.layer ≡ true
unfolding agrees
whole_agrees t x s = rw (s.layer, eq_refl x.layer)
  where
    eq_refl : (n : ℕ) → eqb n n ≡ true
    eq_refl n = eq-eqb n n refl
