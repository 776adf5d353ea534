-- Tallies that grow: their counts, their layers, and the keys of entries.
use Prim.Native.Nat.{ℕ, suc, ◌≤◌}
use mathlib.Core.Path.{◌≡◌, refl, sym, ap, subst, ◌∙◌}
use mathlib.Core.Bool.{true, false, false≢true}
use mathlib.Core.Option.{Option, none, some, some-injective}
use mathlib.Core.List.{List, [], ◌∷◌}
use native.Mathlib.Omega.{arith}
use lib.Dec.{eqb}
use borrow.Author.Tests.{eqb-true, eq-eqb}
use Rattle.bytestring.proofs.Tools.{and_inv, and_both}
use Rattle.limits.specs.Limits.{most}
use Rattle.key.specs.Key.{lawful, shared}
use Rattle.key.specs.Layer.{layer_of}
use Rattle.page.specs.Page.{RawEntry}
use Rattle.tree.specs.OnePage.{key_after}
use Rattle.summaries.specs.Summary.{Summary, Tally, no_tally, agrees, passes, or_first, with_key, with_page, key_fits, after_gap, after_entry, after_entries, summary_of_page}
use Rattle.summaries.proofs.Tallies.{child_taken, entry_taken, then_taken, TallySummed, summed_page, agrees_some, entry_agrees}
use Rattle.summing.specs.Inner.{key_stands}

-- ---- counts
module _ (child : List ℕ → Option Summary) where
  gap_grows : (o : Option (List ℕ)) (t u : Tally) → after_gap child o t ≡ some u → t.count ≤ u.count
  unfolding after_gap
  gap_grows none t u h = let e = ap (λ (v : Tally). v.count) (some-injective t u h) in omega arith
  gap_grows (some digest) t u h =
      let e = ap (λ (v : Tally). v.count) (child_taken (child digest) t u h).after in
      omega arith

  pub entry_grows : (before : List ℕ) (e : RawEntry) (t u : Tally) → after_entry child before e t ≡ some u → suc t.count ≤ u.count
  entry_grows before e t u h =
      gap_grows e.after (with_key (key_after before e) t) u (entry_taken child before e t u h).gap

  pub entries_grow : (before : List ℕ) (es : List RawEntry) (t u : Tally) → after_entries child before es t ≡ some u → t.count ≤ u.count
  unfolding after_entries
  entries_grow before [] t u h = let e = ap (λ (v : Tally). v.count) (some-injective t u h) in omega arith
  entries_grow before (e ∷ es) t u h =
      let k = then_taken (after_entry child before e t) (after_entries child (key_after before e) es) u h in
      omega (arith, entry_grows before e t k.between k.there, entries_grow (key_after before e) es k.between u k.after)

-- ---- a tally with a record
pub record HasRecord (t : Tally) : Type 0 where
  pub layer : ℕ
  pub first : List ℕ
  pub last : List ℕ
  pub is_layer : t.layer ≡ some layer
  pub is_first : t.first ≡ some first
  pub is_last : t.last ≡ some last

or_first_lem : (o : Option (List ℕ)) (k : List ℕ) → (f : List ℕ) × (or_first o k ≡ some f)
unfolding or_first
or_first_lem none k = (k, refl)
or_first_lem (some f) k = (f, refl)

key_begun : (k : List ℕ) (t : Tally) → HasRecord (with_key k t)
key_begun k t =
    let f = or_first_lem t.first k in
    record { layer = layer_of k; first = f.0; last = k; is_layer = refl; is_first = f.1; is_last = refl }

page_begun : (x : Summary) (t : Tally) → HasRecord (with_page x t)
page_begun x t =
    let f = or_first_lem t.first x.first in
    record { layer = suc x.layer; first = f.0; last = x.last; is_layer = refl; is_first = f.1; is_last = refl }

module _ (child : List ℕ → Option Summary) where
  link_begun : (digest : List ℕ) (t u : Tally) → after_gap child (some digest) t ≡ some u → HasRecord u
  unfolding after_gap
  link_begun digest t u h = let k = child_taken (child digest) t u h in subst HasRecord k.after (page_begun k.child t)

  gap_begun : (o : Option (List ℕ)) (t u : Tally) → after_gap child o t ≡ some u → HasRecord t → HasRecord u
  unfolding after_gap
  gap_begun none t u h b = subst HasRecord (some-injective t u h) b
  gap_begun (some digest) t u h b = link_begun digest t u h

  entry_begun : (before : List ℕ) (e : RawEntry) (t u : Tally) → after_entry child before e t ≡ some u → HasRecord u
  entry_begun before e t u h =
      gap_begun e.after (with_key (key_after before e) t) u (entry_taken child before e t u h).gap (key_begun (key_after before e) t)

  entries_begun : (before : List ℕ) (es : List RawEntry) (t u : Tally) → after_entries child before es t ≡ some u → HasRecord t → HasRecord u
  unfolding after_entries
  entries_begun before [] t u h b = subst HasRecord (some-injective t u h) b
  entries_begun before (e ∷ es) t u h b =
      let k = then_taken (after_entry child before e t) (after_entries child (key_after before e) es) u h in
      entries_begun (key_after before e) es k.between u k.after (entry_begun before e t k.between k.there)

  -- a page with an entry or a left link has a record
  page_begins : (left : Option (List ℕ)) (es : List RawEntry) (t u : Tally) → after_gap child left no_tally ≡ some t → after_entries child [] es t ≡ some u
      → (es ≡ [] → left ≡ none → ⊥) → HasRecord u
  unfolding after_entries
  page_begins (some digest) es t u g h f = entries_begun [] es t u h (link_begun digest no_tally t g)
  page_begins none [] t u g h f = absurd (f refl refl)
  page_begins none (e ∷ es) t u g h f =
      let k = then_taken (after_entry child [] e t) (after_entries child (key_after [] e) es) u h in
      entries_begun (key_after [] e) es k.between u k.after (entry_begun [] e t k.between k.there)

  -- its tally, where the layer is right and the records are not too many, is its summary
  pub page_sums : (left : Option (List ℕ)) (es : List RawEntry) (t u : Tally) (layer : ℕ) → after_gap child left no_tally ≡ some t
      → after_entries child [] es t ≡ some u → (es ≡ [] → left ≡ none → ⊥) → agrees u.layer layer ≡ true → layer ≤ 128 → u.count ≤ most
      → (x : Summary) × (summary_of_page child (record { entries = es; left = left }) ≡ some x) × (x.layer ≡ layer) × (x.count ≡ u.count)
  page_sums left es t u layer g h f a low few =
      let b = page_begins left es t u g h f in
      let same : b.layer ≡ layer = agrees_some b.layer layer (ap (λ (o : Option ℕ). agrees o layer) (sym b.is_layer) ∙ a) in
      let x : Summary = record { layer = layer; count = u.count; first = b.first; last = b.last } in
      let sums : TallySummed u x =
      record { layer = b.is_layer ∙ ap some same; count = refl; first = b.is_first; last = b.is_last; low = low; few = few } in
      (x, summed_page child (record { entries = es; left = left }) x (record { left = t; whole = u; gap = g; entries = h; sums = sums }), refl, refl)

-- ---- one entry
module _ (before : List ℕ) (e : RawEntry) (t : Tally) (layer : ℕ) (child : List ℕ → Option Summary) where
  key_there : key_stands before e t.last layer ≡ true → (eqb e.shares (shared before (key_after before e)) ≡ true)
      × (lawful (key_after before e) ≡ true) × (layer ≡ layer_of (key_after before e)) × (passes t.last (key_after before e) ≡ true)
  unfolding key_stands
  key_there h =
      let a = and_inv (eqb e.shares (shared before (key_after before e))) h in
      let b = and_inv (lawful (key_after before e)) a.1 in
      let c = and_inv (eqb layer (layer_of (key_after before e))) b.1 in
      (a.0, b.0, eqb-true layer (layer_of (key_after before e)) c.0, c.1)

  -- the gap after it is what is left
  pub entry_goes_on : key_stands before e t.last layer ≡ true → agrees t.layer layer ≡ true
      → after_entry child before e t ≡ after_gap child e.after (with_key (key_after before e) t)
  unfolding after_entry key_fits
  entry_goes_on h a =
      let k = key_there h in
      let agree : agrees t.layer (layer_of (key_after before e)) ≡ true = ap (agrees t.layer) (sym k.2) ∙ a in
      rw (k.0, k.1, agree, k.3)

  pub key_agrees : key_stands before e t.last layer ≡ true → agrees (some (layer_of (key_after before e))) layer ≡ true
  unfolding agrees
  key_agrees h = eq-eqb (layer_of (key_after before e)) layer (sym (key_there h).2)

  -- where its key fails no page goes on
  pub entry_fails : key_stands before e t.last layer ≡ false → (u : Tally) → after_entry child before e t ≡ some u → agrees u.layer layer ≡ true → ⊥
  unfolding key_stands
  entry_fails h u q a =
      let i = entry_taken child before e t u q in
      let same : layer ≡ layer_of (key_after before e) = sym (entry_agrees layer child before e t u i a).0 in
      let yes : key_stands before e t.last layer ≡ true =
      and_both i.shares (and_both i.law (and_both (eq-eqb layer (layer_of (key_after before e)) same) i.rises)) in
      false≢true (sym h ∙ yes)
