-- More depth leaves a summary as it is, and one more than the layer is enough; so at the full depth a page is judged by the summaries, at the
-- full depth, of the pages that it links to.
use Prim.Native.Nat.{ℕ, zero, suc, ◌≤◌}
use mathlib.Core.Path.{◌≡◌, refl, sym, ap, subst, ◌∙◌}
use mathlib.Core.Bool.{true}
use mathlib.Core.Logic.{inl, inr}
use mathlib.Core.Option.{Option, none, some, none-ne-some, some-injective}
use mathlib.Core.List.{List, [], ◌∷◌, ◌++◌}
use native.Mathlib.Omega.{arith}
use lib.Seq.{take-nil}
use Rattle.limits.specs.Limits.{deepest}
use Rattle.page.specs.Reading.{Read, read, ends_early, departs}
use Rattle.page.specs.Page.{RawEntry, RawPage, page as page_at}
use Rattle.tree.specs.Record.{Record}
use Rattle.tree.specs.OnePage.{key_after}
use Rattle.promises.specs.Map.{find}
use Rattle.promises.specs.Promises.{Among}
use Rattle.states.specs.Pages.{link_list, links_after}
use Rattle.states.proofs.Filing.{among-split}
use Rattle.summaries.specs.Summary.{Summary, Tally, no_tally, agrees, or_first, with_key, after_page, after_gap, after_entry, after_entries, summary_of_page, summary_of_read, summary_of_found, summary}
use Rattle.summaries.proofs.Tallies.{child_taken, taken_child, EntryTaken, entry_taken, taken_entry, then_taken, taken_then, page_summed, summed_page, child_layer, entries_agree, whole_agrees}

-- ---- a page of layer n, judged by other summaries that have those of the layer below
module _ (n : ℕ) (f g : List ℕ → Option Summary)
    (more : (digest : List ℕ) (x : Summary) → suc x.layer ≡ n → f digest ≡ some x → g digest ≡ some x) where
  gap_more : (o : Option (List ℕ)) (t u : Tally) → after_gap f o t ≡ some u → agrees u.layer n ≡ true → after_gap g o t ≡ some u
  unfolding after_gap
  gap_more none t u h a = h
  gap_more (some digest) t u h a =
      let k = child_taken (f digest) t u h in
      let e = more digest k.child (child_layer n k a) k.there in
      rw e (taken_child k.child t k.layers k.rises ∙ ap some k.after)

  entries_more : (before : List ℕ) (es : List RawEntry) (t u : Tally) → after_entries f before es t ≡ some u → agrees u.layer n ≡ true
      → after_entries g before es t ≡ some u
  unfolding after_entries
  entries_more before [] t u h a = h
  entries_more before (e ∷ es) t u h a =
      let k = then_taken (after_entry f before e t) (after_entries f (key_after before e) es) u h in
      let b = entries_agree n f (key_after before e) es k.between u k.after a in
      let i = entry_taken f before e t k.between k.there in
      let j : EntryTaken g before e t k.between =
      record {
        shares = i.shares;
        law = i.law;
        layers = i.layers;
        rises = i.rises;
        gap = gap_more e.after (with_key (key_after before e) t) k.between i.gap b;
      } in
      taken_then (after_entry g before e t) (after_entries g (key_after before e) es) k.between u
      (taken_entry g before e t k.between j)
      (entries_more (key_after before e) es k.between u k.after a)

module _ (f g : List ℕ → Option Summary) (x : Summary)
    (more : (digest : List ℕ) (y : Summary) → suc y.layer ≡ x.layer → f digest ≡ some y → g digest ≡ some y) where
  page_more : (p : RawPage) → summary_of_page f p ≡ some x → summary_of_page g p ≡ some x
  page_more p h =
      let k = page_summed f p x h in
      let a = whole_agrees k.whole x k.sums in
      let b = entries_agree x.layer f [] p.entries k.left k.whole k.entries a in
      summed_page g p x (record {
        left = k.left;
        whole = k.whole;
        gap = gap_more x.layer f g more p.left no_tally k.left k.gap b;
        entries = entries_more x.layer f g more [] p.entries k.left k.whole k.entries a;
        sums = k.sums;
      })

  read_more : (r : Read RawPage) → summary_of_read f r ≡ some x → summary_of_read g r ≡ some x
  unfolding summary_of_read
  read_more ends_early h = h
  read_more departs h = h
  read_more (read p rest) h = page_more p h

  found_more : (o : Option (List ℕ)) → summary_of_found f o ≡ some x → summary_of_found g o ≡ some x
  unfolding summary_of_found
  found_more none h = h
  found_more (some p) h = read_more (page_at p) h

-- ---- depth
module _ (pages : List Record) where
  pub summary_more : (d : ℕ) (digest : List ℕ) (x : Summary) → summary d pages digest ≡ some x → summary (suc d) pages digest ≡ some x
  unfolding summary
  summary_more zero digest x h = absurd (none-ne-some _ h)
  summary_more (suc d) digest x h =
      found_more (summary d pages) (summary (suc d) pages) x (λ link y e k. summary_more d link y k) (find digest pages) h

  pub summary_raised : (d e : ℕ) (digest : List ℕ) (x : Summary) → d ≤ e → summary d pages digest ≡ some x → summary e pages digest ≡ some x
  unfolding summary
  summary_raised zero e digest x l h = absurd (none-ne-some _ h)
  summary_raised (suc d) zero digest x l h = absurd (omega arith)
  summary_raised (suc d) (suc e) digest x l h =
      found_more (summary d pages) (summary e pages) x (λ link y q k. summary_raised d e link y (omega arith) k) (find digest pages) h

  pub summary_layer : (d : ℕ) (digest : List ℕ) (x : Summary) → summary d pages digest ≡ some x → summary (suc x.layer) pages digest ≡ some x
  unfolding summary
  summary_layer zero digest x h = absurd (none-ne-some _ h)
  summary_layer (suc d) digest x h =
      found_more (summary d pages) (summary x.layer pages) x
      (λ link y e k. subst (λ (n : ℕ). summary n pages link ≡ some y) e (summary_layer d link y k)) (find digest pages) h

  option_agree : (a b : Option Summary) → ((x : Summary) → a ≡ some x → b ≡ some x) → ((x : Summary) → b ≡ some x → a ≡ some x) → a ≡ b
  option_agree none none f g = refl
  option_agree none (some y) f g = g y refl
  option_agree (some x) b f g = sym (f x refl)

  -- layers are at most 128, so linked pages have at most 127
  low_read : (child : List ℕ → Option Summary) (r : Read RawPage) (x : Summary) → summary_of_read child r ≡ some x → x.layer ≤ 128
  unfolding summary_of_read
  low_read child ends_early x h = absurd (none-ne-some _ h)
  low_read child departs x h = absurd (none-ne-some _ h)
  low_read child (read p rest) x h = (page_summed child p x h).sums.low

  low : (child : List ℕ → Option Summary) (o : Option (List ℕ)) (x : Summary) → summary_of_found child o ≡ some x → x.layer ≤ 128
  unfolding summary_of_found
  low child none x h = absurd (none-ne-some _ h)
  low child (some p) x h = low_read child (page_at p) x h

  pub summary_fixed : (digest : List ℕ) → summary deepest pages digest ≡ summary_of_found (summary deepest pages) (find digest pages)
  unfolding summary
  summary_fixed digest =
      option_agree (summary deepest pages digest) (summary_of_found (summary deepest pages) (find digest pages))
      (λ x h. found_more (summary 128 pages) (summary deepest pages) x (λ link y e k. summary_more 128 link y k) (find digest pages) h)
      (λ x h. found_more (summary deepest pages) (summary 128 pages) x
      (λ link y e k.
      let l = low (summary deepest pages) (find digest pages) x h in
      summary_raised (suc y.layer) 128 link y (omega arith) (summary_layer deepest link y k))
      (find digest pages) h)

  -- so a page that is found and read, and has a summary, has it from the summaries of its links
  pub summary_page : (digest b rest : List ℕ) (p : RawPage) (x : Summary) → summary deepest pages digest ≡ some x → find digest pages ≡ some b
      → page_at b ≡ read p rest → summary_of_page (summary deepest pages) p ≡ some x
  unfolding summary_of_found summary_of_read
  summary_page digest b rest p x h e r = rw (summary_fixed digest, e, r) at h

-- ---- the first and the last key of a page's tree, and its linked pages
-- The last key of a row of entries after the key `before`, and the gap after the last of them.
abbrev pub last_key : List ℕ → List RawEntry → List ℕ
last_key before [] = before
last_key before (e ∷ es) = last_key (key_after before e) es

abbrev pub last_gap : Option (List ℕ) → List RawEntry → Option (List ℕ)
last_gap gap [] = gap
last_gap gap (e ∷ es) = last_gap e.after es

module _ (child : List ℕ → Option Summary) where
  -- the first key stays
  or_first_lem : (o : Option (List ℕ)) (f k : List ℕ) → o ≡ some f → or_first o k ≡ some f
  unfolding or_first
  or_first_lem o f k e = rw e

  gap_first : (o : Option (List ℕ)) (t u : Tally) (f : List ℕ) → after_gap child o t ≡ some u → t.first ≡ some f → u.first ≡ some f
  unfolding after_gap
  gap_first none t u f h e = ap (λ (v : Tally). v.first) (sym (some-injective t u h)) ∙ e
  gap_first (some digest) t u f h e =
      let k = child_taken (child digest) t u h in
      ap (λ (v : Tally). v.first) (sym k.after) ∙ or_first_lem t.first f k.child.first e

  entries_first : (before : List ℕ) (es : List RawEntry) (t u : Tally) (f : List ℕ) → after_entries child before es t ≡ some u → t.first ≡ some f
      → u.first ≡ some f
  unfolding after_entries
  entries_first before [] t u f h e = ap (λ (v : Tally). v.first) (sym (some-injective t u h)) ∙ e
  entries_first before (r ∷ es) t u f h e =
      let k = then_taken (after_entry child before r t) (after_entries child (key_after before r) es) u h in
      let i = entry_taken child before r t k.between k.there in
      entries_first (key_after before r) es k.between u f k.after
      (gap_first r.after (with_key (key_after before r) t) k.between f i.gap (or_first_lem t.first f (key_after before r) e))

  -- the last key is that of the last gap with a link, or the last key of the page
  gap_last : (o : Option (List ℕ)) (t u : Tally) (digest : List ℕ) (y : Summary) → after_gap child o t ≡ some u → o ≡ some digest
      → child digest ≡ some y
      → u.last ≡ some y.last
  unfolding after_gap
  gap_last none t u digest y h o c = absurd (none-ne-some _ o)
  gap_last (some link) t u digest y h o c =
      let k = child_taken (child link) t u h in
      let e : k.child ≡ y = some-injective k.child y (sym k.there ∙ ap child (some-injective link digest o) ∙ c) in
      ap (λ (v : Tally). v.last) (sym k.after) ∙ ap (λ (z : Summary). some z.last) e

  gap_keeps : (o : Option (List ℕ)) (t u : Tally) → after_gap child o t ≡ some u → o ≡ none → t ≡ u
  unfolding after_gap
  gap_keeps none t u h e = some-injective t u h
  gap_keeps (some digest) t u h e = absurd (none-ne-some _ (sym e))

  entries_last_gap : (before : List ℕ) (gap : Option (List ℕ)) (es : List RawEntry) (s t u : Tally) (digest : List ℕ) (y : Summary)
      → after_gap child gap s ≡ some t → after_entries child before es t ≡ some u → last_gap gap es ≡ some digest → child digest ≡ some y
      → u.last ≡ some y.last
  unfolding after_entries
  entries_last_gap before gap [] s t u digest y g h l c =
      gap_last gap s u digest y (g ∙ h) l c
  entries_last_gap before gap (r ∷ es) s t u digest y g h l c =
      let k = then_taken (after_entry child before r t) (after_entries child (key_after before r) es) u h in
      let i = entry_taken child before r t k.between k.there in
      entries_last_gap (key_after before r) r.after es (with_key (key_after before r) t) k.between u digest y i.gap k.after l c

  entries_last_key : (before : List ℕ) (gap : Option (List ℕ)) (es : List RawEntry) (s t u : Tally)
      → after_gap child gap s ≡ some t → after_entries child before es t ≡ some u → last_gap gap es ≡ none → s.last ≡ some before
      → u.last ≡ some (last_key before es)
  unfolding after_entries
  entries_last_key before gap [] s t u g h l e =
      ap (λ (v : Tally). v.last) (sym (gap_keeps gap s u (g ∙ h) l)) ∙ e
  entries_last_key before gap (r ∷ es) s t u g h l e =
      let k = then_taken (after_entry child before r t) (after_entries child (key_after before r) es) u h in
      let i = entry_taken child before r t k.between k.there in
      entries_last_key (key_after before r) r.after es (with_key (key_after before r) t) k.between u i.gap k.after l refl

  -- a page without an entry has a link, or it has no layer
  page_last : {n : ℕ} (gap : Option (List ℕ)) (es : List RawEntry) (t u : Tally) → after_gap child gap no_tally ≡ some t
      → after_entries child [] es t ≡ some u → last_gap gap es ≡ none → u.layer ≡ some n → u.last ≡ some (last_key [] es)
  unfolding after_entries
  page_last gap [] t u g h l e =
      absurd (none-ne-some _ (ap (λ (v : Tally). v.layer) (gap_keeps gap no_tally u (g ∙ h) l) ∙ e))
  page_last gap (r ∷ es) t u g h l e =
      let k = then_taken (after_entry child [] r t) (after_entries child (key_after [] r) es) u h in
      let i = entry_taken child [] r t k.between k.there in
      entries_last_key (key_after [] r) r.after es (with_key (key_after [] r) t) k.between u i.gap k.after l refl

  -- each link has a summary of the layer below
  abbrev pub SummedBelow : ℕ → List ℕ → Type 0
  SummedBelow n digest = (y : Summary) × (child digest ≡ some y) × (suc y.layer ≡ n)

  gap_summed : (n : ℕ) (o : Option (List ℕ)) (t u : Tally) → after_gap child o t ≡ some u → agrees u.layer n ≡ true → (digest : List ℕ)
      → Among digest (link_list o)
      → SummedBelow n digest
  unfolding after_gap link_list
  gap_summed n none t u h a digest i = absurd i
  gap_summed n (some link) t u h a digest (inl e) =
      let k = child_taken (child link) t u h in
      (k.child, ap child e ∙ k.there, child_layer n k a)
  gap_summed n (some link) t u h a digest (inr i) = absurd i

  entries_summed : (n : ℕ) (before : List ℕ) (es : List RawEntry) (t u : Tally) → after_entries child before es t ≡ some u → agrees u.layer n ≡ true
      → (digest : List ℕ) → Among digest (links_after es) → SummedBelow n digest
  unfolding after_entries links_after
  entries_summed n before [] t u h a digest i = absurd i
  entries_summed n before (r ∷ es) t u h a digest i =
      let k = then_taken (after_entry child before r t) (after_entries child (key_after before r) es) u h in
      let b = entries_agree n child (key_after before r) es k.between u k.after a in
      let j = entry_taken child before r t k.between k.there in
      among-split (link_list r.after) (links_after es) digest i
      (gap_summed n r.after (with_key (key_after before r) t) k.between j.gap b digest)
      (entries_summed n (key_after before r) es k.between u k.after a digest)

  module _ (p : RawPage) (x : Summary) (h : summary_of_page child p ≡ some x) where
    -- the first key is that of the left link's tree, or the first key of the page, which is the first entry's remainder
    pub first_left : (digest : List ℕ) (y : Summary) → p.left ≡ some digest → child digest ≡ some y → x.first ≡ y.first
    unfolding after_gap or_first
    first_left digest y o c =
        let k = page_summed child p x h in
        let g : after_page (child digest) no_tally ≡ some k.left = ap (λ (q : Option (List ℕ)). after_gap child q no_tally) (sym o) ∙ k.gap in
        let j = child_taken (child digest) no_tally k.left g in
        let e : j.child ≡ y = some-injective j.child y (sym j.there ∙ c) in
        let f : k.left.first ≡ some y.first = ap (λ (v : Tally). v.first) (sym j.after) ∙ ap (λ (z : Summary). some z.first) e in
        some-injective x.first y.first
        (sym k.sums.first ∙ entries_first [] p.entries k.left k.whole y.first k.entries f)

    pub first_key : (e : RawEntry) (es : List RawEntry) → p.left ≡ none → p.entries ≡ e ∷ es → x.first ≡ e.remainder
    unfolding after_entries or_first
    first_key e es o r =
        let k = page_summed child p x h in
        let start : no_tally ≡ k.left = gap_keeps p.left no_tally k.left k.gap o in
        let whole : after_entries child [] (e ∷ es) no_tally ≡ some k.whole =
        ap (λ (l : List RawEntry). after_entries child [] l no_tally) (sym r) ∙ ap (after_entries child [] p.entries) start ∙ k.entries in
        let j = then_taken (after_entry child [] e no_tally) (after_entries child (key_after [] e) es) k.whole whole in
        let i = entry_taken child [] e no_tally j.between j.there in
        let f = gap_first e.after (with_key (key_after [] e) no_tally) j.between (key_after [] e) i.gap refl in
        some-injective x.first e.remainder
        (sym k.sums.first ∙ entries_first (key_after [] e) es j.between k.whole (key_after [] e) j.after f
        ∙ ap (λ (l : List ℕ). some (l ++ e.remainder)) (take-nil e.shares))

    -- the last key is that of the tree under the last gap, or the last key of the page
    pub last_gap_lem : (digest : List ℕ) (y : Summary) → last_gap p.left p.entries ≡ some digest → child digest ≡ some y → x.last ≡ y.last
    last_gap_lem digest y o c =
        let k = page_summed child p x h in
        some-injective x.last y.last
        (sym k.sums.last ∙ entries_last_gap [] p.left p.entries no_tally k.left k.whole digest y k.gap k.entries o c)

    pub last_key_lem : last_gap p.left p.entries ≡ none → x.last ≡ last_key [] p.entries
    last_key_lem o =
        let k = page_summed child p x h in
        some-injective x.last (last_key [] p.entries)
        (sym k.sums.last ∙ page_last p.left p.entries k.left k.whole k.gap k.entries o k.sums.layer)

    pub links_summed : (digest : List ℕ) → Among digest (link_list p.left ++ links_after p.entries) → SummedBelow x.layer digest
    links_summed digest i =
        let k = page_summed child p x h in
        let a = whole_agrees k.whole x k.sums in
        let b = entries_agree x.layer child [] p.entries k.left k.whole k.entries a in
        among-split (link_list p.left) (links_after p.entries) digest i
        (gap_summed x.layer p.left no_tally k.left k.gap b digest)
        (entries_summed x.layer [] p.entries k.left k.whole k.entries a digest)
