-- The tree under one page, as judge_tree judges it.
use Rattle.std.specs.Prelude.{Result, Ok, Err, Some, None, Option as OptionOf}
use Prim.Native.Nat.{ℕ, suc, ◌+◌, ◌≤◌, ◌<◌}
use mathlib.Core.Path.{◌≡◌, refl, sym, ap, subst, ◌∙◌}
use mathlib.Core.Bool.{Bool, true, false}
use mathlib.Core.Logic.{◌⊎◌, inl, ⊎_elim}
use mathlib.Core.Option.{Option, none, some, none-ne-some, some-injective}
use mathlib.Core.List.{List, [], ◌++◌}
use native.Mathlib.Omega.{arith}
use lib.Dec.{eqb}
use lib.ListN.{drop, get_or}
use borrow.Author.Tests.{eqb-true, eqb-false}
use Rattle.limits.specs.Limits.{deepest, most}
use Rattle.fips180.specs.Hash.{sha256}
use Rattle.value.specs.Value.{digest_in}
use Rattle.page.specs.Reading.{read, times}
use Rattle.page.specs.Page.{RawEntry, entry, RawPage}
use Rattle.page_reader.specs.Place.{link_at, PageHere, PageIs}
use Rattle.page_reader.specs.declared.Stop.{Stop}
use Rattle.page_reader.specs.declared.PageAt.{PageAt}
use Rattle.promises.specs.Promises.{Among}
use Rattle.promises.proofs.DifferenceLaws.{among_left, among_right}
use Rattle.states.specs.Pages.{link_list, links_after}
use Rattle.states.proofs.Filing.{among-split}
use Rattle.summaries.specs.Summary.{Summary, Tally, no_tally, agrees, after_gap, after_entries, summary_of_page}
use Rattle.summaries.proofs.Tallies.{PageSummed, page_summed, entries_agree, whole_agrees}
use Rattle.sequence.specs.Noted.{links_by_place}
use Rattle.filing.specs.Filed.{page_place, no_page, bytes_at}
use Rattle.tree_keys.specs.Ends.{SummaryAt, KeptKeys}
use Rattle.tree_keys.proofs.Firsts.{link_is, no_link_lem}
use Rattle.tree_keys.proofs.Following.{links_order}
use Rattle.summing.specs.Summed.{note_at, Summings, Reaching, TreeSays}
use Rattle.summing.specs.Inner.{raws_in, tree_under, Underway, Tallied, LeadsOn, JudgedAt, CarriesOn, PartWhole, BeforeGap, GapTold, GapAsked, EntriesTold, EntriesAsked, PageNoted}
use Rattle.summing.specs.declared.PartSum.{PartSum}
use Rattle.summing.proofs.Tallies.{entries_grow, page_sums}
use Rattle.summing.proofs.Reaching.{reaching_none, reaching_then, judged_stays}
use Rattle.summing.proofs.Pages.{raws_are, links_lead, reached_here, reached_on}
use Rattle.summing.proofs.Raws.{link_none, page_reads_at, page_stands, page_here_lem, entries_of_lem, entries_read, entries_none, none_counted, raw_is, summary_of}
use Rattle.summing.proofs.Noting.{note_here, noted_summings, noted_reaching}

-- ---- what is said of the pages that a sequence reads as is said of any
module _ (s p labels pages counts : List ℕ) (n i layer mark : ℕ) (pages₁ counts₁ : List ℕ) where
  tree_true : Summings s p labels pages₁ counts₁ n (raws_in p)
      → Reaching (raws_in p) n mark (sha256 (bytes_at (raws_in p) i)) pages counts pages₁ counts₁ → note_at pages₁ i ≡ suc layer
      → TreeSays s p labels pages counts n i layer mark true pages₁ counts₁
  tree_true a b c raws w =
      subst (λ (rs : List RawPage). Summings s p labels pages₁ counts₁ n rs
      × Reaching rs n mark (sha256 (bytes_at rs i)) pages counts pages₁ counts₁ × (note_at pages₁ i ≡ suc layer))
      (sym (raws_are p raws w.filed.reads)) (a, b, c)

  tree_false : ((x : Summary) → SummaryAt (raws_in p) i x → x.layer ≡ layer → ⊥) → TreeSays s p labels pages counts n i layer mark false pages₁ counts₁
  tree_false f raws w x q l = f x (subst (λ (rs : List RawPage). SummaryAt rs i x) (raws_are p raws w.filed.reads) q) l

module _ {s p labels pages counts : List ℕ} {n : ℕ} {keys tags last : List ℕ} {i layer mark : ℕ}
    (under : Underway s p labels pages counts n keys tags last) (h : i < n) (low : layer < deepest) (small : mark < 2) where
  -- the page was judged before
  pub tree_known : (note : ℕ) → note ≡ note_at pages i → 0 < note → note ≤ deepest
      → TreeSays s p labels pages counts n i layer mark (eqb note (layer + 1)) pages counts
  tree_known note e a₀ b₀ =
      let a : 0 < note_at pages i = omega (arith, e) in
      let b : note_at pages i ≤ deepest = omega (arith, e) in
      rw e (known a b (eqb (note_at pages i) (layer + 1)) refl)
    where
      known : 0 < note_at pages i → note_at pages i ≤ deepest → (r : Bool) → eqb (note_at pages i) (layer + 1) ≡ r → TreeSays s p labels pages counts n i layer mark r pages counts
      known a b true q =
          tree_true s p labels pages counts n i layer mark pages counts under.summings (reaching_none (raws_in p) n mark _ pages counts)
          (omega (arith, eqb-true (note_at pages i) (layer + 1) q))
      known a b false q =
          tree_false s p labels pages counts n i layer mark pages counts (λ x e l.
          let y = under.summings.summed i h a b in
          let same : x ≡ y.0 = some-injective x y.0 (sym e ∙ y.1) in
          let k = ap (λ (z : Summary). z.layer) same in
          eqb-false (note_at pages i) (layer + 1) q (omega (arith, y.2)))

  module _ (at : ℕ) (place : at ≡ page_place (get_or pages i 0)) (got : Result PageAt Stop) (w : PageIs p at got) where
    pub tree_stops : (stop : Stop) → got ≡ Err stop → TreeSays s p labels pages counts n i layer mark false pages counts
    tree_stops stop q = absurd (page_stands under h at place got w stop q)

    module _ (pa : PageAt) (q : got ≡ Ok pa) where
      here : PageHere p at pa
      here = page_here_lem under h at place got w pa q

      abbrev es : List RawEntry
      es = entries_of_lem under h at place got w pa q

      es_read : times pa.count entry (drop pa.first p) ≡ read es (drop pa.past p)
      es_read = entries_read under h at place got w pa q

      abbrev raw : RawPage
      raw = record { entries = es; left = link_at p pa.left }

      is_raw : raw ≡ get_or (raws_in p) i no_page
      is_raw = raw_is under h at place got w pa q

      of_raw : tree_under p (sha256 (bytes_at (raws_in p) i)) ≡ summary_of_page (tree_under p) raw
      of_raw = summary_of under h at place got w pa q

      parts : (x : Summary) → SummaryAt (raws_in p) i x → PageSummed (tree_under p) raw x
      parts x e = page_summed (tree_under p) raw x (sym of_raw ∙ e)

      -- where the page holds something, it is not the empty page
      abbrev Holding : Type 0
      Holding = ((pa.count ≡ 0) × (pa.left ≡ 0 → ⊥)) ⊎ (pa.count ≡ 0 → ⊥)

      not_bare : Holding → es ≡ [] → link_at p pa.left ≡ none → ⊥
      not_bare f e l = ⊎_elim (λ k. k.1 (link_none p pa.left l)) (λ k. k (none_counted under h at place got w pa q e)) f

      pub tree_bare : pa.count ≡ 0 → pa.left ≡ 0 → TreeSays s p labels pages counts n i layer mark false pages counts
      unfolding after_gap after_entries
      tree_bare c l =
          tree_false s p labels pages counts n i layer mark pages counts (λ x e _.
          let k = parts x e in
          let none_read : es ≡ [] = entries_none under h at place got w pa q c in
          let start : no_tally ≡ k.left = some-injective no_tally k.left
          (ap (λ (o : Option (List ℕ)). after_gap (tree_under p) o no_tally) (sym (no_link_lem p pa.left l)) ∙ k.gap) in
          let whole : k.left ≡ k.whole = some-injective k.left k.whole
          (ap (λ (r : List RawEntry). after_entries (tree_under p) [] r k.left) (sym none_read) ∙ k.entries) in
          none-ne-some _ (ap (λ (t : Tally). t.layer) (start ∙ whole) ∙ k.sums.layer))

      -- ---- its links
      link_of_lem : (d : List ℕ) → Among d (link_list (link_at p pa.left) ++ links_after es)
          → Among d (link_list (get_or (raws_in p) i no_page).left ++ links_after (get_or (raws_in p) i no_page).entries)
      link_of_lem d j = subst (λ (r : RawPage). Among d (link_list r.left ++ links_after r.entries)) is_raw j

      leads : (d : List ℕ) → Among d (link_list (link_at p pa.left) ++ links_after es) → LeadsOn p n d
      leads d j = links_lead under.summings.filed i h d (link_of_lem d j)

      carries : CarriesOn p (link_list (link_at p pa.left) ++ links_after es) (sha256 (bytes_at (raws_in p) i))
      carries d r j k = reached_on under.summings.filed under.bytes i h d r (link_of_lem d j) k

      left_among : (d : List ℕ) → Among d (link_list (link_at p pa.left)) → Among d (link_list (link_at p pa.left) ++ links_after es)
      left_among d j = among_left (link_list (link_at p pa.left)) (links_after es) d j

      after_among : (d : List ℕ) → Among d (links_after es) → Among d (link_list (link_at p pa.left) ++ links_after es)
      after_among d j = among_right (link_list (link_at p pa.left)) (links_after es) d j

      -- ---- the left link
      pub left_asked : (other : List ℕ) → GapAsked p n other last 0 pa.left 0 layer mark
      unfolding link_list
      left_asked other = record {
        leads = λ z.
            let some_link : pa.left ≡ 0 → ⊥ = λ e. omega arith in
            leads (digest_in p pa.left) (left_among (digest_in p pa.left) (rw (link_is p pa.left some_link) (inl refl)));
        within = λ z. omega (arith, here.left z, here.whole.within);
        room = omega arith;
        same = refl;
        few = omega arith;
        low = low;
        marked = small;
      }

      left_starts : BeforeGap layer 0 last 0 no_tally
      unfolding agrees
      left_starts = (record { number = refl; agree = refl; latest = refl }, λ _. refl)

      module _ (gapped : OptionOf PartSum) (pages₁ counts₁ keys₁ tags₁ last₁ : List ℕ)
          (gap : GapTold s p labels n pages counts last 0 pa.left 0 layer mark gapped pages₁ counts₁ keys₁ tags₁ last₁) where
        left_agrees : (x : Summary) (e : SummaryAt (raws_in p) i x) → x.layer ≡ layer → agrees (parts x e).left.layer layer ≡ true
        left_agrees x e l =
            let k = parts x e in
            entries_agree layer (tree_under p) [] es k.left k.whole k.entries (subst (λ (m : ℕ). agrees k.whole.layer m ≡ true) l (whole_agrees k.whole x k.sums))

        pub tree_no_gap : gapped ≡ None → TreeSays s p labels pages counts n i layer mark false pages₁ counts₁
        tree_no_gap g =
            let no = subst (λ (r : OptionOf PartSum). GapTold s p labels n pages counts last 0 pa.left 0 layer mark r pages₁ counts₁ keys₁ tags₁ last₁) g gap in
            tree_false s p labels pages counts n i layer mark pages₁ counts₁ (λ x e l.
            let k = parts x e in
            no no_tally left_starts k.left k.gap (left_agrees x e l)
            (omega (arith, entries_grow (tree_under p) [] es k.left k.whole k.entries, k.sums.count, k.sums.few)))

        module _ (start : PartSum) (g : gapped ≡ Some start) where
          left_whole : PartWhole (BeforeGap layer 0 last 0) (after_gap (tree_under p) (link_at p pa.left)) (link_list (link_at p pa.left)) s p labels n layer mark
              pages counts pages₁ counts₁ keys₁ tags₁ last₁ start
          left_whole = subst (λ (r : OptionOf PartSum). GapTold s p labels n pages counts last 0 pa.left 0 layer mark r pages₁ counts₁ keys₁ tags₁ last₁) g gap

          pub left_underway : Underway s p labels pages₁ counts₁ n keys₁ tags₁ last₁
          left_underway = left_whole.underway

          pub entries_asked : EntriesAsked p n pa.first pa.count start.count layer mark
          entries_asked = record {
            row = es;
            past = pa.past;
            reads = es_read;
            leads = λ d j. leads d (after_among d j);
            there = here.start.within;
            few = left_whole.few;
            low = low;
            marked = small;
          }

          left_tally : (u : Tally) × (after_gap (tree_under p) (link_at p pa.left) no_tally ≡ some u) × Tallied layer start.count last₁ start.size u
          left_tally = left_whole.tally no_tally left_starts

          module _ (judged : OptionOf PartSum) (pages₂ counts₂ keys₂ tags₂ last₂ : List ℕ)
              (entries : EntriesTold s p labels n pages₁ counts₁ last₁ start.size pa.first pa.count start.count layer mark judged pages₂ counts₂ keys₂ tags₂ last₂) where
            pub tree_no_entries : judged ≡ None → TreeSays s p labels pages counts n i layer mark false pages₂ counts₂
            tree_no_entries z =
                let no = subst (λ (r : OptionOf PartSum). EntriesTold s p labels n pages₁ counts₁ last₁ start.size pa.first pa.count start.count layer mark r
                pages₂ counts₂ keys₂ tags₂ last₂) z entries es pa.past es_read in
                tree_false s p labels pages counts n i layer mark pages₂ counts₂ (λ x e l.
                let k = parts x e in
                let same : left_tally.0 ≡ k.left = some-injective left_tally.0 k.left (sym left_tally.1 ∙ k.gap) in
                no left_tally.0 left_tally.2 k.whole (ap (after_entries (tree_under p) [] es) same ∙ k.entries)
                (subst (λ (m : ℕ). agrees k.whole.layer m ≡ true) l (whole_agrees k.whole x k.sums))
                (omega (arith, k.sums.count, k.sums.few)))

            module _ (sum : PartSum) (z : judged ≡ Some sum) where
              whole : PartWhole (Tallied layer start.count last₁ start.size) (after_entries (tree_under p) [] es) (links_after es) s p labels n layer mark
                  pages₁ counts₁ pages₂ counts₂ keys₂ tags₂ last₂ sum
              whole = subst (λ (r : OptionOf PartSum). EntriesTold s p labels n pages₁ counts₁ last₁ start.size pa.first pa.count start.count layer mark r
                  pages₂ counts₂ keys₂ tags₂ last₂) z entries es pa.past es_read

              tree_summings : Summings s p labels pages₂ counts₂ n (raws_in p)
              tree_summings = whole.underway.summings

              pub tree_few : sum.count ≤ most
              tree_few = whole.few

              pub tree_kept : KeptKeys (raws_in p) n keys₂ tags₂
              tree_kept = whole.underway.kept

              later : Reaching (raws_in p) n mark (sha256 (bytes_at (raws_in p) i)) pages₁ counts₁ pages₂ counts₂
              later = whole.grown (sha256 (bytes_at (raws_in p) i)) (λ d r j k. carries d r (after_among d j) k)

              reaches : Reaching (raws_in p) n mark (sha256 (bytes_at (raws_in p) i)) pages counts pages₂ counts₂
              reaches = reaching_then (left_whole.grown (sha256 (bytes_at (raws_in p) i)) (λ d r j k. carries d r (left_among d j) k)) later

              all_judged : (d : List ℕ) → Among d (links_by_place (get_or (raws_in p) i no_page)) → JudgedAt p n pages₂ d
              all_judged d j =
                  among-split (link_list (link_at p pa.left)) (links_after es) d
                  (subst (λ (r : RawPage). Among d (link_list r.left ++ links_after r.entries)) (sym is_raw) (links_order (get_or (raws_in p) i no_page) d j))
                  (λ k. judged_stays p later d (left_whole.judged d k))
                  (λ k. whole.judged d k)

              module _ (hold : Holding) (new : 1 ≤ note_at pages i → deepest < note_at pages i)
                  (pages₃ counts₃ : List ℕ) (noted : PageNoted pages₂ counts₂ i at (layer + 1) mark sum.count pages₃ counts₃) where
                sums : (x : Summary) × SummaryAt (raws_in p) i x × (x.layer ≡ layer) × (x.count ≡ sum.count)
                sums =
                    let u = whole.tally left_tally.0 left_tally.2 in
                    let x = page_sums (tree_under p) (link_at p pa.left) es left_tally.0 u.0 layer left_tally.1 u.1 (not_bare hold) u.2.agree
                    (omega arith) (omega (arith, u.2.number, whole.few)) in
                    (x.0, of_raw ∙ x.1, x.2, x.3 ∙ u.2.number)

                not_noted : 1 ≤ note_at pages i → ⊥
                not_noted k =
                    let e = is_raw ∙ under.summings.alone i h (new k) in
                    not_bare hold (ap (λ (r : RawPage). r.entries) e) (ap (λ (r : RawPage). r.left) e)

                pub tree_whole : TreeSays s p labels pages counts n i layer mark true pages₃ counts₃
                tree_whole =
                    tree_true s p labels pages counts n i layer mark pages₃ counts₃
                    (noted_summings tree_summings h noted (page_reads_at under h at place got w) (omega arith)
                    (λ _. (sums.0, sums.1, omega (arith, sums.2), sums.3))
                    (λ k. absurd (omega arith)) all_judged)
                    (noted_reaching tree_summings h noted reaches not_noted (reached_here under.summings.filed i h))
                    (omega (arith, note_here tree_summings h noted))
