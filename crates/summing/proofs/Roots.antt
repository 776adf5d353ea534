-- The page of a root, as judge_root judges it.
use Rattle.std.specs.Prelude.{Result, Ok, Err}
use Prim.Native.Nat.{ℕ, suc, ◌+◌, ◌-◌, ◌≤◌, ◌<◌}
use mathlib.Core.Path.{◌≡◌, refl, sym, ap, subst, ◌∙◌}
use mathlib.Core.Bool.{Bool, true, false}
use mathlib.Core.Option.{Option, none, some}
use mathlib.Core.List.{List, [], ◌∷◌, ◌++◌}
use native.Mathlib.Omega.{arith}
use lib.Dec.{leb}
use lib.ListN.{length, take, drop, get_or, length-drop}
use lib.Seq.{take-nil, length-take-le}
use borrow.Author.Tests.{leb-true, leb-false}
use borrow.Table.Steps.{cases}
use Rattle.bytestring.specs.Bytes.{Bytes}
use Rattle.bytestring.proofs.Tools.{part_is}
use Rattle.limits.specs.Limits.{deepest, longest_key}
use Rattle.fips180.specs.Hash.{sha256}
use Rattle.key.specs.Key.{lawful}
use Rattle.key.specs.Layer.{layer_of}
use Rattle.key.proofs.Laws.{lawful_length, layer_le}
use Rattle.page.specs.Reading.{read, times}
use Rattle.page.specs.Page.{RawEntry, RawPage, entry}
use Rattle.page_reader.specs.Place.{Reads, link_at, entry_at, Located, LocatedIs, PageIs}
use Rattle.page_reader.specs.declared.Stop.{Stop}
use Rattle.page_reader.specs.declared.EntryAt.{EntryAt}
use Rattle.page_reader.specs.declared.PageAt.{PageAt}
use Rattle.tree.specs.OnePage.{key_after}
use Rattle.promises.specs.Map.{is_there}
use Rattle.promises.specs.Promises.{Among}
use Rattle.states.specs.Pages.{link_list, links_after}
use Rattle.summaries.specs.Summary.{Summary, after_entry, after_entries, root_of_parts, root_of_page, root_of_read, root_of_found, is_root}
use Rattle.summaries.proofs.Tallies.{page_summed, then_taken, entry_taken, entry_agrees, entries_agree, whole_agrees}
use Rattle.sequence.specs.Noted.{links_by_place}
use Rattle.filing.specs.Filed.{page_place, no_page, bytes_at, pages_by_digest}
use Rattle.tree_keys.specs.Ends.{KeptKeys}
use Rattle.tree_keys.proofs.Firsts.{link_is, no_link_lem}
use Rattle.summing.specs.Summed.{note_at, Summings, Reaching, TreeSays, RootSays}
use Rattle.summing.specs.Inner.{raws_in, file_of, tree_under, Underway, PageNoted}
use Rattle.summing.proofs.Reaching.{reaching_none}
use Rattle.summing.proofs.Pages.{raws_are, page_found, page_back, reached_here}
use Rattle.summing.proofs.Raws.{entry_there, entry_behind, page_reads_at, page_stands, entries_of_lem, entries_read, entries_none, none_counted, raw_is, summary_of}
use Rattle.summing.proofs.Noting.{note_here, noted_summings, noted_reaching}

-- ---- what is said of the pages that a sequence reads as is said of any
pub root_underway : (s p labels pages counts : List ℕ) (n : ℕ) (keys tags last : List ℕ) → Bytes p
    → (raws : List RawPage) → Summings s p labels pages counts n raws → KeptKeys raws n keys tags → 2 ≤ length tags → length last ≡ longest_key
    → Underway s p labels pages counts n keys tags last
root_underway s p labels pages counts n keys tags last b raws w k two room =
    let e = raws_are p raws w.filed.reads in
    record {
      bytes = b;
      summings = subst (Summings s p labels pages counts n) e w;
      kept = subst (λ (rs : List RawPage). KeptKeys rs n keys tags) e k;
      places = two;
      room = room;
    }

pub kept_also : {raws : List RawPage} {n : ℕ} {keys tags keys' tags' : List ℕ} → keys ≡ keys' → tags ≡ tags' → KeptKeys raws n keys tags → KeptKeys raws n keys' tags'
kept_also {raws} {n} {keys} {tags} {keys'} e f k =
    subst (λ (x : List ℕ). KeptKeys raws n keys' x) f (subst (λ (x : List ℕ). KeptKeys raws n x tags) e k)

pub root_keeps : (s p labels pages counts : List ℕ) (n : ℕ) (keys tags : List ℕ) → KeptKeys (raws_in p) n keys tags
    → (raws : List RawPage) → Summings s p labels pages counts n raws → KeptKeys raws n keys tags
root_keeps s p labels pages counts n keys tags k raws w = subst (λ (rs : List RawPage). KeptKeys rs n keys tags) (sym (raws_are p raws w.filed.reads)) k

module _ (s p labels pages counts : List ℕ) (n i mark : ℕ) (pages₁ counts₁ : List ℕ) where
  root_true : is_root (file_of p) (sha256 (bytes_at (raws_in p) i)) ≡ true → Summings s p labels pages₁ counts₁ n (raws_in p)
      → Reaching (raws_in p) n mark (sha256 (bytes_at (raws_in p) i)) pages counts pages₁ counts₁ → 1 ≤ note_at pages₁ i
      → RootSays s p labels pages counts n i mark true pages₁ counts₁
  root_true r a b c raws w =
      subst (λ (rs : List RawPage). (is_root (pages_by_digest rs) (sha256 (bytes_at rs i)) ≡ true) × Summings s p labels pages₁ counts₁ n rs
      × Reaching rs n mark (sha256 (bytes_at rs i)) pages counts pages₁ counts₁ × (1 ≤ note_at pages₁ i))
      (sym (raws_are p raws w.filed.reads)) (r, a, b, c)

  root_false : is_root (file_of p) (sha256 (bytes_at (raws_in p) i)) ≡ false → RootSays s p labels pages counts n i mark false pages₁ counts₁
  root_false r raws w =
      subst (λ (rs : List RawPage). is_root (pages_by_digest rs) (sha256 (bytes_at rs i)) ≡ false) (sym (raws_are p raws w.filed.reads)) r

is_there_lem : (o : Option Summary) (x : Summary) → o ≡ some x → is_there o ≡ true
unfolding is_there
is_there_lem o x e = rw e

not_there : (o : Option Summary) → ((x : Summary) → o ≡ some x → ⊥) → is_there o ≡ false
unfolding is_there
not_there none f = refl
not_there (some x) f = absurd (f x refl)

module _ {s p labels pages counts : List ℕ} {n : ℕ} {keys tags last : List ℕ} {i mark : ℕ} (under : Underway s p labels pages counts n keys tags last) (h : i < n)
    (small : mark < 2) (at : ℕ) (place : at ≡ page_place (get_or pages i 0)) (got : Result PageAt Stop) (w : PageIs p at got) where
  pub root_stops : (stop : Stop) → got ≡ Err stop → ⊥
  root_stops stop q = page_stands under h at place got w stop q

  module _ (pa : PageAt) (q : got ≡ Ok pa) where
    abbrev es : List RawEntry
    es = entries_of_lem under h at place got w pa q

    abbrev sum : Option Summary
    sum = tree_under p (sha256 (bytes_at (raws_in p) i))

    parts : is_root (file_of p) (sha256 (bytes_at (raws_in p) i)) ≡ root_of_parts sum es (link_at p pa.left)
    unfolding is_root root_of_found root_of_read root_of_page
    parts =
        rw (page_found under.summings.filed i h, page_back under.summings.filed under.bytes i h)
        (ap (λ (r : RawPage). root_of_parts sum r.entries r.left) (sym (raw_is under h at place got w pa q)))

    pub root_no_entry : pa.count ≡ 0 → (pa.left ≡ 0 → ⊥) → RootSays s p labels pages counts n i mark false pages counts
    unfolding root_of_parts
    root_no_entry c l =
        root_false s p labels pages counts n i mark pages counts
        (parts ∙ rw (entries_none under h at place got w pa q c, link_is p pa.left l))

    module _ (c : pa.count ≡ 0) (l : pa.left ≡ 0) where
      bare_root : is_root (file_of p) (sha256 (bytes_at (raws_in p) i)) ≡ true
      unfolding root_of_parts
      bare_root = parts ∙ rw (entries_none under h at place got w pa q c, no_link_lem p pa.left l)

      bare : get_or (raws_in p) i no_page ≡ no_page
      bare =
          sym (raw_is under h at place got w pa q)
          ∙ ap (λ (r : List RawEntry). record { entries = r; left = link_at p pa.left }) (entries_none under h at place got w pa q c)
          ∙ ap (λ (o : Option (List ℕ)). record { entries = []; left = o }) (no_link_lem p pa.left l)

      no_links : (d : List ℕ) → Among d (links_by_place (get_or (raws_in p) i no_page)) → ⊥
      unfolding links_by_place links_after link_list
      no_links d j = subst (λ (r : RawPage). Among d (links_by_place r)) bare j

      pub root_alone : note_at pages i ≡ 0 → (pages₁ counts₁ : List ℕ) → PageNoted pages counts i at 130 mark 0 pages₁ counts₁
          → RootSays s p labels pages counts n i mark true pages₁ counts₁
      root_alone z pages₁ counts₁ noted =
          root_true s p labels pages counts n i mark pages₁ counts₁ bare_root
          (noted_summings under.summings h noted (page_reads_at under h at place got w) (omega arith) (λ k. absurd (omega arith)) (λ _. bare)
          (λ d j. absurd (no_links d j)))
          (noted_reaching under.summings h noted (reaching_none (raws_in p) n mark _ pages counts) (λ k. omega arith)
          (reached_here under.summings.filed i h))
          (omega (arith, note_here under.summings h noted))

      pub root_reached : (note_at pages i ≡ 0 → ⊥) → RootSays s p labels pages counts n i mark true pages counts
      root_reached z =
          root_true s p labels pages counts n i mark pages counts bare_root under.summings (reaching_none (raws_in p) n mark _ pages counts) (omega (arith, z))

    module _ (some-entry : pa.count ≡ 0 → ⊥) where
      holds_entry : es ≡ [] → ⊥
      holds_entry e = some-entry (none_counted under h at place got w pa q e)

      entry_root : is_root (file_of p) (sha256 (bytes_at (raws_in p) i)) ≡ is_there sum
      unfolding root_of_parts
      entry_root = parts ∙ root_of_lem es refl
        where
          root_of_lem : (l : List RawEntry) → es ≡ l → root_of_parts sum l (link_at p pa.left) ≡ is_there sum
          root_of_lem [] e = absurd (holds_entry e)
          root_of_lem (a ∷ l) e = refl

      -- it was judged before
      pub root_known : 0 < note_at pages i → RootSays s p labels pages counts n i mark true pages counts
      root_known k =
          root_true s p labels pages counts n i mark pages counts
          (entry_root ∙ cases (leb (note_at pages i) deepest)
          (λ e. let x = under.summings.summed i h k (leb-true (note_at pages i) deepest e) in is_there_lem sum x.0 x.1)
          (λ e. absurd (holds_entry (ap (λ (r : RawPage). r.entries)
          (raw_is under h at place got w pa q ∙ under.summings.alone i h (leb-false (note_at pages i) deepest e))))))
          under.summings (reaching_none (raws_in p) n mark _ pages counts) k

      -- ---- its first entry
      row_read : times (suc (pa.count - 1)) entry (drop pa.first p) ≡ read es (drop pa.past p)
      row_read =
          let more : suc (pa.count - 1) ≡ pa.count = omega (arith, some-entry) in
          ap (λ (m : ℕ). times m entry (drop pa.first p)) more ∙ entries_read under h at place got w pa q

      first_there : (a : RawEntry) × ((to : ℕ) × Reads entry p pa.first a to)
      first_there = entry_there p pa.first (pa.count - 1) es (drop pa.past p) row_read under.bytes

      pub root_entry_there : (found : Result EntryAt Stop) (stop : Stop) → LocatedIs p pa.first found → found ≡ Err stop → ⊥
      root_entry_there found stop f e = let x = first_there in subst (LocatedIs p pa.first) e f x.0 x.1.0 x.1.1

      module _ (e : EntryAt) (found : Located p pa.first e) where
        behind : (later : List RawEntry) × (es ≡ entry_at p e ∷ later) × (times (pa.count - 1) entry (drop e.end p) ≡ read later (drop pa.past p))
        behind =
            let x = first_there in
            entry_behind p pa.first (pa.count - 1) es (drop pa.past p) row_read e (found.here x.0 x.1.0 x.1.1)

        key_is : key_after [] (entry_at p e) ≡ take e.size (drop e.remainder p)
        key_is = ap (λ (l : List ℕ). l ++ take e.size (drop e.remainder p)) (take-nil e.shares)

        -- its key is lawful and has the layer of the tree, where there is a summary
        first_holds : (x : Summary) → sum ≡ some x
            → (lawful (take e.size (drop e.remainder p)) ≡ true) × (layer_of (take e.size (drop e.remainder p)) ≡ x.layer)
        unfolding after_entries
        first_holds x s₁ =
            let k = page_summed (tree_under p) (record { entries = es; left = link_at p pa.left }) x (sym (summary_of under h at place got w pa q) ∙ s₁) in
            let row = ap (λ (l : List RawEntry). after_entries (tree_under p) [] l k.left) (sym behind.1) ∙ k.entries in
            let m = then_taken (after_entry (tree_under p) [] (entry_at p e) k.left) (after_entries (tree_under p) (key_after [] (entry_at p e)) behind.0) k.whole row in
            let f = entry_taken (tree_under p) [] (entry_at p e) k.left m.between m.there in
            let a = entries_agree x.layer (tree_under p) (key_after [] (entry_at p e)) behind.0 m.between k.whole m.after (whole_agrees k.whole x k.sums) in
            (ap lawful (sym key_is) ∙ f.law, ap layer_of (sym key_is) ∙ (entry_agrees x.layer (tree_under p) [] (entry_at p e) k.left m.between f a).0)

        pub root_long : longest_key < e.size → RootSays s p labels pages counts n i mark false pages counts
        root_long long =
            root_false s p labels pages counts n i mark pages counts
            (entry_root ∙ not_there sum (λ x s₁.
            let whole = length-take-le e.size (drop e.remainder p) (omega (arith, length-drop e.remainder p, found.inside, found.within)) in
            omega (arith, lawful_length (take e.size (drop e.remainder p)) (first_holds x s₁).0)))

        pub root_tree : (layer : ℕ) → layer ≡ layer_of (take (e.remainder + e.size - e.remainder) (drop e.remainder p)) → (r : Bool) (pages₁ counts₁ : List ℕ)
            → TreeSays s p labels pages counts n i layer mark r pages₁ counts₁ → RootSays s p labels pages counts n i mark r pages₁ counts₁
        root_tree layer l true pages₁ counts₁ tree =
            let t = tree (raws_in p) under.summings in
            let low = layer_le (take (e.remainder + e.size - e.remainder) (drop e.remainder p)) in
            let x = t.0.summed i h (omega (arith, t.2)) (omega (arith, t.2, l)) in
            root_true s p labels pages counts n i mark pages₁ counts₁ (entry_root ∙ is_there_lem sum x.0 x.1) t.0 t.1 (omega (arith, t.2))
        root_tree layer l false pages₁ counts₁ tree =
            root_false s p labels pages counts n i mark pages₁ counts₁
            (entry_root ∙ not_there sum (λ x s₁.
            tree (raws_in p) under.summings x s₁
            (sym (l ∙ ap layer_of (part_is p e.remainder e.size) ∙ (first_holds x s₁).1))))
