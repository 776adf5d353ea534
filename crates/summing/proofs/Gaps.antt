-- The tree under a gap's link, as judge_gap judges it.
use Rattle.std.specs.Prelude.{Some}
use Prim.Native.Nat.{ℕ, zero, suc, ◌+◌, ◌-◌, ◌≤◌, ◌<◌}
use mathlib.Core.Path.{◌≡◌, refl, sym, ap, subst, ◌∙◌}
use mathlib.Core.Bool.{Bool, true, false, not, false≢true}
use mathlib.Core.Logic.{inl, ⊎_elim}
use mathlib.Core.Option.{Option, none, some, some-injective}
use mathlib.Core.List.{List}
use native.Mathlib.Omega.{arith}
use lib.ListN.{length, take, get_or}
use borrow.Author.Tests.{eq-eqb}
use Rattle.limits.specs.Limits.{most}
use Rattle.fips180.specs.Hash.{sha256}
use Rattle.value.specs.Value.{digest_in}
use Rattle.page_reader.specs.Place.{link_at}
use Rattle.promises.specs.Promises.{Among}
use Rattle.states.specs.Pages.{link_list}
use Rattle.summaries.specs.Summary.{Summary, Tally, agrees, passes, with_page, after_gap, ReachedFrom}
use Rattle.summaries.proofs.Tallies.{ChildTaken, child_taken, taken_child, child_layer}
use Rattle.filing.specs.Filed.{bytes_at, Filed}
use Rattle.tree_keys.specs.Ends.{SummaryAt, Leads, LeadsTo, LastSays, KeptKeys}
use Rattle.tree_keys.proofs.Firsts.{link_is, no_link_lem}
use Rattle.summing.specs.Summed.{note_at, Summings, Reaching, TreeSays}
use Rattle.summing.specs.Inner.{raws_in, file_of, tree_under, Underway, LastOf, CarriesOn, NoPart, BeforeGap, GapTold, GapAsked, FirstFollows}
use Rattle.summing.proofs.Reaching.{reaching_none, reaching_up}

-- the same key in another buffer
last_moves : (last before : List ℕ) (size : ℕ) (o : Option (List ℕ)) → take size last ≡ take size before → size ≤ length before → LastOf last size o → LastOf before size o
last_moves last before size none e h w = w
last_moves last before size (some k) e h w = record { room = h; bytes = sym e ∙ w.bytes }

-- what a gap links to carries on from its own digest
link_alone : (p : List ℕ) (link : ℕ) (d : List ℕ) → Among d (link_list (link_at p link)) → d ≡ digest_in p link
unfolding link_at link_list
link_alone p zero d i = absurd i
link_alone p (suc before) d i = ⊎_elim (λ e. e) (λ k. absurd k) i

pub gap_carries : (p : List ℕ) (link : ℕ) → CarriesOn p (link_list (link_at p link)) (digest_in p link)
gap_carries p link d q i r = subst (λ (e : List ℕ). ReachedFrom (file_of p) e q) (link_alone p link d i) r

module _ {s p labels pages counts : List ℕ} {n : ℕ} {keys tags last before : List ℕ} {size link count layer mark : ℕ}
    (under : Underway s p labels pages counts n keys tags last) (asked : GapAsked p n before last size link count layer mark) where
  abbrev Start : Tally → Type 0
  Start = BeforeGap layer count last size

  abbrev step : Tally → Option Tally
  step = after_gap (tree_under p) (link_at p link)

  -- no link
  pub gap_empty : link ≡ 0
      → GapTold s p labels n pages counts last size link count layer mark (Some (record { count = count; size = size })) pages counts keys tags last
  unfolding after_gap link_list
  gap_empty z =
      let e = no_link_lem p link z in
      record {
        underway = under;
        few = asked.few;
        grown = λ digest f. reaching_none (raws_in p) n mark digest pages counts;
        judged = λ d i. absurd (rw e at i);
        tally = λ t w. (t, rw e, w.0);
      }

  module _ (linked : link ≡ 0 → ⊥) where
    pub gap_leads : Leads s p labels n link
    gap_leads = record {
      pages = pages;
      raws = raws_in p;
      filed = under.summings.filed;
      within = asked.within (omega (arith, linked));
      there = asked.leads (omega (arith, linked));
    }

    digest_among : Among (digest_in p link) (link_list (link_at p link))
    unfolding link_list
    digest_among = rw (link_is p link linked) (inl refl)

    step_taken : (t u : Tally) → step t ≡ some u → ChildTaken (tree_under p (digest_in p link)) t u
    unfolding after_gap
    step_taken t u q = child_taken (tree_under p (digest_in p link)) t u (rw (link_is p link linked) at q)

    pub gap_too_low : layer ≡ 0 → NoPart Start step layer
    gap_too_low z t w u q a few = let e = child_layer layer (step_taken t u q) a in omega arith

    module _ (high : layer ≡ 0 → ⊥) (c : ℕ) (to : LeadsTo s p labels n link c) where
      same_digest : sha256 (bytes_at (raws_in p) c) ≡ digest_in p link
      same_digest = to.digest pages (raws_in p) under.summings.filed

      taken_at : (t u : Tally) (k : ChildTaken (tree_under p (digest_in p link)) t u) → SummaryAt (raws_in p) c k.child
      taken_at t u k = ap (tree_under p) same_digest ∙ k.there

      pub gap_no_tree : (r : Bool) (pages₁ counts₁ : List ℕ) → TreeSays s p labels pages counts n c (layer - 1) mark r pages₁ counts₁ → not r ≡ true
          → NoPart Start step layer
      gap_no_tree true pages₁ counts₁ tree h = absurd (false≢true h)
      gap_no_tree false pages₁ counts₁ tree h = λ t w u q a few.
          let k = step_taken t u q in
          let l = child_layer layer k a in
          tree (raws_in p) under.summings k.child (taken_at t u k) (omega arith)

      module _ (r : Bool) (pages₁ counts₁ : List ℕ) (tree : TreeSays s p labels pages counts n c (layer - 1) mark r pages₁ counts₁) (yes : not r ≡ false) where
        told : Summings s p labels pages₁ counts₁ n (raws_in p) × Reaching (raws_in p) n mark (sha256 (bytes_at (raws_in p) c)) pages counts pages₁ counts₁
            × (note_at pages₁ c ≡ suc (layer - 1))
        told = told_of r tree yes
          where
            told_of : (b : Bool) → TreeSays s p labels pages counts n c (layer - 1) mark b pages₁ counts₁ → not b ≡ false
                → Summings s p labels pages₁ counts₁ n (raws_in p) × Reaching (raws_in p) n mark (sha256 (bytes_at (raws_in p) c)) pages counts pages₁ counts₁
                × (note_at pages₁ c ≡ suc (layer - 1))
            told_of true w h = w (raws_in p) under.summings
            told_of false w h = absurd (false≢true (sym h))

        pub gap_filed : Filed s p labels pages₁ n (raws_in p)
        gap_filed = told.0.filed

        pub gap_underway : (keys₁ tags₁ last₁ : List ℕ) → KeptKeys (raws_in p) n keys₁ tags₁ → length tags₁ ≡ length tags → length last₁ ≡ length last
            → Underway s p labels pages₁ counts₁ n keys₁ tags₁ last₁
        gap_underway keys₁ tags₁ last₁ k e f = record {
          bytes = under.bytes;
          summings = told.0;
          kept = k;
          places = omega (arith, under.places);
          room = f ∙ under.room;
        }

        pub gap_counted : c < length counts₁
        gap_counted = omega (arith, told.0.room, to.number)

        child_is : (x : Summary) × SummaryAt (raws_in p) c x × (suc x.layer ≡ note_at pages₁ c) × (x.count ≡ get_or counts₁ c 0)
        child_is = told.0.summed c to.number (omega (arith, told.2)) (omega (arith, told.2, asked.low))

        one_child : (t u : Tally) (k : ChildTaken (tree_under p (digest_in p link)) t u) → k.child ≡ child_is.0
        one_child t u k = some-injective k.child child_is.0 (sym (taken_at t u k) ∙ child_is.1)

        rises_as : (f : Bool) → FirstFollows s p labels pages₁ n c before size f → (x : Summary) → SummaryAt (raws_in p) c x
            → (t : Tally) → Start t → f ≡ passes t.last x.first
        unfolding FirstFollows
        rises_as f w x q t b =
            w (raws_in p) gap_filed x q t.last (last_moves last before size t.last asked.same asked.room b.0.latest) b.1

        pub gap_no_rise : (f : Bool) → FirstFollows s p labels pages₁ n c before size f → not f ≡ true → NoPart Start step layer
        gap_no_rise true w h = absurd (false≢true h)
        gap_no_rise false w h = λ t b u q a few.
            let k = step_taken t u q in
            false≢true (rises_as false w k.child (taken_at t u k) t b ∙ k.rises)

        pub gap_too_many : most < count + get_or counts₁ c 0 → NoPart Start step layer
        gap_too_many h t b u q a few =
            let k = step_taken t u q in
            let e = ap (λ (v : Tally). v.count) k.after in
            let f = ap (λ (x : Summary). x.count) (one_child t u k) in
            omega (arith, child_is.3, b.0.number)

        module _ (f : Bool) (follows : FirstFollows s p labels pages₁ n c before size f) (rises : not f ≡ false) (few : count + get_or counts₁ c 0 ≤ most)
            (keys₁ tags₁ last₁ : List ℕ) (length₁ : ℕ) (latest : LastSays s p labels pages₁ n c last₁ length₁) where
          child_passes : (t : Tally) → Start t → passes t.last child_is.0.first ≡ true
          child_passes t b = passes_of f follows rises
            where
              passes_of : (g : Bool) → FirstFollows s p labels pages₁ n c before size g → not g ≡ false → passes t.last child_is.0.first ≡ true
              passes_of true w h = sym (rises_as true w child_is.0 child_is.1 t b)
              passes_of false w h = absurd (false≢true (sym h))

          pub gap_whole : Underway s p labels pages₁ counts₁ n keys₁ tags₁ last₁
              → GapTold s p labels n pages counts last size link count layer mark (Some (record { count = count + get_or counts₁ c 0; size = length₁ }))
              pages₁ counts₁ keys₁ tags₁ last₁
          unfolding after_gap agrees
          gap_whole now = record {
            underway = now;
            few = few;
            grown = λ digest carry.
                reaching_up told.1 digest (λ q r. carry (digest_in p link) q digest_among (subst (λ (d : List ℕ). ReachedFrom (file_of p) d q) same_digest r));
            judged = λ d i. (c, to.number, same_digest ∙ sym (link_alone p link d i), omega (arith, told.2));
            tally = λ t b.
                let x : Summary = child_is.0 in
                let up : suc x.layer ≡ layer = omega (arith, child_is.2, told.2, high) in
                let there : tree_under p (digest_in p link) ≡ some x = ap (tree_under p) (sym same_digest) ∙ child_is.1 in (
                  with_page x t,
                  rw (link_is p link linked, there)
                      (taken_child x t (ap (agrees t.layer) up ∙ b.0.agree) (child_passes t b)),
                  record {
                    number = omega (arith, b.0.number, child_is.3);
                    agree = eq-eqb (suc x.layer) layer up;
                    latest = latest (raws_in p) gap_filed x child_is.1;
                  },
                );
          }
