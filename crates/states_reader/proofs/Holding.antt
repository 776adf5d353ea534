-- Number 18: where it is due the states do not pass, and where it is not what is held is right.
use Rattle.std.specs.Prelude.{Option as OptionOf}
use Prim.Native.Nat.{ℕ, zero, suc, ◌+◌, ◌-◌, ◌^◌, ◌≤◌, ◌<◌}
use mathlib.Core.Path.{◌≡◌, refl, sym, ap, subst, ◌∙◌}
use mathlib.Core.Bool.{Bool, true, false, false≢true}
use mathlib.Core.Logic.{inl, inr, ⊎_elim}
use mathlib.Core.List.{List, [], ◌∷◌, map}
use native.Mathlib.Omega.{arith}
use lib.Dec.{ltb}
use lib.ListN.{length, get_or}
use borrow.Author.Tests.{ltb-true, ltb-false}
use borrow.Table.Steps.{cases}
use Rattle.answer.specs.declared.Refusal.TheVariants.{WrongStates}
use Rattle.bytestring.specs.Bytes.{Bytes, equal}
use Rattle.bytestring.proofs.Tools.{All, all_at, and_inv, and_both}
use Rattle.limits.specs.Limits.{longest, most}
use Rattle.fips180.specs.Hash.{sha256}
use Rattle.value.specs.Value.{digest_in, value_digest}
use Rattle.page.specs.Reading.{read}
use Rattle.page.specs.Page.{RawPage, page_bytes}
use Rattle.page.proofs.Pages.{GoodPage}
use Rattle.tree.specs.Record.{Record, records}
use Rattle.tree.proofs.Laws.{Some, accepted_table}
use Rattle.promises.specs.Promises.{Among}
use Rattle.states.specs.Pages.{sequence}
use Rattle.states.specs.States.{all_states, refused_states, judge_states}
use Rattle.states.proofs.Sequences.{sequence_back}
use Rattle.summaries.specs.Summary.{is_root, ReachedFrom}
use Rattle.summaries.proofs.States.{PointsAtRoot, ReachedFromState, StatesPass}
use Rattle.links.specs.Links.{Names}
use Rattle.sequence.specs.Noted.{links_of_all, PagesFrom}
use Rattle.sequence.proofs.Sizes.{few_links}
use Rattle.sequence.proofs.Places.{page_at_lem, link_at}
use Rattle.index.specs.Accepted.{AcceptedIndex}
use Rattle.row.specs.Row.{nothing}
use Rattle.row.specs.Search.{key_at}
use Rattle.filing.specs.Filed.{bytes_at, link_named, Matched, FiledAll}
use Rattle.filing.proofs.Places.{named_in_pages, named_in_states}
use Rattle.summing.specs.Summed.{note_at}
use Rattle.summing.specs.Inner.{raws_in, file_of}
use Rattle.summing.proofs.Pages.{raws_are}
use Rattle.states_reader.specs.Held.{most_pages, most_words, AmongRecords, ReachedOther, StatesHeld}
use Rattle.states_reader.specs.Inner.{SequenceHeld, is_state, is_own, RootWord, RootsNoted, OwnSays, Unsorted, root_digest, Rooted, SomeWrong, RootsJudged, AllNoted, HoldSays}
use Rattle.states_reader.proofs.Verdicts.{states_wrong, states_right}
use Rattle.states_reader.proofs.Judging.{not_own, is_other}
use Rattle.states_reader.proofs.Matching.{at_among, among_at, named_there, reached_named, link_leads}

-- ---- records by their positions
all_from : {A : Type 0} (P : A → Type 0) (d : A) (l : List A) → ((i : ℕ) → i < length l → P (get_or l i d)) → All P l
all_from P d [] f = tt
all_from P d (a ∷ l) f = (f 0 (omega arith), all_from P d l (λ i h. f (suc i) (omega arith)))

some_at : {A : Type 0} (P : A → Type 0) (d : A) (l : List A) → Some P l → (i : ℕ) × (i < length l) × P (get_or l i d)
some_at P d [] s = absurd s
some_at P d (a ∷ l) (inl p) = (0, omega arith, p)
some_at P d (a ∷ l) (inr s) = let w = some_at P d l s in (suc w.0, omega (arith, w.1), w.2)

at_some : {A : Type 0} (P : A → Type 0) (d : A) (l : List A) (i : ℕ) → i < length l → P (get_or l i d) → Some P l
at_some P d [] i h p = absurd (omega arith)
at_some P d (a ∷ l) zero h p = inl p
at_some P d (a ∷ l) (suc i) h p = inr (at_some P d l i (omega arith) p)

at_record : (rs : List Record) (i : ℕ) → i < length rs → AmongRecords (get_or rs i nothing) rs
unfolding AmongRecords
at_record [] i h = absurd (omega arith)
at_record (r ∷ rs) zero h = inl refl
at_record (r ∷ rs) (suc i) h = inr (at_record rs i (omega arith))

record_at_lem : (r : Record) (rs : List Record) → AmongRecords r rs → (i : ℕ) × (i < length rs) × (get_or rs i nothing ≡ r)
unfolding AmongRecords
record_at_lem r [] w = absurd w
record_at_lem r (q ∷ rs) (inl e) = (0, omega arith, sym e)
record_at_lem r (q ∷ rs) (inr w) = let v = record_at_lem r rs w in (suc v.0, omega (arith, v.1), v.2)

state_at : (rs : List Record) → all_states rs ≡ true → (j : ℕ) → j < length rs → is_state (get_or rs j nothing) ≡ true
unfolding all_states
state_at [] h j l = absurd (omega arith)
state_at (r ∷ rs) h zero l = (and_inv (is_state r) h).0
state_at (r ∷ rs) h (suc j) l = state_at rs (and_inv (is_state r) h).1 j (omega arith)

all_states_lem : (rs : List Record) → ((j : ℕ) → j < length rs → is_state (get_or rs j nothing) ≡ true) → all_states rs ≡ true
unfolding all_states
all_states_lem [] f = refl
all_states_lem (r ∷ rs) f = and_both (f 0 (omega arith)) (all_states_lem rs (λ j h. f (suc j) (omega arith)))

-- ---- words
page_names : (s p : List ℕ) (w : ℕ) → w + 32 ≤ length p → length p ≤ longest → Names s p [] w
page_names s p w h l = record {
  in_second = λ k. h;
  in_first = λ k. absurd (omega arith);
  chain = λ k. absurd (omega arith);
  label = λ k. absurd (omega arith);
  above = λ k. absurd (omega arith);
  in_chain = λ k. absurd (omega arith);
}

module _ {s v : List ℕ} {w : ℕ} (r : RootWord s v w) (p : List ℕ) where
  root_names : Names s p [] w
  root_names = record {
    in_second = λ k. absurd (omega (arith, r.word));
    in_first = λ k l. omega (arith, r.word, r.within);
    chain = λ k. absurd (omega (arith, r.low));
    label = λ k. absurd (omega (arith, r.low));
    above = λ k. absurd (omega (arith, r.low));
    in_chain = λ k. absurd (omega (arith, r.low));
  }

  root_named : link_named s p w ≡ value_digest v
  root_named =
      let high : 2 ^ 24 ≤ w = omega (arith, r.word) in
      let place : w - 2 ^ 24 ≡ r.place = omega (arith, r.word) in
      sym (named_in_states s p w high r.low) ∙ ap (digest_in s) place ∙ r.bytes

-- ---- the buffers
module _ {s p index words₀ pages₀ : List ℕ} {count n m : ℕ} (a : AcceptedIndex s index count) (held : SequenceHeld p words₀ pages₀ n m)
    (bs : Bytes s) (bp : Bytes p) (room : most_words ≤ length words₀) (page_room : most_pages ≤ length pages₀) where
  abbrev rs : List Record
  rs = records a.tree

  abbrev ps : List (List ℕ)
  ps = map page_bytes (raws_in p)

  are : held.noted.raws ≡ raws_in p
  are = raws_are p held.noted.raws held.noted.reads

  reads : sequence p ≡ read (raws_in p) []
  reads = subst (λ (l : List RawPage). sequence p ≡ read l []) are held.noted.reads

  number : length (raws_in p) ≡ n
  number = ap length (sym are) ∙ held.noted.number

  good : All GoodPage (raws_in p)
  good = (sequence_back p [] (raws_in p) bp reads).good

  pub few_records : count ≤ most
  few_records = omega (arith, a.size, (accepted_table s bs a.tree a.judged).fit.count)

  links_fit : m ≤ 89240
  links_fit = omega (arith, few_links p held.noted.raws held.noted.reads, held.noted.count, held.short)

  pub few_words_lem : m + count ≤ most_words
  few_words_lem = omega (arith, few_records, links_fit)

  pub words_fit : m + count ≤ length words₀
  words_fit = omega (arith, few_words_lem)

  pub not_passing : (StatesPass rs ps → ⊥) → judge_states (record { states = s; pages = p }) ≡ refused_states WrongStates
  not_passing = states_wrong s p a.tree (raws_in p) a.judged bp held.short reads

  pub state_wrong : (j : ℕ) × (j < count) × (is_state (get_or rs j nothing) ≡ false) → StatesPass rs ps → ⊥
  state_wrong w g = false≢true (sym w.2 ∙ state_at rs g.states w.0 (omega (arith, w.1, a.size)))

  module _ {roots words : List ℕ} (noted : RootsNoted s rs words₀ roots words m count) (size : length words ≡ length words₀)
      (rootRoom : count ≤ length roots) where
    root_digest_lem : (j : ℕ) → j < count → root_digest s p roots j ≡ value_digest (get_or rs j nothing).val
    root_digest_lem j h = root_named (noted.named j h) p

    -- the k-th word names a link of a page, or a root
    word-cases {κ} : {C : Type κ} (k : ℕ) → k < m + count → (k < m → C) → ((j : ℕ) → j < count → k ≡ m + j → C) → C
    word-cases k h f g =
        cases (ltb k m)
        (λ q. f (ltb-true k m q))
        (λ q. let l : m ≤ k = ltb-false k m q in g (k - m) (omega arith) (omega arith))

    link_within : (k : ℕ) → k < m → get_or words k 0 + 32 ≤ length p
    link_within k h = rw (noted.kept k h) (held.noted.within (omega (arith, links_fit)) k h)

    link_is : (k : ℕ) → k < m → link_named s p (get_or words k 0) ≡ digest_in p (get_or words₀ k 0)
    link_is k h =
        sym (named_in_pages s p (get_or words k 0) (omega (arith, link_within k h, held.short))) ∙ ap (digest_in p) (noted.kept k h)

    root_is : (k j : ℕ) → j < count → k ≡ m + j → link_named s p (get_or words k 0) ≡ root_digest s p roots j
    root_is k j h e = ap (λ (i : ℕ). link_named s p (get_or words i 0)) e ∙ ap (link_named s p) (noted.added j h)

    list_link : (d : List ℕ) → Among d (links_of_all (raws_in p)) → (k : ℕ) × (k < m) × (link_named s p (get_or words k 0) ≡ d)
    list_link d i =
        let there : Among d (links_of_all held.noted.raws) = rw are i in
        let w = (link_at held.noted (omega (arith, links_fit))).0 d there in
        (w.0, w.1, link_is w.0 w.1 ∙ w.2)

    link_listed : (k : ℕ) → k < m → Among (link_named s p (get_or words k 0)) (links_of_all (raws_in p))
    link_listed k h =
        let there = (link_at held.noted (omega (arith, links_fit))).1 k h in
        rw (link_is k h, ← are) there

    pub unsorted : Unsorted s p words (m + count) pages₀ n
    unsorted = record {
      reads = reads;
      number = number;
      places = subst (λ (l : List RawPage). PagesFrom p pages₀ 0 0 l) are (held.noted.places (omega (arith, held.few)));
      short = held.short;
      room = omega (arith, words_fit);
      page_room = omega (arith, held.few);
      names = λ k h.
          word-cases k h
          (λ l. page_names s p (get_or words k 0) (link_within k l) held.short)
          (λ j l e.
          let same : get_or words k 0 ≡ get_or roots j 0 = ap (λ (i : ℕ). get_or words i 0) e ∙ noted.added j l in
          rw same (root_names (noted.named j l) p));
      links = λ d i. let w = list_link d i in (w.0, omega (arith, w.1), w.2);
    }

    -- ---- what states that pass give
    module _ (g : StatesPass rs ps) where
      state_root : (j : ℕ) → j < count → is_root (file_of p) (root_digest s p roots j) ≡ true
      state_root j h = rw (root_digest_lem j h) (all_at (PointsAtRoot (file_of p)) nothing rs g.roots j (omega (arith, a.size)))

      page_from : (c : ℕ) → c < length (raws_in p) → (j : ℕ) × (j < count) × ReachedFrom (file_of p) (root_digest s p roots j) (bytes_at (raws_in p) c)
      page_from c h =
          let b : List ℕ = bytes_at (raws_in p) c in
          let w = some_at (ReachedFromState (file_of p) b) nothing rs (g.reached b (at_among (raws_in p) c h)) in
          let l : w.0 < count = omega (arith, w.1, a.size) in
          (w.0, l, rw (root_digest_lem w.0 l) w.2)

      matched : Matched s p words (m + count) (raws_in p)
      matched = record {
        rise = g.order;
        present = λ k h.
            word-cases k h
            (λ l. link_leads (raws_in p) good (link_named s p (get_or words k 0)) (link_listed k l)
            (λ c o. let w = page_from c o in (root_digest s p roots w.0, state_root w.0 w.1, w.2)))
            (λ j l e. let w = named_there (raws_in p) good (root_digest s p roots j) (state_root j l) in (w.0, w.1, w.2 ∙ sym (root_is k j l e)));
        linked = λ i h.
            let w = page_from i h in
            ⊎_elim
            (λ e. (m + w.0, omega (arith, w.1), root_is (m + w.0) w.0 w.1 refl ∙ sym e))
            (λ o. let v = list_link (sha256 (bytes_at (raws_in p) i)) o in (v.0, omega (arith, v.1), v.2))
            (reached_named (raws_in p) good w.2.0 (root_digest s p roots w.0) (bytes_at (raws_in p) i) w.2.1);
      }

    pub not_matched : (Matched s p words (m + count) (raws_in p) → ⊥) → StatesPass rs ps → ⊥
    not_matched f g = f (matched g)

    pub root_wrong : SomeWrong s p roots count → StatesPass rs ps → ⊥
    root_wrong w g = false≢true (sym w.2 ∙ state_root g w.0 w.1)

    module _ {labels : List ℕ} (filed : FiledAll s p words (m + count) labels pages₀ n (raws_in p)) where
      pub rooted : Rooted s p labels pages₀ roots count n
      rooted = record {
        filed = filed.filed;
        few = held.few;
        unnoted = λ c h.
            let w = page_at_lem p pages₀ held.noted.raws (held.noted.places (omega (arith, held.few))) c (omega (arith, held.noted.number)) in
            let low : get_or pages₀ c 0 < 2 ^ 22 = omega (arith, w.1.ahead, w.1.within, held.short) in
            omega arith;
        room = rootRoom;
        named = λ j h. root_names (noted.named j h) p;
        there = λ j h. let w = filed.all (m + j) (omega arith) in (w.0, w.1, w.2 ∙ root_is (m + j) j h refl);
      }

      module _ (k : List ℕ) (own : OptionOf ℕ) (is : OwnSays s index count k own) {pages : List ℕ}
          (judged : RootsJudged s p labels roots count own n pages) where
        pub page_unreached : (c : ℕ) × (c < n) × (note_at pages c ≡ 0) → StatesPass rs ps → ⊥
        page_unreached w g =
            let v = page_from g w.0 (omega (arith, w.1, number)) in
            omega (arith, w.2, judged.noted w.0 w.1 v.0 v.1 v.2)

        module _ (all : (c : ℕ) → c < n → 1 ≤ note_at pages c) where
          passes : StatesPass rs ps
          passes = record {
            states = all_states_lem rs (λ j h. noted.states j (omega (arith, a.size)));
            order = filed.rise;
            roots = all_from (PointsAtRoot (file_of p)) nothing rs (λ j h.
                let l : j < count = omega (arith, a.size) in rw (← root_digest_lem j l) (judged.right j l));
            reached = λ q i.
                let w = among_at (raws_in p) q i in
                let l : w.0 < n = omega (arith, w.1, number) in
                let v = judged.reached w.0 l (all w.0 l) in
                let from : List ℕ = value_digest (get_or rs v.0 nothing).val in
                let here : ReachedFrom (file_of p) from (bytes_at (raws_in p) w.0) = rw (← root_digest_lem v.0 v.1) v.2 in
                at_some (ReachedFromState (file_of p) q) nothing rs v.0 (omega (arith, v.1, a.size))
                (subst (λ (l : List ℕ). ReachedFrom (file_of p) from l) w.2 here);
          }

          pub states_held : StatesHeld s p k index labels pages count n
          unfolding ReachedOther
          states_held = record {
            indexed = a;
            raws = raws_in p;
            notes = judged.notes;
            judged = states_right s p a.tree (raws_in p) a.judged bp held.short reads passes;
            all = all;
            marked = λ c h e.
                let w = judged.marked c h (all c h) e in
                let other : equal k (key_at rs w.0) ≡ false = is a w.0 w.1 ∙ not_own own w.0 w.2 in
                (get_or rs w.0 nothing, at_record rs w.0 (omega (arith, w.1, a.size)), other, rw (← root_digest_lem w.0 w.1) w.3);
            unmarked = λ c h w.
                let v = record_at_lem w.0 rs w.1 in
                let l : v.0 < count = omega (arith, v.1, a.size) in
                let other : is_own own v.0 ≡ false = sym (is a v.0 l) ∙ subst (λ (r : Record). equal k r.key ≡ false) (sym v.2) w.2 in
                judged.unmarked c h (v.0, l, is_other own v.0 other, rw (root_digest_lem v.0 l, v.2) w.3);
          }

        pub hold_says : (r : Bool) → AllNoted pages n r → HoldSays s p k index count n r labels pages
        hold_says true all = states_held all
        hold_says false w = not_passing (page_unreached w)
