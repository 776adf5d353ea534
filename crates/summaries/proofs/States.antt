-- Number 18 is not due just where each record is a state's, the digests of the pages rise, each state's digest is that of a root, and each
-- page is reached from one of them.
use Prim.Native.Nat.{ℕ, ◌≤◌}
use mathlib.Core.Path.{◌≡◌, refl, sym, ◌∙◌}
use mathlib.Core.Bool.{true}
use mathlib.Core.Logic.{inl, inr}
use mathlib.Core.Option.{none}
use mathlib.Core.List.{List, [], ◌∷◌, map}
use lib.ListN.{length}
use Rattle.bytestring.proofs.Tools.{and_inv, and_both, All}
use Rattle.limits.specs.Limits.{longest, deepest}
use Rattle.value.specs.Value.{value_digest}
use Rattle.page.specs.Reading.{concat}
use Rattle.tree.specs.Record.{Record}
use Rattle.tree.specs.Judge.{due, rising, judge}
use Rattle.tree.proofs.Laws.{Some, due_none, none_due}
use Rattle.promises.specs.Promises.{Among}
use Rattle.promises.proofs.MapLaws.{Sorted, rising_sorted}
use Rattle.promises.proofs.DifferenceLaws.{among_left, among_right}
use Rattle.states.specs.Pages.{pages_in, by_digest, gather}
use Rattle.states.specs.States.{state_pages, all_states, bytes_or, gathered, gathered_states, is_accepted, all_accepted, state_tests}
use Rattle.states.proofs.Sequences.{PageBytes}
use Rattle.states.proofs.Filing.{among-split, all_each, each_all, all_among_there, there_all_among}
use Rattle.summaries.specs.Summary.{is_root, ReachedFrom}
use Rattle.summaries.proofs.Roots.{root_accepted, page_reached, reached_page}

-- the record of a state points at a root, and a page is reached from it
abbrev pub PointsAtRoot : List Record → Record → Type 0
PointsAtRoot pages r = is_root pages (value_digest r.val) ≡ true

abbrev pub ReachedFromState : List Record → List ℕ → Record → Type 0
ReachedFromState pages q r = ReachedFrom pages (value_digest r.val) q

pub record StatesPass (rs : List Record) (ps : List (List ℕ)) : Type 0 where
  pub states : all_states rs ≡ true
  pub order : rising (map by_digest ps) ≡ true
  pub roots : All (PointsAtRoot (map by_digest ps)) rs
  pub reached : (q : List ℕ) → Among q ps → Some (ReachedFromState (map by_digest ps) q) rs

module _ (ps : List (List ℕ)) (good : All PageBytes ps) (long : length (concat (λ b. b) ps) ≤ longest) where
  module _ (sorted : Sorted (map by_digest ps)) where
    accepted_roots : (rs : List Record) → all_accepted (map (gathered (map by_digest ps)) rs) ≡ true → All (PointsAtRoot (map by_digest ps)) rs
    unfolding all_accepted
    accepted_roots [] h = tt
    accepted_roots (r ∷ rs) h =
        let k = and_inv (is_accepted (judge (bytes_or (gather deepest (map by_digest ps) (value_digest r.val))))) h in
        (root_accepted ps good sorted long (value_digest r.val) ∙ k.0, accepted_roots rs k.1)

    roots_accepted : (rs : List Record) → All (PointsAtRoot (map by_digest ps)) rs → all_accepted (map (gathered (map by_digest ps)) rs) ≡ true
    unfolding all_accepted
    roots_accepted [] a = refl
    roots_accepted (r ∷ rs) a =
        and_both (sym (root_accepted ps good sorted long (value_digest r.val)) ∙ a.0) (roots_accepted rs a.1)

    state_reached : (rs : List Record) → All (PointsAtRoot (map by_digest ps)) rs → (q : List ℕ)
        → Among q (state_pages (map (gathered (map by_digest ps)) rs))
        → Some (ReachedFromState (map by_digest ps) q) rs
    unfolding state_pages
    state_reached [] a q i = absurd i
    state_reached (r ∷ rs) a q i =
        among-split (pages_in (bytes_or (gather deepest (map by_digest ps) (value_digest r.val)))) (state_pages (map (gathered (map by_digest ps)) rs)) q i
        (λ j. inl (page_reached ps good sorted long (value_digest r.val) a.0 q j))
        (λ j. inr (state_reached rs a.1 q j))

    reached_state : (rs : List Record) → All (PointsAtRoot (map by_digest ps)) rs → (q : List ℕ) → Some (ReachedFromState (map by_digest ps) q) rs
        → Among q (state_pages (map (gathered (map by_digest ps)) rs))
    unfolding state_pages
    reached_state [] a q s = absurd s
    reached_state (r ∷ rs) a q (inl h) =
        among_left (pages_in (bytes_or (gather deepest (map by_digest ps) (value_digest r.val)))) (state_pages (map (gathered (map by_digest ps)) rs)) q
        (reached_page ps good sorted long (value_digest r.val) a.0 q h)
    reached_state (r ∷ rs) a q (inr s) =
        among_right (pages_in (bytes_or (gather deepest (map by_digest ps) (value_digest r.val)))) (state_pages (map (gathered (map by_digest ps)) rs)) q
        (reached_state rs a.1 q s)

  pub states_passed : (rs : List Record) → due (state_tests rs ps) ≡ none → StatesPass rs ps
  unfolding state_tests gathered_states
  states_passed rs h =
      let t = due_none (state_tests rs ps) h in
      let sorted = rising_sorted (map by_digest ps) t.1.0 in
      let m : List Record = map (gathered (map by_digest ps)) rs in
      let roots = accepted_roots sorted rs t.1.1.0 in
      let all = all_among_there ps (state_pages m) t.1.1.1.0 in
      record {
        states = t.0;
        order = t.1.0;
        roots = roots;
        reached = λ q i. state_reached sorted rs roots q (all_each (λ p. Among p (state_pages m)) ps q all i);
      }

  pub states_pass : (rs : List Record) → StatesPass rs ps → due (state_tests rs ps) ≡ none
  unfolding state_tests gathered_states
  states_pass rs p =
      let sorted = rising_sorted (map by_digest ps) p.order in
      let m : List Record = map (gathered (map by_digest ps)) rs in
      let all = each_all (λ q. Among q (state_pages m)) ps (λ q i. reached_state sorted rs p.roots q (p.reached q i)) in
      none_due (state_tests rs ps)
      (p.states, (p.order, (roots_accepted sorted rs p.roots, (there_all_among ps (state_pages m) all, tt))))
