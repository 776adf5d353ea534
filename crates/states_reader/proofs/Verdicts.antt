-- The verdict on two buffers: the numbers of the pages by themselves, and number 18.
use Rattle.std.specs.Prelude.{Result, Ok, Err}
use Prim.Native.Nat.{ℕ, ◌≤◌, ◌<◌}
use mathlib.Core.Path.{◌≡◌, refl, sym, ap, ◌∙◌}
use mathlib.Core.Bool.{Bool, true, false, not, false≢true}
use mathlib.Core.Option.{none, some}
use mathlib.Core.List.{List, [], ◌∷◌, ◌++◌, map}
use native.Mathlib.Omega.{arith}
use lib.ListN.{length}
use borrow.Author.Tests.{le-leb, lt-leb}
use borrow.Table.Steps.{cases}
use Rattle.answer.specs.declared.Refusal.{Refusal}
use Rattle.answer.specs.declared.Refusal.TheVariants.{TooLong, EndsEarly, Departs, WrongStates}
use Rattle.bytestring.specs.Bytes.{Bytes}
use Rattle.bytestring.proofs.Tools.{All}
use Rattle.limits.specs.Limits.{longest}
use Rattle.page.specs.Reading.{read, ends_early, departs, concat}
use Rattle.page.specs.Page.{RawPage, page_bytes}
use Rattle.page.proofs.Pages.{GoodPage}
use Rattle.page_reader.specs.Place.{refusal_of, read_stop}
use Rattle.page_reader.specs.declared.Stop.{Stop}
use Rattle.page_reader.specs.declared.Stop.TheVariants.{EndsEarly as StopEarly, Departs as StopDeparts}
use Rattle.tree.specs.Record.{Record, records}
use Rattle.tree.specs.Table.{SpeltTree}
use Rattle.tree.specs.Judge.{Test, due, refused, accepted, judge}
use Rattle.tree.proofs.Laws.{due_none}
use Rattle.states.specs.Pages.{sequence}
use Rattle.states.specs.States.{state_tests, gathered_states, refused_states, accepted_states, settle_states, judge_sequence, judge_with_pages, judge_states}
use Rattle.states.proofs.Sequences.{PageBytes, sequence_back}
use Rattle.summaries.proofs.States.{StatesPass, states_pass, states_passed}
use Rattle.sequence.specs.Noted.{SequenceNoted, SequenceSays}
use Rattle.sequence.proofs.Sizes.{few_pages_lem}
use Rattle.index.specs.Accepted.{AcceptedIndex}
use Rattle.judge.specs.Verdict.{RegisterSays}
use Rattle.states_reader.specs.Held.{most_pages, StatesHeld}
use Rattle.states_reader.specs.Inner.{IndexSays, SequenceHeld, PagesSay, HoldSays}

-- ---- all tests have one number
all_wrong : (ts : List Test) → All (λ t. t.0 ≡ WrongStates) ts → (due ts ≡ none → ⊥) → due ts ≡ some WrongStates
unfolding due
all_wrong [] a f = absurd (f refl)
all_wrong (t ∷ ts) a f = cases t.1 (λ q. rw q (all_wrong ts a.1 (λ e. f (rw q e)))) (λ q. rw q (ap some a.0))

wrong_due : (rs : List Record) (ps : List (List ℕ)) → (due (state_tests rs ps) ≡ none → ⊥) → due (state_tests rs ps) ≡ some WrongStates
unfolding state_tests
wrong_due rs ps f = all_wrong (state_tests rs ps) (refl, (refl, (refl, (refl, tt)))) f

-- ---- the pages by themselves
module _ (p : List ℕ) (t : SpeltTree) where
  pub too_long : longest < length p → judge_with_pages (accepted t) p ≡ refused_states TooLong
  unfolding judge_with_pages
  too_long h = rw (lt-leb (length p) longest h)

  module _ (h : length p ≤ longest) where
    then_sequence : judge_with_pages (accepted t) p ≡ judge_sequence (records t) (sequence p)
    unfolding judge_with_pages
    then_sequence = rw (le-leb (length p) longest h)

    pub stops_early : sequence p ≡ ends_early → judge_with_pages (accepted t) p ≡ refused_states EndsEarly
    unfolding judge_sequence
    stops_early e = then_sequence ∙ rw e

    pub stops_departing : sequence p ≡ departs → judge_with_pages (accepted t) p ≡ refused_states Departs
    unfolding judge_sequence
    stops_departing e = then_sequence ∙ rw e

    module _ (raws : List RawPage) (reads : sequence p ≡ read raws []) where
      abbrev ps : List (List ℕ)
      ps = map page_bytes raws

      not_due : (due (state_tests (records t) ps) ≡ none → ⊥) → judge_with_pages (accepted t) p ≡ refused_states WrongStates
      unfolding judge_sequence settle_states
      not_due f = then_sequence ∙ rw (reads, wrong_due (records t) ps f)

      pub none_due : due (state_tests (records t) ps) ≡ none → judge_with_pages (accepted t) p ≡ accepted_states (gathered_states (records t) ps)
      unfolding judge_sequence settle_states
      none_due e = then_sequence ∙ rw (reads, e)

      pub too_many_pages : most_pages < length raws → judge_with_pages (accepted t) p ≡ refused_states WrongStates
      unfolding state_tests
      too_many_pages g = not_due (λ e. omega (arith, few_pages_lem p raws reads (due_none (state_tests (records t) ps) e).1.0))

-- ---- what the judging of the register says
module _ (s index row : List ℕ) (r : Result (ℕ × ℕ) Refusal) (says : RegisterSays s r index row) where
  pub index_accepted : (count n : ℕ) → r ≡ Ok (count, n) → AcceptedIndex s index count
  index_accepted count n e = (rw e at says).0

  pub index_refused : (x : Refusal) → r ≡ Err x → judge s ≡ refused x
  index_refused x e = rw e at says

-- ---- what the reading says
module _ (p words pages : List ℕ) (r : Result (ℕ × ℕ) Stop) (says : SequenceSays p r words pages) where
  pub read_whole : (n m : ℕ) → r ≡ Ok (n, m) → SequenceNoted p words pages n m
  read_whole n m e = rw e at says

  pub read_stopped : (stop : Stop) → r ≡ Err stop → sequence p ≡ read_stop stop
  read_stopped stop e = rw e at says

module _ (p words pages : List ℕ) (r : Result (ℕ × ℕ) Stop) (says : SequenceSays p r words pages) (h : length p ≤ longest) where
  pub read_refused : (stop : Stop) → r ≡ Err stop → (why : Refusal) → why ≡ refusal_of stop → (t : SpeltTree) → judge_with_pages (accepted t) p ≡ refused_states why
  read_refused StopEarly e why w t = rw w (stops_early p t h (read_stopped p words pages r says StopEarly e))
  read_refused StopDeparts e why w t = rw w (stops_departing p t h (read_stopped p words pages r says StopDeparts e))

  pub read_too_many : (n m : ℕ) → r ≡ Ok (n, m) → most_pages < n → (t : SpeltTree) → judge_with_pages (accepted t) p ≡ refused_states WrongStates
  read_too_many n m e g t =
      let w = read_whole p words pages r says n m e in
      too_many_pages p t h w.raws w.reads (omega (arith, w.number))

-- ---- both buffers
pages_good : (raws : List RawPage) → All GoodPage raws → All PageBytes (map page_bytes raws)
pages_good [] g = tt
pages_good (r ∷ raws) g = ((r, (g.0, refl)), pages_good raws g.1)

concat_bytes : (raws : List RawPage) → concat (λ b. b) (map page_bytes raws) ≡ concat page_bytes raws
concat_bytes [] = refl
concat_bytes (r ∷ raws) = ap (λ (l : List ℕ). page_bytes r ++ l) (concat_bytes raws)

pub states_refused : (s p : List ℕ) (r : Refusal) → judge s ≡ refused r → judge_states (record { states = s; pages = p }) ≡ refused_states r
unfolding judge_states judge_with_pages
states_refused s p r e = rw e

pub pages_refused : (s p : List ℕ) (t : SpeltTree) (r : Refusal) → judge s ≡ accepted t → judge_with_pages (accepted t) p ≡ refused_states r
    → judge_states (record { states = s; pages = p }) ≡ refused_states r
unfolding judge_states
pages_refused s p t r e f = rw e f

module _ (s p : List ℕ) (t : SpeltTree) (raws : List RawPage) (judged : judge s ≡ accepted t) (b : Bytes p) (short : length p ≤ longest)
    (reads : sequence p ≡ read raws []) where
  good : All PageBytes (map page_bytes raws)
  good = pages_good raws (sequence_back p [] raws b reads).good

  long : length (concat (λ b. b) (map page_bytes raws)) ≤ longest
  long = omega (arith, ap length (concat_bytes raws), ap length (sequence_back p [] raws b reads).spells)

  pub states_wrong : (StatesPass (records t) (map page_bytes raws) → ⊥) → judge_states (record { states = s; pages = p }) ≡ refused_states WrongStates
  states_wrong f =
      pages_refused s p t WrongStates judged (not_due p t short raws reads (λ e. f (states_passed (map page_bytes raws) good long (records t) e)))

  pub states_right : StatesPass (records t) (map page_bytes raws)
      → judge_states (record { states = s; pages = p }) ≡ accepted_states (gathered_states (records t) (map page_bytes raws))
  unfolding judge_states
  states_right w = rw judged (none_due p t short raws reads (states_pass (map page_bytes raws) good long (records t) w))

-- ---- what the parts answer
module _ (s index : List ℕ) (r : Result ℕ Refusal) (says : IndexSays s r index) where
  pub is_indexed : (count : ℕ) → r ≡ Ok count → AcceptedIndex s index count
  is_indexed count e = rw e at says

  pub is_unindexed : (p : List ℕ) (x : Refusal) → r ≡ Err x → judge_states (record { states = s; pages = p }) ≡ refused_states x
  is_unindexed p x e = let h : judge s ≡ refused x = rw e at says in states_refused s p x h

module _ (p words pages : List ℕ) (r : Result (ℕ × ℕ) Refusal) (says : PagesSay p r words pages) where
  pub is_noted : (n m : ℕ) → r ≡ Ok (n, m) → SequenceHeld p words pages n m
  is_noted n m e = rw e at says

  pub is_unnoted : {s index : List ℕ} {count : ℕ} (a : AcceptedIndex s index count) (x : Refusal) → r ≡ Err x
      → judge_states (record { states = s; pages = p }) ≡ refused_states x
  is_unnoted {s} a x e =
      let h : (t : SpeltTree) → judge_with_pages (accepted t) p ≡ refused_states x = rw e at says in
      pages_refused s p a.tree x a.judged (h a.tree)

module _ (s p k index : List ℕ) (count n : ℕ) (labels pages : List ℕ) where
  pub states_hold_right : (r : Bool) → HoldSays s p k index count n r labels pages → not r ≡ false → StatesHeld s p k index labels pages count n
  states_hold_right true w q = w
  states_hold_right false w q = absurd (false≢true (sym q))

  pub states_hold_wrong : (r : Bool) → HoldSays s p k index count n r labels pages → not r ≡ true
      → judge_states (record { states = s; pages = p }) ≡ refused_states WrongStates
  states_hold_wrong true w q = absurd (false≢true q)
  states_hold_wrong false w q = w
