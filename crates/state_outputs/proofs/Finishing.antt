-- What save and forget come to, by what was written into their outputs.
use Rattle.keeping.specs.declared.Unkept.{Unkept}
use Rattle.keeping.specs.declared.Unkept.TheVariants.{Short, Shared}
use Rattle.std.specs.Prelude.{Result, Ok, Err}
use Rattle.std.specs.Option.{unwrap_or}
use Rattle.std.specs.Result.{result_err}
use Prim.Native.Nat.{ℕ, ◌+◌, ◌-◌, ◌≤◌, ◌<◌}
use mathlib.Core.Path.{◌≡◌, refl, sym, ap, subst, ◌∙◌}
use mathlib.Core.Bool.{Bool, true, false, ◌&&◌}
use mathlib.Core.List.{List, ◌++◌}
use native.Mathlib.Omega.{arith}
use lib.ListN.{length, take, drop, length-append}
use lib.Dec.{leb}
use borrow.Author.Tests.{le-leb, lt-leb}
use Rattle.bytestring.specs.Bytes.{zeros}
use lib.Seq.{take_at}
use Rattle.limits.specs.Limits.{longest}
use Rattle.answer.specs.declared.Refusal.{Refusal}
use Rattle.answer.specs.declared.Refusal.TheVariants.{NoRoom, WrongStates}
use Rattle.promises.specs.Outcome.{Outcome, stopped, wrote, answer_of, output_of}
use Rattle.states.specs.States.{Saved, unsaved, saved, saved_answer, states_output, pages_output}
use Rattle.keeping.specs.Kept.{sequence_of}
use Rattle.state_outputs.specs.Outputs.{with_sequence, with_pages, BothWritten, SavedAs}

-- ---- the state register's outcome by its answer
pub refused_outcome : (o : Outcome) {answer : Result ℕ Refusal} {r : Refusal} → answer ≡ answer_of o → answer ≡ Err r → o ≡ stopped r
unfolding answer_of
refused_outcome (stopped q) e h = cc
refused_outcome (wrote t) e h = let z : ◌≡◌ {A = ℕ} 0 1 = cc in absurd (omega arith)

pub done_outcome : (o : Outcome) {answer : Result ℕ Refusal} {n : ℕ} → answer ≡ answer_of o → answer ≡ Ok n → (t : List ℕ) × (o ≡ wrote t) × (n ≡ length t)
unfolding answer_of
done_outcome (stopped q) e h = let z : ◌≡◌ {A = ℕ} 0 1 = cc in absurd (omega arith)
done_outcome (wrote t) e h = (t, refl, cc)

-- ---- an outcome by another name
pub saved_as : {o p : Saved} {states pages : ℕ} {answer : Result (ℕ × ℕ) Refusal} {register sequence : List ℕ} → o ≡ p → SavedAs o states pages answer register sequence
    → SavedAs p states pages answer register sequence
saved_as e s = rw (← e) s

module _ {answer : Result ℕ Refusal} {states pages : List ℕ} {o : Outcome} {ps : List (List ℕ)} where
  pub kept_as : {kept other : Result ℕ Unkept} → kept ≡ other → BothWritten answer kept states pages o ps → BothWritten answer other states pages o ps
  kept_as e b = subst (λ (k : Result ℕ Unkept). BothWritten answer k states pages o ps) e b

  pub shared_refused : BothWritten answer (Err Shared) states pages o ps → (room : ℕ) → unsaved WrongStates ≡ with_pages o ps room
  unfolding with_pages
  shared_refused b room = rw b.sequence.0

  -- ---- the sequence is too long for its output
  module _ (b : BothWritten answer (Err Short) states pages o ps) where
    pub short_refused : {r : Refusal} → answer ≡ Err r → unsaved r ≡ with_pages o ps (length pages)
    unfolding with_pages with_sequence
    short_refused h = rw (b.sequence.0, refused_outcome o b.answered h)

    pub short_done : {n : ℕ} → answer ≡ Ok n → unsaved NoRoom ≡ with_pages o ps (length pages)
    unfolding with_pages with_sequence
    short_done h =
        let w = done_outcome o b.answered h in
        rw (b.sequence.0, w.1, lt-leb (length (sequence_of ps)) (length pages) (omega (arith, b.sequence.1, b.room)))

    pub short_ends : (a : Result ℕ Refusal) → answer ≡ a → unsaved (unwrap_or (result_err a) NoRoom) ≡ with_pages o ps (length pages)
    short_ends (Ok n) h = short_done h
    short_ends (Err r) h = short_refused h

  -- ---- it has this length
  pub length_fits : {size : ℕ} → BothWritten answer (Ok size) states pages o ps → size ≤ length pages
  length_fits b =
      let e : length pages ≡ length (sequence_of ps) + length (drop (length (sequence_of ps)) b.old) = ap length b.sequence.2 ∙ length-append (sequence_of ps) _ in
      omega (arith, b.sequence.1)

  module _ {size : ℕ} (b : BothWritten answer (Ok size) states pages o ps) where
    pub length_refused : {r : Refusal} → answer ≡ Err r → unsaved r ≡ with_pages o ps (length pages)
    unfolding with_pages with_sequence
    length_refused h = rw (b.sequence.0, refused_outcome o b.answered h)

    module _ {n : ℕ} (h : answer ≡ Ok n) where
      pub length_long : longest < size → unsaved NoRoom ≡ with_pages o ps (length pages)
      unfolding with_pages with_sequence
      length_long l =
          let w = done_outcome o b.answered h in
          rw (b.sequence.0, w.1, lt-leb (length (sequence_of ps)) longest (omega (arith, b.sequence.1)), and_none (leb (length (sequence_of ps)) (length pages)))
        where
          and_none : (x : Bool) → (x && false) ≡ false
          and_none true = refl
          and_none false = refl

      done_with_lem : size ≤ longest → size ≤ length pages → (pages' : List ℕ) → pages' ≡ take size pages ++ zeros (length pages - size)
          → (t : List ℕ) → o ≡ wrote t → n ≡ length t
          → SavedAs (with_pages o ps (length pages)) (length states) (length pages) (Ok (n, size)) states pages'
      unfolding with_pages with_sequence saved_answer states_output pages_output output_of
      done_with_lem l fits pages' e t w m =
          let s : size ≡ length (sequence_of ps) = b.sequence.1 in
          let whole : with_pages o ps (length pages) ≡ saved (record { states = t; pages = sequence_of ps }) =
          rw (b.sequence.0, w, le-leb (length (sequence_of ps)) (length pages) (omega (arith, s)), le-leb (length (sequence_of ps)) longest (omega (arith, s))) in
          let at : take size pages ≡ sequence_of ps = ap (take size) b.sequence.2 ∙ take_at (sequence_of ps) (drop (length (sequence_of ps)) b.old) size (sym s) in
          let register : states ≡ t ++ zeros (length states - length t) = b.register ∙ ap (λ (x : Outcome). output_of x (length states)) w in
          saved_as (sym whole) (record { answered = rw (m, s); register' = register; sequence' = e ∙ rw (at, s) })

      pub length_done : size ≤ longest → size ≤ length pages → (pages' : List ℕ) → pages' ≡ take size pages ++ zeros (length pages - size)
          → SavedAs (with_pages o ps (length pages)) (length states) (length pages) (Ok (n, size)) states pages'
      length_done l fits pages' e = let w = done_outcome o b.answered h in done_with_lem l fits pages' e w.0 w.1 w.2
