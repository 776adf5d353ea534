-- Where the values of a register stand that keys find.
use Prim.Native.Nat.{ℕ, ◌+◌, ◌^◌, ◌≤◌, ◌<◌}
use mathlib.Core.Path.{◌≡◌, refl, sym, ap, ◌∙◌}
use mathlib.Core.Bool.{true}
use mathlib.Core.Option.{Option, none, some, none-ne-some, some-injective}
use mathlib.Core.List.{List, [], ◌∷◌}
use native.Mathlib.Omega.{arith}
use lib.ListN.{length, drop, length-take, length-drop}
use borrow.Table.Steps.{cases}
use Rattle.bytestring.specs.Bytes.{Bytes}
use Rattle.bytestring.proofs.Tools.{All, cond-inv}
use Rattle.answer.specs.Inner.{FirstFits}
use Rattle.key.specs.Key.{lawful, less}
use Rattle.value.specs.Value.{value_digest, is_value, value_in}
use Rattle.value.proofs.Laws.{value_digest_lem}
use Rattle.tree.specs.Record.{Record, records}
use Rattle.tree.specs.Table.{SpeltTree}
use Rattle.tree.specs.Judge.{Verdict, refused, accepted, judge}
use Rattle.tree.specs.Place.{places}
use Rattle.tree.proofs.Laws.{RightValue, accepted_table, Stand, places_stand}
use Rattle.promises.specs.Map.{find}
use Rattle.promises.specs.Outcome.{place_of, answer_place, lookup_verdict, lookup_answer}

-- a key that finds a value has its place, and one that finds none has none
pub place_found_lem : (s k : List ℕ) (rs : List Record) (ps : List ℕ) → Stand s ps rs → (v : List ℕ) → find k rs ≡ some v
    → (place : ℕ) × (place_of k rs ps ≡ some place) × (value_in s place ≡ v)
unfolding find place_of
place_found_lem s k [] ps h v = λ e. let z : ◌≡◌ {A = ℕ} 0 1 = cc in absurd (omega arith)
place_found_lem s k (x ∷ rs) [] h v = λ e. absurd h
place_found_lem s k (x ∷ rs) (p ∷ ps) h v =
    cases (less k x.key) (λ q. rw q (λ e. let z : ◌≡◌ {A = ℕ} 0 1 = cc in absurd (omega arith)))
    (λ q. cases (less x.key k) (λ f. rw (q, f) (place_found_lem s k rs ps h.1 v)) (λ f. rw (q, f) (λ e. (p, refl, h.0 ∙ cc))))

pub place_absent : (k : List ℕ) (rs : List Record) (ps : List ℕ) → find k rs ≡ none → place_of k rs ps ≡ none
unfolding find place_of
place_absent k [] ps = λ e. refl
place_absent k (x ∷ rs) [] = λ e. refl
place_absent k (x ∷ rs) (p ∷ ps) =
    cases (less k x.key) (λ q. rw q (λ e. refl))
    (λ q. cases (less x.key k) (λ f. rw (q, f) (place_absent k rs ps)) (λ f. rw (q, f) (λ e. let z : ◌≡◌ {A = ℕ} 0 1 = cc in absurd (omega arith))))

-- and at its place a value stands, with all bytes of its digest
pub stands_within : (s : List ℕ) (place : ℕ) (v : List ℕ) → value_in s place ≡ v → is_value v ≡ true → place + 32 ≤ length s
stands_within s place v e h =
    omega (arith, ap (λ (w : List ℕ). length (value_digest w)) e, value_digest_lem v h, length-take 32 (drop place s), length-drop place s)

place_among : (s k : List ℕ) (rs : List Record) (ps : List ℕ) → Stand s ps rs → All RightValue rs → (place : ℕ) → place_of k rs ps ≡ some place
    → place + 32 ≤ length s
unfolding place_of
place_among s k [] ps h right place e = absurd (none-ne-some place e)
place_among s k (x ∷ rs) [] h right place e = absurd h
place_among s k (x ∷ rs) (p ∷ ps) h right place e =
    cond-inv (less k x.key) (λ _ f. absurd (none-ne-some place f))
    (λ _ f. cond-inv (less x.key k) (λ _ g. place_among s k rs ps h.1 right.1 place g)
    (λ _ g. rw (← some-injective p place g) (stands_within s p x.val h.0 right.0)) f) e

-- ---- the place in a register that is accepted, and lookup's answer
module _ (s : List ℕ) (bytes : Bytes s) (t : SpeltTree) (judged : judge s ≡ accepted t) (k : List ℕ) (place : ℕ)
    (e : place_of k (records t) (places 0 t) ≡ some place) where
  pub place_within : place + 32 ≤ length s
  place_within = place_among s k (records t) (places 0 t) (places_stand s bytes t judged) (accepted_table s bytes t judged).fit.values place e

  -- what stands there is what the key finds
  pub place_holds : (v : List ℕ) → find k (records t) ≡ some v → value_in s place ≡ v
  place_holds v f =
      let w = place_found_lem s k (records t) (places 0 t) (places_stand s bytes t judged) v f in
      ap (λ (n : ℕ). value_in s n) (some-injective place w.0 (sym e ∙ w.1)) ∙ w.2

  pub place_short : place < 2 ^ 24
  place_short = let w = accepted_table s bytes t judged in omega (arith, place_within, ap length w.written, w.fit.size)

found_short : (s k : List ℕ) → Bytes s → (t : SpeltTree) → judge s ≡ accepted t → (o : Option ℕ) → place_of k (records t) (places 0 t) ≡ o → FirstFits (answer_place s o)
unfolding answer_place
found_short s k b t j none e = tt
found_short s k b t j (some place) e = place_short s b t j k place e

verdict_short : (s k : List ℕ) → Bytes s → (v : Verdict) → judge s ≡ v → FirstFits (lookup_verdict v s k)
unfolding lookup_verdict
verdict_short s k b (refused r) j = tt
verdict_short s k b (accepted t) j =
    cases (lawful k) (λ l. rw l (found_short s k b t j (place_of k (records t) (places 0 t)) refl)) (λ l. rw l tt)

pub lookup_short : (s k : List ℕ) → Bytes s → FirstFits (lookup_answer s k)
unfolding lookup_answer
lookup_short s k b = verdict_short s k b (judge s) refl
