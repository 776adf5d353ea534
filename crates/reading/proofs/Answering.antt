-- The answer of a lookup, by cases of the verdict, the key rule and the search.
use Rattle.std.specs.Prelude.{Result, Ok, Err}
use Prim.Native.Nat.{ℕ, ◌^◌, ◌<◌}
use mathlib.Core.Bool.{true}
use mathlib.Core.Path.{◌≡◌, sym, ap, subst, ◌∙◌}
use mathlib.Core.Option.{some}
use mathlib.Core.List.{List}
use native.Mathlib.Omega.{arith}
use Rattle.bytestring.specs.Bytes.{Bytes}
use Rattle.answer.specs.declared.Refusal.{Refusal}
use Rattle.answer.specs.declared.Refusal.TheVariants.{KeyAbsent}
use Rattle.value.specs.Value.{codec_in}
use Rattle.key.specs.Key.{lawful, slash_answer}
use Rattle.key.proofs.SlashLaws.{slash_refused}
use Rattle.tree.specs.Record.{records}
use Rattle.tree.specs.Judge.{refused, judge}
use Rattle.tree.specs.Place.{places}
use Rattle.index.specs.Accepted.{AcceptedIndex}
use Rattle.promises.specs.Outcome.{place_of, lookup_answer, lookup_verdict, answer_place}
use Rattle.promises.proofs.Lookups.{place_short}
use Rattle.row.specs.Search.{place_found, PositionIs, SearchSays}

-- ---- what the search for a key says
module _ {s index : List ℕ} {count : ℕ} (a : AcceptedIndex s index count) (k : List ℕ) (r : Result (ℕ × ℕ) ℕ) (v : SearchSays s index count k r) where
  pub searched : (place_found r ≡ place_of k (records a.tree) (places 0 a.tree)) × PositionIs k (records a.tree) r
  unfolding SearchSays
  searched = v a.tree a.judged a.size a.indexed

  module _ (position place : ℕ) (e : r ≡ Ok (position, place)) where
    pub position_is : PositionIs k (records a.tree) (Ok (position, place))
    position_is = subst (PositionIs k (records a.tree)) e searched.1

    pub position_within : position < count
    position_within = omega (arith, position_is.0, a.size)

    pub place_is : place_of k (records a.tree) (places 0 a.tree) ≡ some place
    place_is = sym searched.0 ∙ ap place_found e

    pub place_fits : Bytes s → place < 2 ^ 32
    place_fits b = omega (arith, place_short s b a.tree a.judged k place place_is)

  -- ---- the answer
  module _ (l : lawful k ≡ true) where
    answer_place_lem : answer_place s (place_found r) ≡ lookup_answer s k
    unfolding lookup_answer lookup_verdict
    answer_place_lem = rw (a.judged, l) (ap (answer_place s) searched.0)

    pub answer_found : (position place codec : ℕ) → r ≡ Ok (position, place) → codec ≡ codec_in s place → Ok (place, codec) ≡ lookup_answer s k
    unfolding answer_place
    answer_found position place codec p e = ap ((λ y. Ok (place, y))) e ∙ ap (λ (x : Result (ℕ × ℕ) ℕ). answer_place s (place_found x)) (sym p) ∙ answer_place_lem

    pub answer_absent : (position : ℕ) → r ≡ Err position → Err KeyAbsent ≡ lookup_answer s k
    unfolding answer_place
    answer_absent position p = ap (λ (x : Result (ℕ × ℕ) ℕ). answer_place s (place_found x)) (sym p) ∙ answer_place_lem

module _ (s k : List ℕ) {r : Refusal} where
  pub answer_refused : judge s ≡ refused r → Err r ≡ lookup_answer s k
  unfolding lookup_answer lookup_verdict
  answer_refused e = rw e

  pub answer_unlawful : {index : List ℕ} {count : ℕ} → AcceptedIndex s index count → slash_answer k ≡ Err r → Err r ≡ lookup_answer s k
  unfolding lookup_answer lookup_verdict
  answer_unlawful a q = let w = slash_refused k r q in rw (a.judged, w.0, w.1)
