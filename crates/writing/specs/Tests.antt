-- The tests of a call's own arguments, which come after the verdict on its register. Contracts inside this crate cite it, and no public
-- contract does.
use Rattle.std.specs.Prelude.{ℕ, not, List, [], ◌∷◌, Result, Ok, Err, ⊤}
use Rattle.std.proofs.Math.Option.{Option, none, some}
use Rattle.answer.specs.declared.Refusal.{Refusal}
use Rattle.answer.specs.declared.Refusal.TheVariants.{UnlawfulKey, WrongValue, FirstAfterLast}
use Rattle.key.specs.Key.{lawful, less}
use Rattle.value.specs.Value.{is_value}
use Rattle.tree.specs.Judge.{Test}

-- The two keys of a run, then their order.
abbrev pub range_tests : List ℕ → List ℕ → List Test
range_tests first last = (UnlawfulKey, lawful first) ∷ (UnlawfulKey, lawful last) ∷ (FirstAfterLast, not (less last first)) ∷ []

-- The key of put and join, then the value.
abbrev pub record_tests : List ℕ → List ℕ → List Test
record_tests k v = (UnlawfulKey, lawful k) ∷ (WrongValue, is_value v) ∷ []

-- A refusal that is due is answered.
unfoldable pub answer_due : Option Refusal → Result ⊤ Refusal
answer_due none = Ok tt
answer_due (some r) = Err r
