-- What is answered of a register that is accepted, in one value with its rows.
use Rattle.std.specs.Prelude.{Result, Ok, Err}
use Rattle.answer.specs.declared.Refusal.{Refusal}
use Prim.Native.Nat.{ℕ}
use mathlib.Core.Path.{◌≡◌, subst}
use mathlib.Core.List.{List}
use Rattle.tree.specs.Judge.{refused, judge}
use Rattle.judge.specs.declared.accepted.Accepted.{Accepted}
use Rattle.judge.specs.Standing.{Stands, AcceptSays}

module _ (s : List ℕ) (x : Result Accepted Refusal) (says : AcceptSays s x) where
  accepted_whole : {a : Accepted} → x ≡ Ok a → (a.register.now ≡ s) × Stands a
  accepted_whole e = subst (λ (y : Result Accepted Refusal). AcceptSays s y) e says

  pub accepted_same : {a : Accepted} → x ≡ Ok a → a.register.now ≡ s
  accepted_same e = (accepted_whole e).0

  pub accepted_stands : {a : Accepted} → x ≡ Ok a → Stands a
  accepted_stands e = (accepted_whole e).1

  pub accepted_refused : {r : Refusal} → x ≡ Err r → judge s ≡ refused r
  accepted_refused e = subst (λ (y : Result Accepted Refusal). AcceptSays s y) e says
