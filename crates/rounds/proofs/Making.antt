-- A list that is set place by place, from the first on.
use Rattle.std.proofs.Common.{◌≡◌, ℕ, ◌+◌, ◌<◌, ◌≤◌, List, length, get_or, set, sym, ap, ◌∙◌, subst, ⊎_elim, eq-or-lt_of_le, arith, get_or-set_other, get_or-set_same}
use Rattle.rounds.specs.Inner.{Made}

pub made_none : (f : ℕ → ℕ) (l : List ℕ) → Made f 0 l
unfolding Made
made_none f l x h = absurd (omega arith)

pub made_at : (f : ℕ → ℕ) (l : List ℕ) {n k : ℕ} → n ≡ k → Made f n l → Made f k l
made_at f l e m = subst (λ (n : ℕ). Made f n l) e m

pub made_more : (f : ℕ → ℕ) (l : List ℕ) (n v : ℕ) → n < length l → v ≡ f n → Made f n l → Made f (n + 1) (set l n v)
unfolding Made
made_more f l n v h e g x lt =
    let le : x ≤ n = omega arith in
    ⊎_elim (λ i. ap (λ (k : ℕ). get_or (set l n v) k 0) i ∙ get_or-set_same l n v 0 h ∙ e ∙ ap f (sym i))
    (λ i. get_or-set_other l n x v 0 (λ j. omega arith) ∙ g x i)
    (eq-or-lt_of_le le)
