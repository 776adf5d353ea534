-- Words that name the same digest, passed one after the other.
use Prim.Native.Nat.{ℕ, ◌+◌, ◌≤◌, ◌<◌}
use mathlib.Core.Path.{◌≡◌, sym, subst, ◌∙◌}
use mathlib.Core.Bool.{Bool, true, false, not, false≢true}
use mathlib.Core.List.{List}
use native.Mathlib.Omega.{arith}
use lib.ListN.{get_or}
use lib.Dec.{eqb}
use borrow.Author.Tests.{eqb-true, eqb-false, not-true, not-false}
use borrow.Table.Steps.{cases}
use Rattle.bytestring.specs.Bytes.{equal}
use Rattle.bytestring.proofs.Equal.{equal_true, equal_refl}
use Rattle.filing.specs.Filed.{link_named}
use Rattle.filing.specs.Inner.{Passed}

-- whether a word names a digest, by the test
pub is_named : (a b : List ℕ) (r : Bool) → r ≡ equal a b → not r ≡ false → a ≡ b
is_named a b r e f = equal_true a b (sym e ∙ not-false r f)

pub not_named : (a b : List ℕ) (r : Bool) → r ≡ equal a b → not r ≡ true → a ≡ b → ⊥
not_named a b r e f q = false≢true (sym (not-true r f) ∙ e ∙ rw q (equal_refl b))

module _ (s p words : List ℕ) (total j : ℕ) (digest : List ℕ) where
  -- The words from the j-th on to before the k-th name the digest.
  abbrev pub Same : ℕ → Type 0
  Same k = (m : ℕ) → j ≤ m → m < k → link_named s p (get_or words m 0) ≡ digest

  pub none_passed : Same j
  none_passed m h l = absurd (omega arith)

  module _ (k : ℕ) (ahead : j ≤ k) (same : Same k) where
    pub one_passed : link_named s p (get_or words k 0) ≡ digest → Same (k + 1)
    one_passed e m h l = cases (eqb m k) (λ q. rw (eqb-true m k q) e) (λ q. same m h (omega (arith, eqb-false m k q)))

    pub passing_stops : k ≤ total → (link_named s p (get_or words k 0) ≡ digest → ⊥) → Passed s p words total j digest k
    passing_stops within f = record { ahead = ahead; within = within; same = same; other = λ h e. f e }

    pub all_passed : k ≡ total → Passed s p words total j digest total
    all_passed e = subst (Passed s p words total j digest) e (record { ahead = ahead; within = omega arith; same = same; other = λ l f. absurd (omega arith) })
