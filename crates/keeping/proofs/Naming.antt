-- The digests that words name, and the pages of words.
use Rattle.std.specs.declared.cmp.Ordering.{Ordering}
use Rattle.std.specs.Ordering.{is_lt}
use Prim.Native.Nat.{ℕ, ◌+◌, ◌-◌, ◌≤◌, ◌<◌}
use mathlib.Core.Path.{◌≡◌, refl, ◌∙◌}
use mathlib.Core.Bool.{true}
use mathlib.Core.List.{List, []}
use native.Mathlib.Omega.{arith}
use lib.ListN.{length}
use borrow.Author.Tests.{lt-ltb, le-ltb, ltb-true, ltb-false}
use borrow.Table.Steps.{cases}
use lib.Dec.{ltb}
use Rattle.key.specs.Key.{less, order}
use Rattle.limits.specs.Limits.{longest}
use Rattle.value.specs.Value.{digest_in}
use Rattle.known.specs.Rows.{label_place}
use Rattle.links.specs.Links.{from_first, from_chains, chain_word, label_number, digest_named, Names}
use Rattle.staging.specs.Pages.{page_start, page_end, page_named, PageWord}
use Rattle.keeping.specs.Inner.{PartStands}

-- ---- the digest that a word names
module _ (first second chains : List ℕ) (w : ℕ) (names : Names first second chains w) (r : List ℕ) where
  pub named_in_second : w < from_first → (w + 32 ≤ length second → r ≡ digest_in second w) → r ≡ digest_named first second chains w
  unfolding digest_named
  named_in_second h e = rw (lt-ltb w from_first h) (e (names.in_second h))

  pub named_in_first : from_first ≤ w → w < from_chains → (w - from_first + 32 ≤ length first → r ≡ digest_in first (w - from_first))
      → r ≡ digest_named first second chains w
  unfolding digest_named
  named_in_first h k e = rw (le-ltb w from_first h, lt-ltb w from_chains k) (e (names.in_first h k))

  pub named_by_label : from_chains ≤ w → (place : ℕ) → place ≡ label_place (chain_word chains w) (label_number w)
      → (place + 32 ≤ length second → r ≡ digest_in second place) → r ≡ digest_named first second chains w
  unfolding digest_named
  named_by_label h place q e =
      let k : from_first ≤ w = omega arith in
      rw (le-ltb w from_first k, le-ltb w from_chains h, ← q) (e (omega (arith, names.in_chain h)))

pub not_of_chain : (first second : List ℕ) (w : ℕ) → Names first second [] w → w < from_chains
not_of_chain first second w names =
    cases (ltb w from_chains) (λ t. ltb-true w from_chains t)
    (λ t. absurd (omega (arith, names.chain (ltb-false w from_chains t))))

-- ---- the page of a word
pub saved_stands : {root register : List ℕ} {rootEnd : ℕ} {chains : List ℕ} {w : ℕ} → PageWord root register rootEnd chains w
    → length register ≤ longest → (from to : ℕ) (digest : List ℕ) → from ≡ page_start chains w → to ≡ page_end rootEnd chains w → digest ≡ digest_named root register chains w
    → PartStands register (record { saved = true; from = from; to = to; digest = digest }) (page_named register rootEnd chains w)
saved_stands {register = register} x short from to digest e f d =
    record {
      places = record { rises = omega (arith, x.rises); within = omega (arith, x.within); low = omega (arith, x.within) };
      part = rw (e, f);
      digest = d ∙ x.digest;
    }

-- ---- the order of two digests
pub lt_is : (a b : List ℕ) (o : Ordering) → o ≡ order a b → is_lt o ≡ less a b
unfolding order
lt_is a b o e =
    rw e
    (cases (less a b)
    (λ l. rw l refl)
    (λ l. rw l (cases (less b a) (λ g. rw g refl) (λ g. rw g refl))))
