-- Pages that are reached newly, step by step.
use Prim.Native.Nat.{ℕ, ◌≤◌, ◌<◌}
use mathlib.Core.Path.{refl, ap, ◌∙◌}
use mathlib.Core.List.{List}
use native.Mathlib.Omega.{arith}
use lib.Dec.{eqb}
use borrow.Author.Tests.{eqb-true, eqb-false}
use borrow.Table.Steps.{cases}
use Rattle.page.specs.Page.{RawPage}
use Rattle.summaries.specs.Summary.{ReachedFrom}
use Rattle.filing.specs.Filed.{bytes_at, pages_by_digest}
use Rattle.summing.specs.Summed.{page_mark, note_at, Reaching}
use Rattle.summing.specs.Inner.{raws_in, JudgedAt}

pub reaching_none : (raws : List RawPage) (n mark : ℕ) (digest pages counts : List ℕ) → Reaching raws n mark digest pages counts pages counts
reaching_none raws n mark digest pages counts = record {
  stays = λ i h k. (refl, refl);
  fresh = λ i h k l. absurd (omega arith);
}

module _ {raws : List RawPage} {n mark : ℕ} {digest pages counts pages₁ counts₁ : List ℕ} (a : Reaching raws n mark digest pages counts pages₁ counts₁) where
  pub reaching_up : (above : List ℕ) → ((q : List ℕ) → ReachedFrom (pages_by_digest raws) digest q → ReachedFrom (pages_by_digest raws) above q)
      → Reaching raws n mark above pages counts pages₁ counts₁
  reaching_up above f = record {
    stays = a.stays;
    fresh = λ i h k l. let x = a.fresh i h k l in (x.0, f (bytes_at raws i) x.1);
  }

  note_stays : (i : ℕ) → i < n → 1 ≤ note_at pages i → 1 ≤ note_at pages₁ i
  note_stays i h k = rw (a.stays i h k).0 k

  pub reaching_then : {pages₂ counts₂ : List ℕ} → Reaching raws n mark digest pages₁ counts₁ pages₂ counts₂ → Reaching raws n mark digest pages counts pages₂ counts₂
  reaching_then {pages₂} {counts₂} b = record {
    stays = λ i h k.
        let x = a.stays i h k in
        let y = b.stays i h (note_stays i h k) in
        (y.0 ∙ x.0, y.1 ∙ x.1);
    fresh = λ i h k l.
        cases (eqb (note_at pages₁ i) 0)
        (λ q. b.fresh i h (eqb-true (note_at pages₁ i) 0 q) l)
        (λ q.
        let some : 1 ≤ note_at pages₁ i = omega (arith, eqb-false (note_at pages₁ i) 0 q) in
        let x = a.fresh i h k some in
        (ap page_mark (b.stays i h some).0 ∙ x.0, x.1));
  }

pub judged_stays : (p : List ℕ) {n mark : ℕ} {digest pages counts pages₁ counts₁ : List ℕ} → Reaching (raws_in p) n mark digest pages counts pages₁ counts₁
    → (link : List ℕ) → JudgedAt p n pages link → JudgedAt p n pages₁ link
judged_stays p a link (c, h, e, k) = (c, h, e, note_stays a c h k)
