-- Rows in order: pages whose digests rise, and words whose digests do not fall.
use Prim.Native.Nat.{ℕ, zero, suc, ◌≤◌, ◌<◌}
use mathlib.Core.Path.{◌≡◌, refl}
use mathlib.Core.Bool.{true, false}
use mathlib.Core.List.{List, [], ◌∷◌}
use native.Mathlib.Omega.{arith}
use lib.ListN.{length}
use lib.Dec.{ltb}
use borrow.Author.Tests.{ltb-true, ltb-false}
use borrow.Table.Steps.{cases}
use Rattle.bytestring.proofs.Tools.{and_both}
use Rattle.fips180.specs.Hash.{sha256}
use Rattle.key.specs.Key.{less}
use Rattle.key.proofs.Laws.{less_same}
use Rattle.page.specs.Page.{RawPage}
use Rattle.tree.specs.Judge.{rising}
use Rattle.promises.proofs.MapLaws.{Before, Above, Sorted, rising_sorted}
use Rattle.links.proofs.Heaps.{not_less_through}
use Rattle.filing.specs.Filed.{bytes_at, pages_by_digest}

abbrev pub digest_at : List RawPage → ℕ → List ℕ
digest_at raws i = sha256 (bytes_at raws i)

-- ---- pages
above_at : (digest : List ℕ) (raws : List RawPage) → Above digest (pages_by_digest raws) → (m : ℕ) → m < length raws → Before digest (digest_at raws m)
above_at digest [] a m h = absurd (omega arith)
above_at digest (r ∷ raws) a zero h = a.0
above_at digest (r ∷ raws) a (suc m) h = above_at digest raws a.1 m (omega arith)

sorted_at : (raws : List RawPage) → Sorted (pages_by_digest raws) → (i m : ℕ) → i < m → m < length raws → Before (digest_at raws i) (digest_at raws m)
sorted_at [] s i m h l = absurd (omega arith)
sorted_at (r ∷ raws) s i zero h l = absurd (omega arith)
sorted_at (r ∷ raws) s zero (suc m) h l = above_at (digest_at (r ∷ raws) 0) raws s.0 m (omega arith)
sorted_at (r ∷ raws) s (suc i) (suc m) h l = sorted_at raws s.1 i m (omega arith) (omega arith)

pub pages_rise_at : (raws : List RawPage) → rising (pages_by_digest raws) ≡ true
    → (i m : ℕ) → i < m → m < length raws → Before (digest_at raws i) (digest_at raws m)
pages_rise_at raws h = sorted_at raws (rising_sorted (pages_by_digest raws) h)

pub all_rising : (raws : List RawPage) → ((i : ℕ) → suc i < length raws → Before (digest_at raws i) (digest_at raws (suc i)))
    → rising (pages_by_digest raws) ≡ true
unfolding rising
all_rising [] f = refl
all_rising (r ∷ []) f = refl
all_rising (r ∷ q ∷ raws) f = and_both (f 0 (omega arith)) (all_rising (q ∷ raws) (λ i h. f (suc i) (omega arith)))

-- ---- words
pub not_falling : (digest : ℕ → List ℕ) (total : ℕ) → ((k : ℕ) → suc k < total → less (digest (suc k)) (digest k) ≡ false)
    → (k m : ℕ) → k ≤ m → m < total → less (digest m) (digest k) ≡ false
not_falling digest total order k zero h l = let e : k ≡ 0 = omega arith in less_same (digest 0) (digest k) (rw e)
not_falling digest total order k (suc m) h l =
    cases (ltb k (suc m))
    (λ q.
    let before = not_falling digest total order k m (omega (arith, ltb-true k (suc m) q)) (omega arith) in
    not_less_through (digest (suc m)) (digest m) (digest k) (order m l) before)
    (λ q. let e : k ≡ suc m = omega (arith, ltb-false k (suc m) q) in less_same (digest (suc m)) (digest k) (rw e))
