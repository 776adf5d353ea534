-- The contracts of the readers determine their answers: two answers at one place are equal.
use Rattle.std.specs.Prelude.{Result, Ok, Err}
use Prim.Native.Nat.{ℕ, zero, suc, ◌+◌, ◌≤◌, ◌<◌}
use mathlib.Core.Path.{◌≡◌, refl, sym, ap, ap₂, ◌∙◌}
use mathlib.Core.List.{List}
use native.Mathlib.Omega.{arith}
use lib.ListN.{length, drop, length-drop}
use Rattle.page.specs.Reading.{read, Reader, times}
use Rattle.page.specs.Page.{RawEntry, entry, RawPage}
use Rattle.page_reader.specs.Place.{Reads, read_stop, NumberIs, link_at, EntryHere, EntryIs, PageHere, PageIs}
use Rattle.page_reader.specs.declared.Stop.{Stop}
use Rattle.page_reader.specs.declared.Stop.TheVariants.{EndsEarly, Departs}
use Rattle.page_reader.specs.declared.EntryAt.{EntryAt}
use Rattle.page_reader.specs.declared.PageAt.{PageAt}

-- ---- what was read, and why not
same_place : (s : List ℕ) (m n : ℕ) → m ≤ length s → n ≤ length s → drop m s ≡ drop n s → m ≡ n
same_place s m n h k e = omega (arith, ap length e, length-drop m s, length-drop n s)

same_read : {A : Type 0} {p : Reader A} {s : List ℕ} {at : ℕ} {a b : A} {m n : ℕ} → Reads p s at a m → Reads p s at b n → (a ≡ b) × (m ≡ n)
same_read {s} {m} {n} x y =
    let e : drop m s ≡ drop n s = cc in
    (cc, same_place s m n x.within y.within e)

same_stop : {A : Type 0} (x y : Stop) → read_stop {A = A} x ≡ read_stop y → x ≡ y
same_stop EndsEarly EndsEarly e = refl
same_stop EndsEarly Departs e = let z : ◌≡◌ {A = ℕ} 0 1 = cc in absurd (omega arith)
same_stop Departs EndsEarly e = let z : ◌≡◌ {A = ℕ} 0 1 = cc in absurd (omega arith)
same_stop Departs Departs e = refl

pub not_both : {A : Type 0} (a : A) (t : List ℕ) (stop : Stop) → read a t ≡ read_stop stop → ⊥
not_both a t EndsEarly e = let z : ◌≡◌ {A = ℕ} 0 1 = cc in omega arith
not_both a t Departs e = let z : ◌≡◌ {A = ℕ} 0 1 = cc in omega arith

-- ---- the answers
pub number_determined : (p : Reader ℕ) (s : List ℕ) (at : ℕ) (r q : Result (ℕ × ℕ) Stop) → NumberIs p s at r → NumberIs p s at q → r ≡ q
number_determined p s at (Ok (n, m)) (Ok (k, l)) x y = let e = same_read x y in ap₂ (λ (a b : ℕ). Ok (a, b)) e.0 e.1
number_determined p s at (Ok (n, m)) (Err stop) x y = absurd (not_both n (drop m s) stop (sym x.reads ∙ y))
number_determined p s at (Err stop) (Ok (n, m)) x y = absurd (not_both n (drop m s) stop (sym y.reads ∙ x))
number_determined p s at (Err a) (Err b) x y = ap (λ (z : Stop). Err z) (same_stop a b (sym x ∙ y))

-- links whose digests stand j bytes before one place
same_link : (s : List ℕ) (m n j k : ℕ) → link_at s m ≡ link_at s n → (0 < m → m + j ≡ k) → (0 < n → n + j ≡ k) → m ≡ n
unfolding link_at
same_link s zero zero j k e f g = refl
same_link s zero (suc n) j k e f g = let z : ◌≡◌ {A = ℕ} 0 1 = cc in absurd (omega arith)
same_link s (suc m) zero j k e f g = let z : ◌≡◌ {A = ℕ} 0 1 = cc in absurd (omega arith)
same_link s (suc m) (suc n) j k e f g = omega (arith, f (omega arith), g (omega arith))

same_entry : (s : List ℕ) (at : ℕ) (d e : EntryAt) → EntryHere s at d → EntryHere s at e → d ≡ e
same_entry s at d e x y =
    let w = same_read x.whole y.whole in
    let u = same_read x.start y.start in
    let shares : d.shares ≡ e.shares = ap (λ (z : RawEntry). z.shares) w.0 in
    let value : d.value ≡ e.value = omega (arith, x.ends.value, y.ends.value, w.1) in
    let link : d.link ≡ e.link = same_link s d.link e.link 43 d.value (ap (λ (z : RawEntry). z.after) w.0) x.ends.link (λ z. y.ends.link z ∙ sym value) in
    λ i. record { shares = shares i; remainder = u.1 i; size = u.0 i; link = link i; value = value i; end = w.1 i }

pub entry_determined : (s : List ℕ) (at : ℕ) (r q : Result EntryAt Stop) → EntryIs s at r → EntryIs s at q → r ≡ q
entry_determined s at (Ok d) (Ok e) x y = ap (λ (z : EntryAt). Ok z) (same_entry s at d e x y)
entry_determined s at (Ok d) (Err stop) x y = absurd (not_both _ _ stop (sym x.whole.reads ∙ y))
entry_determined s at (Err stop) (Ok d) x y = absurd (not_both _ _ stop (sym y.whole.reads ∙ x))
entry_determined s at (Err a) (Err b) x y = ap (λ (z : Stop). Err z) (same_stop a b (sym x ∙ y))

same_page : (s : List ℕ) (at : ℕ) (d e : PageAt) → PageHere s at d → PageHere s at e → d ≡ e
same_page s at d e x y =
    let w = same_read x.whole y.whole in
    let u = same_read x.start y.start in
    let left : d.left ≡ e.left = same_link s d.left e.left 32 d.end (ap (λ (z : RawPage). z.left) w.0) x.left (λ z. y.left z ∙ sym w.1) in
    let row : times d.count entry (drop d.first s) ≡ times e.count entry (drop e.first s) = ap₂ (λ (n m : ℕ). times n entry (drop m s)) u.0 u.1 in
    let rest : drop d.past s ≡ drop e.past s = cc (x.row.reads, row, y.row.reads) in
    let past : d.past ≡ e.past = same_place s d.past e.past x.row.within y.row.within rest in
    λ i. record { count = u.0 i; first = u.1 i; past = past i; left = left i; end = w.1 i }

pub page_determined : (s : List ℕ) (at : ℕ) (r q : Result PageAt Stop) → PageIs s at r → PageIs s at q → r ≡ q
page_determined s at (Ok d) (Ok e) x y = ap (λ (z : PageAt). Ok z) (same_page s at d e x y)
page_determined s at (Ok d) (Err stop) x y = absurd (not_both _ _ stop (sym x.whole.reads ∙ y))
page_determined s at (Err stop) (Ok d) x y = absurd (not_both _ _ stop (sym y.whole.reads ∙ x))
page_determined s at (Err a) (Err b) x y = ap (λ (z : Stop). Err z) (same_stop a b (sym x ∙ y))
