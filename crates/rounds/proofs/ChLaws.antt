-- Ch by one step less.
use Rattle.std.proofs.Common.{◌≡◌, ℕ, zero, suc, ◌-◌, ◌*◌, ◌/◌, ◌%◌, ◌^◌, ◌<◌, sym, refl, ap, ◌∙◌, ap₂, pow-suc, arith}
use lib.Bits.{bit_and, bit_xor, and_shr, xor_shr, and_mod, xor_mod, and_zero_l}

-- y where x has a bit, otherwise z
unfoldable shorter : ℕ → ℕ → ℕ → ℕ
shorter x y z = bit_xor (bit_and x (bit_xor y z)) z

-- y where x has a bit, z where c has one
unfoldable longer : ℕ → ℕ → ℕ → ℕ → ℕ
longer x c y z = bit_xor (bit_and x y) (bit_and c z)

-- one bit
bit : (x y z : ℕ) → x < 2 → y < 2 → z < 2 → shorter x y z ≡ longer x (1 - x) y z
unfolding shorter longer
bit zero zero zero hx hy hz = refl
bit zero zero (suc zero) hx hy hz = refl
bit zero (suc zero) zero hx hy hz = refl
bit zero (suc zero) (suc zero) hx hy hz = refl
bit (suc zero) zero zero hx hy hz = refl
bit (suc zero) zero (suc zero) hx hy hz = refl
bit (suc zero) (suc zero) zero hx hy hz = refl
bit (suc zero) (suc zero) (suc zero) hx hy hz = refl
bit zero zero (suc (suc z)) hx hy hz = absurd (omega arith)
bit zero (suc zero) (suc (suc z)) hx hy hz = absurd (omega arith)
bit (suc zero) zero (suc (suc z)) hx hy hz = absurd (omega arith)
bit (suc zero) (suc zero) (suc (suc z)) hx hy hz = absurd (omega arith)
bit zero (suc (suc y)) z hx hy hz = absurd (omega arith)
bit (suc zero) (suc (suc y)) z hx hy hz = absurd (omega arith)
bit (suc (suc x)) y z hx hy hz = absurd (omega arith)

-- what stands under halving, and under taking the last bit
module _ (f : ℕ → ℕ) (and-under : (x y : ℕ) → f (bit_and x y) ≡ bit_and (f x) (f y)) (xor-under : (x y : ℕ) → f (bit_xor x y) ≡ bit_xor (f x) (f y)) where
  shorter_under : (x y z : ℕ) → f (shorter x y z) ≡ shorter (f x) (f y) (f z)
  unfolding shorter
  shorter_under x y z =
      xor-under (bit_and x (bit_xor y z)) z
      ∙ ap (λ (a : ℕ). bit_xor a (f z)) (and-under x (bit_xor y z) ∙ ap (bit_and (f x)) (xor-under y z))

  longer_under : (x c y z : ℕ) → f (longer x c y z) ≡ longer (f x) (f c) (f y) (f z)
  unfolding longer
  longer_under x c y z = xor-under (bit_and x y) (bit_and c z) ∙ ap₂ bit_xor (and-under x y) (and-under c z)

  under : (x c y z : ℕ) → shorter (f x) (f y) (f z) ≡ longer (f x) (f c) (f y) (f z) → f (shorter x y z) ≡ f (longer x c y z)
  under x c y z e = shorter_under x y z ∙ e ∙ sym (longer_under x c y z)

none : (y : ℕ) → shorter 0 y 0 ≡ longer 0 0 y 0
unfolding shorter longer
none y = rw (and_zero_l (bit_xor y 0), and_zero_l y)

bits : (k x y z : ℕ) → x < 2 ^ k → z < 2 ^ k → shorter x y z ≡ longer x (2 ^ k - 1 - x) y z
bits zero x y z hx hz =
    let ex : x ≡ 0 = omega arith in
    let ez : z ≡ 0 = omega arith in
    rw (ex, ez) (none y)
bits (suc k) x y z hx hz =
    let c : ℕ = 2 ^ suc k - 1 - x in
    let e : 2 ^ suc k ≡ 2 ^ k * 2 = pow-suc 2 k in
    let first : c / 2 ≡ 2 ^ k - 1 - x / 2 = omega arith in
    let last : c % 2 ≡ 1 - x % 2 = omega arith in
    let h : shorter x y z / 2 ≡ longer x c y z / 2 =
    under (λ (n : ℕ). n / 2) (λ a b. and_shr a b 1) (λ a b. xor_shr a b 1) x c y z
    (bits k (x / 2) (y / 2) (z / 2) (omega arith) (omega arith) ∙ ap (λ (d : ℕ). longer (x / 2) d (y / 2) (z / 2)) (sym first)) in
    let l : shorter x y z % 2 ≡ longer x c y z % 2 =
    under (λ (n : ℕ). n % 2) (λ a b. and_mod a b 1) (λ a b. xor_mod a b 1) x c y z
    (bit (x % 2) (y % 2) (z % 2) (omega arith) (omega arith) (omega arith) ∙ ap (λ (d : ℕ). longer (x % 2) d (y % 2) (z % 2)) (sym last)) in
    omega arith

pub ch_shorter : (x y z : ℕ) → x < 2 ^ 32 → z < 2 ^ 32 → bit_xor (bit_and x (bit_xor y z)) z ≡ bit_xor (bit_and x y) (bit_and (2 ^ 32 - 1 - x) z)
unfolding shorter longer
ch_shorter x y z hx hz = bits 32 x y z hx hz
