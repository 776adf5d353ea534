-- What the crates above use of keys and layers: lawful keys are at most 256 bytes, no layer is above 128, the laws of the order, and those of
-- the shared bytes.
use Rattle.std.specs.declared.cmp.Ordering.TheVariants.{Less, Equal, Greater}
use Prim.Native.Nat.{ℕ, zero, suc, ◌*◌, ◌≤◌, ◌<◌, zero-le, suc-le-suc}
use mathlib.Core.Path.{◌≡◌, refl, sym, ap, ap₂, ◌∙◌}
use mathlib.Core.Bool.{Bool, true, false, and-false, false≢true}
use mathlib.Core.List.{List, [], ◌∷◌, ◌++◌}
use native.Mathlib.Omega.{arith}
use lib.Dec.{eqb, ltb, leb}
use lib.ListN.{length, take, drop, length-append, take-append-drop}
use borrow.Author.Tests.{eqb-true, eqb-false, eq-eqb, ne_eqb, ltb-true, ltb-false, lt-ltb, le-ltb, leb-true, leb-false, lt-leb}
use borrow.Table.Steps.{cases}
use Rattle.bytestring.specs.Bytes.{Bytes}
use Rattle.fips180.specs.Hash.{sha256}
use Rattle.fips180.proofs.Laws.{length_sha256}
use Rattle.key.specs.Key.{slash_byte, ordinary, collection, name, all_ordinary, lawful, less, order, shared}
use Rattle.key.specs.Layer.{bits, bits_of, leading_zero_bits, layer_of_digest, layer_of}
use Rattle.key.proofs.Lawful.{long_unlawful, lawful_parts}

-- ---- lawful keys
pub lawful_length : (k : List ℕ) → lawful k ≡ true → length k ≤ 256
lawful_length k h =
    cases (leb (length k) 256) (leb-true (length k) 256) (λ e. absurd (false≢true (sym (long_unlawful k (leb-false (length k) 256 e)) ∙ h)))

-- every byte of a lawful key is the slash or ordinary, and these are below 256
not_ordinary : (b : ℕ) → 256 ≤ b → ordinary b ≡ false
unfolding ordinary
not_ordinary b h =
    let other : (n : ℕ) → n < b → eqb b n ≡ false = λ n l. ne_eqb b n (λ q. omega arith) in
    simp (
      lt-leb b 0x7A (omega arith),
      lt-leb b 0x5A (omega arith),
      lt-leb b 0x39 (omega arith),
      other 0x2E (omega arith),
      other 0x2D (omega arith),
      other 0x5F (omega arith),
      other 0x3A (omega arith),
      other 0x7E (omega arith),
      and-false,
    )

ordinary_small : (b : ℕ) → ordinary b ≡ true → b < 256
ordinary_small b h =
    cases (ltb b 256) (ltb-true b 256) (λ e. absurd (false≢true (sym (not_ordinary b (ltb-false b 256 e)) ∙ h)))

ordinary_bytes : (s : List ℕ) → all_ordinary s ≡ true → Bytes s
unfolding all_ordinary
ordinary_bytes [] h = tt
ordinary_bytes (b ∷ s) h =
    cases (ordinary b) (λ e. (ordinary_small b e, ordinary_bytes s (rw e at h))) (λ e. absurd (false≢true (rw e at h)))

parts_bytes : (k : List ℕ) → all_ordinary (collection k) ≡ true → all_ordinary (name k) ≡ true → Bytes k
unfolding collection name all_ordinary
parts_bytes [] h j = tt
parts_bytes (b ∷ k) h j =
    cases (eqb b slash_byte)
    (λ e. (omega (arith, eqb-true b slash_byte e), ordinary_bytes k (rw e at j)))
    (λ e. cases (ordinary b) (λ f. (ordinary_small b f, parts_bytes k (rw (e, f) at h) (rw e at j))) (λ f. absurd (false≢true (rw (e, f) at h))))

pub lawful_bytes : (k : List ℕ) → lawful k ≡ true → Bytes k
lawful_bytes k h = let w = lawful_parts k h in parts_bytes k w.0 w.1

-- ---- layers
pub length_bits : (k n : ℕ) → length (bits k n) ≡ k
unfolding bits
length_bits zero n = refl
length_bits (suc k) n = ap suc (length_bits k n)

zeros_le : (s : List ℕ) → leading_zero_bits s ≤ length s
unfolding leading_zero_bits
zeros_le [] = zero-le
zeros_le (zero ∷ s) = omega (arith, zeros_le s)
zeros_le (suc b ∷ s) = zero-le

length_bits_of : (s : List ℕ) → length (bits_of s) ≡ 8 * length s
unfolding bits_of
length_bits_of [] = refl
length_bits_of (b ∷ s) = omega (arith, length-append (bits 8 b) (bits_of s), length_bits 8 b, length_bits_of s)

pub layer_le : (s : List ℕ) → layer_of s ≤ 128
unfolding layer_of layer_of_digest
layer_le s = omega (arith, zeros_le (bits_of (sha256 s)), length_bits_of (sha256 s), length_sha256 s)

-- ---- the order of keys is strict and total
-- the first byte decides, or the rest
less_first : (x y : ℕ) (a b : List ℕ) → x < y → less (x ∷ a) (y ∷ b) ≡ true
unfolding less
less_first x y a b h = rw (lt-ltb x y h)

less_rest : (x y : ℕ) (a b : List ℕ) → x ≡ y → less a b ≡ true → less (x ∷ a) (y ∷ b) ≡ true
unfolding less
less_rest x y a b e h = rw (le-ltb x y (omega arith), eq-eqb x y e, h)

less-cases {κ} : {C : Type κ} (x y : ℕ) (a b : List ℕ) → less (x ∷ a) (y ∷ b) ≡ true → (x < y → C) → (x ≡ y → less a b ≡ true → C) → C
unfolding less
less-cases x y a b h f g =
    cases (ltb x y)
    (λ e. f (ltb-true x y e))
    (λ e. cases (eqb x y) (λ k. g (eqb-true x y k) (rw (e, k) at h)) (λ k. absurd (false≢true (rw (e, k) at h))))

pub less_irreflexive : (a : List ℕ) → less a a ≡ true → ⊥
unfolding less
less_irreflexive [] h = false≢true h
less_irreflexive (x ∷ a) h = less-cases x x a a h (λ l. omega arith) (λ _ k. less_irreflexive a k)

pub less_transitive : (a b c : List ℕ) → less a b ≡ true → less b c ≡ true → less a c ≡ true
unfolding less
less_transitive [] [] c h k = absurd (false≢true h)
less_transitive [] (y ∷ b) [] h k = absurd (false≢true k)
less_transitive [] (y ∷ b) (z ∷ c) h k = refl
less_transitive (x ∷ a) [] c h k = absurd (false≢true h)
less_transitive (x ∷ a) (y ∷ b) [] h k = absurd (false≢true k)
less_transitive (x ∷ a) (y ∷ b) (z ∷ c) h k =
    less-cases x y a b h
    (λ p. less_first x z a c (less-cases y z b c k (λ q. omega arith) (λ q _. omega arith)))
    (λ p h'. less-cases y z b c k (λ q. less_first x z a c (omega arith)) (λ q k'. less_rest x z a c (p ∙ q) (less_transitive a b c h' k')))

pub less-connected {κ} : {C : Type κ} (a b : List ℕ) → (less a b ≡ true → C) → (a ≡ b → C) → (less b a ≡ true → C) → C
unfolding less
less-connected [] [] f g h = g refl
less-connected [] (y ∷ b) f g h = f refl
less-connected (x ∷ a) [] f g h = h refl
less-connected (x ∷ a) (y ∷ b) f g h =
    cases (ltb x y)
    (λ e. f (less_first x y a b (ltb-true x y e)))
    (λ e. cases (eqb x y)
    (λ k. less-connected a b (λ p. f (less_rest x y a b (eqb-true x y k) p)) (λ p. g (ap₂ (λ (z : ℕ) (l : List ℕ). z ∷ l) (eqb-true x y k) p)) (λ p. h (less_rest y x b a (sym (eqb-true x y k)) p)))
    (λ k. h (less_first y x b a (omega (arith, ltb-false x y e, eqb-false x y k)))))

pub is_false : (t : Bool) → (t ≡ true → ⊥) → t ≡ false
is_false true f = absurd (f refl)
is_false false f = refl

pub less_asymmetric : (a b : List ℕ) → less a b ≡ true → less b a ≡ false
less_asymmetric a b h = is_false (less b a) (λ k. less_irreflexive a (less_transitive a b a h k))

pub less_same : (a b : List ℕ) → a ≡ b → less a b ≡ false
less_same a b e = rw e (is_false (less b b) (less_irreflexive b))

-- ---- its three cases
pub less_order : (a b : List ℕ) → less a b ≡ true → order a b ≡ Less
unfolding order
less_order a b h = rw h

pub equal_order : (a b : List ℕ) → a ≡ b → order a b ≡ Equal
unfolding order
equal_order a b e = rw (less_same a b e, less_same b a (sym e))

pub greater_order : (a b : List ℕ) → less b a ≡ true → order a b ≡ Greater
unfolding order
greater_order a b h = rw (less_asymmetric b a h, h)

pub order_less : (a b : List ℕ) → order a b ≡ Less → less a b ≡ true
order_less a b q =
    less-connected a b (λ h. h)
    (λ e. let z : ◌≡◌ {A = ℕ} 0 1 = cc (equal_order a b e) in absurd (omega arith))
    (λ h. let z : ◌≡◌ {A = ℕ} 0 1 = cc (greater_order a b h) in absurd (omega arith))

pub order_equal : (a b : List ℕ) → order a b ≡ Equal → a ≡ b
order_equal a b q =
    less-connected a b
    (λ h. let z : ◌≡◌ {A = ℕ} 0 1 = cc (less_order a b h) in absurd (omega arith))
    (λ e. e)
    (λ h. let z : ◌≡◌ {A = ℕ} 0 1 = cc (greater_order a b h) in absurd (omega arith))

pub order_greater : (a b : List ℕ) → order a b ≡ Greater → less b a ≡ true
order_greater a b q =
    less-connected a b
    (λ h. let z : ◌≡◌ {A = ℕ} 0 1 = cc (less_order a b h) in absurd (omega arith))
    (λ e. let z : ◌≡◌ {A = ℕ} 0 1 = cc (equal_order a b e) in absurd (omega arith))
    (λ h. h)

-- ---- the shared bytes
pub shared_nil : (b : List ℕ) → shared [] b ≡ 0
unfolding shared
shared_nil b = refl

pub shared_take : (a b : List ℕ) → take (shared a b) a ≡ take (shared a b) b
unfolding shared
shared_take [] [] = refl
shared_take [] (y ∷ b) = refl
shared_take (x ∷ a) [] = refl
shared_take (x ∷ a) (y ∷ b) =
    cases (eqb x y) (λ e. rw e (ap₂ (λ (z : ℕ) (l : List ℕ). z ∷ l) (eqb-true x y e) (shared_take a b))) (λ e. rw e)

-- the shared bytes of the key before and the rest of a key make that key again
pub shared_rebuilt : (a b : List ℕ) → take (shared a b) a ++ drop (shared a b) b ≡ b
shared_rebuilt a b = rw (shared_take a b) (take-append-drop (shared a b) b)

pub shared_le_left : (a b : List ℕ) → shared a b ≤ length a
unfolding shared
shared_le_left [] b = zero-le
shared_le_left (x ∷ a) [] = zero-le
shared_le_left (x ∷ a) (y ∷ b) = cases (eqb x y) (λ e. rw e (suc-le-suc (shared_le_left a b))) (λ e. rw e zero-le)

pub shared_le_right : (a b : List ℕ) → shared a b ≤ length b
unfolding shared
shared_le_right [] b = zero-le
shared_le_right (x ∷ a) [] = zero-le
shared_le_right (x ∷ a) (y ∷ b) = cases (eqb x y) (λ e. rw e (suc-le-suc (shared_le_right a b))) (λ e. rw e zero-le)
