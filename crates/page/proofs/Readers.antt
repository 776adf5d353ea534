-- Laws of reading. There: what was written is read back, whatever follows. Back: what is read is what would be written.
use Prim.Native.Nat.{ℕ, zero, suc}
use mathlib.Core.Path.{◌≡◌, refl, sym, ap, ap₂, subst}
use mathlib.Core.List.{List, [], ◌∷◌, ◌++◌, append_assoc}
use lib.ListN.{length}
use lib.Dec.{eqb}
use borrow.Author.Tests.{eqb-true, eq-eqb}
use Rattle.bytestring.proofs.Tools.{cond-inv, All, bytes_right}
use Rattle.bytestring.specs.Bytes.{Bytes}
use Rattle.page.specs.Reading.{Read, read, ends_early, departs, Reader, and_then, exactly, any_bytes, times, concat}

-- ---- results
abbrev IsRead : {A : Type 0} → Read A → Type 0
IsRead (read a s) = Unit {0}
IsRead ends_early = ⊥
IsRead departs = ⊥

pub ends_early≢read : {A : Type 0} {a : A} {s : List ℕ} → ends_early ≡ read a s → ⊥
ends_early≢read e = subst IsRead (sym e) tt

pub departs≢read : {A : Type 0} {a : A} {s : List ℕ} → departs ≡ read a s → ⊥
departs≢read e = subst IsRead (sym e) tt

-- what holds of one result holds of an equal one
pub read_sub : {A : Type 0} (P : A → List ℕ → Type 0) {a b : A} {s t : List ℕ} → read a s ≡ read b t → P a s → P b t
read_sub P {a} {b} {s} {t} e p =
    let ea : a ≡ b = cc in
    let es : s ≡ t = cc in
    subst (λ x. P b x) es (subst (λ x. P x s) ea p)

-- one thing was read, and then another
pub andThen-inv {κ} : {A B : Type 0} {C : Type κ} (r : Read A) {f : A → List ℕ → Read B} {b : B} {t : List ℕ}
    → ((a : A) (s : List ℕ) → r ≡ read a s → f a s ≡ read b t → C) → and_then r f ≡ read b t → C
andThen-inv (read a s) k h = k a s refl h
andThen-inv ends_early k h = absurd (ends_early≢read h)
andThen-inv departs k h = absurd (departs≢read h)

-- ---- there
pub exactly_reads : (bytes rest : List ℕ) → exactly bytes (bytes ++ rest) ≡ read tt rest
unfolding exactly
exactly_reads [] rest = refl
exactly_reads (c ∷ cs) rest = rw (eq-eqb c c refl) (exactly_reads cs rest)

pub any_bytes_reads : (l rest : List ℕ) → any_bytes (length l) (l ++ rest) ≡ read l rest
unfolding any_bytes
any_bytes_reads [] rest = refl
any_bytes_reads (b ∷ l) rest = rw (any_bytes_reads l rest)

pub times_reads : {A : Type 0} (p : Reader A) (bytes : A → List ℕ) (Good : A → Type 0)
    → ((a : A) (rest : List ℕ) → Good a → p (bytes a ++ rest) ≡ read a rest)
    → (l : List A) (rest : List ℕ) → All Good l → times (length l) p (concat bytes l ++ rest) ≡ read l rest
unfolding times
times_reads p bytes Good hp [] rest g = refl
times_reads p bytes Good hp (a ∷ l) rest g =
    rw (append_assoc (bytes a) (concat bytes l) rest, hp a (concat bytes l ++ rest) g.0, times_reads p bytes Good hp l rest g.1)

-- ---- back
-- what p reads is the bytes of a good thing, and then the rest
pub record Spells {A : Type 0} (p : Reader A) (bytes : A → List ℕ) (Good : A → Type 0) : Type 0 where
  pub back : (s rest : List ℕ) (a : A) → Bytes s → p s ≡ read a rest → (s ≡ bytes a ++ rest) × Good a

-- one step of a reader's `do`
pub step {κ} : {A B : Type 0} {C : Type κ} {p : Reader A} {bytes : A → List ℕ} {Good : A → Type 0} → Spells p bytes Good
    → (s : List ℕ) → Bytes s → {f : A → List ℕ → Read B} {b : B} {rest : List ℕ}
    → ((a : A) (t : List ℕ) → s ≡ bytes a ++ t → Good a → Bytes t → f a t ≡ read b rest → C) → and_then (p s) f ≡ read b rest → C
step {p} {bytes} sp s bs k h =
    andThen-inv (p s) (λ a t e q. let r = sp.back s t a bs e in k a t r.0 r.1 (bytes_right (bytes a) t (subst Bytes r.0 bs)) q) h

pub exactly_inv : (bytes s rest : List ℕ) (u : Unit {0}) → exactly bytes s ≡ read u rest → s ≡ bytes ++ rest
unfolding exactly
exactly_inv [] s rest u h = read_sub (λ _ r. s ≡ r) h refl
exactly_inv (c ∷ cs) [] rest u h = absurd (ends_early≢read h)
exactly_inv (c ∷ cs) (b ∷ s) rest u h =
    cond-inv (eqb b c) (λ e q. ap₂ (λ (x : ℕ) (l : List ℕ). x ∷ l) (eqb-true b c e) (exactly_inv cs s rest u q)) (λ e q. absurd (departs≢read q)) h

pub exactly_spells : (bytes : List ℕ) → Spells (exactly bytes) (λ _. bytes) (λ _. Unit {0})
exactly_spells bytes = record { back = λ s rest u b h. (exactly_inv bytes s rest u h, tt) }

any_bytes_inv : (n : ℕ) (s rest l : List ℕ) → any_bytes n s ≡ read l rest → (s ≡ l ++ rest) × (length l ≡ n)
unfolding any_bytes
any_bytes_inv zero s rest l h = read_sub (λ k r. (s ≡ k ++ r) × (length k ≡ 0)) h (refl, refl)
any_bytes_inv (suc n) [] rest l h = absurd (ends_early≢read h)
any_bytes_inv (suc n) (b ∷ s) rest l h =
    andThen-inv (any_bytes n s) (λ k t e q.
    let r = any_bytes_inv n s t k e in
    read_sub (λ j u. (b ∷ s ≡ j ++ u) × (length j ≡ suc n)) q (ap (λ (u : List ℕ). b ∷ u) r.0, ap suc r.1)) h

pub any_bytes_spells : (n : ℕ) → Spells (any_bytes n) (λ l. l) (λ l. length l ≡ n)
any_bytes_spells n = record { back = λ s rest l b h. any_bytes_inv n s rest l h }

times_inv : {A : Type 0} {p : Reader A} {bytes : A → List ℕ} {Good : A → Type 0} → Spells p bytes Good
    → (n : ℕ) (s rest : List ℕ) (l : List A) → Bytes s → times n p s ≡ read l rest → (s ≡ concat bytes l ++ rest) × (All Good l × (length l ≡ n))
unfolding times
times_inv {bytes} {Good} sp zero s rest l b h =
    read_sub (λ k r. (s ≡ concat bytes k ++ r) × (All Good k × (length k ≡ 0))) h (refl, (tt, refl))
times_inv {p} {bytes} {Good} sp (suc n) s rest l b h =
    step sp s b (λ a t e₁ g₁ bt.
    andThen-inv (times n p t) (λ k u h₂ q.
    let r = times_inv sp n t u k bt h₂ in
    read_sub (λ j v. (s ≡ concat bytes j ++ v) × (All Good j × (length j ≡ suc n))) q
    (rw (e₁, r.0) (sym (append_assoc (bytes a) (concat bytes k) u)), ((g₁, r.1.0), ap suc r.1.1)))) h

pub times_spells : {A : Type 0} {p : Reader A} {bytes : A → List ℕ} {Good : A → Type 0} → Spells p bytes Good
    → (n : ℕ) → Spells (times n p) (concat bytes) (λ l. All Good l × (length l ≡ n))
times_spells sp n = record { back = times_inv sp n }
