-- Laws of counts and lengths: both ways of reading.
use Prim.Native.Nat.{ℕ, ◌+◌, ◌-◌, ◌*◌, ◌/◌, ◌%◌, ◌≤◌, ◌<◌}
use mathlib.Core.Path.{◌≡◌, refl, sym, ap, ap₂, ◌∙◌}
use mathlib.Core.List.{List, [], ◌∷◌, ◌++◌}
use native.Mathlib.Omega.{arith}
use lib.Dec.{eqb, ltb}
use borrow.Author.Tests.{ltb-true, ltb-false, eqb-true, eqb-false, lt-ltb, le-ltb, eq-eqb, ne_eqb}
use borrow.Table.Steps.{cases}
use Rattle.bytestring.proofs.Tools.{cond-inv}
use Rattle.bytestring.specs.Bytes.{Bytes}
use Rattle.page.specs.Reading.{read, departs}
use Rattle.page.specs.Number.{number_bytes, one_byte, two_bytes, number}
use Rattle.page.proofs.Readers.{ends_early≢read, departs≢read, read_sub, Spells}

module _ (kind : ℕ) where
  -- ---- the three forms, as written
  pub bytes_first : (n : ℕ) → n < 24 → number_bytes kind n ≡ (kind + n) ∷ []
  unfolding number_bytes
  bytes_first n h = rw (lt-ltb n 24 h)

  pub bytes_one : (n : ℕ) → 24 ≤ n → n < 256 → number_bytes kind n ≡ (kind + 24) ∷ n ∷ []
  unfolding number_bytes
  bytes_one n h k = rw (le-ltb n 24 h, lt-ltb n 256 k)

  pub bytes_two : (n : ℕ) → 256 ≤ n → number_bytes kind n ≡ (kind + 25) ∷ n / 256 ∷ n % 256 ∷ []
  unfolding number_bytes
  bytes_two n h = rw (le-ltb n 24 (omega arith), le-ltb n 256 h)

  -- ---- the first byte, as read
  pub low_departs : (b : ℕ) (s : List ℕ) → b < kind → number kind (b ∷ s) ≡ departs
  unfolding number
  low_departs b s h = rw (lt-ltb b kind h)

  pub first_reads : (b : ℕ) (s : List ℕ) → kind ≤ b → b < kind + 24 → number kind (b ∷ s) ≡ read (b - kind) s
  unfolding number
  first_reads b s h k = rw (le-ltb b kind h, lt-ltb b (kind + 24) k)

  pub one_follows : (b : ℕ) (s : List ℕ) → b ≡ kind + 24 → number kind (b ∷ s) ≡ one_byte s
  unfolding number
  one_follows b s e = rw (le-ltb b kind (omega arith), le-ltb b (kind + 24) (omega arith), eq-eqb b (kind + 24) e)

  pub two_follow : (b : ℕ) (s : List ℕ) → b ≡ kind + 25 → number kind (b ∷ s) ≡ two_bytes s
  unfolding number
  two_follow b s e =
      rw (le-ltb b kind (omega arith), le-ltb b (kind + 24) (omega arith), ne_eqb b (kind + 24) (λ q. omega arith), eq-eqb b (kind + 25) e)

  pub high_departs : (b : ℕ) (s : List ℕ) → kind + 25 < b → number kind (b ∷ s) ≡ departs
  unfolding number
  high_departs b s h =
      rw (le-ltb b kind (omega arith), le-ltb b (kind + 24) (omega arith), ne_eqb b (kind + 24) (λ q. omega arith), ne_eqb b (kind + 25) (λ q. omega arith))

  -- ---- there
  pub number_reads : (n : ℕ) (rest : List ℕ) → n < 65536 → number kind (number_bytes kind n ++ rest) ≡ read n rest
  unfolding one_byte two_bytes
  number_reads n rest h =
      cases (ltb n 24)
      (λ e. rw (bytes_first n (ltb-true n 24 e)) (first_reads (kind + n) rest (omega arith) (omega (arith, ltb-true n 24 e)) ∙ ap (λ (k : ℕ). read k rest) (omega arith)))
      (λ e. cases (ltb n 256)
      (λ f. rw (bytes_one n (ltb-false n 24 e) (ltb-true n 256 f), one_follows (kind + 24) (n ∷ rest) refl, e))
      (λ f.
      let high : 0 < n / 256 = omega (arith, ltb-false n 256 f) in
      rw (bytes_two n (ltb-false n 256 f), two_follow (kind + 25) (n / 256 ∷ n % 256 ∷ rest) refl, ne_eqb (n / 256) 0 (λ q. omega arith))
      (ap (λ (k : ℕ). read k rest) (omega arith))))

  -- ---- back
  abbrev Spelt : List ℕ → ℕ → List ℕ → Type 0
  Spelt s n rest = (s ≡ number_bytes kind n ++ rest) × (n < 65536)

  one_back : (s : List ℕ) (n : ℕ) (rest : List ℕ) → Bytes s → one_byte s ≡ read n rest → Spelt ((kind + 24) ∷ s) n rest
  unfolding one_byte
  one_back [] n rest bs h = absurd (ends_early≢read h)
  one_back (b ∷ s) n rest bs h =
      cond-inv (ltb b 24) (λ e q. absurd (departs≢read q))
      (λ e q. read_sub (Spelt ((kind + 24) ∷ b ∷ s)) q
      (sym (ap (λ (l : List ℕ). l ++ s) (bytes_one b (ltb-false b 24 e) bs.0)), omega arith))
      h

  two_back : (s : List ℕ) (n : ℕ) (rest : List ℕ) → Bytes s → two_bytes s ≡ read n rest → Spelt ((kind + 25) ∷ s) n rest
  unfolding two_bytes
  two_back [] n rest bs h = absurd (ends_early≢read h)
  two_back (a ∷ []) n rest bs h = cond-inv (eqb a 0) (λ e q. absurd (departs≢read q)) (λ e q. absurd (ends_early≢read q)) h
  two_back (a ∷ b ∷ s) n rest bs h =
      cases (eqb a 0)
      (λ e. absurd (departs≢read (rw e at h)))
      (λ e.
      let high : 256 ≤ a * 256 + b = omega (arith, eqb-false a 0 e) in
      let ea : a ≡ (a * 256 + b) / 256 = omega (arith, bs.1.0) in
      let eb : b ≡ (a * 256 + b) % 256 = omega (arith, bs.1.0) in
      read_sub (Spelt ((kind + 25) ∷ a ∷ b ∷ s)) (rw e at h)
      (ap₂ (λ (x y : ℕ). (kind + 25) ∷ x ∷ y ∷ s) ea eb ∙ sym (ap (λ (l : List ℕ). l ++ s) (bytes_two (a * 256 + b) high)), omega arith))

  back : (s rest : List ℕ) (n : ℕ) → Bytes s → number kind s ≡ read n rest → Spelt s n rest
  unfolding number
  back [] rest n bs h = absurd (ends_early≢read h)
  back (b ∷ s) rest n bs h =
      cond-inv (ltb b kind) (λ e q. absurd (departs≢read q))
      (λ e. let low : kind ≤ b = ltb-false b kind e in cond-inv (ltb b (kind + 24))
      (λ f q.
      let high : b < kind + 24 = ltb-true b (kind + 24) f in
      let eb : b ≡ kind + (b - kind) = omega arith in
      read_sub (Spelt (b ∷ s)) q
      (ap (λ (k : ℕ). k ∷ s) eb ∙ sym (ap (λ (l : List ℕ). l ++ s) (bytes_first (b - kind) (omega arith))), omega arith))
      (λ f. cond-inv (eqb b (kind + 24))
      (λ g q. rw (eqb-true b (kind + 24) g) (one_back s n rest bs.1 q))
      (λ g. cond-inv (eqb b (kind + 25))
      (λ k q. rw (eqb-true b (kind + 25) k) (two_back s n rest bs.1 q))
      (λ k q. absurd (departs≢read q)))))
      h

  pub number_spells : Spells (number kind) (number_bytes kind) (λ n. n < 65536)
  number_spells = record { back = back }
