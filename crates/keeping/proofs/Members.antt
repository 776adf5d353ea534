-- Lists of pages by their members: the members of filed pages decide whether two unequal pages share a digest, and what the file is.
use Prim.Native.Nat.{ℕ, zero, suc, ◌+◌, ◌<◌}
use mathlib.Core.Path.{◌≡◌, refl, sym, ap, ◌∙◌}
use mathlib.Core.Bool.{true, false}
use mathlib.Core.Logic.{inl, inr}
use mathlib.Core.Option.{Option, none, some, none-ne-some}
use mathlib.Core.List.{List, [], ◌∷◌, ◌++◌, map, append-nil, append_assoc}
use native.Mathlib.Omega.{arith}
use native.Mathlib.Nat.{add-zero}
use lib.ListN.{length, get_or}
use lib.Dec.{eqb}
use borrow.Author.Tests.{eq-eqb, eqb-true}
use borrow.Table.Steps.{cases}
use Rattle.bytestring.proofs.Tools.{All}
use Rattle.fips180.specs.Hash.{sha256}
use Rattle.key.proofs.Laws.{less_irreflexive, is_false}
use Rattle.page.specs.Reading.{concat}
use Rattle.page.specs.Page.{RawPage, page_bytes}
use Rattle.tree.specs.Record.{Record}
use Rattle.tree.specs.Judge.{rising}
use Rattle.promises.specs.Map.{find}
use Rattle.promises.specs.Promises.{Among, DigestsApart}
use Rattle.promises.proofs.MapLaws.{Before, Above, Sorted, sorted_rising, rising_sorted, find_here, find_later, sorted_ext}
use Rattle.states.specs.Pages.{by_digest, filed, all_apart}
use Rattle.states.proofs.Filing.{find_all, filed_from, FiledFrom, filed_sorted, filed_stands, unshared_apart, apart_unshared}
use Rattle.filing.specs.Filed.{bytes_at}
use Rattle.keeping.specs.Kept.{kept_from, sequence_of}

-- ---- the test depends on the members alone
pub shares : (ps : List (List ℕ)) (p q : List ℕ) → Among p ps → Among q ps → sha256 p ≡ sha256 q → (p ≡ q → ⊥) → all_apart ps ≡ false
shares ps p q i j e n = is_false (all_apart ps) (λ h. n (apart_unshared ps h p q i j e))

-- ---- pages in ascending order of digest
above_member : (k : List ℕ) (ps : List (List ℕ)) (p : List ℕ) → Above k (map by_digest ps) → Among p ps → Before k (sha256 p)
above_member k [] p a i = absurd i
above_member k (q ∷ ps) p a (inl e) = rw e a.0
above_member k (q ∷ ps) p a (inr i) = above_member k ps p a.1 i

sorted_apart : (ps : List (List ℕ)) → Sorted (map by_digest ps) → DigestsApart ps
sorted_apart [] s p q i j e = absurd i
sorted_apart (x ∷ ps) s p q (inl a) (inl b) e = a ∙ sym b
sorted_apart (x ∷ ps) s p q (inl a) (inr j) e =
    absurd (less_irreflexive (sha256 q) (rw (sym (ap sha256 a) ∙ e) at (above_member (sha256 x) ps q s.0 j)))
sorted_apart (x ∷ ps) s p q (inr i) (inl b) e =
    absurd (less_irreflexive (sha256 p) (rw (sym (ap sha256 b) ∙ sym e) at (above_member (sha256 x) ps p s.0 i)))
sorted_apart (x ∷ ps) s p q (inr i) (inr j) e = sorted_apart ps s.1 p q i j e

sorted_finds : (ps : List (List ℕ)) → Sorted (map by_digest ps) → (p : List ℕ) → Among p ps → find (sha256 p) (map by_digest ps) ≡ some p
sorted_finds [] s p i = absurd i
sorted_finds (x ∷ ps) s p (inl e) = find_here (sha256 p) (by_digest x) (map by_digest ps) (ap sha256 e) ∙ ap some (sym e)
sorted_finds (x ∷ ps) s p (inr i) =
    find_later (sha256 p) (by_digest x) (map by_digest ps) (above_member (sha256 x) ps p s.0 i) ∙ sorted_finds ps s.1 p i

members_filed : (ps qs : List (List ℕ)) → ((p : List ℕ) → Among p ps → Among p qs) → All (FiledFrom qs) (map by_digest ps)
members_filed [] qs w = tt
members_filed (p ∷ ps) qs w = ((refl, w p (inl refl)), members_filed ps qs (λ q i. w q (inr i)))

-- one more page at the end
above_snoc : (k : List ℕ) (ps : List (List ℕ)) (p : List ℕ) → Above k (map by_digest ps) → Before k (sha256 p) → Above k (map by_digest (ps ++ (p ∷ [])))
above_snoc k [] p a h = (h, tt)
above_snoc k (x ∷ ps) p a h = (a.0, above_snoc k ps p a.1 h)

sorted_snoc : (ps : List (List ℕ)) (p : List ℕ) → Sorted (map by_digest ps) → ((q : List ℕ) → Among q ps → Before (sha256 q) (sha256 p))
    → Sorted (map by_digest (ps ++ (p ∷ [])))
sorted_snoc [] p s h = (tt, tt)
sorted_snoc (x ∷ ps) p s h = (above_snoc (sha256 x) ps p s.0 (h x (inl refl)), sorted_snoc ps p s.1 (λ q i. h q (inr i)))

pub rising_snoc : (ps : List (List ℕ)) (p : List ℕ) → rising (map by_digest ps) ≡ true → ((q : List ℕ) → Among q ps → Before (sha256 q) (sha256 p))
    → rising (map by_digest (ps ++ (p ∷ []))) ≡ true
rising_snoc ps p r h = sorted_rising (map by_digest (ps ++ (p ∷ []))) (sorted_snoc ps p (rising_sorted (map by_digest ps) r) h)

pub concat_snoc : (ps : List (List ℕ)) (p : List ℕ) → concat (λ b. b) (ps ++ (p ∷ [])) ≡ concat (λ b. b) ps ++ p
concat_snoc [] p = append-nil p
concat_snoc (x ∷ ps) p = ap (λ (l : List ℕ). x ++ l) (concat_snoc ps p) ∙ sym (append_assoc x (concat (λ b. b) ps) p)

-- ---- a list in ascending order that has the members of another is its file
module _ (ws ps : List (List ℕ)) (r : rising (map by_digest ws) ≡ true)
    (there : (p : List ℕ) → Among p ws → Among p ps) (all : (p : List ℕ) → Among p ps → Among p ws) where
  apart : DigestsApart ps
  apart p q i j = sorted_apart ws (rising_sorted (map by_digest ws) r) p q (all p i) (all q j)

  pub members_apart : all_apart ps ≡ true
  members_apart = unshared_apart ps apart

  found : (k : List ℕ) (x y : Option (List ℕ)) → find k (filed ps) ≡ x → find k (map by_digest ws) ≡ y → x ≡ y
  found k none none e f = refl
  found k none (some v) e f =
      let q = find_all (FiledFrom ps) (map by_digest ws) k v (members_filed ws ps there) f in
      absurd (none-ne-some v (sym e ∙ rw q.0 (filed_stands ps apart v q.1)))
  found k (some v) y e f =
      let q = find_all (FiledFrom ps) (filed ps) k v (filed_from ps) e in
      sym (sorted_finds ws (rising_sorted (map by_digest ws) r) v (all v q.1)) ∙ rw (← q.0) f

  pub members_file : filed ps ≡ map by_digest ws
  members_file =
      sorted_ext (filed ps) (map by_digest ws) (filed_sorted ps) (rising_sorted (map by_digest ws) r)
      (λ k. found k (find k (filed ps)) (find k (map by_digest ws)) refl refl)

  pub members_sequence : sequence_of ps ≡ concat (λ b. b) ws
  unfolding sequence_of
  members_sequence = ap (concat (λ (x : Record). x.val)) members_file ∙ values ws
    where
      values : (l : List (List ℕ)) → concat (λ (x : Record). x.val) (map by_digest l) ≡ concat (λ b. b) l
      values [] = refl
      values (b ∷ l) = ap (λ (t : List ℕ). b ++ t) (values l)

-- ---- the kept pages of filed pages
pub kept_among : (marks : List ℕ) (i : ℕ) (raws : List RawPage) (k : ℕ) → k < length raws → get_or marks (i + k) 0 ≡ 1
    → Among (bytes_at raws k) (kept_from marks i raws)
unfolding kept_from
kept_among marks i [] k h e = absurd (omega arith)
kept_among marks i (p ∷ ps) zero h e =
    let m : get_or marks i 0 ≡ 1 = rw add-zero at e in
    rw (eq-eqb (get_or marks i 0) 1 m) (inl refl)
kept_among marks i (p ∷ ps) (suc k) h e =
    let n : i + suc k ≡ suc i + k = omega arith in
    let later = kept_among marks (suc i) ps k (omega arith) (rw n at e) in
    cases (eqb (get_or marks i 0) 1) (λ t. rw t (inr later)) (λ t. rw t later)

abbrev pub KeptAt : List ℕ → ℕ → List RawPage → List ℕ → Type 0
KeptAt marks i raws b = (k : ℕ) × (k < length raws) × (get_or marks (i + k) 0 ≡ 1) × (bytes_at raws k ≡ b)

kept_later : (marks : List ℕ) (i : ℕ) (p : RawPage) (ps : List RawPage) (b : List ℕ) → KeptAt marks (suc i) ps b → KeptAt marks i (p ∷ ps) b
kept_later marks i p ps b k =
    let n : i + suc k.0 ≡ suc i + k.0 = omega arith in
    (suc k.0, omega arith, rw n k.2, k.3)

pub among_kept : (marks : List ℕ) (i : ℕ) (raws : List RawPage) (b : List ℕ) → Among b (kept_from marks i raws) → KeptAt marks i raws b
unfolding kept_from
among_kept marks i [] b a = absurd a
among_kept marks i (p ∷ ps) b a =
    cases (eqb (get_or marks i 0) 1)
    (λ t. first (λ x. kept_later marks i p ps b (among_kept marks (suc i) ps b x)) (eqb-true (get_or marks i 0) 1 t) (rw t at a))
    (λ t. kept_later marks i p ps b (among_kept marks (suc i) ps b (rw t at a)))
  where
    first : (Among b (kept_from marks (suc i) ps) → KeptAt marks i (p ∷ ps) b) → get_or marks i 0 ≡ 1
        → Among b (page_bytes p ∷ kept_from marks (suc i) ps) → KeptAt marks i (p ∷ ps) b
    first later m (inl e) = (0, omega arith, rw add-zero m, sym e)
    first later m (inr x) = later x
