-- Pages filed by their digests: each page of a list, and no other, stands under its digest, where no two unequal pages share one.
use Prim.Native.Nat.{ℕ}
use mathlib.Core.Path.{◌≡◌, refl, sym, ap, ◌∙◌}
use mathlib.Core.Bool.{true, cond, or-true, false≢true}
use mathlib.Core.Logic.{inl, inr}
use mathlib.Core.Option.{Option, none, some, none-ne-some, some-injective}
use mathlib.Core.List.{List, [], ◌∷◌, ◌++◌, map}
use Rattle.bytestring.proofs.Tools.{and_inv, and_both, All, all_weaken}
use Rattle.bytestring.specs.Bytes.{equal}
use Rattle.bytestring.proofs.Equal.{equal_true, equal_refl, equal-cases}
use Rattle.fips180.specs.Hash.{sha256}
use Rattle.key.proofs.Laws.{less-connected}
use Rattle.page.specs.Reading.{concat}
use Rattle.tree.specs.Record.{Record}
use Rattle.promises.specs.Map.{find}
use Rattle.promises.specs.Promises.{Among, DigestsApart}
use Rattle.promises.proofs.MapLaws.{Sorted, find_before, find_here, find_later, all_insert, sorted_insert, with_old, find_insert_same, find_insert_other}
use Rattle.states.specs.Pages.{by_digest, filed, apart, all_apart, among, all_among}

-- ---- some page of a list
pub among-split {κ} : {C : Type κ} (ps qs : List (List ℕ)) (p : List ℕ) → Among p (ps ++ qs) → (Among p ps → C) → (Among p qs → C) → C
among-split [] qs p i f g = g i
among-split (q ∷ ps) qs p (inl e) f g = f (inl e)
among-split (q ∷ ps) qs p (inr i) f g = among-split ps qs p i (λ j. f (inr j)) g

pub all_each : (P : List ℕ → Type 0) (ps : List (List ℕ)) (p : List ℕ) → All P ps → Among p ps → P p
all_each P [] p a i = absurd i
all_each P (q ∷ ps) p a (inl e) = rw e a.0
all_each P (q ∷ ps) p a (inr i) = all_each P ps p a.1 i

pub each_all : (P : List ℕ → Type 0) (ps : List (List ℕ)) → ((p : List ℕ) → Among p ps → P p) → All P ps
each_all P [] f = tt
each_all P (q ∷ ps) f = (f q (inl refl), each_all P ps (λ p i. f p (inr i)))

pub among_there : (p : List ℕ) (ps : List (List ℕ)) → among p ps ≡ true → Among p ps
unfolding among
among_there p [] h = absurd (false≢true h)
among_there p (q ∷ ps) h = equal-cases p q (λ e s. inl s) (λ e s. inr (among_there p ps (rw e at h)))

pub there_among : (p : List ℕ) (ps : List (List ℕ)) → Among p ps → among p ps ≡ true
unfolding among
there_among p [] i = absurd i
there_among p (q ∷ ps) (inl e) = rw (e, equal_refl q)
there_among p (q ∷ ps) (inr i) = rw (there_among p ps i, or-true)

pub all_among_there : (ps qs : List (List ℕ)) → all_among ps qs ≡ true → All (λ p. Among p qs) ps
unfolding all_among
all_among_there [] qs h = tt
all_among_there (p ∷ ps) qs h =
    let k = and_inv (among p qs) h in
    (among_there p qs k.0, all_among_there ps qs k.1)

pub there_all_among : (ps qs : List (List ℕ)) → All (λ p. Among p qs) ps → all_among ps qs ≡ true
unfolding all_among
there_all_among [] qs a = refl
there_all_among (p ∷ ps) qs a = and_both (there_among p qs a.0) (there_all_among ps qs a.1)

-- ---- the test that no two unequal pages share a digest
apart_one : (p : List ℕ) (qs : List (List ℕ)) → apart p qs ≡ true → (q : List ℕ) → Among q qs → sha256 p ≡ sha256 q → p ≡ q
unfolding apart
apart_one p [] h q i e = absurd i
apart_one p (x ∷ qs) h q (inl r) e =
    let k = and_inv (cond (equal (sha256 p) (sha256 x)) (equal p x) true) h in
    let same : equal (sha256 p) (sha256 x) ≡ true = rw (e, r) (equal_refl (sha256 x)) in
    equal_true p x (rw same at k.0) ∙ sym r
apart_one p (x ∷ qs) h q (inr i) e =
    let k = and_inv (cond (equal (sha256 p) (sha256 x)) (equal p x) true) h in
    apart_one p qs k.1 q i e

pub apart_unshared : (ps : List (List ℕ)) → all_apart ps ≡ true → DigestsApart ps
unfolding all_apart
apart_unshared [] h p q i j e = absurd i
apart_unshared (x ∷ ps) h p q (inl a) (inl b) e = a ∙ sym b
apart_unshared (x ∷ ps) h p q (inl a) (inr j) e =
    let k = and_inv (apart x ps) h in
    a ∙ apart_one x ps k.0 q j (ap sha256 (sym a) ∙ e)
apart_unshared (x ∷ ps) h p q (inr i) (inl b) e =
    let k = and_inv (apart x ps) h in
    sym (apart_one x ps k.0 p i (ap sha256 (sym b) ∙ sym e)) ∙ sym b
apart_unshared (x ∷ ps) h p q (inr i) (inr j) e =
    let k = and_inv (apart x ps) h in
    apart_unshared ps k.1 p q i j e

one_apart : (p : List ℕ) (qs : List (List ℕ)) → ((q : List ℕ) → Among q qs → sha256 p ≡ sha256 q → p ≡ q) → apart p qs ≡ true
unfolding apart
one_apart p [] f = refl
one_apart p (x ∷ qs) f =
    and_both {a = cond (equal (sha256 p) (sha256 x)) (equal p x) true}
    (equal-cases (sha256 p) (sha256 x) (λ e s. rw (e, f x (inl refl) s) (equal_refl x)) (λ e s. rw e))
    (one_apart p qs (λ q i. f q (inr i)))

pub unshared_apart : (ps : List (List ℕ)) → DigestsApart ps → all_apart ps ≡ true
unfolding all_apart
unshared_apart [] f = refl
unshared_apart (x ∷ ps) f =
    and_both (one_apart x ps (λ q i. f x q (inl refl) (inr i))) (unshared_apart ps (λ p q i j. f p q (inr i) (inr j)))

-- ---- what a key finds has what all records have
pub find_all : (P : Record → Type 0) (m : List Record) (k v : List ℕ) → All P m → find k m ≡ some v → P (record { key = k; val = v })
unfolding find
find_all P [] k v a h = absurd (none-ne-some _ h)
find_all P (x ∷ m) k v a h =
    less-connected k x.key
    (λ p. absurd (none-ne-some _ (sym (find_before k x m p) ∙ h)))
    (λ p.
    let e = some-injective x.val v (sym (find_here k x m p) ∙ h) in
    rw (p, ← e) a.0)
    (λ p. find_all P m k v a.1 (sym (find_later k x m p) ∙ h))

-- ---- filed pages
-- each stands under its digest, and in the list
abbrev pub FiledFrom : List (List ℕ) → Record → Type 0
FiledFrom ps r = (r.key ≡ sha256 r.val) × Among r.val ps

abbrev keep_old : List ℕ → List ℕ → List ℕ
keep_old old new = old

pub filed_from : (ps : List (List ℕ)) → All (FiledFrom ps) (filed ps)
unfolding filed
filed_from [] = tt
filed_from (p ∷ ps) =
    all_insert keep_old (by_digest p) (FiledFrom (p ∷ ps)) (refl, inl refl) (λ x q. q) (filed ps)
    (all_weaken (FiledFrom ps) (FiledFrom (p ∷ ps)) (λ r q. (q.0, inr q.1)) (filed ps) (filed_from ps))

pub filed_sorted : (ps : List (List ℕ)) → Sorted (filed ps)
unfolding filed
filed_sorted [] = tt
filed_sorted (p ∷ ps) = sorted_insert keep_old (by_digest p) (filed ps) (filed_sorted ps)

abbrev FindsSome : Option (List ℕ) → Type 0
FindsSome o = (v : List ℕ) × (o ≡ some v)

some_old : (r : Record) (o : Option (List ℕ)) → FindsSome (with_old keep_old r o)
some_old r none = (r.val, refl)
some_old r (some v) = (v, refl)

filed_there : (ps : List (List ℕ)) (p : List ℕ) → Among p ps → FindsSome (find (sha256 p) (filed ps))
unfolding filed
filed_there [] p i = absurd i
filed_there (x ∷ ps) p i =
    equal-cases (sha256 p) (sha256 x)
    (λ e s. rw (s, find_insert_same keep_old (by_digest x) (filed ps)) (some_old (by_digest x) (find (sha256 x) (filed ps))))
    (λ e n. rw (find_insert_other keep_old (by_digest x) (sha256 p) n (filed ps)) (filed_there ps p (later i n)))
  where
    later : Among p (x ∷ ps) → (sha256 p ≡ sha256 x → ⊥) → Among p ps
    later (inl e) n = absurd (n (ap sha256 e))
    later (inr j) n = j

pub filed_stands : (ps : List (List ℕ)) → DigestsApart ps → (p : List ℕ) → Among p ps → find (sha256 p) (filed ps) ≡ some p
filed_stands ps f p i =
    let t = filed_there ps p i in
    let q = find_all (FiledFrom ps) (filed ps) (sha256 p) t.0 (filed_from ps) t.1 in
    t.1 ∙ ap some (sym (f p t.0 i q.1 q.0))

-- pages taken out of the file and filed by their digests again are the file
abbrev pub values_of : List Record → List (List ℕ)
values_of m = map (λ (r : Record). r.val) m

abbrev pub Digested : Record → Type 0
Digested r = r.key ≡ sha256 r.val

pub refiled : (m : List Record) → All Digested m → map by_digest (values_of m) ≡ m
refiled [] a = refl
refiled (r ∷ m) a = λ i. record { key = sym a.0 i; val = r.val } ∷ refiled m a.1 i

pub filed_digested : (ps : List (List ℕ)) → All Digested (filed ps)
filed_digested ps = all_weaken (FiledFrom ps) Digested (λ r q. q.0) (filed ps) (filed_from ps)

pub each_value : (P : List ℕ → Type 0) (m : List Record) → All (λ r. P r.val) m → All P (values_of m)
each_value P [] a = tt
each_value P (r ∷ m) a = (a.0, each_value P m a.1)

pub concat_values : (m : List Record) → concat (λ (r : Record). r.val) m ≡ concat (λ b. b) (values_of m)
concat_values [] = refl
concat_values (r ∷ m) = ap (λ (l : List ℕ). r.val ++ l) (concat_values m)

-- what a key finds is a value of the map
pub found_among : (m : List Record) (k v : List ℕ) → find k m ≡ some v → Among v (values_of m)
unfolding find
found_among [] k v h = absurd (none-ne-some _ h)
found_among (x ∷ m) k v h =
    less-connected k x.key
    (λ p. absurd (none-ne-some _ (sym (find_before k x m p) ∙ h)))
    (λ p. inl (sym (some-injective x.val v (sym (find_here k x m p) ∙ h))))
    (λ p. inr (found_among m k v (sym (find_later k x m p) ∙ h)))
