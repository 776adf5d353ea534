-- The difference: what it writes is a part of the second's records in their order, and where no two unequal pages share a digest it is all
-- that the first lacks.
use Prim.Native.Nat.{ℕ, zero, suc}
use mathlib.Core.Path.{◌≡◌, refl, sym, ap, ap₂, ◌∙◌}
use mathlib.Core.Bool.{Bool, true, false, ◌||◌, or-true, false≢true}
use mathlib.Core.Logic.{inl, inr}
use mathlib.Core.Option.{Option, none, some}
use mathlib.Core.List.Sublistᴰ
use mathlib.Core.List.{List, [], ◌∷◌, ◌++◌, head-eq_of_cons-eq, tail-eq_of_cons-eq, Sublistᴰ}
use native.Mathlib.Omega.{arith}
use borrow.Table.Steps.{cases}
use Rattle.limits.specs.Limits.{deepest}
use Rattle.bytestring.proofs.Equal.{equal_true, equal_refl}
use Rattle.bytestring.specs.Bytes.{equal}
use Rattle.bytestring.proofs.Tools.{and_inv, All, all_split}
use Rattle.fips180.specs.Hash.{sha256}
use Rattle.key.proofs.Laws.{less-connected}
use Rattle.page.specs.Page.{RawEntry, RawPage}
use Rattle.page.proofs.Pages.{GoodPage}
use Rattle.tree.specs.Tree.{page, Gap, empty, under, Entries, end, entry, items, items_under, items_from}
use Rattle.tree.specs.Record.{Record, Spelt, record_of, keyed, keyed_under, keyed_from, records}
use Rattle.tree.specs.Table.{SpeltTree, link_of, raw_entries, raw_page, bytes_of_page}
use Rattle.tree.specs.Judge.{digests_right, digests_right_under, digests_right_from}
use Rattle.tree.proofs.Laws.{AllUnder, AllFrom, Good, page_injective, Accepted}
use Rattle.promises.specs.Map.{find, only_in_second}
use Rattle.promises.specs.Pages.{pages_of, pages_of_gap, pages_of_entries, known}
use Rattle.promises.specs.Difference.{is_value_there, holds, lacking, difference_records}
use Rattle.promises.specs.Promises.{Among, NoSharedDigest}
use Rattle.promises.proofs.MapLaws.{Above, above_before, Sorted, rising_sorted, find_nil, find_before, find_here, find_later, find_above, Proper}
use Rattle.promises.proofs.Parts.{all_part, proper_part}
use Rattle.promises.proofs.OpenedLaws.{opened_records, opened_under, opened_from, opened_part, opened_in_order}

-- ---- what is lacking is a part of the records
pub lacking_part : (m rs : List Record) → Sublistᴰ (lacking m rs) rs
unfolding lacking
lacking_part m [] = Sublistᴰ.slnil
lacking_part m (r ∷ rs) =
    cases (holds m r) (λ e. rw e (Sublistᴰ.cons (lacking_part m rs))) (λ e. rw e (Sublistᴰ.cons-cons refl (lacking_part m rs)))

-- ---- what a key finds in it
-- the value of a record that is held, and of one that is not
held_value : (m : List Record) (r : Record) (o : Option (List ℕ)) → find r.key m ≡ o → holds m r ≡ true → only_in_second o (some r.val) ≡ none
unfolding holds is_value_there only_in_second
held_value m r none e h = absurd (false≢true (rw e at h))
held_value m r (some w) e h = rw (rw e at h)

lacked_value : (m : List Record) (r : Record) (o : Option (List ℕ)) → find r.key m ≡ o → holds m r ≡ false → only_in_second o (some r.val) ≡ some r.val
unfolding holds is_value_there only_in_second
lacked_value m r none e h = refl
lacked_value m r (some w) e h = rw (rw e at h)

only_none : (o : Option (List ℕ)) → only_in_second o none ≡ none
unfolding only_in_second
only_none none = refl
only_none (some v) = refl

pub find_lacking : (k : List ℕ) (m rs : List Record) → Sorted rs → find k (lacking m rs) ≡ only_in_second (find k m) (find k rs)
unfolding lacking
find_lacking k m [] s = rw find_nil (sym (only_none (find k m)))
find_lacking k m (r ∷ rs) s =
    let later : Above r.key (lacking m rs) = all_part _ (lacking_part m rs) s.0 in
    less-connected k r.key
    (λ h.
    let none-later = find_above k (lacking m rs) (above_before k r.key (lacking m rs) h later) in
    rw (find_before k r rs h, only_none (find k m))
    (cases (holds m r) (λ e. rw e none-later) (λ e. rw e (find_before k r (lacking m rs) h))))
    (λ e. rw (e, find_here r.key r rs refl)
    (cases (holds m r)
    (λ h. rw h (find_above r.key (lacking m rs) later ∙ sym (held_value m r (find r.key m) refl h)))
    (λ h. rw h (find_here r.key r (lacking m rs) refl ∙ sym (lacked_value m r (find r.key m) refl h)))))
    (λ h. rw (find_later k r rs h)
    (cases (holds m r)
    (λ e. rw e (find_lacking k m rs s.1))
    (λ e. rw e (find_later k r (lacking m rs) h ∙ find_lacking k m rs s.1))))

-- ---- what is lacking, part by part, and of records that are held
lacking_append : (m rs qs : List Record) → lacking m (rs ++ qs) ≡ lacking m rs ++ lacking m qs
unfolding lacking
lacking_append m [] qs = refl
lacking_append m (r ∷ rs) qs = cases (holds m r) (λ e. rw e (lacking_append m rs qs)) (λ e. rw e (ap (λ (l : List Record). r ∷ l) (lacking_append m rs qs)))

abbrev Held : List Record → Record → Type 0
Held m r = holds m r ≡ true

lacking_held : (m rs : List Record) → All (Held m) rs → lacking m rs ≡ []
unfolding lacking
lacking_held m [] a = refl
lacking_held m (r ∷ rs) a = rw a.0 (lacking_held m rs a.1)

-- a sorted list holds its records
held_by : (m : List Record) (r : Record) → find r.key m ≡ some r.val → Held m r
unfolding holds is_value_there
held_by m r e = rw e (equal_refl r.val)

holds_later : (x : Record) (m rs : List Record) → Above x.key rs → All (Held m) rs → All (Held (x ∷ m)) rs
unfolding holds
holds_later x m [] a h = tt
holds_later x m (r ∷ rs) a h = (rw (find_later r.key x m a.0) h.0, holds_later x m rs a.1 h.1)

pub holds_itself : (m : List Record) → Sorted m → All (Held m) m
holds_itself [] s = tt
holds_itself (x ∷ m) s = (held_by (x ∷ m) x (find_here x.key x m refl), holds_later x m m s.0 (holds_itself m s.1))

-- ---- every page of a tree satisfies P, and each link's digest is that of its page
abbrev mutual
  pub Linked : (SpeltTree → Type 0) → SpeltTree → Type 0
  Linked P (page g es) = P (page g es) × LinkedUnder P g × LinkedFrom P es

  pub LinkedUnder : (SpeltTree → Type 0) → Gap Spelt (List ℕ) → Type 0
  LinkedUnder P empty = Unit {0}
  LinkedUnder P (under digest p) = (digest ≡ sha256 (bytes_of_page p)) × Linked P p

  pub LinkedFrom : (SpeltTree → Type 0) → Entries Spelt (List ℕ) → Type 0
  LinkedFrom P end = Unit {0}
  LinkedFrom P (entry e g es) = LinkedUnder P g × LinkedFrom P es

-- ---- a page that is known has the digest of a page of the first
or_cases {κ} : {C : Type κ} (a b : Bool) → a || b ≡ true → (a ≡ true → C) → (b ≡ true → C) → C
or_cases true b h f g = f refl
or_cases false b h f g = g h

known-cases {κ} : {C : Type κ} (qs rs : List (List ℕ)) (p : List ℕ) → known (qs ++ rs) p ≡ true → (known qs p ≡ true → C) → (known rs p ≡ true → C) → C
unfolding known
known-cases [] rs p h f g = g h
known-cases (q ∷ qs) rs p h f g =
    or_cases (equal (sha256 p) (sha256 q)) (known (qs ++ rs) p) h
    (λ e. f (rw e))
    (λ e. known-cases qs rs p e (λ k. f (rw (k, or-true))) g)

module _
    (Fine : SpeltTree → Type 0)
    (same_page : (p q : SpeltTree) → Fine p → Fine q → sha256 (bytes_of_page p) ≡ sha256 (bytes_of_page q) → raw_page p ≡ raw_page q)
  where
    -- pages with one digest are one tree: they have the same entries and links, and so have the pages that these link to
    mutual
      unfolding raw_page raw_entries link_of

      pub same_tree : (p q : SpeltTree) → Linked Fine p → Linked Fine q → sha256 (bytes_of_page p) ≡ sha256 (bytes_of_page q) → p ≡ q
      same_tree (page g es) (page h fs) a b e =
          let r = same_page (page g es) (page h fs) a.0 b.0 e in
          ap₂ page (same_under_lem g h a.1 b.1 (ap (λ (p : RawPage). p.left) r)) (same_from_lem es fs a.2 b.2 (ap (λ (p : RawPage). p.entries) r))

      same_under_lem : (g h : Gap Spelt (List ℕ)) → LinkedUnder Fine g → LinkedUnder Fine h → link_of g ≡ link_of h → g ≡ h
      same_under_lem empty empty a b e = refl
      same_under_lem empty (under other q) a b e = let z : ◌≡◌ {A = ℕ} 0 1 = cc in absurd (omega arith)
      same_under_lem (under digest p) empty a b e = let z : ◌≡◌ {A = ℕ} 0 1 = cc in absurd (omega arith)
      same_under_lem (under digest p) (under other q) a b e =
          let l : digest ≡ other = cc in
          ap₂ under l (same_tree p q a.1 b.1 (sym a.0 ∙ l ∙ b.0))

      same_from_lem : (es fs : Entries Spelt (List ℕ)) → LinkedFrom Fine es → LinkedFrom Fine fs → raw_entries es ≡ raw_entries fs → es ≡ fs
      same_from_lem end end a b q = refl
      same_from_lem end (entry f h fs) a b q = let z : ◌≡◌ {A = ℕ} 0 1 = cc in absurd (omega arith)
      same_from_lem (entry e g es) end a b q = let z : ◌≡◌ {A = ℕ} 0 1 = cc in absurd (omega arith)
      same_from_lem (entry e g es) (entry f h fs) a b q =
          let r = head-eq_of_cons-eq q in
          let s = same_under_lem g h a.0 b.0 (ap (λ (p : RawEntry). p.after) r) in
          let t = same_from_lem es fs a.1 b.1 (tail-eq_of_cons-eq q) in
          λ i. entry (record { shares = (r i).shares; remainder = (r i).remainder; val = (r i).val }) (s i) (t i)

    -- so the records under a page that is known are records of the first
    module _ (P : Record → Type 0) (p : SpeltTree) (a : Linked Fine p) where
      mutual
        unfolding pages_of known keyed items

        pub known_records : (t : SpeltTree) → Linked Fine t → known (pages_of t) (bytes_of_page p) ≡ true → All P (records t) → All P (records p)
        known_records (page g es) b k h =
            let r = all_split P (items_under (keyed_under g)) (items_from (keyed_from [] es)) h in
            or_cases (equal (sha256 (bytes_of_page p)) (sha256 (bytes_of_page (page g es)))) _ k
            (λ e. rw (same_tree p (page g es) a b (equal_true _ _ e)) h)
            (λ e. known-cases (pages_of_gap g) (pages_of_entries es) (bytes_of_page p) e
            (λ u. known_records_under g b.1 u r.0)
            (λ u. known_records_from [] es b.2 u r.1))

        known_records_under : (g : Gap Spelt (List ℕ)) → LinkedUnder Fine g → known (pages_of_gap g) (bytes_of_page p) ≡ true
            → All P (items_under (keyed_under g)) → All P (records p)
        known_records_under empty b k h = absurd (false≢true k)
        known_records_under (under digest q) b k h = known_records q b.1 k h

        known_records_from : (before : List ℕ) (es : Entries Spelt (List ℕ)) → LinkedFrom Fine es → known (pages_of_entries es) (bytes_of_page p) ≡ true
            → All P (items_from (keyed_from before es)) → All P (records p)
        known_records_from before end b k h = absurd (false≢true k)
        known_records_from before (entry e g es) b k h =
            let r = all_split P (items_under (keyed_under g)) (items_from (keyed_from (record_of before e).key es)) h.1 in
            known-cases (pages_of_gap g) (pages_of_entries es) (bytes_of_page p) k
            (λ u. known_records_under g b.0 u r.0)
            (λ u. known_records_from (record_of before e).key es b.1 u r.1)

    -- and the first holds every record that is not in an opened page
    module _ (t : SpeltTree) (b : Linked Fine t) (s : Sorted (records t)) where
      mutual
        unfolding opened_records keyed items lacking

        lacking_opened : (u : SpeltTree) → Linked Fine u → lacking (records t) (opened_records (pages_of t) u) ≡ lacking (records t) (records u)
        lacking_opened (page g es) a =
            cases (known (pages_of t) (bytes_of_page (page g es)))
            (λ e.
            let h = known_records (Held (records t)) (page g es) a t b e (holds_itself (records t) s) in
            rw e (sym (lacking_held (records t) (records (page g es)) h)))
            (λ e. simp (e, lacking_append, lacking_opened_under g a.1, lacking_opened_from [] es a.2))

        lacking_opened_under : (g : Gap Spelt (List ℕ)) → LinkedUnder Fine g
            → lacking (records t) (opened_under (pages_of t) g) ≡ lacking (records t) (items_under (keyed_under g))
        lacking_opened_under empty a = refl
        lacking_opened_under (under digest p) a = lacking_opened p a.1

        lacking_opened_from : (before : List ℕ) (es : Entries Spelt (List ℕ)) → LinkedFrom Fine es
            → lacking (records t) (opened_from (pages_of t) before es) ≡ lacking (records t) (items_from (keyed_from before es))
        lacking_opened_from before end a = refl
        lacking_opened_from before (entry e g es) a =
            simp (lacking_append, lacking_opened_under g a.0, lacking_opened_from (record_of before e).key es a.1)

-- ---- two trees, good page by page, of which no two unequal pages share a digest
pub among_left : (qs rs : List (List ℕ)) (p : List ℕ) → Among p qs → Among p (qs ++ rs)
among_left [] rs p i = absurd i
among_left (q ∷ qs) rs p (inl e) = inl e
among_left (q ∷ qs) rs p (inr i) = inr (among_left qs rs p i)

pub among_right : (qs rs : List (List ℕ)) (p : List ℕ) → Among p rs → Among p (qs ++ rs)
among_right [] rs p i = i
among_right (q ∷ qs) rs p i = inr (among_right qs rs p i)

abbrev pub Within : List (List ℕ) → List (List ℕ) → Type 0
Within ps qs = (p : List ℕ) → Among p ps → Among p qs

module _ (all : List (List ℕ)) where
  -- a page with good fields, and one of those at hand
  abbrev pub Fine : SpeltTree → Type 0
  Fine p = GoodPage (raw_page p) × Among (bytes_of_page p) all

  mutual
    unfolding pages_of digests_right

    pub linked : (t : SpeltTree) (n : ℕ) → Good n t → digests_right t ≡ true → Within (pages_of t) all → Linked Fine t
    linked (page g es) zero a d w = absurd a
    linked (page g es) (suc n) a d w =
        let k = and_inv (digests_right_under g) d in (
          (a.0, w (bytes_of_page (page g es)) (inl refl)),
          linked_under_lem g n a.1 k.0 (λ p i. w p (inr (among_left (pages_of_gap g) (pages_of_entries es) p i))),
          linked_from_lem es n a.2 k.1 (λ p i. w p (inr (among_right (pages_of_gap g) (pages_of_entries es) p i))),
        )

    linked_under_lem : (g : Gap Spelt (List ℕ)) (n : ℕ) → AllUnder (Good n) g → digests_right_under g ≡ true → Within (pages_of_gap g) all
        → LinkedUnder Fine g
    linked_under_lem empty n a d w = tt
    linked_under_lem (under digest p) n a d w =
        let k = and_inv (equal digest (sha256 (bytes_of_page p))) d in
        (equal_true digest (sha256 (bytes_of_page p)) k.0, linked p n a k.1 w)

    linked_from_lem : (es : Entries Spelt (List ℕ)) (n : ℕ) → AllFrom (Good n) es → digests_right_from es ≡ true → Within (pages_of_entries es) all
        → LinkedFrom Fine es
    linked_from_lem end n a d w = tt
    linked_from_lem (entry e g es) n a d w =
        let k = and_inv (digests_right_under g) d in (
          linked_under_lem g n a.0 k.0 (λ p i. w p (among_left (pages_of_gap g) (pages_of_entries es) p i)),
          linked_from_lem es n a.1 k.1 (λ p i. w p (among_right (pages_of_gap g) (pages_of_entries es) p i)),
        )

-- the records of a difference: what the first lacks of those in opened pages
pub difference_opened : (t u : SpeltTree) → Sorted (records u) → difference_records t u ≡ lacking (records t) (opened_records (pages_of t) u)
unfolding difference_records
difference_opened t u s = rw (opened_in_order (pages_of t) u s)

pub opened_is_enough : (s w : List ℕ) (t u : SpeltTree) → Accepted s t → Accepted w u → NoSharedDigest t u
    → difference_records t u ≡ lacking (records t) (records u)
opened_is_enough s w t u a b unshared =
    let all = pages_of t ++ pages_of u in
    difference_opened t u (rising_sorted (records u) b.fit.order)
    ∙ lacking_opened (Fine all)
    (λ p q f g e. page_injective p q f.0 g.0 (unshared (bytes_of_page p) (bytes_of_page q) f.1 g.1 e))
    t (linked all t deepest a.good a.digests (among_left (pages_of t) (pages_of u))) (rising_sorted (records t) a.fit.order)
    u (linked all u deepest b.good b.digests (among_right (pages_of t) (pages_of u)))

-- ---- the records of a difference keep what the second's have
pub difference_proper : (t u : SpeltTree) → Proper (records u) → Proper (difference_records t u)
difference_proper t u p =
    rw (difference_opened t u p.order)
    (proper_part (Sublistᴰ.trans (lacking_part (records t) (opened_records (pages_of t) u)) (opened_part (pages_of t) u)) p)
