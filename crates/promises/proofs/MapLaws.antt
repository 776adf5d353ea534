-- The sorted map: its order, the greater of two values, and what find, nth, put, join, remove and merge do to a sorted list of records.
use Prim.Native.Nat.{ℕ, zero, suc, ◌+◌, ◌≤◌, ◌<◌}
use mathlib.Core.Path.{◌≡◌, refl, sym, ap, ◌∙◌}
use mathlib.Core.Bool.{true, false, false≢true}
use mathlib.Core.Option.{Option, none, some, none-ne-some, some-injective}
use mathlib.Core.List.{List, [], ◌∷◌, ◌++◌, append-nil}
use native.Mathlib.Omega.{arith}
use lib.ListN.{length, get_or}
use borrow.Table.Steps.{cases}
use Rattle.bytestring.proofs.Tools.{and_inv, and_both, All, all_split, all_weaken}
use Rattle.key.specs.Key.{less}
use Rattle.key.proofs.Laws.{less_irreflexive, less_transitive, less-connected, is_false, less_asymmetric, less_same}
use Rattle.value.specs.Value.{is_value}
use Rattle.tree.specs.Record.{Record}
use Rattle.tree.specs.Judge.{rising, fits}
use Rattle.tree.proofs.Laws.{LawfulKey, RightValue, fitting}
use Rattle.promises.specs.Map.{find, is_there, insert, put, less_value, greater, join, remove, merge, greater_found, nth}
use Rattle.promises.proofs.ValueOrder.{value_transitive, value-connected, value_asymmetric, value_same}

-- ---- the order of keys, and lists in which every later key is greater
abbrev pub Before : List ℕ → List ℕ → Type 0
Before a b = less a b ≡ true

pub before_other : (a b : List ℕ) → Before a b → a ≡ b → ⊥
before_other a b h e = less_irreflexive b (rw e at h)

abbrev pub Above : List ℕ → List Record → Type 0
Above k m = All (λ (x : Record). Before k x.key) m

abbrev pub Sorted : List Record → Type 0
Sorted [] = Unit {0}
Sorted (x ∷ m) = Above x.key m × Sorted m

pub above_before : (a b : List ℕ) (m : List Record) → Before a b → Above b m → Above a m
above_before a b [] h k = tt
above_before a b (x ∷ m) h k = (less_transitive a b x.key h k.0, above_before a b m h k.1)

-- that each key is greater than the one before it comes to the same
rising_cons : (x : Record) (m : List Record) → Above x.key m → rising m ≡ true → rising (x ∷ m) ≡ true
unfolding rising
rising_cons x [] a h = refl
rising_cons x (y ∷ m) a h = and_both a.0 h

pub sorted_rising : (m : List Record) → Sorted m → rising m ≡ true
unfolding rising
sorted_rising [] s = refl
sorted_rising (x ∷ m) s = rising_cons x m s.0 (sorted_rising m s.1)

pub rising_sorted : (m : List Record) → rising m ≡ true → Sorted m
unfolding rising
rising_sorted [] h = tt
rising_sorted (x ∷ []) h = (tt, tt)
rising_sorted (x ∷ y ∷ m) h =
    let k = and_inv (less x.key y.key) h in
    let s = rising_sorted (y ∷ m) k.1 in
    ((k.0, above_before x.key y.key m k.0 s.0), s)

-- a sorted list in two parts, and on both sides of a record
pub sorted_split : (a b : List Record) → Sorted (a ++ b) → Sorted a × Sorted b × All (λ x. Above x.key b) a
sorted_split [] b s = (tt, s, tt)
sorted_split (x ∷ a) b s =
    let h = all_split (λ y. Before x.key y.key) a b s.0 in
    let t = sorted_split a b s.1 in
    ((h.0, t.0), t.1, (h.1, t.2))

abbrev pub Below : List ℕ → List Record → Type 0
Below k m = All (λ (x : Record). Before x.key k) m

pub below_before : (a b : List ℕ) (m : List Record) → Before a b → Below a m → Below b m
below_before a b m h l = all_weaken _ _ (λ x k. less_transitive x.key a b k h) m l

pub sorted_sides : (a : List Record) (r : Record) (b : List Record) → Sorted (a ++ (r ∷ b)) → Below r.key a × Above r.key b
sorted_sides a r b s =
    let w = sorted_split a (r ∷ b) s in
    (all_weaken _ _ (λ x h. h.0) a w.2, w.1.0)

-- ---- the greater of two values
-- it stands before neither of them
pub greater_bound : (v w : List ℕ) → (less_value (greater v w) v ≡ false) × (less_value (greater v w) w ≡ false)
unfolding greater
greater_bound v w = cases (less_value v w) (λ h. rw h (value_asymmetric v w h, value_same w w refl)) (λ h. rw h (value_same v v refl, h))

pub lesser_gives : (v w : List ℕ) → less_value v w ≡ true → (greater v w ≡ w) × (greater w v ≡ w)
unfolding greater
lesser_gives v w h = (rw h, rw (value_asymmetric v w h))

pub greater_idempotent : (v : List ℕ) → greater v v ≡ v
unfolding greater
greater_idempotent v = rw (value_same v v refl)

pub greater_commutes : (v w : List ℕ) → greater v w ≡ greater w v
unfolding greater
greater_commutes v w =
    value-connected v w (λ h. rw (h, value_asymmetric v w h)) (λ e. rw e) (λ h. rw (h, value_asymmetric w v h))

not_less_transitive : (u v w : List ℕ) → less_value u v ≡ false → less_value v w ≡ false → less_value u w ≡ false
not_less_transitive u v w h k =
    is_false (less_value u w) (λ l. value-connected u v
    (λ p. false≢true (sym h ∙ p))
    (λ p. false≢true (sym k ∙ rw p at l))
    (λ p. false≢true (sym k ∙ value_transitive v u w p l)))

pub greater_associates : (u v w : List ℕ) → greater (greater u v) w ≡ greater u (greater v w)
unfolding greater
greater_associates u v w =
    cases (less_value u v)
    (λ p. cases (less_value v w) (λ q. rw (p, q, value_transitive u v w p q)) (λ q. rw (p, q, p)))
    (λ p. cases (less_value v w) (λ q. rw (p, q)) (λ q. rw (p, q, p, not_less_transitive u v w p q)))

-- ---- find, case by case
pub find_nil : (k : List ℕ) → find k [] ≡ none
unfolding find
find_nil k = refl

module _ (k : List ℕ) (x : Record) (m : List Record) where
  pub find_before : Before k x.key → find k (x ∷ m) ≡ none
  unfolding find
  find_before h = rw h

  pub find_here : k ≡ x.key → find k (x ∷ m) ≡ some x.val
  unfolding find
  find_here e = rw (less_same k x.key e, less_same x.key k (sym e))

  pub find_later : Before x.key k → find k (x ∷ m) ≡ find k m
  unfolding find
  find_later h = rw (h, less_asymmetric x.key k h)

  pub find_cons : (l : List Record) → find k m ≡ find k l → find k (x ∷ m) ≡ find k (x ∷ l)
  unfolding find
  find_cons l e = rw e

pub find_above : (k : List ℕ) (m : List Record) → Above k m → find k m ≡ none
find_above k [] a = find_nil k
find_above k (x ∷ m) a = find_before k x m a.0

-- in two lists, one after the other
pub find_left : (k : List ℕ) (a b : List Record) → Above k b → find k (a ++ b) ≡ find k a
find_left k [] b h = find_above k b h ∙ sym (find_nil k)
find_left k (x ∷ a) b h =
    less-connected k x.key
    (λ l. find_before k x (a ++ b) l ∙ sym (find_before k x a l))
    (λ l. find_here k x (a ++ b) l ∙ sym (find_here k x a l))
    (λ l. find_later k x (a ++ b) l ∙ find_left k a b h ∙ sym (find_later k x a l))

pub find_right : (k : List ℕ) (a b : List Record) → Below k a → find k (a ++ b) ≡ find k b
find_right k [] b h = refl
find_right k (x ∷ a) b h = find_later k x (a ++ b) h.0 ∙ find_right k a b h.1

pub find_below : (k : List ℕ) (m : List Record) → Below k m → find k m ≡ none
find_below k m h = ap (find k) (sym (append-nil m)) ∙ find_right k m [] h ∙ find_nil k

-- ---- the n-th record
pub nth_there : (n : ℕ) (m : List Record) (r : Record) → n < length m → nth n m ≡ some (get_or m n r)
unfolding nth
nth_there n [] r h = absurd (omega arith)
nth_there zero (x ∷ m) r h = refl
nth_there (suc n) (x ∷ m) r h = nth_there n m r (omega arith)

pub nth_past : (n : ℕ) (m : List Record) → length m ≤ n → nth n m ≡ none
unfolding nth
nth_past n [] h = refl
nth_past zero (x ∷ m) h = absurd (omega arith)
nth_past (suc n) (x ∷ m) h = nth_past n m (omega arith)

-- ---- sorted lists in which every key finds the same are equal
-- the finds of the tails, from those of the lists
tails_find : (x y : Record) (a b : List Record) → Sorted (x ∷ a) → Sorted (y ∷ b) → x.key ≡ y.key
    → ((k : List ℕ) → find k (x ∷ a) ≡ find k (y ∷ b)) → (k : List ℕ) → find k a ≡ find k b
tails_find x y a b s t e h k =
    less-connected k x.key
    (λ p. find_above k a (above_before k x.key a p s.0) ∙ sym (find_above k b (above_before k y.key b (rw e at p) t.0)))
    (λ p. rw p (find_above x.key a s.0 ∙ rw e (sym (find_above y.key b t.0))))
    (λ p. sym (find_later k x a p) ∙ h k ∙ find_later k y b (rw e at p))

pub sorted_ext : (a b : List Record) → Sorted a → Sorted b → ((k : List ℕ) → find k a ≡ find k b) → a ≡ b
sorted_ext [] [] s t h = refl
sorted_ext [] (y ∷ b) s t h = absurd (none-ne-some _ (sym (find_nil y.key) ∙ h y.key ∙ find_here y.key y b refl))
sorted_ext (x ∷ a) [] s t h = absurd (none-ne-some _ (sym (find_nil x.key) ∙ sym (h x.key) ∙ find_here x.key x a refl))
sorted_ext (x ∷ a) (y ∷ b) s t h =
    less-connected x.key y.key
    (λ p. absurd (none-ne-some _ (sym (find_before x.key y b p) ∙ sym (h x.key) ∙ find_here x.key x a refl)))
    (λ p.
    let v = some-injective x.val y.val (sym (find_here x.key x a refl) ∙ h x.key ∙ find_here x.key y b p) in
    let l = sorted_ext a b s.1 t.1 (tails_find x y a b s t p h) in
    λ i. record { key = p i; val = v i } ∷ l i)
    (λ p. absurd (none-ne-some _ (sym (find_before y.key x a p) ∙ h y.key ∙ find_here y.key y b refl)))

-- ---- insert, case by case
module _ (choose : List ℕ → List ℕ → List ℕ) (r : Record) where
  -- the record under a key that is there already
  abbrev chosen : Record → Record
  chosen x = record { key = x.key; val = choose x.val r.val }

  pub insert_nil : insert choose r [] ≡ r ∷ []
  unfolding insert
  insert_nil = refl

  module _ (x : Record) (m : List Record) where
    pub insert_before : Before r.key x.key → insert choose r (x ∷ m) ≡ r ∷ x ∷ m
    unfolding insert
    insert_before h = rw h

    pub insert_here : r.key ≡ x.key → insert choose r (x ∷ m) ≡ chosen x ∷ m
    unfolding insert
    insert_here e = rw (less_same r.key x.key e, less_same x.key r.key (sym e))

    pub insert_later : Before x.key r.key → insert choose r (x ∷ m) ≡ x ∷ insert choose r m
    unfolding insert
    insert_later h = rw (h, less_asymmetric x.key r.key h)

  pub all_insert : (P : Record → Type 0) → P r → ((x : Record) → P x → P (chosen x)) → (m : List Record) → All P m → All P (insert choose r m)
  all_insert P p f [] a = rw insert_nil (p, tt)
  all_insert P p f (x ∷ m) a =
      less-connected r.key x.key
      (λ h. rw (insert_before x m h) (p, a))
      (λ e. rw (insert_here x m e) (f x a.0, a.1))
      (λ h. rw (insert_later x m h) (a.0, all_insert P p f m a.1))

  pub sorted_insert : (m : List Record) → Sorted m → Sorted (insert choose r m)
  sorted_insert [] s = rw insert_nil (tt, tt)
  sorted_insert (x ∷ m) s =
      less-connected r.key x.key
      (λ h. rw (insert_before x m h) ((h, above_before r.key x.key m h s.0), s))
      (λ e. rw (insert_here x m e) s)
      (λ h. rw (insert_later x m h) (all_insert (λ y. Before x.key y.key) h (λ y p. p) m s.0, sorted_insert m s.1))

  -- insert adds at most one record, and takes none away
  pub length_insert : (m : List Record) → (length m ≤ length (insert choose r m)) × (length (insert choose r m) ≤ suc (length m))
  length_insert [] = rw insert_nil (omega arith)
  length_insert (x ∷ m) =
      less-connected r.key x.key
      (λ h. rw (insert_before x m h) (omega arith))
      (λ e. rw (insert_here x m e) (omega arith))
      (λ h. rw (insert_later x m h) (omega (arith, length_insert m)))

  -- ---- what find gives after it
  abbrev pub with_old : Option (List ℕ) → Option (List ℕ)
  with_old none = some r.val
  with_old (some old) = some (choose old r.val)

  pub find_insert_same : (m : List Record) → find r.key (insert choose r m) ≡ with_old (find r.key m)
  find_insert_same [] = rw (insert_nil, find_nil r.key) (find_here r.key r [] refl)
  find_insert_same (x ∷ m) =
      less-connected r.key x.key
      (λ h. rw (insert_before x m h, find_here r.key r (x ∷ m) refl, find_before r.key x m h))
      (λ e. rw (insert_here x m e, find_here r.key x m e) (find_here r.key (chosen x) m e))
      (λ h. rw (insert_later x m h, find_later r.key x (insert choose r m) h, find_later r.key x m h) (find_insert_same m))

  pub find_insert_other : (k : List ℕ) → (k ≡ r.key → ⊥) → (m : List Record) → find k (insert choose r m) ≡ find k m
  find_insert_other k n [] =
      rw insert_nil (less-connected k r.key
      (λ h. find_before k r [] h ∙ sym (find_nil k))
      (λ e. absurd (n e))
      (λ h. find_later k r [] h))
  find_insert_other k n (x ∷ m) =
      less-connected r.key x.key
      (λ p. rw (insert_before x m p) (less-connected k r.key
      (λ h. find_before k r (x ∷ m) h ∙ sym (find_before k x m (less_transitive k r.key x.key h p)))
      (λ e. absurd (n e))
      (λ h. find_later k r (x ∷ m) h)))
      (λ p. rw (insert_here x m p) (less-connected k x.key
      (λ h. find_before k (chosen x) m h ∙ sym (find_before k x m h))
      (λ e. absurd (n (e ∙ sym p)))
      (λ h. find_later k (chosen x) m h ∙ sym (find_later k x m h))))
      (λ p. rw (insert_later x m p) (find_cons k x (insert choose r m) m (find_insert_other k n m)))

-- a value that is there and the new one give the new one for put, and the greater for join
with_new : (r : Record) (o : Option (List ℕ)) → with_old (λ old new. new) r o ≡ some r.val
with_new r none = refl
with_new r (some v) = refl

pub greater_with_none : (v : Option (List ℕ)) → greater_found v none ≡ v
unfolding greater_found
greater_with_none none = refl
greater_with_none (some v) = refl

with_greater : (r : Record) (o : Option (List ℕ)) → with_old greater r o ≡ greater_found o (some r.val)
unfolding greater_found
with_greater r none = refl
with_greater r (some v) = refl

-- ---- put and join
module _ (r : Record) (m : List Record) where
  pub find_put_same : find r.key (put r m) ≡ some r.val
  unfolding put
  find_put_same = find_insert_same (λ old new. new) r m ∙ with_new r (find r.key m)

  pub find_put_other : (k : List ℕ) → (k ≡ r.key → ⊥) → find k (put r m) ≡ find k m
  unfolding put
  find_put_other k n = find_insert_other (λ old new. new) r k n m

  pub sorted_put : Sorted m → Sorted (put r m)
  unfolding put
  sorted_put = sorted_insert (λ old new. new) r m

  pub length_put : (length m ≤ length (put r m)) × (length (put r m) ≤ suc (length m))
  unfolding put
  length_put = length_insert (λ old new. new) r m

  pub find_join_same : find r.key (join r m) ≡ greater_found (find r.key m) (some r.val)
  unfolding join
  find_join_same = find_insert_same greater r m ∙ with_greater r (find r.key m)

  pub find_join_other : (k : List ℕ) → (k ≡ r.key → ⊥) → find k (join r m) ≡ find k m
  unfolding join
  find_join_other k n = find_insert_other greater r k n m

  pub sorted_join : Sorted m → Sorted (join r m)
  unfolding join
  sorted_join = sorted_insert greater r m

  pub length_join : (length m ≤ length (join r m)) × (length (join r m) ≤ suc (length m))
  unfolding join
  length_join = length_insert greater r m

-- ---- remove, case by case
module _ (k : List ℕ) where
  remove_nil : remove k [] ≡ []
  unfolding remove
  remove_nil = refl

  module _ (x : Record) (m : List Record) where
    pub remove_before : Before k x.key → remove k (x ∷ m) ≡ x ∷ m
    unfolding remove
    remove_before h = rw h

    pub remove_here : k ≡ x.key → remove k (x ∷ m) ≡ m
    unfolding remove
    remove_here e = rw (less_same k x.key e, less_same x.key k (sym e))

    pub remove_later : Before x.key k → remove k (x ∷ m) ≡ x ∷ remove k m
    unfolding remove
    remove_later h = rw (h, less_asymmetric x.key k h)

  pub all_remove : (P : Record → Type 0) (m : List Record) → All P m → All P (remove k m)
  all_remove P [] a = rw remove_nil tt
  all_remove P (x ∷ m) a =
      less-connected k x.key
      (λ h. rw (remove_before x m h) a)
      (λ e. rw (remove_here x m e) a.1)
      (λ h. rw (remove_later x m h) (a.0, all_remove P m a.1))

  pub sorted_remove : (m : List Record) → Sorted m → Sorted (remove k m)
  sorted_remove [] s = rw remove_nil tt
  sorted_remove (x ∷ m) s =
      less-connected k x.key
      (λ h. rw (remove_before x m h) s)
      (λ e. rw (remove_here x m e) s.1)
      (λ h. rw (remove_later x m h) (all_remove (λ y. Before x.key y.key) m s.0, sorted_remove m s.1))

  -- remove takes exactly one record away where the key is there
  pub length_remove : (m : List Record) → is_there (find k m) ≡ true → suc (length (remove k m)) ≡ length m
  unfolding is_there
  length_remove [] h = absurd (false≢true (rw (find_nil k) at h))
  length_remove (x ∷ m) h =
      less-connected k x.key
      (λ p. absurd (false≢true (rw (find_before k x m p) at h)))
      (λ p. rw (remove_here x m p))
      (λ p. rw (remove_later x m p) (ap suc (length_remove m (rw (find_later k x m p) at h))))

  -- ---- what find gives after it
  pub find_remove_same : (m : List Record) → Sorted m → find k (remove k m) ≡ none
  find_remove_same [] s = rw remove_nil (find_nil k)
  find_remove_same (x ∷ m) s =
      less-connected k x.key
      (λ h. rw (remove_before x m h) (find_before k x m h))
      (λ e. rw (remove_here x m e, e) (find_above x.key m s.0))
      (λ h. rw (remove_later x m h) (find_later k x (remove k m) h ∙ find_remove_same m s.1))

  pub find_remove_other : (j : List ℕ) → (j ≡ k → ⊥) → (m : List Record) → Sorted m → find j (remove k m) ≡ find j m
  find_remove_other j n [] s = rw remove_nil
  find_remove_other j n (x ∷ m) s =
      less-connected k x.key
      (λ h. rw (remove_before x m h))
      (λ p. rw (remove_here x m p) (less-connected j x.key
      (λ h. find_above j m (above_before j x.key m h s.0) ∙ sym (find_before j x m h))
      (λ e. absurd (n (e ∙ sym p)))
      (λ h. sym (find_later j x m h))))
      (λ p. rw (remove_later x m p) (find_cons j x (remove k m) m (find_remove_other j n m s.1)))

-- ---- merge
pub find_merge : (k : List ℕ) (rs m : List Record) → Sorted rs → find k (merge m rs) ≡ greater_found (find k m) (find k rs)
unfolding merge
find_merge k [] m s = rw find_nil (sym (greater_with_none (find k m)))
find_merge k (r ∷ rs) m s =
    find_merge k rs (join r m) s.1
    ∙ less-connected k r.key
    (λ h. rw (find_join_other r m k (before_other k r.key h), find_before k r rs h, find_above k rs (above_before k r.key rs h s.0)))
    (λ e. rw (e, find_here r.key r rs refl, find_above r.key rs s.0, greater_with_none) (find_join_same r m))
    (λ h. rw (find_join_other r m k (λ e. before_other r.key k h (sym e)), find_later k r rs h))

pub sorted_merge : (rs m : List Record) → Sorted m → Sorted (merge m rs)
unfolding merge
sorted_merge [] m s = s
sorted_merge (r ∷ rs) m s = sorted_merge rs (join r m) (sorted_join r m s)

pub length_merge : (rs m : List Record) → (length m ≤ length (merge m rs)) × (length (merge m rs) ≤ length m + length rs)
unfolding merge
length_merge [] m = omega arith
length_merge (r ∷ rs) m = omega (arith, length_join r m, length_merge rs (join r m))

-- ---- what a set that fits has apart from its sizes, which the calls keep
pub record Proper (m : List Record) : Type 0 where
  pub order : Sorted m
  pub keys : All LawfulKey m
  pub values : All RightValue m

pub fits_proper : (m : List Record) → fits m ≡ true → Proper m
fits_proper m h =
    let f = fitting m h in
    record { order = rising_sorted m f.order; keys = f.keys; values = f.values }

pub fits_sorted : (m : List Record) → fits m ≡ true → Sorted m
fits_sorted m f = (fits_proper m f).order

module _ (r : Record) (key : LawfulKey r) (val : RightValue r) where
  proper_insert : (choose : List ℕ → List ℕ → List ℕ) → ((v w : List ℕ) → is_value v ≡ true → is_value w ≡ true → is_value (choose v w) ≡ true)
      → (m : List Record) → Proper m → Proper (insert choose r m)
  proper_insert choose f m p =
      record {
        order = sorted_insert choose r m p.order;
        keys = all_insert choose r LawfulKey key (λ x q. q) m p.keys;
        values = all_insert choose r RightValue val (λ x q. f x.val r.val q val) m p.values;
      }

  pub proper_put : (m : List Record) → Proper m → Proper (put r m)
  unfolding put
  proper_put = proper_insert (λ old new. new) (λ v w p q. q)

  pub proper_join : (m : List Record) → Proper m → Proper (join r m)
  unfolding join greater
  proper_join = proper_insert greater (λ v w p q. cases (less_value v w) (λ e. rw e q) (λ e. rw e p))

pub proper_remove : (k : List ℕ) (m : List Record) → Proper m → Proper (remove k m)
proper_remove k m p =
    record {
      order = sorted_remove k m p.order;
      keys = all_remove k LawfulKey m p.keys;
      values = all_remove k RightValue m p.values;
    }

pub proper_merge : (rs m : List Record) → All LawfulKey rs → All RightValue rs → Proper m → Proper (merge m rs)
unfolding merge
proper_merge [] m a b p = p
proper_merge (r ∷ rs) m a b p = proper_merge rs (join r m) a.1 b.1 (proper_join r a.0 b.0 m p)
