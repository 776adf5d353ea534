-- A writing call that is not refused: what it has tested and read, what it wrote, and that the set it results in fits again.
use Prim.Native.Nat.{ℕ, ◌≤◌}
use mathlib.Core.Path.{◌≡◌, refl}
use mathlib.Core.Bool.{true, cond, false≢true}
use mathlib.Core.Option.{Option, none, some}
use mathlib.Core.List.{List, ◌++◌}
use native.Mathlib.Omega.{arith}
use lib.ListN.{length}
use lib.Dec.{leb}
use borrow.Author.Tests.{leb-true}
use Rattle.limits.specs.Limits.{longest, most}
use Rattle.bytestring.proofs.Equal.{equal-cases}
use Rattle.bytestring.specs.Bytes.{equal}
use Rattle.bytestring.proofs.Tools.{and_inv, all_split}
use Rattle.answer.specs.declared.Refusal.{Refusal}
use Rattle.tree.specs.Record.{Record, records}
use Rattle.tree.specs.Table.{SpeltTree, table_of}
use Rattle.tree.specs.Judge.{Test, due, fits, Verdict, refused, accepted}
use Rattle.tree.proofs.Laws.{AllTests, due_none, fitting_fits}
use Rattle.head.specs.declared.Head.{Head}
use Rattle.head.specs.Head.{head_of, same_head}
use Rattle.head.proofs.Laws.{same_head_lem}
use Rattle.promises.specs.Map.{find, put, join, remove, merge, greater_found}
use Rattle.promises.specs.Outcome.{sizes}
use Rattle.promises.specs.Moved.{moved, Plan, settle_moved, call_tests, carry_out, put_plan, join_plan, remove_plan, merge_plan, on_first}
use Rattle.promises.proofs.MapLaws.{Sorted, sorted_rising, find_put_same, find_put_other, find_join_same, find_join_other, find_remove_same, find_remove_other, Proper, fits_proper, proper_put, proper_join, proper_remove, proper_merge}

-- ---- a call that is not refused: its tests hold, and it wrote the table of its result
pub record Sized (m : List Record) (room : ℕ) : Type 0 where
  pub count : length m ≤ most
  pub output : length (table_of m) ≤ room
  pub size : length (table_of m) ≤ longest

pub sized : (m : List Record) (room : ℕ) → AllTests (sizes m room) → Sized m room
unfolding sizes
sized m room h =
    let k = and_inv (leb (length (table_of m)) room) h.1.0 in
    record {
      count = leb-true (length m) most h.0;
      output = leb-true (length (table_of m)) room k.0;
      size = leb-true (length (table_of m)) longest k.1;
    }

pub record Carried (h : Head) (m : List Record) (p : Plan) (room : ℕ) (t : List ℕ) (g : Head) : Type 0 where
  pub true : h ≡ head_of m
  pub asked : AllTests p.asks
  pub measured : Sized p.result room
  pub written : t ≡ table_of p.result
  pub head : g ≡ head_of p.result

settled : (o : Option Refusal) (m : List Record) (t : List ℕ) (g : Head) → settle_moved o m ≡ moved t g → (o ≡ none) × (t ≡ table_of m) × (g ≡ head_of m)
unfolding settle_moved
settled none m t g h = (refl, cc, cc)
settled (some r) m t g h = let z : ◌≡◌ {A = ℕ} 0 1 = cc in absurd (omega arith)

pub carried : (h : Head) (plan : List Record → Plan) (m : List Record) (room : ℕ) (t : List ℕ) (g : Head) → carry_out h plan m room ≡ moved t g
    → Carried h m (plan m) room t g
unfolding carry_out
carried h plan m room t g e =
    let p = plan m in
    let s = settled (due (call_tests h m p room)) p.result t g e in
    let all : (same_head h (head_of m) ≡ true) × AllTests (p.asks ++ sizes p.result room) = due_none (call_tests h m p room) s.0 in
    let k = all_split (λ (q : Test). q.1 ≡ true) p.asks (sizes p.result room) all.1 in
    record {
      true = same_head_lem h (head_of m) all.0;
      asked = k.0;
      measured = sized p.result room k.1;
      written = s.1;
      head = s.2;
    }

-- ---- what each key finds in the set that results
module _ (k : List ℕ) (m : List Record) (key : List ℕ) where
  pub put_finds : (v : List ℕ) → find key (put (record { key = k; val = v }) m) ≡ cond (equal key k) (some v) (find key m)
  put_finds v =
      let r : Record = record { key = k; val = v } in
      equal-cases key k (λ e q. rw (e, q) (find_put_same r m)) (λ e n. rw e (find_put_other r m key n))

  pub join_finds : (v : List ℕ)
      → find key (join (record { key = k; val = v }) m) ≡ cond (equal key k) (greater_found (find key m) (some v)) (find key m)
  join_finds v =
      let r : Record = record { key = k; val = v } in
      equal-cases key k (λ e q. rw (e, q) (find_join_same r m)) (λ e n. rw e (find_join_other r m key n))

  pub remove_finds : Sorted m → find key (remove k m) ≡ cond (equal key k) none (find key m)
  remove_finds s = equal-cases key k (λ e q. rw (e, q) (find_remove_same k m s)) (λ e n. rw e (find_remove_other k key n m s))

-- ---- the set that results fits
pub sized_fits : (m : List Record) (room : ℕ) → Proper m → Sized m room → fits m ≡ true
sized_fits m room p s =
    fitting_fits m
    (record { count = s.count; order = sorted_rising m p.order; keys = p.keys; values = p.values; size = s.size })

pub merged_fits : (m n : List Record) → fits m ≡ true → fits n ≡ true → (room : ℕ) → Sized (merge m n) room → fits (merge m n) ≡ true
merged_fits m n f g room s =
    let q = fits_proper n g in
    sized_fits (merge m n) room (proper_merge n m q.keys q.values (fits_proper m f)) s

module _ (h : Head) (m : List Record) (f : fits m ≡ true) (room : ℕ) (t : List ℕ) (g : Head) where
  pub put_fits : (k v : List ℕ) → carry_out h (put_plan k v) m room ≡ moved t g → fits (put_plan k v m).result ≡ true
  unfolding put_plan
  put_fits k v e =
      let c = carried h (put_plan k v) m room t g e in
      let r : Record = record { key = k; val = v } in
      sized_fits (put r m) room (proper_put r c.asked.0 c.asked.1.0 m (fits_proper m f)) c.measured

  pub join_fits : (k v : List ℕ) → carry_out h (join_plan k v) m room ≡ moved t g → fits (join_plan k v m).result ≡ true
  unfolding join_plan
  join_fits k v e =
      let c = carried h (join_plan k v) m room t g e in
      let r : Record = record { key = k; val = v } in
      sized_fits (join r m) room (proper_join r c.asked.0 c.asked.1.0 m (fits_proper m f)) c.measured

  pub remove_fits : (k : List ℕ) → carry_out h (remove_plan k) m room ≡ moved t g → fits (remove_plan k m).result ≡ true
  unfolding remove_plan
  remove_fits k e =
      let c = carried h (remove_plan k) m room t g e in
      sized_fits (remove k m) room (proper_remove k m (fits_proper m f)) c.measured

  pub merge_fits : (v : Verdict) → ((u : SpeltTree) → v ≡ accepted u → fits (records u) ≡ true)
      → carry_out h (merge_plan v) m room ≡ moved t g → fits (merge_plan v m).result ≡ true
  unfolding merge_plan
  merge_fits (refused r) fit e = absurd (false≢true (carried h (merge_plan (refused r)) m room t g e).asked.0)
  merge_fits (accepted u) fit e =
      merged_fits m (records u) f (fit u refl) room (carried h (merge_plan (accepted u)) m room t g e).measured

-- ---- the registers that it has read were accepted
pub first_accepted_lem : (v : Verdict) (h : Head) (plan : List Record → Plan) (room : ℕ) (t : List ℕ) (g : Head) → on_first v h plan room ≡ moved t g
    → (u : SpeltTree) × (v ≡ accepted u) × (carry_out h plan (records u) room ≡ moved t g)
unfolding on_first
first_accepted_lem (refused r) h plan room t g e = let z : ◌≡◌ {A = ℕ} 0 1 = cc in absurd (omega arith)
first_accepted_lem (accepted u) h plan room t g e = (u, refl, e)

pub second_accepted_lem : (v : Verdict) (h : Head) (m : List Record) (room : ℕ) (t : List ℕ) (g : Head) → carry_out h (merge_plan v) m room ≡ moved t g
    → (u : SpeltTree) × (v ≡ accepted u)
unfolding merge_plan
second_accepted_lem (refused r) h m room t g e = absurd (false≢true (carried h (merge_plan (refused r)) m room t g e).asked.0)
second_accepted_lem (accepted u) h m room t g e = (u, refl)
