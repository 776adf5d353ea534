-- The pages that are kept are those of the other states; with the pages of the register to be saved they are those of the new map.
use Prim.Native.Nat.{ℕ, zero, suc, ◌+◌, ◌≤◌, ◌<◌}
use mathlib.Core.Path.{◌≡◌, refl, sym, ap, subst, ◌∙◌}
use mathlib.Core.Bool.{Bool, true, false, false≢true}
use mathlib.Core.Logic.{inl, inr}
use mathlib.Core.Option.{Option, none, some}
use mathlib.Core.List.{List, [], ◌∷◌, ◌++◌, append-nil, map}
use native.Mathlib.Nat.{zero-add}
use native.Mathlib.Omega.{arith}
use lib.ListN.{length, get_or}
use lib.Dec.{eqb}
use borrow.Table.Steps.{cases}
use borrow.Author.Tests.{eqb-true, le-leb}
use Rattle.answer.specs.declared.Refusal.{Refusal}
use Rattle.bytestring.specs.Bytes.{Bytes, equal}
use Rattle.bytestring.proofs.Tools.{All, all_weaken}
use Rattle.bytestring.proofs.Equal.{equal_refl, equal-cases}
use Rattle.limits.specs.Limits.{longest, deepest}
use Rattle.fips180.specs.Hash.{sha256}
use Rattle.value.specs.Value.{value_digest}
use Rattle.key.proofs.Laws.{less-connected}
use Rattle.page.specs.Reading.{concat}
use Rattle.page.specs.Page.{RawPage, page_bytes}
use Rattle.page.proofs.Pages.{GoodPage}
use Rattle.tree.specs.Record.{Record}
use Rattle.tree.specs.Judge.{due}
use Rattle.tree.proofs.Laws.{accepted_table}
use Rattle.promises.specs.Map.{find, insert, put, remove}
use Rattle.promises.specs.Promises.{Among, DigestsApart}
use Rattle.promises.proofs.MapLaws.{Before, before_other, above_before, Sorted, rising_sorted, insert_before, insert_here, insert_later, all_remove, remove_before, remove_here, remove_later}
use Rattle.promises.proofs.DifferenceLaws.{Within, among_left, among_right}
use Rattle.states.specs.Pages.{pages_in, by_digest, filed, all_apart, gather}
use Rattle.states.specs.States.{state_pages, page_sequence, bytes_or, gathered_states, state_tests, accepted_states, settle_states, judge_sequence, judge_with_pages, judge_states}
use Rattle.states.proofs.Sequences.{PageBytes, sequence_back}
use Rattle.states.proofs.Filing.{among-split, each_all, apart_unshared, unshared_apart, find_all, FiledFrom, filed_from, filed_sorted, filed_stands, values_of, refiled, filed_digested, each_value, found_among}
use Rattle.states.proofs.Gathered.{AmongPages, file_from}
use Rattle.states.proofs.Holding.{refile}
use Rattle.states.proofs.Steps.{PagesWithin, pages_within, own_pages}
use Rattle.summaries.specs.Summary.{Summary, summary, root_of_found, is_root, ReachedIn}
use Rattle.summaries.proofs.Roots.{page_reached, reached_page}
use Rattle.summaries.proofs.States.{PointsAtRoot, StatesPass, states_passed}
use Rattle.filing.specs.Filed.{bytes_at, pages_by_digest}
use Rattle.summing.specs.Summed.{page_mark}
use Rattle.gathering.specs.Gathered.{gathered_from}
use Rattle.keeping.specs.Kept.{LabelledPages, kept_from, sequence_of}
use Rattle.states_reader.specs.Held.{AmongRecords, ReachedOther, StatesHeld}
use Rattle.named_states.proofs.Maps.{revalued, remove_revalued, held_records, held_pages, held_map, gathered_bytes, found_held, held_fits}

-- ---- lists of the same pages
pub same_filed : (ps qs : List (List ℕ)) → DigestsApart qs → Within ps qs → Within qs ps → filed ps ≡ filed qs
same_filed ps qs unshared there back =
    let file = values_of (filed qs) in
    let again : map by_digest file ≡ filed qs = refiled (filed qs) (filed_digested qs) in
    let stands : Within qs file = λ p i. found_among (filed qs) (sha256 p) p (filed_stands qs unshared p i) in
    refile file ps (subst Sorted (sym again) (filed_sorted qs))
    (each_all (AmongPages file) ps (λ p i. stands p (there p i)))
    (each_value (AmongPages ps) (filed qs)
    (all_weaken (FiledFrom qs) (λ r. Among r.val ps) (λ r q. back r.val q.1) (filed qs) (filed_from qs)))
    ∙ again

bool_same : (a b : Bool) → (a ≡ true → b ≡ true) → (b ≡ true → a ≡ true) → a ≡ b
bool_same true b f g = sym (f refl)
bool_same false true f g = g refl
bool_same false false f g = refl

pub same_apart : (ps qs : List (List ℕ)) → Within ps qs → Within qs ps → all_apart ps ≡ all_apart qs
same_apart ps qs there back =
    bool_same (all_apart ps) (all_apart qs)
    (λ e. unshared_apart qs (λ p q i j. apart_unshared ps e p q (back p i) (back q j)))
    (λ e. unshared_apart ps (λ p q i j. apart_unshared qs e p q (there p i) (there q j)))

both_within : (ps qs all : List (List ℕ)) → Within ps all → Within qs all → Within (ps ++ qs) all
both_within ps qs all f g p i = among-split ps qs p i (f p) (g p)

swapped : (ps qs : List (List ℕ)) → Within (ps ++ qs) (qs ++ ps)
swapped ps qs = both_within ps qs (qs ++ ps) (among_right qs ps) (among_left qs ps)

-- ---- the pages of a map with one state set: those of the others and its own
abbrev newest : List ℕ → List ℕ → List ℕ
newest old new = new

module _ (r : Record) where
  abbrev own : List (List ℕ)
  own = pages_in r.val

  abbrev others : List Record → List (List ℕ)
  others m = state_pages (remove r.key m)

  pub set_pages : (m : List Record) → Within (state_pages (put r m)) (state_pages (remove r.key m) ++ pages_in r.val)
  unfolding put insert remove state_pages
  set_pages [] = rw (append-nil own) (λ q i. i)
  set_pages (x ∷ m) =
      less-connected r.key x.key
      (λ h. rw (insert_before newest r x m h, remove_before r.key x m h) (swapped own (pages_in x.val ++ state_pages m)))
      (λ e. rw (insert_here newest r x m e, remove_here r.key x m e) (swapped own (state_pages m)))
      (λ h. rw (insert_later newest r x m h, remove_later r.key x m h)
      (both_within (pages_in x.val) (state_pages (put r m)) ((pages_in x.val ++ others m) ++ own)
      (λ q i. among_left (pages_in x.val ++ others m) own q (among_left (pages_in x.val) (others m) q i))
      (λ q i. among-split (others m) own q (set_pages m q i)
      (λ j. among_left (pages_in x.val ++ others m) own q (among_right (pages_in x.val) (others m) q j))
      (λ j. among_right (pages_in x.val ++ others m) own q j))))

  pub pages_set : (m : List Record) → Within (state_pages (remove r.key m) ++ pages_in r.val) (state_pages (put r m))
  unfolding put insert remove state_pages
  pages_set [] = rw (append-nil own) (λ q i. i)
  pages_set (x ∷ m) =
      less-connected r.key x.key
      (λ h. rw (insert_before newest r x m h, remove_before r.key x m h) (swapped (pages_in x.val ++ state_pages m) own))
      (λ e. rw (insert_here newest r x m e, remove_here r.key x m e) (swapped (state_pages m) own))
      (λ h. rw (insert_later newest r x m h, remove_later r.key x m h)
      (both_within (pages_in x.val ++ others m) own (pages_in x.val ++ state_pages (put r m))
      (both_within (pages_in x.val) (others m) (pages_in x.val ++ state_pages (put r m))
      (among_left (pages_in x.val) (state_pages (put r m)))
      (λ q i. among_right (pages_in x.val) (state_pages (put r m)) q (pages_set m q (among_left (others m) own q i))))
      (λ q i. among_right (pages_in x.val) (state_pages (put r m)) q (pages_set m q (among_right (others m) own q i)))))

-- ---- records of a list, and of the list without a key
all_records : (P : Record → Type 0) (rs : List Record) (r : Record) → All P rs → AmongRecords r rs → P r
unfolding AmongRecords
all_records P [] r a i = absurd i
all_records P (x ∷ rs) r a (inl e) = subst P (sym e) a.0
all_records P (x ∷ rs) r a (inr i) = all_records P rs r a.1 i

module _ (k : List ℕ) where
  less_other : (j : List ℕ) → Before k j → equal k j ≡ false
  less_other j h = equal-cases k j (λ e s. absurd (before_other k j h s)) (λ e d. e)

  greater_other : (j : List ℕ) → Before j k → equal k j ≡ false
  greater_other j h = equal-cases k j (λ e s. absurd (before_other j k h (sym s))) (λ e d. e)

  still_there : (rs : List Record) (r : Record) → AmongRecords r rs → equal k r.key ≡ false → AmongRecords r (remove k rs)
  unfolding AmongRecords remove
  still_there [] r i d = i
  still_there (x ∷ rs) r (inl s) d =
      less-connected k x.key
      (λ h. rw (remove_before k x rs h) (inl s))
      (λ e. absurd (false≢true (sym d ∙ rw (e, s) (equal_refl x.key))))
      (λ h. rw (remove_later k x rs h) (inl s))
  still_there (x ∷ rs) r (inr i) d =
      less-connected k x.key
      (λ h. rw (remove_before k x rs h) (inr i))
      (λ e. rw (remove_here k x rs e) i)
      (λ h. rw (remove_later k x rs h) (inr (still_there rs r i d)))

  abbrev Other : Record → List Record → Type 0
  Other r rs = AmongRecords r rs × (equal k r.key ≡ false)

  later_there : (x : Record) (rs : List Record) (r : Record) → Before x.key k → (AmongRecords r (remove k rs) → Other r rs)
      → AmongRecords r (x ∷ remove k rs) → Other r (x ∷ rs)
  unfolding AmongRecords
  later_there x rs r h f (inl s) = (inl s, greater_other r.key (rw s h))
  later_there x rs r h f (inr i) = (inr (f i).0, (f i).1)

  was_there : (rs : List Record) → Sorted rs → (r : Record) → AmongRecords r (remove k rs) → Other r rs
  unfolding AmongRecords remove
  was_there [] s r i = absurd i
  was_there (x ∷ rs) s r i =
      less-connected k x.key
      (λ h.
      let j : AmongRecords r (x ∷ rs) = rw (remove_before k x rs h) at i in
      (j, less_other r.key (all_records (λ y. Before k y.key) (x ∷ rs) r (h, above_before k x.key rs h s.0) j)))
      (λ e.
      let j : AmongRecords r rs = rw (remove_here k x rs e) at i in
      (inr j, less_other r.key (rw e (all_records (λ y. Before x.key y.key) rs r s.0 j))))
      (λ h. later_there x rs r h (was_there rs s.1 r) (rw (remove_later k x rs h) at i))

-- ---- the pages of states, state by state
module _ (f : List ℕ → List ℕ) where
  state_of_page : (rs : List Record) (q : List ℕ) → Among q (state_pages (map (revalued f) rs))
      → (r : Record) × AmongRecords r rs × Among q (pages_in (f r.val))
  unfolding AmongRecords state_pages
  state_of_page [] q i = absurd i
  state_of_page (x ∷ rs) q i =
      among-split (pages_in (f x.val)) (state_pages (map (revalued f) rs)) q i
      (λ j. (x, inl refl, j))
      (λ j. let w = state_of_page rs q j in (w.0, inr w.1, w.2))

  page_of_state : (rs : List Record) (q : List ℕ) (r : Record) → AmongRecords r rs → Among q (pages_in (f r.val))
      → Among q (state_pages (map (revalued f) rs))
  unfolding AmongRecords state_pages
  page_of_state [] q r i j = absurd i
  page_of_state (x ∷ rs) q r (inl e) j =
      among_left (pages_in (f x.val)) (state_pages (map (revalued f) rs)) q (subst (λ (y : Record). Among q (pages_in (f y.val))) e j)
  page_of_state (x ∷ rs) q r (inr i) j = among_right (pages_in (f x.val)) (state_pages (map (revalued f) rs)) q (page_of_state rs q r i j)

-- ---- pages by their numbers
page_number : (raws : List RawPage) (q : List ℕ) → Among q (map page_bytes raws) → (i : ℕ) × (i < length raws) × (bytes_at raws i ≡ q)
page_number [] q j = absurd j
page_number (r ∷ raws) q (inl e) = (0, omega arith, sym e)
page_number (r ∷ raws) q (inr j) =
    let w = page_number raws q j in
    (suc w.0, omega (arith, w.1), w.2)

module _ (marks : List ℕ) where
  abbrev Marked : ℕ → List RawPage → List ℕ → Type 0
  Marked from raws q = (i : ℕ) × (i < length raws) × (get_or marks (from + i) 0 ≡ 1) × (bytes_at raws i ≡ q)

  next_marked : (from : ℕ) (r : RawPage) (raws : List RawPage) (q : List ℕ) → Marked (suc from) raws q → Marked from (r ∷ raws) q
  next_marked from r raws q w =
      let e : suc from + w.0 ≡ from + suc w.0 = omega arith in
      (suc w.0, omega (arith, w.1), subst (λ (i : ℕ). get_or marks i 0 ≡ 1) e w.2, w.3)

  first_marked : (from : ℕ) (r : RawPage) (raws : List RawPage) (q : List ℕ) → get_or marks from 0 ≡ 1
      → (Among q (kept_from marks (suc from) raws) → Marked (suc from) raws q)
      → Among q (page_bytes r ∷ kept_from marks (suc from) raws) → Marked from (r ∷ raws) q
  first_marked from r raws q h f (inl e) =
      let s : from ≡ from + 0 = omega arith in
      (0, omega arith, subst (λ (i : ℕ). get_or marks i 0 ≡ 1) s h, sym e)
  first_marked from r raws q h f (inr j) = next_marked from r raws q (f j)

  kept_marked : (from : ℕ) (raws : List RawPage) (q : List ℕ) → Among q (kept_from marks from raws) → Marked from raws q
  unfolding kept_from
  kept_marked from [] q j = absurd j
  kept_marked from (r ∷ raws) q j =
      cases (eqb (get_or marks from 0) 1)
      (λ e. first_marked from r raws q (eqb-true (get_or marks from 0) 1 e) (kept_marked (suc from) raws q) (rw e at j))
      (λ e. next_marked from r raws q (kept_marked (suc from) raws q (rw e at j)))

  marked_kept : (from : ℕ) (raws : List RawPage) (i : ℕ) → i < length raws → get_or marks (from + i) 0 ≡ 1
      → Among (bytes_at raws i) (kept_from marks from raws)
  unfolding kept_from
  marked_kept from [] i h e = absurd (omega arith)
  marked_kept from (r ∷ raws) zero h e =
      let s : from + 0 ≡ from = omega arith in
      let q : eqb (get_or marks from 0) 1 ≡ true = rw (subst (λ (i : ℕ). get_or marks i 0 ≡ 1) s e) in
      rw q (inl refl)
  marked_kept from (r ∷ raws) (suc i) h e =
      let s : from + suc i ≡ suc from + i = omega arith in
      let j = marked_kept (suc from) raws i (omega arith) (subst (λ (i : ℕ). get_or marks i 0 ≡ 1) s e) in
      cases (eqb (get_or marks from 0) 1) (λ q. rw q (inr j)) (λ q. rw q j)

-- ---- the buffers that are held
each_good : (raws : List RawPage) → All GoodPage raws → All PageBytes (map page_bytes raws)
each_good [] g = tt
each_good (r ∷ raws) g = ((r, (g.0, refl)), each_good raws g.1)

concat_bytes : (raws : List RawPage) → concat (λ b. b) (map page_bytes raws) ≡ concat page_bytes raws
concat_bytes [] = refl
concat_bytes (r ∷ raws) = ap (λ (l : List ℕ). page_bytes r ++ l) (concat_bytes raws)

none_settled : (o : Option Refusal) (m l : List Record) → settle_states o m ≡ accepted_states l → o ≡ none
unfolding settle_states
none_settled none m l e = refl
none_settled (some r) m l e = let z : ◌≡◌ {A = ℕ} 0 1 = cc in absurd (omega arith)

reached_among : (ps : List (List ℕ)) (steps : ℕ) (digest q : List ℕ) → ReachedIn (map by_digest ps) steps digest q → Among q ps
unfolding ReachedIn
reached_among ps zero digest q r = absurd r
reached_among ps (suc steps) digest q (p, e, inl s) =
    subst (AmongPages ps) (sym s) (find_all (FiledFrom ps) (map by_digest ps) digest p (file_from ps) e).1
reached_among ps (suc steps) digest q (p, e, inr t) = reached_among ps steps t.0 q t.2

root_found : (x : Option Summary) (o : Option (List ℕ)) → root_of_found x o ≡ true → (p : List ℕ) × (o ≡ some p)
unfolding root_of_found
root_found x none h = absurd (false≢true h)
root_found x (some p) h = (p, refl)

module _ {s p k index labels pages : List ℕ} {count n : ℕ} (h : StatesHeld s p k index labels pages count n) (smallPages : Bytes p) where
  good : All PageBytes (held_pages h)
  good = each_good h.raws (sequence_back p [] h.raws smallPages h.notes.filed.reads).good

  long : length (concat (λ b. b) (held_pages h)) ≤ longest
  long =
      let e = (sequence_back p [] h.raws smallPages h.notes.filed.reads).spells in
      rw (concat_bytes h.raws, ← e) h.notes.filed.short

  passed : StatesPass (held_records h) (held_pages h)
  unfolding judge_states judge_with_pages judge_sequence
  passed =
      let e = rw (h.indexed.judged, le-leb (length p) longest h.notes.filed.short, h.notes.filed.reads) at h.judged in
      states_passed (held_pages h) good long (held_records h)
      (none_settled (due (state_tests (held_records h) (held_pages h))) (held_map h) (held_map h) e)

  pages_sorted : Sorted (map by_digest (held_pages h))
  pages_sorted = rising_sorted (map by_digest (held_pages h)) passed.order

  -- the page of a state's digest, and the bytes gathered from it
  pub state_number : (j v : List ℕ) → find j (held_records h) ≡ some v
      → (i : ℕ) × (i < n) × (sha256 (bytes_at h.raws i) ≡ value_digest v)
  unfolding is_root
  state_number j v e =
      let file = map by_digest (held_pages h) in
      let root = find_all (PointsAtRoot file) (held_records h) j v passed.roots e in
      let w = root_found (summary deepest file (value_digest v)) (find (value_digest v) file) root in
      let at = find_all (FiledFrom (held_pages h)) file (value_digest v) w.0 (file_from (held_pages h)) w.1 in
      let i = page_number h.raws w.0 at.1 in
      (i.0, omega (arith, i.1, h.notes.filed.number), ap sha256 i.2 ∙ sym at.0)

  -- a page of another state is reached from its digest
  other_page : (sorted : Sorted (held_records h)) (q : List ℕ) → Among q (state_pages (remove k (held_map h)))
      → ReachedOther k (pages_by_digest h.raws) q (held_records h)
  unfolding ReachedOther gathered_states
  other_page sorted q i =
      let f = gathered_bytes h in
      let there = subst (λ (l : List Record). Among q (state_pages l)) (sym (remove_revalued f k (held_records h))) i in
      let w = state_of_page f (remove k (held_records h)) q there in
      let o = was_there k (held_records h) sorted w.0 w.1 in
      let root = all_records (PointsAtRoot (map by_digest (held_pages h))) (held_records h) w.0 passed.roots o.0 in
      (w.0, o.0, o.1, page_reached (held_pages h) good pages_sorted long (value_digest w.0.val) root q w.2)

  page_of_other : (q : List ℕ) → ReachedOther k (pages_by_digest h.raws) q (held_records h) → Among q (state_pages (remove k (held_map h)))
  unfolding ReachedOther gathered_states
  page_of_other q (r, i, d, reached) =
      let f = gathered_bytes h in
      let root = all_records (PointsAtRoot (map by_digest (held_pages h))) (held_records h) r passed.roots i in
      subst (λ (l : List Record). Among q (state_pages l)) (remove_revalued f k (held_records h))
      (page_of_state f (remove k (held_records h)) q r (still_there k (held_records h) r i d)
      (reached_page (held_pages h) good pages_sorted long (value_digest r.val) root q reached))

-- ---- the pages by their labels, and the bytes that a name restores
module _ {s p k index labels pages : List ℕ} {count n : ℕ} (h : StatesHeld s p k index labels pages count n) where
  pub held_labelled : LabelledPages s p labels n h.raws
  held_labelled =
      let f = h.notes.filed in
      record { reads = f.reads; number = f.number; short = f.short; room = f.room; names = f.names; digests = f.digests; order = f.order }

  pub found_gathered : (j v : List ℕ) (i : ℕ) → find j (held_records h) ≡ some v → sha256 (bytes_at h.raws i) ≡ value_digest v
      → find j (held_map h) ≡ some (gathered_from h.raws i)
  unfolding gathered_from
  found_gathered j v i e d =
      found_held h j v e ∙ ap (λ (digest : List ℕ). some (bytes_or (gather deepest (pages_by_digest h.raws) digest))) (sym d)

-- ---- the pages that are kept
module _ {s p k index labels pages : List ℕ} {count n : ℕ} (h : StatesHeld s p k index labels pages count n)
    (small : Bytes s) (smallPages : Bytes p)
    (marks : List ℕ) (noted : (i : ℕ) → i < n → get_or marks i 0 ≡ page_mark (get_or pages i 0)) where
  abbrev kept_pages : List (List ℕ)
  kept_pages = kept_from marks 0 h.raws

  abbrev other_pages : List (List ℕ)
  other_pages = state_pages (remove k (held_map h))

  records_sorted : Sorted (held_records h)
  records_sorted = rising_sorted (held_records h) (accepted_table s small h.indexed.tree h.indexed.judged).fit.order

  pub kept_are_others : Within (kept_from marks 0 h.raws) (state_pages (remove k (held_map h)))
  kept_are_others q i =
      let w = kept_marked marks 0 h.raws q i in
      let within : w.0 < n = omega (arith, w.1, h.notes.filed.number) in
      let mark : get_or marks w.0 0 ≡ 1 = subst (λ (i : ℕ). get_or marks i 0 ≡ 1) (zero-add w.0) w.2 in
      let reached = h.marked w.0 within (sym (noted w.0 within) ∙ mark) in
      page_of_other h smallPages q (subst (λ (x : List ℕ). ReachedOther k (pages_by_digest h.raws) x (held_records h)) w.3 reached)

  pub others_are_kept : Within (state_pages (remove k (held_map h))) (kept_from marks 0 h.raws)
  unfolding ReachedOther
  others_are_kept q i =
      let reached = other_page h smallPages records_sorted q i in
      let w = page_number h.raws q (reached_among (held_pages h) reached.3.0 (value_digest reached.0.val) q reached.3.1) in
      let within : w.0 < n = omega (arith, w.1, h.notes.filed.number) in
      let there = subst (λ (x : List ℕ). ReachedOther k (pages_by_digest h.raws) x (held_records h)) (sym w.2) reached in
      let mark : get_or marks w.0 0 ≡ 1 = noted w.0 within ∙ h.unmarked w.0 within there in
      subst (λ (x : List ℕ). Among x (kept_from marks 0 h.raws)) w.2
      (marked_kept marks 0 h.raws w.0 w.1 (subst (λ (i : ℕ). get_or marks i 0 ≡ 1) (sym (zero-add w.0)) mark))

  -- without the state of the key
  others_unshared : DigestsApart other_pages
  others_unshared a b i j =
      let within = pages_within (remove k (held_map h)) (state_pages (held_map h))
      (all_remove k (PagesWithin (state_pages (held_map h))) (held_map h) (own_pages (held_map h))) in
      (held_fits h small smallPages).unshared a b (within a i) (within b j)

  pub kept_sequence : sequence_of (kept_from marks 0 h.raws ++ []) ≡ page_sequence (remove k (held_map h))
  unfolding sequence_of page_sequence
  kept_sequence =
      rw (append-nil kept_pages)
      (ap (concat (λ (r : Record). r.val)) (same_filed kept_pages other_pages others_unshared kept_are_others others_are_kept))

  pub kept_apart : all_apart (kept_from marks 0 h.raws ++ []) ≡ true
  kept_apart =
      rw (append-nil kept_pages) (same_apart kept_pages other_pages kept_are_others others_are_kept ∙ unshared_apart other_pages others_unshared)

  -- with a state set under the key
  module _ (t : List ℕ) (qs : List (List ℕ)) (theirs : Within qs (pages_in t)) (all : Within (pages_in t) qs) where
    abbrev new : Record
    new = record { key = k; val = t }

    abbrev new_pages : List (List ℕ)
    new_pages = state_pages (put new (held_map h))

    within_new : Within (kept_pages ++ qs) new_pages
    within_new =
        both_within kept_pages qs new_pages
        (λ q i. pages_set new (held_map h) q (among_left other_pages (pages_in t) q (kept_are_others q i)))
        (λ q i. pages_set new (held_map h) q (among_right other_pages (pages_in t) q (theirs q i)))

    new_within : Within new_pages (kept_pages ++ qs)
    new_within q i =
        among-split other_pages (pages_in t) q (set_pages new (held_map h) q i)
        (λ j. among_left kept_pages qs q (others_are_kept q j))
        (λ j. among_right kept_pages qs q (all q j))

    pub set_apart : all_apart (kept_from marks 0 h.raws ++ qs) ≡ all_apart (state_pages (put (record { key = k; val = t }) (held_map h)))
    set_apart = same_apart (kept_pages ++ qs) new_pages within_new new_within

    pub set_sequence : all_apart (kept_from marks 0 h.raws ++ qs) ≡ true
        → sequence_of (kept_from marks 0 h.raws ++ qs) ≡ page_sequence (put (record { key = k; val = t }) (held_map h))
    unfolding sequence_of page_sequence
    set_sequence e =
        ap (concat (λ (r : Record). r.val))
        (same_filed (kept_pages ++ qs) new_pages (apart_unshared new_pages (sym set_apart ∙ e)) within_new new_within)
