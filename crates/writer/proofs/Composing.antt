-- A page and the pages below it, composed from their parts.
use Prim.Native.Nat.{ℕ, zero, suc, ◌+◌, ◌-◌, ◌≤◌, ◌<◌}
use Rattle.std.specs.Prelude.{Option, None, Some, is_some, IfSome}
use mathlib.Core.Path.{◌≡◌, refl, sym, ap, subst, ◌∙◌}
use mathlib.Core.Bool.{◌&&◌}
use mathlib.Core.Option as maybe
use mathlib.Core.List.{List, [], ◌∷◌, ◌++◌, append-nil}
use native.Mathlib.Omega.{arith}
use borrow.Author.Tests.{le-leb, lt-leb, leb-true, leb-false}
use borrow.Table.Steps.{cases}
use lib.Dec.{leb}
use lib.ListN.{length, take, drop, length-append, length-drop}
use lib.Seq.{length-take-le}
use Rattle.bytestring.proofs.Lending.{lent, back}
use Rattle.bytestring.specs.Bytes.{front}
use Rattle.page_writer.specs.Front.{number_length, link_held, gap_length, page_start_bytes, page_end_bytes}
use Rattle.page_writer.proofs.Sizes.{length_page_start, length_page_end}
use Rattle.tree.specs.Tree.{Page, Gap, Entries, Placed, entries_of}
use Rattle.tree.specs.Record.{Record, spelt, spelt_under, spelt_from}
use Rattle.tree.specs.Table.{bytes_of_page, table, table_under, table_from}
use Rattle.layout.specs.Build.{record_in, gap_for, entries_at, entries_bytes}
use Rattle.layout.specs.Layout.{has_page, ends, Sized}
use Rattle.layout.specs.declared.sizes.Size.{Size}
use Rattle.layout.proofs.Ranges.{link_to, Cuts, cuts}
use Rattle.layout.proofs.Measures.{end_size}
use Rattle.writer.specs.Wrote.{page_at, gap_at, tables_of, Written, GapDone, GapWritten, overwritten, entries_fit, EntriesDone, EntriesWritten}
use Rattle.writer.specs.declared.pages.Below.{Below}
use Rattle.writer.specs.declared.pages.Laid.{Laid}
use Rattle.writer.proofs.Tables.{table_in, bytes_are, table_is, page_length, table_length, table_longer}
use Rattle.writer.proofs.Overwriting.{part_length, over_front, over_nothing, over_part, over_length, over_more, over_apart}
use Rattle.writer.proofs.Gaps.{gap_lacks, gap_done, gap_fits}

-- ---- layer 0 and the others
either {κ} : {C : Type κ} (n : ℕ) → (n ≡ 0 → C) → ((n ≡ 0 → ⊥) → C) → C
either zero f g = f refl
either (suc n) f g = g (λ e. absurd (omega arith))

-- nothing is below a page of layer 0
leaf_gap : (n : ℕ) (rs : List (Placed Record)) → n ≡ 0 → table_in (gap_for n rs) ≡ []
unfolding gap_for spelt_under table_under
leaf_gap n rs e = rw e

leaf_from : (before : List ℕ) (rs : List (Record × List (Placed Record))) → tables_of before (entries_of (gap_for 0) rs) ≡ []
unfolding entries_of gap_for spelt_from spelt_under table_from table_under
leaf_from before [] = refl
leaf_from before (r ∷ rs) = leaf_from r.0.key rs

leaf_tables : (n : ℕ) (f : ℕ → Placed Record) (i hi : ℕ) → n ≡ 0 → tables_of [] (entries_at n f i hi) ≡ []
unfolding entries_at
leaf_tables n f i hi e = rw e (leaf_from [] _)

-- ---- the room
fits_inner : (s b e own l t size : ℕ) → own ≡ s + e + b → (leb (s + b) (own - e) && leb (own + l + t) size) ≡ leb (s + b + e + (l + t)) size
fits_inner s b e own l t size q =
    let z : own + l + t ≡ s + b + e + (l + t) = omega arith in
    rw (le-leb (s + b) (own - e) (omega arith), z)

fits_leaf : (s b e own size : ℕ) → own ≡ size → e ≤ own → (leb (s + b) (own - e) && leb own size) ≡ leb (s + b + e) size
fits_leaf s b e own size q h =
    cases (leb (s + b + e) size)
    (λ y. rw (le-leb own size (omega arith), le-leb (s + b) (own - e) (omega (arith, leb-true (s + b + e) size y)), y))
    (λ y. rw (lt-leb (s + b) (own - e) (omega (arith, leb-false (s + b + e) size y)), y))

-- ---- the parts in their order
three : (S B E o : List ℕ) → overwritten (length S + length B) E (overwritten (length S) B (overwritten 0 S o)) ≡ overwritten 0 ((S ++ B) ++ E) o
three S B E o =
    let z : 0 + length S ≡ length S = omega arith in
    let y : 0 + length (S ++ B) ≡ length S + length B = omega (arith, length-append S B) in
    ap (overwritten (length S + length B) E) (rw z at (over_more 0 o (omega arith) S B)) ∙ rw y at (over_more 0 o (omega arith) (S ++ B) E)

module _ (S B E L T o : List ℕ) (own : ℕ) where
  -- as the code writes them
  abbrev parts : List ℕ
  parts =
      overwritten (length S + length B) E
      (overwritten (length S) B (overwritten (own + length L) T (overwritten 0 S (overwritten own L o))))

  pub parts_leaf : L ≡ [] → T ≡ [] → own ≤ length o → length S ≤ own → parts ≡ front (((S ++ B) ++ E) ++ (L ++ T)) o
  parts_leaf el et h k =
      let z : own + 0 ≡ own = omega arith in
      let l : own ≤ length (overwritten 0 S o) = omega (arith, over_length 0 o (omega arith) S (omega arith)) in
      rw (el, et, over_nothing own o h, z, over_nothing own (overwritten 0 S o) l, append-nil) (three S B E o ∙ sym (over_front ((S ++ B) ++ E) o))

  pub parts_inner : own ≡ length S + length B + length E → own + length L + length T ≤ length o → parts ≡ front (((S ++ B) ++ E) ++ (L ++ T)) o
  parts_inner e h =
      let oS = overwritten 0 S o in
      let oB = overwritten (length S) B oS in
      let lS : length oS ≡ length o = over_length 0 o (omega arith) S (omega arith) in
      let lB : length oB ≡ length oS = over_length (length S) oS (omega arith) B (omega arith) in
      let lSL : length (overwritten own L oS) ≡ length oS = over_length own oS (omega arith) L (omega arith) in
      let lBL : length (overwritten own L oB) ≡ length oB = over_length own oB (omega arith) L (omega arith) in
      let y : 0 + length ((S ++ B) ++ E) ≡ own = omega (arith, length-append (S ++ B) E, length-append S B) in
      rw (
        over_apart 0 own S L o (omega arith) (omega arith),
        over_apart (length S) (own + length L) B T (overwritten own L oS) (omega arith) (omega arith),
        over_apart (length S) own B L oS (omega arith) (omega arith),
        over_apart (length S + length B) (own + length L) E T (overwritten own L oB) (omega arith) (omega arith),
        over_apart (length S + length B) own E L oB (omega arith) (omega arith),
        three S B E o,
        over_more own (overwritten 0 ((S ++ B) ++ E) o) (omega (arith, over_length 0 o (omega arith) ((S ++ B) ++ E) (omega arith))) L T,
      )
      (rw y at (over_more 0 o (omega arith) ((S ++ B) ++ E) (L ++ T)) ∙ sym (over_front (((S ++ B) ++ E) ++ (L ++ T)) o))

-- ---- a page that has no place
pub own_lacks : {s u row : List ℕ} {lo hi n : ℕ} (o : List ℕ) {z : Size} → Sized s u row lo hi n (length o) z → length o < z.own
    → length o < length (table (spelt (page_at s u row lo hi n)))
own_lacks {s} {u} {row} {lo} {hi} {n} o {z} sized h =
    let f = record_in s u row in
    let es = entries_at n f z.first hi in
    let size : length (bytes_of_page (spelt (page_at s u row lo hi n))) ≡ ends z (has_page n (z.first - lo)) + length (entries_bytes [] es) =
    page_length n f lo hi z.first (cuts s u row n lo hi z.first sized.run)
    ∙ rw (← sized.counted) (omega (arith, length-append (page_start_bytes z.count) (entries_bytes [] es), length_page_start z.count, end_size n f lo (z.first - lo))) in
    let more = table_longer (page_at s u row lo hi n) in
    either n (λ q. omega (arith, size, more, sized.leaf q)) (λ q. omega (arith, size, more, sized.inner q))

-- ---- after the gap before the first entry is written
pub record Begun (s u row : List ℕ) (lo hi n : ℕ) (o : List ℕ) (z : Size) (ys : List ℕ) (r : Option Below) : Type 0 where
  pub sized : Sized s u row lo hi n (length o) z
  pub room : z.own ≤ length o
  pub gap : GapWritten (gap_at s u row lo z.first n) (lent z.own o) ys r

-- by what the calls before it say
pub begun : (s u row : List ℕ) (lo hi n : ℕ) (o : List ℕ) (z : Size) (ys : List ℕ) (r : Option Below)
    → Sized s u row lo hi n (length o) z → z.own ≤ length o → GapWritten (gap_at s u row lo z.first n) (lent z.own o) ys r → Begun s u row lo hi n o z ys r
begun s u row lo hi n o z ys r sized room gap = record { sized = sized; room = room; gap = gap }

module _ {s u row : List ℕ} {lo hi n : ℕ} {o : List ℕ} {z : Size} {ys : List ℕ} {r : Option Below} (b : Begun s u row lo hi n o z ys r) where
  abbrev f : ℕ → Placed Record
  f = record_in s u row

  abbrev es : Entries Record (List ℕ)
  es = entries_at n f z.first hi

  abbrev left : Gap Record (List ℕ)
  left = gap_at s u row lo z.first n

  abbrev tree : Page Record (List ℕ)
  tree = page_at s u row lo hi n

  abbrev S : List ℕ
  S = page_start_bytes z.count

  parted : Cuts f n lo hi z.first
  parted = cuts s u row n lo hi z.first b.sized.run

  lent_size : length (lent z.own o) ≡ length o - z.own
  lent_size = length-take-le (length o - z.own) (drop z.own o) (omega (arith, length-drop z.own o))

  bytes_is : bytes_of_page (spelt tree) ≡ (S ++ entries_bytes [] es) ++ page_end_bytes (link_to left)
  bytes_is = bytes_are n f lo hi z.first parted ∙ rw (← b.sized.counted)

  page_size : length (bytes_of_page (spelt tree)) ≡ 3 + number_length z.count + length (entries_bytes [] es) + length (page_end_bytes (link_to left))
  page_size =
      omega (
        arith,
        ap length bytes_is,
        length-append (S ++ entries_bytes [] es) (page_end_bytes (link_to left)),
        length-append S (entries_bytes [] es),
        length_page_start z.count,
      )

  total : length (table (spelt tree)) ≡ length (bytes_of_page (spelt tree)) + (length (table_in left) + length (tables_of [] es))
  total = table_length n f lo hi z.first parted ∙ rw (length-append (table_in left) (tables_of [] es))

  -- where nothing is below, the place is the room
  module _ (q : n ≡ 0) where
    no_left : length (table_in left) ≡ 0
    no_left = ap length (leaf_gap n _ q)

    no_below : length (tables_of [] es) ≡ 0
    no_below = ap length (leaf_tables n f z.first hi q)

    own_room : z.own ≡ length o
    own_room = omega (arith, b.sized.leaf q, b.room)

  pub left_lacks : r ≡ None → length o < length (table (spelt tree))
  left_lacks e =
      let l = gap_lacks b.gap e in
      either n (λ q. absurd (omega (arith, l, no_left q)))
      (λ q. omega (arith, l, lent_size, total, page_size, b.sized.inner q, end_size n f lo (z.first - lo), b.room))

  module _ {w : Below} (e : r ≡ Some w) where
    done : GapDone left (lent z.own o) ys w.len w.link
    done = gap_done b.gap e

    end_is : length (page_end_bytes (link_to left)) ≡ 2 + gap_length (is_some w.link)
    end_is = sym (ap (λ (g : maybe.Option (List ℕ)). length (page_end_bytes g)) done.link) ∙ length_page_end w.link done.whole

    ends_are : ends z (is_some w.link) ≡ ends z (has_page n (z.first - lo))
    ends_are = omega (arith, end_is, end_size n f lo (z.first - lo))

    own_least : ends z (is_some w.link) ≤ z.own
    own_least = either n (λ q. omega (arith, b.sized.leaf q, ends_are)) (λ q. omega (arith, b.sized.inner q, ends_are))

    pub tail_fits : z.own + w.len ≤ length o
    tail_fits = omega (arith, done.size, gap_fits b.gap e, lent_size, b.room)

    first_is : back z.own o ys ≡ overwritten z.own (table_in left) o
    first_is =
        ap (λ (l : List ℕ). take z.own o ++ (l ++ drop (length o - z.own) (drop z.own o))) done.wrote
        ∙ over_part z.own o b.room (table_in left) (length o - z.own) (omega (arith, done.size, tail_fits)) (omega (arith, b.room))

    pub first_length : length (back z.own o ys) ≡ length o
    first_length = ap length first_is ∙ over_length z.own o b.room (table_in left) (omega (arith, done.size, tail_fits))

    pub start_room : (z.count < 65536) × (3 + number_length z.count ≤ length (back z.own o ys))
    start_room = (omega (arith, b.sized.few), omega (arith, own_least, first_length, b.room))

    -- the places of the entries and of the tables below them
    pub foot_within : (foot : ℕ) → foot ≡ 2 + gap_length (is_some w.link) → foot ≤ z.own
    foot_within foot e = omega (arith, own_least)

    pub places : (start foot : ℕ) (x : List ℕ) → start ≡ 3 + number_length z.count → foot ≡ 2 + gap_length (is_some w.link) → length x ≡ length o
        → (start ≤ z.own - foot) × (z.own - foot ≤ z.own + w.len) × (z.own + w.len ≤ length x)
    places start foot x es₀ ef ex = (omega (arith, own_least), omega (arith, own_least), omega (arith, tail_fits))

    fit_is : (x : List ℕ) (start : ℕ) → length x ≡ length o → start ≡ 3 + number_length z.count
        → entries_fit es start (z.own - (2 + gap_length (is_some w.link))) (z.own + w.len) x ≡ leb (length (table (spelt tree))) (length o)
    unfolding entries_fit
    fit_is x start ex est =
        let foot = 2 + gap_length (is_some w.link) in
        either n
        (λ q.
        let behind : z.own + w.len + length (tables_of [] es) ≡ z.own = omega (arith, done.size, no_left q, no_below q) in
        let size : length (table (spelt tree)) ≡ start + length (entries_bytes [] es) + foot = omega (arith, total, page_size, end_is, no_left q, no_below q) in
        rw (ex, behind, size) (fits_leaf start (length (entries_bytes [] es)) foot z.own (length o) (own_room q) (omega (arith, own_least))))
        (λ q.
        let size : length (table (spelt tree)) ≡ start + length (entries_bytes [] es) + foot + (w.len + length (tables_of [] es)) = omega (arith, total, page_size, end_is, done.size) in
        let own : z.own ≡ start + foot + length (entries_bytes [] es) = omega (arith, b.sized.inner q, ends_are) in
        rw (ex, size) (fits_inner start (length (entries_bytes [] es)) foot z.own w.len (length (tables_of [] es)) (length o) own))

-- ---- after the entries
pub record Entered (s u row : List ℕ) (lo hi n : ℕ) (o : List ℕ) (z : Size) (ys : List ℕ) (r : Option Below) (w : Below) (after : List ℕ) (l : Option Laid) : Type 0 where
  pub begun : Begun s u row lo hi n o z ys r
  pub fine : r ≡ Some w
  pub x : List ℕ
  pub start : ℕ
  pub is : x ≡ front (page_start_bytes z.count) (back z.own o ys)
  pub place : start ≡ 3 + number_length z.count
  pub same : length x ≡ length o
  pub kept : length after ≡ length o
  pub laid : EntriesWritten (entries_at n (record_in s u row) z.first hi) start (z.own - (2 + gap_length (is_some w.link))) (z.own + w.len) x after l

-- by what the calls before it say
pub entered : {s u row : List ℕ} {lo hi n : ℕ} {o : List ℕ} {z : Size} {ys : List ℕ} {r : Option Below} (b : Begun s u row lo hi n o z ys r) {w : Below} → r ≡ Some w
    → (x : List ℕ) (start : ℕ) → x ≡ front (page_start_bytes z.count) (back z.own o ys) → start ≡ 3 + number_length z.count → length x ≡ length (back z.own o ys)
    → (foot : ℕ) → foot ≡ 2 + gap_length (is_some w.link) → (after : List ℕ) → length after ≡ length x → {l : Option Laid}
    → EntriesWritten (entries_at n (record_in s u row) z.first hi) start (z.own - foot) (z.own + w.len) x after l
    → Entered s u row lo hi n o z ys r w after l
entered b e x start is place same foot ef after kept laid = record {
  begun = b;
  fine = e;
  x = x;
  start = start;
  is = is;
  place = place;
  same = same ∙ first_length b e;
  kept = kept ∙ same ∙ first_length b e;
  laid = rw ef at laid;
}

module _ {s u row : List ℕ} {lo hi n : ℕ} {o : List ℕ} {z : Size} {ys : List ℕ} {r : Option Below} {w : Below} {after : List ℕ} {l : Option Laid} (t : Entered s u row lo hi n o z ys r w after l) where
  abbrev page : Page Record (List ℕ)
  page = page_at s u row lo hi n

  room_is : is_some l ≡ leb (length (table (spelt page))) (length o)
  room_is = t.laid.room ∙ fit_is t.begun t.fine t.x t.start t.same t.place

  pub entries_lack : l ≡ None → length o < length (table (spelt page))
  entries_lack y = leb-false (length (table (spelt page))) (length o) (sym room_is ∙ ap is_some y)

  module _ {v : Laid} (y : l ≡ Some v) where
    laid_is : EntriesDone (entries_at n (record_in s u row) z.first hi) t.start (z.own + w.len) t.x after v
    laid_is = subst (λ (q : Option Laid). IfSome q (EntriesDone (entries_at n (record_in s u row) z.first hi) t.start (z.own + w.len) t.x after)) y t.laid.done

    table_fits : length (table (spelt page)) ≤ length o
    table_fits = leb-true (length (table (spelt page))) (length o) (sym room_is ∙ ap is_some y)

    page_is : v.at + (2 + gap_length (is_some w.link)) ≡ length (bytes_of_page (spelt page))
    page_is = omega (arith, laid_is.ends, t.place, page_size t.begun, end_is t.begun t.fine)

    whole_is : v.at + (2 + gap_length (is_some w.link)) + w.len + v.below ≡ length (table (spelt page))
    whole_is = omega (arith, page_is, laid_is.tables, (done t.begun t.fine).size, total t.begun)

    pub whole_fits : v.at + (2 + gap_length (is_some w.link)) + w.len + v.below ≤ length o
    whole_fits = omega (arith, whole_is, table_fits)

    pub at_within : v.at ≤ length after
    at_within = omega (arith, whole_fits, t.kept)

    pub end_room : 2 + gap_length (is_some w.link) ≤ length (lent v.at after)
    end_room = omega (arith, whole_fits, t.kept, length-take-le (length after - v.at) (drop v.at after) (omega (arith, length-drop v.at after)))

    pub end_length : (zs : List ℕ) → length zs ≡ length (lent v.at after) → length (back v.at after zs) ≡ length o
    end_length zs e = part_length v.at after (length after - v.at) (omega (arith, at_within)) zs e ∙ t.kept

    written_is : (zs : List ℕ) → zs ≡ front (page_end_bytes (link_held w.link)) (lent v.at after)
        → back v.at after zs ≡ front (table (spelt page)) o
    written_is zs ez =
        let b = t.begun in
        let gap = done b t.fine in
        let f = record_in s u row in
        let es = entries_at n f z.first hi in
        let S = page_start_bytes z.count in
        let B = entries_bytes [] es in
        let E = page_end_bytes (link_to (gap_at s u row lo z.first n)) in
        let L = table_in (gap_at s u row lo z.first n) in
        let T = tables_of [] es in
        let foot = end_is b t.fine in
        let sl : length S ≡ t.start = length_page_start z.count ∙ sym t.place in
        let zs-is : zs ≡ front E (lent v.at after) = ez ∙ rw gap.link in
        let end : back v.at after zs ≡ overwritten v.at E after =
        ap (λ (q : List ℕ). take v.at after ++ (q ++ drop (length after - v.at) (drop v.at after))) zs-is
        ∙ over_part v.at after at_within E (length after - v.at) (omega (arith, whole_fits, foot, t.kept)) (omega (arith, at_within)) in
        let x-is : t.x ≡ overwritten 0 S (overwritten z.own L o) = t.is ∙ over_front S (back z.own o ys) ∙ ap (overwritten 0 S) (first_is b t.fine) in
        let all : parts S B E L T o z.own ≡ front (((S ++ B) ++ E) ++ (L ++ T)) o =
        either n (λ q. parts_leaf S B E L T o z.own (leaf_gap n _ q) (leaf_tables n f z.first hi q) b.room (omega (arith, sl, t.place, own_least b t.fine)))
        (λ q. parts_inner S B E L T o z.own (omega (arith, b.sized.inner q, ends_are b t.fine, foot, sl, t.place)) (omega (arith, b.sized.inner q, ends_are b t.fine, foot, page_size b, total b, table_fits))) in
        let whole : table (spelt page) ≡ ((S ++ B) ++ E) ++ (L ++ T) = table_is n f lo hi z.first (parted b) ∙ rw (bytes_is b) in
        end
        ∙ rw (laid_is.ends, laid_is.wrote, x-is) (rw (sl, ← gap.size) at all)
        ∙ ap (λ (q : List ℕ). front q o) (sym whole)

    pub finishes : (zs : List ℕ) → zs ≡ front (page_end_bytes (link_held w.link)) (lent v.at after) → (len : ℕ) → len ≡ 2 + gap_length (is_some w.link)
        → Written page o (back v.at after zs) (Some (record { len = v.at + len + w.len + v.below; own = v.at + len; first = z.first }))
    finishes zs ez len el = record {
      room = sym (le-leb (length (table (spelt page))) (length o) table_fits);
      done = record { wrote = written_is zs ez; size = omega (arith, whole_is); first = omega (arith, page_is) };
    }
