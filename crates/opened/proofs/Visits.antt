-- The visited chains of a tree give the flags of its records and the number of its opened pages.
use Prim.Native.Nat.{ℕ, zero, suc, ◌+◌, ◌-◌, ◌≤◌}
use mathlib.Core.Path.{◌≡◌, refl, sym, ap, ◌∙◌}
use mathlib.Core.Bool.{Bool, true, false, cond, not, ◌&&◌, and_assoc}
use mathlib.Core.List.{List, [], ◌∷◌, ◌++◌, append_assoc, append-nil}
use native.Mathlib.Omega.{arith}
use lib.ListN.{length, drop, replicate, length-append, length-replicate, replicate-append-replicate}
use lib.Seq.{take-append-le, take-length}
use borrow.Author.Tests.{not-true}
use borrow.Table.Steps.{cases}
use Rattle.bytestring.proofs.Equal.{equal_true}
use Rattle.bytestring.specs.Bytes.{equal}
use Rattle.bytestring.proofs.Tools.{and_inv}
use Rattle.fips180.specs.Hash.{sha256}
use Rattle.tree.specs.Tree.{page, Gap, empty, under, Entries, end, entry, items, items_under, items_from}
use Rattle.tree.specs.Record.{Spelt, records}
use Rattle.tree.specs.Table.{SpeltTree, bytes_of_page, table_under}
use Rattle.tree.specs.Judge.{digests_right, digests_right_under, digests_right_from}
use Rattle.tree.proofs.Laws.{no_link}
use Rattle.index.specs.Slot.{bare, filled, filled_under, filled_from}
use Rattle.index.specs.Chain.{Chain, chains, chains_under, chains_from, labels_on, chain_if}
use Rattle.promises.specs.Pages.{known}
use Rattle.known.specs.Known.{is_among, labels_before}
use Rattle.known.specs.Rows.{Inside, Nested}
use Rattle.opened.specs.Visits.{none_among, visited, open_in, kept, Ordered}
use Rattle.opened.specs.Passing.{flags, flags_under, flags_from, open_pages, open_pages_under, open_pages_from}
use Rattle.opened.proofs.OpenFlags.{flags_length, closed_pages}

pub has_entry : (g : Gap Spelt (List ℕ)) (e : Spelt) (h : Gap Spelt (List ℕ)) (es : Entries Spelt (List ℕ)) → bare (page g (entry e h es)) ≡ false
unfolding bare
has_entry empty e h es = refl
has_entry (under d p) e h es = refl

-- ---- chains below chains
inside_append : (xs ys : List Chain) → Inside xs → Inside ys → Inside (xs ++ ys)
unfolding Inside
inside_append [] ys h k = k
inside_append (c ∷ xs) ys h k = (omega (arith, h.0, length-append xs ys), inside_append xs ys h.1 k)

pub nested_inside : (cs : List Chain) → Nested cs → Inside cs
unfolding Inside Nested
nested_inside [] h = tt
nested_inside (c ∷ cs) h = (h.0, nested_inside cs h.2)

nested_append : (xs ys : List Chain) → Nested xs → Nested ys → Nested (xs ++ ys)
unfolding Nested
nested_append [] ys h k = k
nested_append (c ∷ xs) ys h k =
    (omega (arith, h.0, length-append xs ys), rw (take-append-le c.below xs ys h.0) h.1, nested_append xs ys h.2 k)

nested_top : (c : Chain) (cs : List Chain) → c.below ≡ length cs → Nested cs → Nested (c ∷ cs)
unfolding Nested
nested_top c cs e h = (omega arith, rw (e, take-length cs) (nested_inside cs h), h)

-- ---- lists of flags
trues : (a b c : ℕ) → a ≤ b → b ≤ c → replicate (c - a) true ≡ replicate (b - a) true ++ replicate (c - b) true
trues a b c h k =
    let e : c - a ≡ (b - a) + (c - b) = omega arith in
    rw e (sym (replicate-append-replicate (b - a) (c - b) true))

module _ (digests : List (List ℕ)) where
  -- ---- the chains that are visited
  pub visited_skip : (k : ℕ) (cs : List Chain) → visited digests k cs ≡ visited digests 0 (drop k cs)
  unfolding visited
  visited_skip zero [] = refl
  visited_skip zero (c ∷ cs) = refl
  visited_skip (suc k) [] = refl
  visited_skip (suc k) (c ∷ cs) = visited_skip k cs

  skipped : (b : Bool) (k n : ℕ) → k ≤ n → cond b 0 k ≤ n
  skipped true k n h = omega arith
  skipped false k n h = h

  visited_append : (k : ℕ) (xs ys : List Chain) → Inside xs → k ≤ length xs → visited digests k (xs ++ ys) ≡ visited digests k xs ++ visited digests 0 ys
  unfolding visited Inside
  visited_append zero [] ys h l = refl
  visited_append (suc k) [] ys h l = absurd (omega arith)
  visited_append (suc k) (c ∷ xs) ys h l = visited_append k xs ys h.1 (omega arith)
  visited_append zero (c ∷ xs) ys h l =
      ap (λ (v : List Chain). c ∷ v)
      (visited_append (cond (none_among digests c.labels) 0 c.below) xs ys h.1 (skipped (none_among digests c.labels) c.below (length xs) h.0))

  visited_past : (k : ℕ) (cs : List Chain) → length cs ≤ k → visited digests k cs ≡ []
  unfolding visited
  visited_past k [] h = refl
  visited_past zero (c ∷ cs) h = absurd (omega arith)
  visited_past (suc k) (c ∷ cs) h = visited_past k cs (omega arith)

  -- ---- what is left out stands in order
  pub ordered_le : (p e : ℕ) (cs : List Chain) → Ordered digests p e cs → p ≤ e
  unfolding Ordered
  ordered_le p e [] h = h
  ordered_le p e (c ∷ cs) h =
      cases (none_among digests c.labels)
      (λ q. ordered_le p e cs (rw q at h.1))
      (λ q. omega (arith, h.0 q, ordered_le (c.from + c.records) e cs (rw q at h.1)))

  ordered_sooner : (p q e : ℕ) (cs : List Chain) → p ≤ q → Ordered digests q e cs → Ordered digests p e cs
  unfolding Ordered
  ordered_sooner p q e [] l h = omega arith
  ordered_sooner p q e (c ∷ cs) l h =
      cases (none_among digests c.labels)
      (λ z. (λ y. omega (arith, h.0 y), rw z (ordered_sooner p q e cs l (rw z at h.1))))
      (λ z. (λ y. omega (arith, h.0 y), rw z (rw z at h.1)))

  kept_sooner : (p q e : ℕ) (cs : List Chain) → p ≤ q → Ordered digests q e cs → kept digests p e cs ≡ replicate (q - p) true ++ kept digests q e cs
  unfolding kept Ordered
  kept_sooner p q e [] l h = trues p q e l h
  kept_sooner p q e (c ∷ cs) l h =
      cases (none_among digests c.labels)
      (λ z. rw z (kept_sooner p q e cs l (rw z at h.1)))
      (λ z.
      let more : List Bool = replicate c.records false ++ kept digests (c.from + c.records) e cs in
      rw (z, trues p q c.from l (h.0 z)) (append_assoc (replicate (q - p) true) (replicate (c.from - q) true) more))

  ordered_append : (p q e : ℕ) (xs ys : List Chain) → Ordered digests p q xs → Ordered digests q e ys → Ordered digests p e (xs ++ ys)
  unfolding Ordered
  ordered_append p q e [] ys h k = ordered_sooner p q e ys h k
  ordered_append p q e (c ∷ xs) ys h k =
      (h.0, ordered_append (cond (none_among digests c.labels) p (c.from + c.records)) q e xs ys h.1 k)

  kept_append : (p q e : ℕ) (xs ys : List Chain) → Ordered digests p q xs → Ordered digests q e ys
      → kept digests p e (xs ++ ys) ≡ kept digests p q xs ++ kept digests q e ys
  unfolding kept Ordered
  kept_append p q e [] ys h k = kept_sooner p q e ys h k
  kept_append p q e (c ∷ xs) ys h k =
      cases (none_among digests c.labels)
      (λ z. rw z (kept_append p q e xs ys (rw z at h.1) k))
      (λ z.
      let r : ℕ = c.from + c.records in
      rw (z, kept_append r q e xs ys (rw z at h.1) k) (simp append_assoc))

  open_append : (xs ys : List Chain) → open_in digests (xs ++ ys) ≡ open_in digests xs + open_in digests ys
  unfolding open_in
  open_append [] ys = omega arith
  open_append (c ∷ xs) ys = omega (arith, open_append xs ys)

  -- ---- labels
  pub before_none : (labels : List (List ℕ)) → none_among digests labels ≡ true → labels_before digests labels ≡ length labels
  unfolding labels_before none_among
  before_none [] h = refl
  before_none (d ∷ labels) h =
      cases (is_among digests d)
      (λ z. let n : ◌≡◌ {A = ℕ} 0 1 = cc in absurd (omega arith))
      (λ z. rw z (ap suc (before_none labels (rw z at h))))

  none_more : (labels : List (List ℕ)) (d : List ℕ) → none_among digests (labels ++ (d ∷ [])) ≡ (none_among digests labels && not (is_among digests d))
  unfolding none_among
  none_more [] d = cases (is_among digests d) (λ z. rw z) (λ z. rw z)
  none_more (x ∷ labels) d = rw (none_more labels d) (sym (and_assoc (not (is_among digests x)) (none_among digests labels) (not (is_among digests d))))

  before_more : (labels : List (List ℕ)) (d : List ℕ)
      → labels_before digests (labels ++ (d ∷ [])) ≡ labels_before digests labels + cond (none_among digests labels && not (is_among digests d)) 1 0
  unfolding labels_before none_among
  before_more [] d = cases (is_among digests d) (λ z. rw z) (λ z. rw z)
  before_more (x ∷ labels) d =
      cases (is_among digests x)
      (λ z. rw z)
      (λ z. let r = before_more labels d in rw z (omega (arith, r)))

-- ---- a stretch of a tree
-- The chains cs are those of the records from the p-th to the q-th: these are their flags, and so many pages of them are opened.
pub record Spans (digests : List (List ℕ)) (p q : ℕ) (cs : List Chain) (bs : List Bool) (k : ℕ) : Type 0 where
  pub nested : Nested cs
  pub ordered : Ordered digests p q (visited digests 0 cs)
  pub flags : bs ≡ kept digests p q (visited digests 0 cs)
  pub opened : open_in digests (visited digests 0 cs) ≡ k

module _ (digests : List (List ℕ)) where
  retell : {p q r : ℕ} {cs : List Chain} {fs bs : List Bool} {k m : ℕ} → q ≡ r → fs ≡ bs → k ≡ m → Spans digests p q cs fs k → Spans digests p r cs bs m
  retell e f g s = rw (← e, ← f, ← g) s

  spans_none : (p : ℕ) → Spans digests p (p + 0) [] [] 0
  unfolding Nested visited Ordered kept open_in
  spans_none p = record { nested = tt; ordered = omega arith; flags = let e : p + 0 - p ≡ 0 = omega arith in rw e; opened = refl }

  spans_append : {p q r : ℕ} {xs ys : List Chain} {fs bs : List Bool} {k m : ℕ} → Spans digests p q xs fs k → Spans digests q r ys bs m
      → Spans digests p r (xs ++ ys) (fs ++ bs) (k + m)
  spans_append {p} {q} {r} {xs} {ys} s t =
      let e = visited_append digests 0 xs ys (nested_inside xs s.nested) (omega arith) in
      let vs : List Chain = visited digests 0 xs in
      let ws : List Chain = visited digests 0 ys in
      record {
        nested = nested_append xs ys s.nested t.nested;
        ordered = rw e (ordered_append digests p q r vs ws s.ordered t.ordered);
        flags = rw (e, kept_append digests p q r vs ws s.ordered t.ordered, ← s.flags, ← t.flags);
        opened = rw (e, open_append digests vs ws, s.opened, t.opened);
      }

  -- an entry before the stretch is kept
  spans_after : {p q : ℕ} {cs : List Chain} {bs : List Bool} {k : ℕ} → Spans digests (p + 1) q cs bs k → Spans digests p q cs (true ∷ bs) k
  spans_after {p} {q} {cs} s =
      let vs : List Chain = visited digests 0 cs in
      let e : p + 1 - p ≡ 1 = omega arith in
      record {
        nested = s.nested;
        ordered = ordered_sooner digests p (p + 1) q vs (omega arith) s.ordered;
        flags = sym (kept_sooner digests p (p + 1) q vs (omega arith) s.ordered ∙ rw (e, ← s.flags));
        opened = s.opened;
      }

  -- a chain with no label among the digests, or with one
  spans_open : {q : ℕ} {bs : List Bool} {k : ℕ} (c : Chain) (cs : List Chain) → c.below ≡ length cs → none_among digests c.labels ≡ true
      → Spans digests c.from q cs bs k → Spans digests c.from q (c ∷ cs) bs (labels_before digests c.labels + k)
  unfolding visited Ordered kept open_in
  spans_open c cs b h s = record {
    nested = nested_top c cs b s.nested;
    ordered = rw h (λ z. omega arith, s.ordered);
    flags = rw h s.flags;
    opened = rw (h, s.opened);
  }

  spans_closed : (c : Chain) (cs : List Chain) → c.below ≡ length cs → none_among digests c.labels ≡ false → Nested cs
      → Spans digests c.from (c.from + c.records) (c ∷ cs) (replicate c.records false) (labels_before digests c.labels)
  unfolding visited Ordered kept open_in
  spans_closed c cs b h n =
      let none : visited digests c.below cs ≡ [] = visited_past digests c.below cs (omega arith) in
      let z : c.from - c.from ≡ 0 = omega arith in
      let y : c.from + c.records - (c.from + c.records) ≡ 0 = omega arith in
      record {
        nested = nested_top c cs b n;
        ordered = rw (h, none) (λ w. omega arith, omega arith);
        flags = rw (h, none, z, y) (sym (append-nil (replicate c.records false)));
        opened = rw (h, none) (omega arith);
      }

-- ---- the stretch of a tree
module _ (first digests : List (List ℕ)) (same : (p : List ℕ) → known first p ≡ is_among digests (sha256 p)) where
  -- below a page that is not opened no record is kept
  mutual
    unfolding flags items

    falses : (t : SpeltTree) → flags first false t ≡ replicate (length (items t)) false
    falses (page g es) =
        rw (falses_under g, falses_from es, length-append (items_under g) (items_from es)) (replicate-append-replicate (length (items_under g)) (length (items_from es)) false)

    falses_under : (g : Gap Spelt (List ℕ)) → flags_under first false g ≡ replicate (length (items_under g)) false
    falses_under empty = refl
    falses_under (under d p) = falses p

    falses_from : (es : Entries Spelt (List ℕ)) → flags_from first false es ≡ replicate (length (items_from es)) false
    falses_from end = refl
    falses_from (entry e g es) =
        rw (falses_under g, falses_from es, length-append (items_under g) (items_from es))
        (ap (λ (l : List Bool). false ∷ l) (replicate-append-replicate (length (items_under g)) (length (items_from es)) false))

  -- the opened pages below a page that is opened
  unfoldable open_below : SpeltTree → ℕ
  open_below (page g es) = open_pages_under first true g + open_pages_from first true es

  page_opened : (t : SpeltTree) → open_pages first true t ≡ 1 + open_below t
  unfolding open_pages open_below
  page_opened (page g es) = refl

  abbrev is_open : List (List ℕ) → Bool
  is_open labels = none_among digests labels

  abbrev TreeSpans : ℕ → ℕ → List (List ℕ) → SpeltTree → Type 0
  TreeSpans from at labels t =
      Spans digests from (from + length (items t)) (chains from at labels t) (flags first (is_open labels) t)
      (cond (bare t) 0 (labels_before digests labels) + cond (is_open labels) (open_below t) 0)

  abbrev GapSpans : ℕ → ℕ → List (List ℕ) → Gap Spelt (List ℕ) → Type 0
  GapSpans from at labels g =
      Spans digests from (from + length (items_under g)) (chains_under from at labels g) (flags_under first (is_open labels) g)
      (cond (no_link g) 0 (labels_before digests labels) + cond (is_open labels) (open_pages_under first true g) 0)

  abbrev RowSpans : ℕ → ℕ → Entries Spelt (List ℕ) → Type 0
  RowSpans from at es =
      Spans digests from (from + length (items_from es)) (chains_from from at es) (flags_from first true es) (open_pages_from first true es)

  -- a page that a link leads to
  gap_link : (from at : ℕ) (labels : List (List ℕ)) (d : List ℕ) (p : SpeltTree) → d ≡ sha256 (bytes_of_page p) → bare p ≡ false
      → TreeSpans from at (labels ++ (d ∷ [])) p → GapSpans from at labels (under d p)
  unfolding items chains flags open_pages no_link
  gap_link from at labels d p e h s =
      let k : known first (bytes_of_page p) ≡ is_among digests d = same (bytes_of_page p) ∙ rw e in
      let o : is_open (labels ++ (d ∷ [])) ≡ (is_open labels && not (known first (bytes_of_page p))) = none_more digests labels d ∙ rw k in
      let b = before_more digests labels d in
      retell digests refl (rw o)
      (rw (h, o, b, ← k)
      (cases (is_open labels)
      (λ z. cases (known first (bytes_of_page p))
      (λ y. rw (z, y, closed_pages first p) (omega arith))
      (λ y. rw (z, y, page_opened p) (omega arith)))
      (λ z. rw z (omega arith))))
      s

  -- the chains under a page's gaps
  below_page : (from at next : ℕ) (g : Gap Spelt (List ℕ)) (es : Entries Spelt (List ℕ)) → GapSpans from at [] g → RowSpans (from + length (items_under g)) next es
      → Spans digests from (from + length (items (page g es))) (chains_under from at [] g ++ chains_from (from + length (items_under g)) next es)
      (flags first true (page g es)) (open_below (page g es))
  unfolding items flags open_below none_among labels_before
  below_page from at next g es s t =
      retell digests (omega (arith, length-append (items_under g) (items_from es))) refl
      (cases (no_link g) (λ z. rw z (omega arith)) (λ z. rw z (omega arith)))
      (spans_append digests s t)

  page_spans : (from at : ℕ) (labels : List (List ℕ)) (g : Gap Spelt (List ℕ)) (es : Entries Spelt (List ℕ))
      → ((at : ℕ) (labels : List (List ℕ)) → GapSpans from at labels g) → ((at : ℕ) → RowSpans (from + length (items_under g)) at es) → TreeSpans from at labels (page g es)
  unfolding items chains labels_on chain_if flags open_pages open_below no_link bare
  page_spans from at labels empty end gap row =
      retell digests refl refl (cases (is_open labels) (λ z. rw z) (λ z. rw z)) (gap (at + length (bytes_of_page (page empty end))) labels)
  page_spans from at labels (under d p) end gap row =
      let start : ℕ = at + length (bytes_of_page (page (under d p) end)) in
      rw (append-nil (chains_under from start labels (under d p)))
      (retell digests (rw append-nil) (sym (append-nil (flags_under first (is_open labels) (under d p))))
      (cases (is_open labels) (λ z. rw z (omega arith)) (λ z. rw z (omega arith)))
      (gap start labels))
  page_spans from at labels g (entry e h es) gap row =
      let t : SpeltTree = page g (entry e h es) in
      let below : ℕ = at + length (bytes_of_page t) in
      let later : List Chain = chains_under from below [] g ++ chains_from (from + length (items_under g)) (below + length (table_under g)) (entry e h es) in
      let s = below_page from below (below + length (table_under g)) g (entry e h es) (gap below []) (row (below + length (table_under g))) in
      let c : Chain = record { labels = labels; page = at; here = t; from = from; records = length (items t); below = length later } in
      let has : bare t ≡ false = has_entry g e h es in
      cases (is_open labels)
      (λ z. retell digests refl (rw z) (rw (z, has)) (spans_open digests c later refl z s))
      (λ z. retell digests refl (rw z (sym (falses t))) (rw (z, has) (omega arith)) (spans_closed digests c later refl z s.nested))

  no_gap : (from at : ℕ) (labels : List (List ℕ)) → GapSpans from at labels empty
  unfolding items chains flags open_pages no_link
  no_gap from at labels = retell digests refl refl (cases (is_open labels) (λ z. rw z) (λ z. rw z)) (spans_none digests from)

  no_row : (from at : ℕ) → RowSpans from at end
  unfolding items chains flags open_pages
  no_row from at = spans_none digests from

  one_row : (from at : ℕ) (e : Spelt) (g : Gap Spelt (List ℕ)) (es : Entries Spelt (List ℕ)) → GapSpans (from + 1) at [] g
      → RowSpans (from + 1 + length (items_under g)) (at + length (table_under g)) es → RowSpans from at (entry e g es)
  unfolding items chains flags open_pages none_among labels_before
  one_row from at e g es s t =
      retell digests (omega (arith, length-append (items_under g) (items_from es))) refl
      (cases (no_link g) (λ z. rw z (omega arith)) (λ z. rw z (omega arith)))
      (spans_after digests (spans_append digests s t))

  mutual
    unfolding items chains flags open_pages digests_right filled

    tree_spans : (t : SpeltTree) (from at : ℕ) (labels : List (List ℕ)) → digests_right t ≡ true → filled t ≡ true → TreeSpans from at labels t
    tree_spans (page g es) from at labels r f =
        let k = and_inv (digests_right_under g) r in
        let m = and_inv (filled_under g) f in
        page_spans from at labels g es (λ at' ls. gap_spans g from at' ls k.0 m.0) (λ at'. row_spans es (from + length (items_under g)) at' k.1 m.1)

    gap_spans : (g : Gap Spelt (List ℕ)) (from at : ℕ) (labels : List (List ℕ)) → digests_right_under g ≡ true → filled_under g ≡ true → GapSpans from at labels g
    gap_spans empty from at labels r f = no_gap from at labels
    gap_spans (under d p) from at labels r f =
        let k = and_inv (equal d (sha256 (bytes_of_page p))) r in
        let m = and_inv (not (bare p)) f in
        gap_link from at labels d p (equal_true d (sha256 (bytes_of_page p)) k.0) (not-true (bare p) m.0)
        (tree_spans p from at (labels ++ (d ∷ [])) k.1 m.1)

    row_spans : (es : Entries Spelt (List ℕ)) (from at : ℕ) → digests_right_from es ≡ true → filled_from es ≡ true → RowSpans from at es
    row_spans end from at r f = no_row from at
    row_spans (entry e g es) from at r f =
        let k = and_inv (digests_right_under g) r in
        let m = and_inv (filled_under g) f in
        one_row from at e g es (gap_spans g (from + 1) at [] k.0 m.0) (row_spans es (from + 1 + length (items_under g)) (at + length (table_under g)) k.1 m.1)

  -- the whole tree, whose root is opened
  pub root_spans : (t : SpeltTree) → digests_right t ≡ true → filled t ≡ true
      → (k : ℕ) × Spans digests 0 (length (records t)) (chains 0 0 [] t) (flags first true t) k × (1 + k ≡ open_pages first true t)
  unfolding none_among labels_before
  root_spans t r f =
      let size : length (items t) ≡ length (records t) =
      sym (length-replicate (length (items t)) false) ∙ sym (ap length (falses t)) ∙ flags_length first false t in
      let count : cond (bare t) 0 0 + open_below t ≡ open_below t = cases (bare t) (λ z. rw z (omega arith)) (λ z. rw z (omega arith)) in
      (open_below t, retell digests (omega arith) refl count (tree_spans t 0 0 [] r f), sym (page_opened t))
