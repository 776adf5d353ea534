-- The first register's labels are taken in part by part.
use Prim.Native.Nat.{ℕ, zero, suc, ◌+◌, ◌*◌, ◌≤◌, ◌<◌}
use mathlib.Core.Path.{◌≡◌, refl, sym, ap, ◌∙◌}
use Rattle.std.specs.Prelude.{Option, None, Some, is_some, unwrap_or}
use mathlib.Core.Bool.{Bool, true, false, cond, not, ◌||◌, false≢true}
use mathlib.Core.List.{List, [], ◌∷◌, ◌++◌}
use native.Mathlib.Omega.{arith}
use lib.ListN.{length, take, drop, get_or, take-append-drop}
use lib.Seq.{take_all}
use borrow.Author.Tests.{not-true, not-false}
use Rattle.bytestring.specs.Bytes.{Bytes, equal}
use Rattle.fips180.specs.Hash.{sha256}
use Rattle.tree.specs.Table.{SpeltTree, bytes_of_page}
use Rattle.tree.specs.Judge.{accepted, judge}
use Rattle.tree.proofs.Accept.{accepted_table, one_tree}
use Rattle.index.specs.Accepted.{ChainRow}
use Rattle.index.specs.Chain.{Chain, chains, no_chain}
use Rattle.promises.specs.Pages.{known}
use Rattle.known.specs.Rows.{Chained, SomeChains, labels_of, label_count}
use Rattle.known.specs.Known.{is_among, Tabled, digests_in, Filled, IsKnown, labels_before}
use Rattle.opened.specs.Visits.{none_among, MarksAt}
use Rattle.opened.specs.Passing.{Marked, Lowered, TookPart, AllMarked}
use Rattle.known.proofs.ChainRows.{accepted_filled, row_chained}
use Rattle.known.proofs.Labels.{row_labels}
use Rattle.known.proofs.Filling.{labels_append}
use Rattle.opened.proofs.Digests.{among_append}
use Rattle.opened.proofs.Visits.{root_spans}

-- ---- the chains of a register that is accepted
pub row_chains : (s row : List ℕ) (n : ℕ) → Bytes s → (w : ChainRow s row n) → Chained s row n (chains 0 0 [] w.tree)
unfolding known is_among
row_chains s row n bytes w =
    row_chained s row n bytes w
    (root_spans [] [] (λ p. refl) w.tree (accepted_table s bytes w.tree w.judged).digests (accepted_filled s bytes w.tree w.judged)).1.nested

pub some_chains : (s row : List ℕ) (n : ℕ) → Bytes s → ChainRow s row n → SomeChains s row n
some_chains s row n bytes w = record { list = chains 0 0 [] w.tree; chained = row_chains s row n bytes w }

-- ---- one part
pub filled_table : {s known heads words : List ℕ} {n start next : ℕ} → Filled s known n start heads words next → Tabled s heads words
filled_table f = record { count = f.count; linked = f.linked }

module _ (s known : List ℕ) (n start : ℕ) (root u row : List ℕ) (m : ℕ) (top marks marks' heads words : List ℕ) (next : ℕ) (found : Bool)
    (f : Filled s known n start heads words next) (l : Lowered s heads words root u row m marks marks') (k : IsKnown s heads words root top found) where
  pub part_taken : (r : Option ℕ) → r ≡ cond found None (Some next) → TookPart s known n start root u row m top marks marks' r
  part_taken r e = record {
    next = next;
    ahead = f.ahead;
    most = f.most;
    onward = f.onward;
    part = digests_in s (take f.count words);
    labels = f.digests;
    lowered = λ ds cs x h. l ds cs x h f.count f.linked;
    answer = e ∙ ap (λ (b : Bool). cond b None (Some next)) (k f.count f.linked);
  }

-- what is answered
part_next : (known : Bool) (n k : ℕ) (r : Option ℕ) → r ≡ cond known None (Some n) → r ≡ Some k → (k ≡ n) × (true ≡ not known)
part_next true n k r e f = absurd (false≢true (ap is_some (sym e ∙ f)))
part_next false n k r e f = (ap (λ (o : Option ℕ). unwrap_or o 0) (sym f ∙ e), refl)

part_known : (known : Bool) (n : ℕ) (r : Option ℕ) → r ≡ cond known None (Some n) → r ≡ None → false ≡ not known
part_known true n r e f = refl
part_known false n r e f = absurd (false≢true (ap is_some (sym f ∙ e)))

-- ---- marks by the same tests
module _ (ds es : List (List ℕ)) (same : (d : List ℕ) → is_among ds d ≡ is_among es d) where
  before_same : (labels : List (List ℕ)) → labels_before ds labels ≡ labels_before es labels
  unfolding labels_before
  before_same [] = refl
  before_same (d ∷ labels) = rw (same d, before_same labels)

  none_same : (labels : List (List ℕ)) → none_among ds labels ≡ none_among es labels
  unfolding none_among
  none_same [] = refl
  none_same (d ∷ labels) = rw (same d, none_same labels)

  marks_same : (marks : List ℕ) (i k : ℕ) (cs : List Chain) → MarksAt ds marks i k cs → MarksAt es marks i k cs
  unfolding MarksAt
  marks_same marks i k [] h = tt
  marks_same marks i (suc k) (c ∷ cs) h = marks_same marks (suc i) k cs h
  marks_same marks i zero (c ∷ cs) h =
      (h.0 ∙ before_same c.labels, marks_same marks (suc i) (cond (none_among es c.labels) 0 c.below) cs (rw (none_same c.labels) at h.1))

-- ---- at first
begun_from : (marks : List ℕ) (i : ℕ) (cs : List Chain) → ((j : ℕ) → j < length cs → get_or marks (i + j) 0 ≡ length (get_or cs j no_chain).labels) → MarksAt [] marks i 0 cs
unfolding MarksAt labels_before none_among is_among
begun_from marks i [] f = tt
begun_from marks i (c ∷ cs) f =
    let none = none_known_lem c.labels in
    let e : i + 0 ≡ i = omega arith in (
      sym (ap (λ (j : ℕ). get_or marks j 0) e) ∙ f 0 (omega arith) ∙ sym (all_before c.labels),
      rw none (begun_from marks (suc i) cs (λ j h. let q : suc i + j ≡ i + suc j = omega arith in rw q (f (suc j) (omega arith)))),
    )
  where
    none_known_lem : (labels : List (List ℕ)) → none_among [] labels ≡ true
    none_known_lem [] = refl
    none_known_lem (d ∷ labels) = none_known_lem labels

    all_before : (labels : List (List ℕ)) → labels_before [] labels ≡ length labels
    all_before [] = refl
    all_before (d ∷ labels) = ap suc (all_before labels)

pub begun : (u row : List ℕ) (m : ℕ) (marks : List ℕ) (cs : List Chain) → Chained u row m cs → ((i : ℕ) → i < m → get_or marks i 0 ≡ label_count (get_or row (2 * i) 0)) → MarksAt [] marks 0 0 cs
begun u row m marks cs x f =
    begun_from marks 0 cs (λ j h.
    let e : 0 + j ≡ j = omega arith in
    let l : j < m = omega (arith, x.size) in
    rw e (f j l ∙ (row_labels u row m j l cs x).count))

pub some_marks : (u row : List ℕ) (m : ℕ) (marks : List ℕ) → Bytes u → ChainRow u row m → ((i : ℕ) → i < m → get_or marks i 0 ≡ label_count (get_or row (2 * i) 0)) → Marked u row m marks
some_marks u row m marks bytes w f =
    let x = row_chains u row m bytes w in
    record { digests = []; list = chains 0 0 [] w.tree; chained = x; marked = begun u row m marks (chains 0 0 [] w.tree) x f }

-- ---- part by part
module _ (s known : List ℕ) (n : ℕ) (u row : List ℕ) (m : ℕ) (root top : List ℕ) where
  -- the labels of the chains before the one numbered `done` were taken in
  abbrev pub TakenTo : List ℕ → ℕ → Bool → Type 0
  TakenTo marks done opens =
      (cs ds : List Chain) → Chained s known n cs → Chained u row m ds
      → MarksAt (root ∷ labels_of (take done cs)) marks 0 0 ds × (opens ≡ not (is_among (root ∷ labels_of (take done cs)) top))

  pub first_taken : (marks marks' : List ℕ) (p : Option ℕ) → ((i : ℕ) → i < m → get_or marks i 0 ≡ label_count (get_or row (2 * i) 0))
      → (w : TookPart s known n 0 root u row m top marks marks' p) (opens : Bool) → opens ≡ not (is_among (root ∷ w.part) top) → TakenTo marks' w.next opens
  unfolding labels_of
  first_taken marks marks' p f w opens is cs ds x y =
      rw (← w.labels cs x) (w.lowered [] ds y (begun u row m marks ds y f), is)

  pub next_taken : (marks marks' : List ℕ) (done : ℕ) (p : Option ℕ) → TakenTo marks done true
      → (w : TookPart s known n done root u row m top marks marks' p) (opens : Bool) → opens ≡ not (is_among (root ∷ w.part) top) → TakenTo marks' w.next opens
  unfolding is_among
  next_taken marks marks' done p so_far w opens is cs ds x y =
      let (h, o) = so_far cs ds x y in
      let old : List (List ℕ) = labels_of (take done cs) in
      let not_yet : is_among (root ∷ old) top ≡ false = not-true (is_among (root ∷ old) top) (sym o) in
      rw (← w.labels cs x) (
        marks_same ((root ∷ old) ++ (root ∷ w.part)) (root ∷ (old ++ w.part)) (λ d.
            rw (among_append (root ∷ old) (root ∷ w.part) d, among_append old w.part d) (twice (equal root d) (is_among old d) (is_among w.part d))) marks' 0 0 ds
            (w.lowered (root ∷ old) ds y h),
        is ∙ rw (among_append old w.part top) (ap not (only_new (equal root top) (is_among old top) (is_among w.part top) not_yet)),
      )
    where
      twice : (a b c : Bool) → ((a || b) || (a || c)) ≡ (a || (b || c))
      twice true b c = refl
      twice false b c = refl

      only_new : (a b c : Bool) → (a || b) ≡ false → (a || c) ≡ (a || (b || c))
      only_new true b c e = refl
      only_new false true c e = let z : ◌≡◌ {A = ℕ} 0 1 = cc in absurd (omega arith)
      only_new false false c e = refl

  module _ (marks marks' : List ℕ) (p : Option ℕ) (f : (i : ℕ) → i < m → get_or marks i 0 ≡ label_count (get_or row (2 * i) 0)) (w : TookPart s known n 0 root u row m top marks marks' p) where
    pub first_goes_on : (k : ℕ) → p ≡ Some k → (k ≤ n) × TakenTo marks' k true
    first_goes_on k e =
        let a = part_next (is_among (root ∷ w.part) top) w.next k p w.answer e in
        rw a.0 (w.most, first_taken marks marks' p f w true a.1)

    pub first_known : p ≡ None → TakenTo marks' w.next false
    first_known e = first_taken marks marks' p f w false (part_known (is_among (root ∷ w.part) top) w.next p w.answer e)

  module _ (marks marks' : List ℕ) (done : ℕ) (p : Option ℕ) (so_far : TakenTo marks done true) (w : TookPart s known n done root u row m top marks marks' p) where
    pub next_goes_on : (k : ℕ) → p ≡ Some k → (k ≤ n) × (done < n → done < k) × TakenTo marks' k true
    next_goes_on k e =
        let a = part_next (is_among (root ∷ w.part) top) w.next k p w.answer e in
        rw a.0 (w.most, w.onward, next_taken marks marks' done p so_far w true a.1)

    pub next_known : p ≡ None → TakenTo marks' w.next false
    next_known e = next_taken marks marks' done p so_far w false (part_known (is_among (root ∷ w.part) top) w.next p w.answer e)

  pub later_marks : (marks : List ℕ) (done : ℕ) (opens : Bool) → TakenTo marks done opens → Bytes s → Bytes u → ChainRow s known n → ChainRow u row m → Marked u row m marks
  later_marks marks done opens so_far bytes others w x =
      let cs : List Chain = chains 0 0 [] w.tree in
      let ds : List Chain = chains 0 0 [] x.tree in
      let y = row_chains u row m others x in
      record { digests = root ∷ labels_of (take done cs); list = ds; chained = y; marked = (so_far cs ds (row_chains s known n bytes w) y).0 }

  module _ (marks : List ℕ) (done : ℕ) (opens : Bool) (so_far : TakenTo marks done opens) (w : ChainRow s known n) (x : ChainRow u row m) (bytes : Bytes s) (others : Bytes u)
      (roots : (t : SpeltTree) → judge s ≡ accepted t → root ≡ sha256 (bytes_of_page t)) (tops : (v : SpeltTree) → judge u ≡ accepted v → top ≡ sha256 (bytes_of_page v)) where
    taken : (t v : SpeltTree) → judge s ≡ accepted t → judge u ≡ accepted v
        → MarksAt (root ∷ labels_of (take done (chains 0 0 [] t))) marks 0 0 (chains 0 0 [] v) × (opens ≡ not (is_among (root ∷ labels_of (take done (chains 0 0 [] t))) top))
        × (length (chains 0 0 [] t) ≡ n)
    taken t v h k =
        let y = row_chains s known n bytes w in
        let z = row_chains u row m others x in
        let both = so_far (chains 0 0 [] w.tree) (chains 0 0 [] x.tree) y z in
        rw (← one_tree s w.judged h, ← one_tree u x.judged k) (both.0, both.1, y.size)

    pub all_taken : n ≤ done → (t v : SpeltTree) → judge s ≡ accepted t → judge u ≡ accepted v → AllMarked t v marks opens
    all_taken l t v h k =
        let (marked, o, size) = taken t v h k in
        let e : take done (chains 0 0 [] t) ≡ chains 0 0 [] t = take_all done (chains 0 0 [] t) (omega (arith, size)) in
        record {
          is_open = rw (e, roots t h, tops v k) at o;
          marks = λ z. rw (e, roots t h) at marked;
        }

    -- the second's root is known already
    pub stopped : not opens ≡ true → (t v : SpeltTree) → judge s ≡ accepted t → judge u ≡ accepted v → AllMarked t v marks false
    unfolding is_among
    stopped closed t v h k =
        let (marked, o, size) = taken t v h k in
        let cs : List Chain = chains 0 0 [] t in
        let old : List (List ℕ) = labels_of (take done cs) in
        let is_known : is_among (root ∷ old) top ≡ true = not-false (is_among (root ∷ old) top) (sym o ∙ not-true opens closed) in
        let all : labels_of cs ≡ old ++ labels_of (drop done cs) = ap labels_of (sym (take-append-drop done cs)) ∙ labels_append (take done cs) (drop done cs) in
        record {
          is_open = rw (← roots t h, ← tops v k, all, among_append old (labels_of (drop done cs)) top) (sym (ap not (still (equal root top) (is_among old top) (is_among (labels_of (drop done cs)) top) is_known)));
          marks = λ z. let y : ◌≡◌ {A = ℕ} 0 1 = cc in absurd (omega arith);
        }
      where
        still : (a b c : Bool) → (a || b) ≡ true → (a || (b || c)) ≡ true
        still true b c e = refl
        still false true c e = refl
        still false false c e = let z : ◌≡◌ {A = ℕ} 0 1 = cc in absurd (omega arith)
