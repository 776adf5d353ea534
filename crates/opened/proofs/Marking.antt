-- The marks of chains: how many labels stand before one that is known.
use Prim.Native.Nat.{ℕ, zero, suc, ◌+◌, ◌*◌, ◌≤◌, ◌<◌}
use mathlib.Core.Path.{◌≡◌, refl, sym, ◌∙◌}
use mathlib.Core.Bool.{true, false, cond, not}
use mathlib.Core.List.{List, [], ◌∷◌, ◌++◌}
use native.Mathlib.Omega.{arith}
use lib.ListN.{length, take, drop, get_or, set, drop_of_length-le}
use lib.Seq.{get_or-set_same, get_or-set_other, length-take-le, drop-cons, drop-drop}
use lib.Dec.{eqb, ltb}
use borrow.Author.Tests.{eqb-true, eqb-false, lt-ltb, le-ltb}
use borrow.Table.Steps.{cases}
use Rattle.bytestring.proofs.Tools.{and_inv}
use Rattle.word.specs.Word.{below_in}
use Rattle.index.specs.Chain.{Chain, no_chain}
use Rattle.known.specs.Rows.{Inside, Nested, Chained, SomeChains, label_count, LabelsStand}
use Rattle.known.specs.Known.{is_among, Linked, Tabled, digests_in, labels_before, OpenLabels}
use Rattle.opened.specs.Visits.{none_among, MarksAt}
use Rattle.opened.specs.Passing.{Marked, Lowered}
use Rattle.known.proofs.Labels.{row_labels}
use Rattle.opened.proofs.Digests.{among_append}
use Rattle.opened.proofs.Visits.{before_none}

-- ---- at first
pub begun_more : (f : ℕ → ℕ) (marks : List ℕ) (i v : ℕ) → i < length marks → v ≡ f i → ((j : ℕ) → j < i → get_or marks j 0 ≡ f j) → (j : ℕ) → j < i + 1 → get_or (set marks i v) j 0 ≡ f j
begun_more f marks i v l e g j h =
    cases (eqb j i)
    (λ z. rw (eqb-true j i z) (get_or-set_same marks i v 0 l ∙ e))
    (λ z. get_or-set_other marks i j v 0 (eqb-false j i z) ∙ g j (omega (arith, eqb-false j i z)))

-- ---- labels before a known one
pub before_le : (ds labels : List (List ℕ)) → labels_before ds labels ≤ length labels
unfolding labels_before
before_le ds [] = omega arith
before_le ds (d ∷ labels) = cases (is_among ds d) (λ z. rw z (omega arith)) (λ z. rw z (omega (arith, before_le ds labels)))

pub before_some : (ds labels : List (List ℕ)) → none_among ds labels ≡ false → labels_before ds labels < length labels
unfolding labels_before none_among
before_some ds [] h = let z : ◌≡◌ {A = ℕ} 0 1 = cc in absurd (omega arith)
before_some ds (d ∷ labels) h =
    cases (is_among ds d) (λ z. rw z (omega arith)) (λ z. rw z (omega (arith, before_some ds labels (rw z at h))))

pub closed_chain : (ds labels : List (List ℕ)) (k : ℕ) → cond (ltb (labels_before ds labels) (length labels)) k 0 ≡ cond (none_among ds labels) 0 k
closed_chain ds labels k =
    cases (none_among ds labels)
    (λ z. rw (z, le-ltb (labels_before ds labels) (length labels) (omega (arith, before_none ds labels z))))
    (λ z. rw (z, lt-ltb (labels_before ds labels) (length labels) (before_some ds labels z)))

-- more digests
before_both : (ds es labels : List (List ℕ)) → labels_before (ds ++ es) labels ≡ labels_before es (take (labels_before ds labels) labels)
unfolding labels_before
before_both ds es [] = refl
before_both ds es (d ∷ labels) =
    cases (is_among ds d)
    (λ z. rw (among_append ds es d, z))
    (λ z. rw (among_append ds es d, z, before_both ds es labels))

none_both : (ds es labels : List (List ℕ)) → none_among (ds ++ es) labels ≡ true → none_among ds labels ≡ true
unfolding none_among
none_both ds es [] h = refl
none_both ds es (d ∷ labels) h =
    cases (is_among ds d)
    (λ z. let e : false ≡ true = rw (among_append ds es d, z) at h in let y : ◌≡◌ {A = ℕ} 0 1 = cc in absurd (omega arith))
    (λ z. rw z (none_both ds es labels (and_inv (not (is_among (ds ++ es) d)) h).1))

-- ---- marks of visited chains
pub marks_agree : (ds : List (List ℕ)) (a b : List ℕ) (i k : ℕ) (cs : List Chain) → ((j : ℕ) → i ≤ j → get_or b j 0 ≡ get_or a j 0) → MarksAt ds a i k cs → MarksAt ds b i k cs
unfolding MarksAt
marks_agree ds a b i k [] f h = tt
marks_agree ds a b i (suc k) (c ∷ cs) f h = marks_agree ds a b (suc i) k cs (λ j l. f j (omega arith)) h
marks_agree ds a b i zero (c ∷ cs) f h =
    (f i (omega arith) ∙ h.0, marks_agree ds a b (suc i) (cond (none_among ds c.labels) 0 c.below) cs (λ j l. f j (omega arith)) h.1)

-- k chains are passed over
pub marks_back : (ds : List (List ℕ)) (marks : List ℕ) (i k : ℕ) (cs : List Chain) → MarksAt ds marks (i + k) 0 (drop k cs) → MarksAt ds marks i k cs
unfolding MarksAt
marks_back ds marks i zero cs h = let e : i + 0 ≡ i = omega arith in rw e at h
marks_back ds marks i (suc k) [] h = tt
marks_back ds marks i (suc k) (c ∷ cs) h = let e : i + suc k ≡ suc i + k = omega arith in marks_back ds marks (suc i) k cs (rw e at h)

pub marks_skip : (ds : List (List ℕ)) (marks : List ℕ) (i k : ℕ) (cs : List Chain) → MarksAt ds marks i k cs → MarksAt ds marks (i + k) 0 (drop k cs)
unfolding MarksAt
marks_skip ds marks i zero cs h = let e : i + 0 ≡ i = omega arith in rw e h
marks_skip ds marks i (suc k) [] h = tt
marks_skip ds marks i (suc k) (c ∷ cs) h = let e : i + suc k ≡ suc i + k = omega arith in rw e (marks_skip ds marks (suc i) k cs h)

-- so also where some of them are visited, if each of those has its own below it among them
pub marks_past : (ds : List (List ℕ)) (marks : List ℕ) (i j k : ℕ) (cs : List Chain) → j ≤ k → Inside (take k cs) → k ≤ length cs → MarksAt ds marks i j cs
    → MarksAt ds marks (i + k) 0 (drop k cs)
unfolding MarksAt Inside
marks_past ds marks i zero zero cs l n g h = let e : i + 0 ≡ i = omega arith in rw e h
marks_past ds marks i (suc j) zero cs l n g h = absurd (omega arith)
marks_past ds marks i j (suc k) [] l n g h = absurd (omega arith)
marks_past ds marks i (suc j) (suc k) (c ∷ cs) l n g h =
    let e : i + suc k ≡ suc i + k = omega arith in
    rw e (marks_past ds marks (suc i) j k cs (omega arith) n.1 (omega arith) h)
marks_past ds marks i zero (suc k) (c ∷ cs) l n g h =
    let e : i + suc k ≡ suc i + k = omega arith in
    let few : c.below ≤ k = omega (arith, n.0, length-take-le k cs (omega arith)) in
    rw e (marks_past ds marks (suc i) (cond (none_among ds c.labels) 0 c.below) k cs
    (cases (none_among ds c.labels) (λ z. rw z (omega arith)) (λ z. rw z few)) n.1 (omega arith) h.1)

nested_drop : (i : ℕ) (cs : List Chain) → Nested cs → Nested (drop i cs)
unfolding Nested
nested_drop zero cs h = h
nested_drop (suc i) [] h = tt
nested_drop (suc i) (c ∷ cs) h = nested_drop i cs h.2

-- ---- the marks are lowered, chain by chain
module _ (s heads words root u row : List ℕ) (m : ℕ) where
  abbrev more : ℕ → List (List ℕ)
  more count = root ∷ digests_in s (take count words)

  -- The chains from the i-th on still have their marks; where these are lowered too, all are.
  pub record LoweredTo (marks : List ℕ) (i : ℕ) (ds es : List (List ℕ)) (cs : List Chain) : Type 0 where
    pub left : MarksAt ds marks i 0 (drop i cs)
    pub done : (next : List ℕ) → ((j : ℕ) → j < i → get_or next j 0 ≡ get_or marks j 0) → MarksAt (ds ++ es) next i 0 (drop i cs) → MarksAt (ds ++ es) next 0 0 cs

  abbrev pub Lowering : List ℕ → List ℕ → ℕ → Type 0
  Lowering marks₀ marks i =
      (ds : List (List ℕ)) (cs : List Chain) → Chained u row m cs → MarksAt ds marks₀ 0 0 cs → (count : ℕ) → Linked s heads words count
      → LoweredTo marks i ds (root ∷ digests_in s (take count words)) cs

  pub none_lowered : (marks : List ℕ) → Lowering marks marks 0
  none_lowered marks ds cs x h count l = record { left = h; done = λ next f g. g }

  pub all_lowered : (marks₀ marks : List ℕ) (i : ℕ) → Lowering marks₀ marks i → m ≤ i → Lowered s heads words root u row m marks₀ marks
  unfolding MarksAt
  all_lowered marks₀ marks i so_far h ds cs x g count l =
      let e : drop i cs ≡ [] = drop_of_length-le cs {i = i} (omega (arith, x.size)) in
      (so_far ds cs x g count l).done marks (λ j k. refl) (rw e tt)

  module _ (marks₀ marks : List ℕ) (i : ℕ) (so_far : Lowering marks₀ marks i) (h : i < m) (ds : List (List ℕ)) (cs : List Chain) (x : Chained u row m cs)
      (begun : MarksAt ds marks₀ 0 0 cs) (count : ℕ) (l : Linked s heads words count) where
    abbrev chain : Chain
    chain = get_or cs i no_chain

    abbrev later : List Chain
    later = drop (suc i) cs

    at_chain : drop i cs ≡ chain ∷ later
    at_chain = drop-cons cs i no_chain (omega (arith, x.size))

    stands : LabelsStand u (get_or row (2 * i) 0) chain.labels
    stands = row_labels u row m i h cs x

    here : (get_or marks i 0 ≡ labels_before ds chain.labels) × MarksAt ds marks (suc i) (cond (none_among ds chain.labels) 0 chain.below) later
    unfolding MarksAt
    here = rw at_chain at (so_far ds cs x begun count l).left

    mark_fits : get_or marks i 0 ≤ label_count (get_or row (2 * i) 0)
    mark_fits = omega (arith, here.0, before_le ds chain.labels, stands.count)

    module _ (mark : ℕ) (known : OpenLabels s heads words root u (get_or row (2 * i) 0) (get_or marks i 0) mark) (passed : ℕ)
        (e : passed ≡ cond (ltb mark (label_count (get_or row (2 * i) 0))) (below_in (get_or row (2 * i + 1) 0)) 0) (room : i < length marks) where
      abbrev all : List (List ℕ)
      all = ds ++ more count

      mark_is : mark ≡ labels_before all chain.labels
      mark_is = known chain.labels stands count l ∙ rw here.0 (sym (before_both ds (more count) chain.labels))

      passed_is : passed ≡ cond (none_among all chain.labels) 0 chain.below
      passed_is = e ∙ rw (mark_is, stands.count, (x.words i h).below) (closed_chain all chain.labels chain.below)

      nested : Nested (chain ∷ later)
      nested = rw at_chain at (nested_drop i cs x.nested)

      within : (passed ≤ length later) × Inside (take passed later) × (cond (none_among ds chain.labels) 0 chain.below ≤ passed)
      unfolding Nested Inside
      within =
          rw passed_is (cases (none_among all chain.labels)
          (λ z. rw (z, none_both ds (more count) chain.labels z) (omega arith, tt, omega arith))
          (λ z. rw z (nested.0, nested.1, cases (none_among ds chain.labels) (λ y. rw y (omega arith)) (λ y. rw y (omega arith)))))

      abbrev marks' : List ℕ
      marks' = set marks i mark

      next_place : suc i + passed ≡ i + (1 + passed)
      next_place = omega arith

      rest : drop passed later ≡ drop (i + (1 + passed)) cs
      rest = drop-drop passed (suc i) cs ∙ rw next_place

      lowered_one : LoweredTo marks' (i + (1 + passed)) ds (more count) cs
      unfolding MarksAt
      lowered_one = record {
        left = rw (← next_place, ← drop-drop passed (suc i) cs)
            (marks_agree ds marks marks' (suc i + passed) 0 (drop passed later) (λ j k. get_or-set_other marks i j mark 0 (λ q. omega arith))
            (marks_past ds marks (suc i) (cond (none_among ds chain.labels) 0 chain.below) passed later within.2 within.1 within.0 here.1));
        done = λ next f g.
            (so_far ds cs x begun count l).done next (λ j k. f j (omega arith) ∙ get_or-set_other marks i j mark 0 (λ q. omega arith))
            (rw at_chain (
              f i (omega arith) ∙ get_or-set_same marks i mark 0 room ∙ mark_is,
              rw (← passed_is) (marks_back all next (suc i) passed later (rw (← next_place, ← drop-drop passed (suc i) cs) at g)),
            ));
      }

  pub one_lowered : (marks₀ marks : List ℕ) (i : ℕ) → Lowering marks₀ marks i → i < m → (mark : ℕ) → OpenLabels s heads words root u (get_or row (2 * i) 0) (get_or marks i 0) mark
      → (passed : ℕ) → passed ≡ cond (ltb mark (label_count (get_or row (2 * i) 0))) (below_in (get_or row (2 * i + 1) 0)) 0 → i < length marks
      → Lowering marks₀ (set marks i mark) (i + (1 + passed))
  one_lowered marks₀ marks i so_far h mark known passed e room ds cs x begun count l =
      lowered_one marks₀ marks i so_far h ds cs x begun count l mark known passed e room

  pub lowered_fits : (marks₀ marks : List ℕ) (i : ℕ) → Lowering marks₀ marks i → i < m → Tabled s heads words → Marked u row m marks₀
      → get_or marks i 0 ≤ label_count (get_or row (2 * i) 0)
  lowered_fits marks₀ marks i so_far h t x = mark_fits marks₀ marks i so_far h x.digests x.list x.chained x.marked t.count t.linked

-- the chains that some marks are of
pub marked_chains : {u row marks : List ℕ} {m : ℕ} → Marked u row m marks → SomeChains u row m
marked_chains x = record { list = x.list; chained = x.chained }
