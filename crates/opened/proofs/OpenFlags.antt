-- The flags that the pass follows give the opened records and the number of opened pages.
use Prim.Native.Nat.{ℕ}
use mathlib.Core.Path.{◌≡◌, refl, sym}
use mathlib.Core.Bool.{Bool, true, false, cond, not}
use mathlib.Core.List.{List, [], ◌∷◌, ◌++◌}
use native.Mathlib.Omega.{arith}
use lib.ListN.{length, drop, length-append}
use borrow.Table.Steps.{cases}
use Rattle.tree.specs.Tree.{page, Gap, empty, under, Entries, end, entry, items, items_under, items_from}
use Rattle.tree.specs.Record.{Spelt, record_of, keyed, keyed_under, keyed_from, records}
use Rattle.tree.specs.Table.{SpeltTree, bytes_of_page}
use Rattle.promises.specs.Pages.{known, opened_pages}
use Rattle.promises.proofs.OpenedLaws.{descent, descent_under, descent_from, opened_descent, opened_records, opened_under, opened_from}
use Rattle.opened.specs.Passing.{flags, flags_under, flags_from, open_pages, open_pages_under, open_pages_from, pick}
use Rattle.opened.proofs.Picks.{pick_append, pick_both}

module _ (first : List (List ℕ)) where
  -- one flag for each record
  mutual
    unfolding flags items keyed

    pub flags_length : (is_open : Bool) (t : SpeltTree) → length (flags first is_open t) ≡ length (records t)
    flags_length b (page g es) =
        omega (arith, length-append (flags_under first b g) (flags_from first b es), length-append (items_under (keyed_under g)) (items_from (keyed_from [] es)), flags_under_length b g, flags_from_length b [] es)

    flags_under_length : (is_open : Bool) (g : Gap Spelt (List ℕ)) → length (flags_under first is_open g) ≡ length (items_under (keyed_under g))
    flags_under_length b empty = refl
    flags_under_length b (under d p) = flags_length _ p

    flags_from_length : (is_open : Bool) (before : List ℕ) (es : Entries Spelt (List ℕ)) → length (flags_from first is_open es) ≡ length (items_from (keyed_from before es))
    flags_from_length b before end = refl
    flags_from_length b before (entry e g es) =
        omega (arith, length-append (flags_under first b g) (flags_from first b es), length-append (items_under (keyed_under g)) (items_from (keyed_from (record_of before e).key es)), flags_under_length b g, flags_from_length b (record_of before e).key es)

  -- below a page that is not opened nothing is
  mutual
    unfolding flags pick

    pub closed_flags : {A : Type 0} (t : SpeltTree) (l : List A) → pick (flags first false t) l ≡ []
    closed_flags (page g es) l = rw (pick_append (flags_under first false g) (flags_from first false es) l, closed_under g l, closed_from es (drop (length (flags_under first false g)) l))

    closed_under : {A : Type 0} (g : Gap Spelt (List ℕ)) (l : List A) → pick (flags_under first false g) l ≡ []
    closed_under empty l = refl
    closed_under (under d p) l = closed_flags p l

    closed_from : {A : Type 0} (es : Entries Spelt (List ℕ)) (l : List A) → pick (flags_from first false es) l ≡ []
    closed_from end l = refl
    closed_from (entry e g es) [] = refl
    closed_from (entry e g es) (a ∷ l) = rw (pick_append (flags_under first false g) (flags_from first false es) l, closed_under g l, closed_from es (drop (length (flags_under first false g)) l))

  mutual
    unfolding open_pages

    pub closed_pages : (t : SpeltTree) → open_pages first false t ≡ 0
    closed_pages (page g es) = omega (arith, closed_pages_under g, closed_pages_from es)

    closed_pages_under : (g : Gap Spelt (List ℕ)) → open_pages_under first false g ≡ 0
    closed_pages_under empty = refl
    closed_pages_under (under d p) = closed_pages p

    closed_pages_from : (es : Entries Spelt (List ℕ)) → open_pages_from first false es ≡ 0
    closed_pages_from end = refl
    closed_pages_from (entry e g es) = omega (arith, closed_pages_under g, closed_pages_from es)

  -- by whether the page is known
  by_known : {A : Type 0} (k : Bool) (x y : A) (f : Bool → A) → f false ≡ x → y ≡ f true → cond k x y ≡ f (not k)
  by_known true x y f e h = sym e
  by_known false x y f e h = h

  mutual
    unfolding opened_records flags items keyed pick

    pub opened_picks : (t : SpeltTree) → opened_records first t ≡ pick (flags first (not (known first (bytes_of_page t))) t) (records t)
    opened_picks (page g es) =
        by_known (known first (bytes_of_page (page g es))) [] (opened_under first g ++ opened_from first [] es)
        (λ (b : Bool). pick (flags first b (page g es)) (records (page g es))) (closed_flags (page g es) (records (page g es)))
        (rw (pick_both (flags_under first true g) (flags_from first true es) (items_under (keyed_under g)) (items_from (keyed_from [] es)) (flags_under_length true g), opened_under_picks g, opened_from_picks [] es))

    opened_under_picks : (g : Gap Spelt (List ℕ)) → opened_under first g ≡ pick (flags_under first true g) (items_under (keyed_under g))
    opened_under_picks empty = refl
    opened_under_picks (under d p) = opened_picks p

    opened_from_picks : (before : List ℕ) (es : Entries Spelt (List ℕ)) → opened_from first before es ≡ pick (flags_from first true es) (items_from (keyed_from before es))
    opened_from_picks before end = refl
    opened_from_picks before (entry e g es) =
        rw (pick_both (flags_under first true g) (flags_from first true es) (items_under (keyed_under g)) (items_from (keyed_from (record_of before e).key es)) (flags_under_length true g), opened_under_picks g, opened_from_picks (record_of before e).key es)

  mutual
    unfolding descent open_pages

    descent_count : (t : SpeltTree) → length (descent first t) ≡ open_pages first (not (known first (bytes_of_page t))) t
    descent_count (page g es) =
        let more = length-append (descent_under first g) (descent_from first es) in
        let here : length (page g es ∷ (descent_under first g ++ descent_from first es)) ≡ open_pages first true (page g es) =
        omega (arith, more, descent_under_count g, descent_from_count es) in
        cases (known first (bytes_of_page (page g es))) (λ e. rw e (sym (closed_pages (page g es)))) (λ e. rw e here)

    descent_under_count : (g : Gap Spelt (List ℕ)) → length (descent_under first g) ≡ open_pages_under first true g
    descent_under_count empty = refl
    descent_under_count (under d p) = descent_count p

    descent_from_count : (es : Entries Spelt (List ℕ)) → length (descent_from first es) ≡ open_pages_from first true es
    descent_from_count end = refl
    descent_from_count (entry e g es) =
        omega (arith, length-append (descent_under first g) (descent_from first es), descent_under_count g, descent_from_count es)

  pub opened_count : (t : SpeltTree) → length (opened_pages first t) ≡ open_pages first (not (known first (bytes_of_page t))) t
  opened_count t = rw (opened_descent first t) (descent_count t)
