-- The place that a verdict names lies within the path, so that verify's answer as one number comes apart.
use Prim.Native.Nat.{ℕ, zero, suc, ◌+◌, ◌≤◌}
use mathlib.Core.Path.{◌≡◌, refl, ap, subst, ◌∙◌}
use mathlib.Core.Option.{Option, none, some}
use mathlib.Core.List.{List, [], ◌∷◌}
use native.Mathlib.Omega.{arith}
use lib.ListN.{length, length-append}
use lib.Dec.{leb}
use borrow.Author.Tests.{leb-true}
use borrow.Table.Steps.{cases}
use Rattle.limits.specs.Limits.{longest, deepest}
use Rattle.bytestring.specs.Bytes.{Bytes}
use Rattle.bytestring.proofs.Tools.{bytes_right}
use Rattle.answer.specs.Inner.{FirstFits}
use Rattle.answer.specs.declared.Refusal.{Refusal}
use Rattle.answer.specs.declared.Refusal.TheVariants.{TooLong, UnlawfulKey, WrongValue}
use Rattle.answer.proofs.Laws.{two_come_apart}
use Rattle.value.specs.Value.{is_digest}
use Rattle.key.specs.Key.{lawful, less}
use Rattle.page.specs.Reading.{Read, read, ends_early, departs, concat}
use Rattle.page.specs.Page.{RawEntry, entry_bytes, RawPage, page_bytes, page}
use Rattle.page.proofs.Pages.{page_spells}
use Rattle.tree.specs.Judge.{Test, due}
use Rattle.tree.specs.OnePage.{entries_start, key_after}
use Rattle.tree.proofs.Laws.{due_none}
use Rattle.path.specs.Verify.{Sought, value_at, in_gap, sought_from, sought_in, PathVerdict, stopped, absent, present, unless, on_page, page_tests, at_end, go_on, judge_pages, verify_verdict, verify_answer}
use Rattle.path.specs.Promises.{VerifyComesApart}

module _ (n : ℕ) where
  abbrev UpTo : PathVerdict → Type 0
  UpTo (stopped r) = Unit {0}
  UpTo absent = Unit {0}
  UpTo (present place) = place ≤ n

  abbrev SoughtUpTo : Sought → Type 0
  SoughtUpTo (value_at place) = place ≤ n
  SoughtUpTo (in_gap gap) = Unit {0}

  sought_up_to : (k : List ℕ) (gap : Option (List ℕ)) (before : List ℕ) (at : ℕ) (es : List RawEntry) → at + length (concat entry_bytes es) ≤ n
      → SoughtUpTo (sought_from k gap before at es)
  unfolding sought_from
  sought_up_to k gap before at [] h = tt
  sought_up_to k gap before at (e ∷ es) h =
      let end : ℕ = at + length (entry_bytes e) in
      let size = length-append (entry_bytes e) (concat entry_bytes es) in
      cases (less k (key_after before e)) (λ l. rw l tt)
      (λ l. cases (less (key_after before e) k) (λ m. rw (l, m) (sought_up_to k e.after (key_after before e) end es (omega (arith, size)))) (λ m. rw (l, m) (omega (arith, size))))

  unless_up_to : (o : Option Refusal) (v : PathVerdict) → (o ≡ none → UpTo v) → UpTo (unless o v)
  unfolding unless
  unless_up_to none v h = h refl
  unless_up_to (some r) v h = tt

  end_up_to : (v : PathVerdict) (rest : List ℕ) → UpTo v → UpTo (at_end v rest)
  unfolding at_end
  end_up_to v [] h = h
  end_up_to v (b ∷ rest) h = tt

  go_up_to : (sought : Sought) (rest : List ℕ) (next : List ℕ → PathVerdict) → SoughtUpTo sought → ((digest : List ℕ) → UpTo (next digest)) → UpTo (go_on sought rest next)
  unfolding go_on
  go_up_to (value_at place) rest next h f = end_up_to (present place) rest h
  go_up_to (in_gap none) rest next h f = end_up_to absent rest tt
  go_up_to (in_gap (some digest)) rest next h f = f digest

  -- one page, where the pages after it are such
  module _ (depth : ℕ) (k : List ℕ) (next : (digest : List ℕ) (at : ℕ) (s : List ℕ) → Bytes s → at + length s ≤ n → UpTo (judge_pages depth k digest at s))
      (at : ℕ) (s : List ℕ) (b : Bytes s) (h : at + length s ≤ n) where
    read_up_to : (p : RawPage) (rest : List ℕ) → page s ≡ read p rest
        → UpTo (go_on (sought_in k at p) rest (λ due. judge_pages depth k due (at + length (page_bytes p)) rest))
    unfolding sought_in page_bytes
    read_up_to p rest q =
        let w = (page_spells.back s rest p b q).0 in
        let size : length s ≡ length (page_bytes p) + length rest = ap length w ∙ length-append (page_bytes p) rest in
        go_up_to (sought_in k at p) rest _
        (sought_up_to k p.left [] (at + entries_start p.entries) p.entries (omega (arith, simp length-append at size)))
        (λ due. next due (at + length (page_bytes p)) rest (bytes_right (page_bytes p) rest (subst Bytes w b)) (omega arith))

    page_up_to : (digest : List ℕ) (r : Read RawPage) → page s ≡ r
        → UpTo (on_page r (λ p rest.
        unless (due (page_tests digest p)) (go_on (sought_in k at p) rest (λ next. judge_pages depth k next (at + length (page_bytes p)) rest))))
    unfolding on_page
    page_up_to digest ends_early q = tt
    page_up_to digest departs q = tt
    page_up_to digest (read p rest) q = unless_up_to (due (page_tests digest p)) _ (λ _. read_up_to p rest q)

  pages_up_to : (depth : ℕ) (k digest : List ℕ) (at : ℕ) (s : List ℕ) → Bytes s → at + length s ≤ n → UpTo (judge_pages depth k digest at s)
  unfolding judge_pages
  pages_up_to zero k digest at [] b h = tt
  pages_up_to zero k digest at (x ∷ s) b h = tt
  pages_up_to (suc depth) k digest at s b h = page_up_to depth k (pages_up_to depth k) at s b h digest (page s) refl

-- ---- verify
answer_short : (path : List ℕ) (v : PathVerdict) → UpTo longest v → FirstFits (verify_answer path v)
unfolding verify_answer
answer_short path (stopped r) h = tt
answer_short path absent h = omega arith
answer_short path (present place) h = omega arith

pub verify_short : (path k root : List ℕ) → Bytes path → FirstFits (verify_answer path (verify_verdict path k root))
unfolding verify_verdict
verify_short path k root b =
    let tests : List Test = (TooLong, leb (length path) longest) ∷ (UnlawfulKey, lawful k) ∷ (WrongValue, is_digest root) ∷ [] in
    answer_short path (verify_verdict path k root) (unless_up_to longest (due tests) (judge_pages deepest k root 0 path) (λ e.
    pages_up_to longest deepest k root 0 path b (omega (arith, leb-true (length path) longest (due_none tests e).0))))

pub verify_comes_apart : VerifyComesApart
verify_comes_apart path k root =
    two_come_apart (verify_answer path.list (verify_verdict path.list k.list root.list)) (verify_short path.list k.list root.list path.small)
