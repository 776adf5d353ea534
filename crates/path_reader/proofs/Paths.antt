-- The pages of a path, one after the other.
use Rattle.std.specs.Prelude.{Result, Ok, Err}
use Prim.Native.Nat.{ℕ, suc, ◌+◌, ◌-◌, ◌≤◌, ◌<◌}
use mathlib.Core.Path.{◌≡◌, refl, sym, ap, subst, ◌∙◌}
use mathlib.Core.Bool.{true}
use mathlib.Core.List.{List, [], ◌∷◌}
use native.Mathlib.Omega.{arith}
use lib.ListN.{length, drop, drop_of_length-le}
use lib.Seq.{drop-cons, take_all}
use borrow.Author.Tests.{le-leb, lt-leb, eq-eqb, ne_eqb}
use Rattle.limits.specs.Limits.{longest, deepest}
use Rattle.answer.specs.declared.Refusal.{Refusal}
use Rattle.answer.specs.declared.Refusal.TheVariants.{TooLong, EndsEarly, Departs, BytesFollow, WrongValue}
use Rattle.value.specs.Value.{digest_length, is_digest, digest_in, codec_in}
use Rattle.key.specs.Key.{lawful, slash_answer}
use Rattle.key.proofs.SlashLaws.{slash_done, slash_refused}
use Rattle.tree.specs.Judge.{due}
use Rattle.path.specs.Verify.{absent, present, unless, at_end, judge_pages, verify_verdict, verify_answer}
use Rattle.path_reader.specs.Judging.{from_page, JudgesPage, end_answer}
use Rattle.path_reader.specs.declared.pages.PageSays.{PageSays}
use Rattle.path_reader.specs.declared.pages.PageSays.TheVariants.{Present, Absent, Linked}

-- ---- the search has ended
module _ (path : List ℕ) (end place codec : ℕ) where
  pub bytes_follow : end < length path → Err BytesFollow ≡ end_answer place codec (drop end path)
  bytes_follow h = rw (drop-cons path end 0 h)

  pub none_follow : length path ≤ end → Ok (place, codec) ≡ end_answer place codec (drop end path)
  none_follow h = rw (drop_of_length-le path h)

present_ends : (path : List ℕ) (place : ℕ) (rest : List ℕ) → end_answer place (codec_in path place) rest ≡ verify_answer path (at_end (present place) rest)
unfolding at_end verify_answer
present_ends path place [] = refl
present_ends path place (b ∷ rest) = refl

absent_ends : (path rest : List ℕ) → end_answer 0 0 rest ≡ verify_answer path (at_end absent rest)
unfolding at_end verify_answer
absent_ends path [] = refl
absent_ends path (b ∷ rest) = refl

-- ---- the loop
-- so many pages are done, and the next begins at a place
unfoldable pub PathSoFar : List ℕ → List ℕ → List ℕ → List ℕ → ℕ → ℕ → Type 0
PathSoFar path key root digest at level = judge_pages deepest key root 0 path ≡ judge_pages (deepest - level) key digest at (drop at path)

pub path_start : (path key root : List ℕ) → PathSoFar path key root root 0 0
unfolding PathSoFar
path_start path key root = refl

module _ (path key root digest : List ℕ) (at level : ℕ) (so_far : PathSoFar path key root digest at level) where
  -- no page may follow
  module _ (h : deepest ≤ level) where
    pub page_too_deep : at < length path → Err Departs ≡ verify_answer path (judge_pages deepest key root 0 path)
    unfolding PathSoFar judge_pages verify_answer
    page_too_deep l =
        let none_left : deepest - level ≡ 0 = omega arith in
        sym (ap (verify_answer path) so_far ∙ rw (none_left, drop-cons path at 0 l))

    pub path_ends : length path ≤ at → Err EndsEarly ≡ verify_answer path (judge_pages deepest key root 0 path)
    unfolding PathSoFar judge_pages verify_answer
    path_ends l =
        let none_left : deepest - level ≡ 0 = omega arith in
        sym (ap (verify_answer path) so_far ∙ rw (none_left, drop_of_length-le path l))

  -- the next page
  module _ (h : level < deepest) (got : Result PageSays Refusal) (w : JudgesPage path at key digest got) where
    page_next : (said : Result PageSays Refusal) → got ≡ said → judge_pages deepest key root 0 path ≡ from_page path key (deepest - (level + 1)) said
    unfolding PathSoFar
    page_next said is =
        let one_less : deepest - level ≡ suc (deepest - (level + 1)) = omega arith in
        so_far ∙ rw (one_less, ← is) (w.says (deepest - (level + 1)))

    pub path_refused : (r : Refusal) → got ≡ Err r → Err r ≡ verify_answer path (judge_pages deepest key root 0 path)
    unfolding verify_answer
    path_refused r is = sym (ap (verify_answer path) (page_next (Err r) is))

    module _ (place end : ℕ) where
      pub value_within : length path ≤ longest → got ≡ Ok (Present place end) → place ≤ longest
      value_within short is = let in_path = (subst (λ (g : Result PageSays Refusal). JudgesPage path at key digest g) is w).within in omega arith

      pub path_present : got ≡ Ok (Present place end) → (codec : ℕ) → codec ≡ codec_in path place → (r : Result (ℕ × ℕ) Refusal) → r ≡ end_answer place codec (drop end path)
          → r ≡ verify_answer path (judge_pages deepest key root 0 path)
      path_present is codec f r e = e ∙ rw f (present_ends path place (drop end path)) ∙ sym (ap (verify_answer path) (page_next (Ok (Present place end)) is))

      pub path_linked : got ≡ Ok (Linked place end) → (d : List ℕ) → (place + digest_length ≤ length path → d ≡ digest_in path place)
          → PathSoFar path key root d end (level + 1)
      unfolding PathSoFar
      path_linked is d e =
          let in_path = (subst (λ (g : Result PageSays Refusal). JudgesPage path at key digest g) is w).within in
          page_next (Ok (Linked place end)) is ∙ rw (e in_path)

    pub path_absent : (end : ℕ) → got ≡ Ok (Absent end) → (r : Result (ℕ × ℕ) Refusal) → r ≡ end_answer 0 0 (drop end path)
        → r ≡ verify_answer path (judge_pages deepest key root 0 path)
    path_absent end is r e = e ∙ absent_ends path (drop end path) ∙ sym (ap (verify_answer path) (page_next (Ok (Absent end)) is))

-- ---- the arguments
module _ (path key root : List ℕ) where
  pub path_too_long : longest < length path → Err TooLong ≡ verify_answer path (verify_verdict path key root)
  unfolding verify_verdict due unless verify_answer
  path_too_long h = rw (lt-leb (length path) longest h)

  module _ (short : length path ≤ longest) (got : Result ℕ Refusal) (w : got ≡ slash_answer key) where
    pub key_refused : (r : Refusal) → got ≡ Err r → Err r ≡ verify_answer path (verify_verdict path key root)
    unfolding verify_verdict due unless verify_answer
    key_refused r is =
        let (unlawful, seven) = slash_refused key r (sym w ∙ is) in
        rw (le-leb (length path) longest short, unlawful, seven)

    module _ (n : ℕ) (is : got ≡ Ok n) where
      key_lawful : lawful key ≡ true
      key_lawful = slash_done key n (sym w ∙ is)

      pub root_length : (length root ≡ digest_length → ⊥) → Err WrongValue ≡ verify_answer path (verify_verdict path key root)
      unfolding verify_verdict due unless verify_answer is_digest
      root_length f = rw (le-leb (length path) longest short, key_lawful, ne_eqb (length root) digest_length f)

      pub path_judged : length root ≡ digest_length → (digest : List ℕ) → (0 + digest_length ≤ length root → digest ≡ digest_in root 0)
          → (r : Result (ℕ × ℕ) Refusal) → r ≡ verify_answer path (judge_pages deepest key digest 0 path) → r ≡ verify_answer path (verify_verdict path key root)
      unfolding verify_verdict due unless is_digest
      path_judged h digest e r judged =
          let whole : digest ≡ root = e (omega arith) ∙ take_all digest_length root (omega arith) in
          judged ∙ rw (whole, le-leb (length path) longest short, key_lawful, eq-eqb (length root) digest_length h)
