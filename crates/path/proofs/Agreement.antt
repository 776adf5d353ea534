-- A verdict agrees with lookup in every register of its root digest, and a path that is not refused is the key's path there.
use Prim.Native.Nat.{ℕ, zero, suc, ◌+◌}
use mathlib.Core.Path.{◌≡◌, refl, sym, ap, subst, ◌∙◌}
use mathlib.Core.Bool.{true, false≢true}
use mathlib.Core.Logic.{inl, inr}
use mathlib.Core.Option.{Option, none, some, none-ne-some}
use mathlib.Core.List.{List, [], ◌∷◌, ◌++◌}
use lib.ListN.{length, drop}
use lib.Dec.{leb}
use Rattle.limits.specs.Limits.{longest, deepest}
use Rattle.bytestring.specs.Bytes.{Bytes, ByteString}
use Rattle.bytestring.proofs.Equal.{equal_true}
use Rattle.bytestring.proofs.Tools.{bytes_drop}
use Rattle.answer.specs.declared.Refusal.{Refusal}
use Rattle.answer.specs.declared.Refusal.TheVariants.{TooLong, UnlawfulKey, WrongValue}
use Rattle.fips180.specs.Hash.{sha256}
use Rattle.value.specs.Value.{is_digest, value_in}
use Rattle.key.specs.Key.{lawful}
use Rattle.page.specs.Reading.{Read, read, ends_early, departs}
use Rattle.page.specs.Page.{RawPage, page_bytes, page as page_at}
use Rattle.page.proofs.Pages.{GoodPage, page_reads, page_spells}
use Rattle.tree.specs.Tree.{page, Gap, empty, under, Entries, items}
use Rattle.tree.specs.Record.{Spelt, keyed, records}
use Rattle.tree.specs.Table.{SpeltTree, link_of, raw_page, bytes_of_page}
use Rattle.tree.specs.Judge.{Test, due, accepted, judge}
use Rattle.tree.proofs.Laws.{due_none, accepted_table}
use Rattle.promises.specs.Map.{find}
use Rattle.promises.specs.Pages.{pages_of}
use Rattle.promises.specs.Promises.{Among, DigestsApart}
use Rattle.promises.proofs.MapLaws.{find_nil}
use Rattle.promises.proofs.DifferenceLaws.{Fine, Within, among_left, among_right}
use Rattle.promises.proofs.Orders.{lookup_replies}
use Rattle.path.specs.Path.{path_of, path_under, path_from}
use Rattle.path.specs.Verify.{sought_in, PathVerdict, stopped, absent, present, unless, on_page, page_tests, at_end, go_on, judge_pages, verify_verdict}
use Rattle.path.specs.Promises.{root_digest, pages_read, pages_of_path, Agrees, VerdictAgrees, OnePath}
use Rattle.path.proofs.Searching.{rest_is}
use Rattle.path.proofs.Trees.{TreeWay, at_entry, at_gap}
use Rattle.path.proofs.Right.{Right, RightGap, way, below, there, right_register}

-- ---- a verdict agrees with what is there
module _ (path k : List ℕ) where
  -- what a verdict on bytes of the path says of a tree: what the key finds in it, and that the bytes are the key's path
  abbrev Says : SpeltTree → List ℕ → PathVerdict → Type 0
  Says t s (stopped r) = Unit {0}
  Says t s absent = (find k (records t) ≡ none) × (s ≡ path_of k t)
  Says t s (present place) = (find k (records t) ≡ some (value_in path place)) × (s ≡ path_of k t)

  says_end : (t : SpeltTree) (s : List ℕ) (v : PathVerdict) (rest : List ℕ) → (rest ≡ [] → Says t s v) → Says t s (at_end v rest)
  unfolding at_end
  says_end t s v [] h = h refl
  says_end t s v (b ∷ rest) h = tt

  says_below : (t p : SpeltTree) (s rest : List ℕ) → find k (records t) ≡ find k (records p) → (rest ≡ path_of k p → s ≡ path_of k t)
      → (v : PathVerdict) → Says p rest v → Says t s v
  says_below t p s rest e f (stopped r) h = tt
  says_below t p s rest e f absent h = (e ∙ h.0, f h.1)
  says_below t p s rest e f (present place) h = (e ∙ h.0, f h.1)

module _ (all : List (List ℕ)) (apart : DigestsApart all) (path : List ℕ) (small : Bytes path) (k : List ℕ) where
  -- a page with the digest of a page of the tree is that page
  same_page : (t : SpeltTree) (p : RawPage) → Fine all t → GoodPage p → Among (page_bytes p) all → sha256 (page_bytes p) ≡ root_digest t → p ≡ raw_page t
  unfolding bytes_of_page
  same_page t p f g i e =
      let same : page_bytes p ≡ page_bytes (raw_page t) = apart (page_bytes p) (bytes_of_page t) i f.1 e in
      let both : read p [] ≡ read (raw_page t) [] =
      sym (page_reads p [] g) ∙ ap (λ (s : List ℕ). page_at (s ++ [])) same ∙ page_reads (raw_page t) [] f.0 in
      cc

  abbrev Agreeing : ℕ → Type 0
  Agreeing depth =
      (t : SpeltTree) → Right all depth t → (at : ℕ) → Within (pages_of_path depth (drop at path)) all
      → Says path k t (drop at path) (judge_pages depth k (root_digest t) at (drop at path))

  module _ (depth : ℕ) (next : Agreeing depth) (g : Gap Spelt (List ℕ)) (es : Entries Spelt (List ℕ)) (w : Right all (suc depth) (page g es)) (at : ℕ) where
    abbrev root : SpeltTree
    root = page g es

    module _ (rest : List ℕ) (stands : drop at path ≡ page_bytes (raw_page root) ++ rest) (among : Within (pages_of_path depth rest) all) where
      abbrev onward : List ℕ → PathVerdict
      onward digest = judge_pages depth k digest (at + length (page_bytes (raw_page root))) rest

      whole : rest ≡ path_from k (path_under k g) [] es → drop at path ≡ path_of k root
      unfolding path_of bytes_of_page
      whole e = stands ∙ ap (λ (s : List ℕ). page_bytes (raw_page root) ++ s) e

      agree_way : TreeWay k (RightGap all depth) g [] es (sought_in k at (raw_page root)) → Says path k root (drop at path) (go_on (sought_in k at (raw_page root)) rest onward)
      unfolding go_on keyed items link_of path_under
      agree_way (at_entry place q f o) =
          subst (λ s. Says path k root (drop at path) (go_on s rest onward)) (sym q)
          (says_end path k root (drop at path) (present place) rest (λ e. (f ∙ there all depth g es w k path at rest stands place q, whole (e ∙ sym o))))
      agree_way (at_gap empty x q f o part) =
          subst (λ s. Says path k root (drop at path) (go_on s rest onward)) (sym q)
          (says_end path k root (drop at path) absent rest (λ e. (f ∙ find_nil k, whole (e ∙ sym o))))
      agree_way (at_gap (under digest p) x q f o part) =
          let b = below all depth g es w digest p x part in
          let left = rest_is path at (raw_page root) rest stands in
          let later = next p b.0 (at + length (page_bytes (raw_page root))) (subst (λ (s : List ℕ). Within (pages_of_path depth s) all) left among) in
          subst (λ s. Says path k root (drop at path) (go_on s rest onward)) (sym q)
          (says_below path k root p (drop at path) rest f (λ e. whole (e ∙ sym o)) (onward digest) (rw (b.1, left) later))

    agree_tests : (p : RawPage) (rest : List ℕ) → page_at (drop at path) ≡ read p rest → Within (page_bytes p ∷ pages_of_path depth rest) all
        → (o : Option Refusal) → due (page_tests (root_digest root) p) ≡ o
        → Says path k root (drop at path) (unless o (go_on (sought_in k at p) rest (λ next. judge_pages depth k next (at + length (page_bytes p)) rest)))
    unfolding unless page_tests
    agree_tests p rest reads i (some r) d = tt
    agree_tests p rest reads i none d =
        let spells = page_spells.back (drop at path) rest p (bytes_drop at path small) reads in
        let digest = equal_true (sha256 (page_bytes p)) (root_digest root) (due_none (page_tests (root_digest root) p) d).1.1.1.0 in
        let same = same_page root p w.links.0 spells.1 (i (page_bytes p) (inl refl)) digest in
        let stands = subst (λ (q : RawPage). drop at path ≡ page_bytes q ++ rest) same spells.0 in
        subst (λ (q : RawPage). Says path k root (drop at path) (go_on (sought_in k at q) rest (λ next. judge_pages depth k next (at + length (page_bytes q)) rest))) (sym same)
        (agree_way rest stands (λ q j. i q (inr j)) (way all depth g es w k at))

    agree_read : (r : Read RawPage) → page_at (drop at path) ≡ r → Within (pages_read r (pages_of_path depth)) all
        → Says path k root (drop at path) (on_page r (λ p rest. unless (due (page_tests (root_digest root) p)) (go_on (sought_in k at p) rest (λ next. judge_pages depth k next (at + length (page_bytes p)) rest))))
    unfolding on_page pages_read
    agree_read ends_early q i = tt
    agree_read departs q i = tt
    agree_read (read p rest) q i = agree_tests p rest q i (due (page_tests (root_digest root) p)) refl

  agreeing : (depth : ℕ) → Agreeing depth
  unfolding judge_pages pages_of_path
  agreeing zero t w at i = absurd w.good
  agreeing (suc depth) (page g es) w at i = agree_read depth (agreeing depth) g es w at (page_at (drop at path)) refl i

-- ---- the verdict on a path
module _ (path k s : ByteString) (t : SpeltTree) (j : judge s.list ≡ accepted t) (apart : DigestsApart (pages_of_path deepest path.list ++ pages_of t)) where
  abbrev verdict : PathVerdict
  verdict = judge_pages deepest k.list (root_digest t) 0 path.list

  says : Says path.list k.list t path.list verdict
  says =
      let pages = pages_of_path deepest path.list in
      let right = right_register (pages ++ pages_of t) s.list t (accepted_table s.list s.small t j) (among_right pages (pages_of t)) in
      agreeing (pages ++ pages_of t) apart path.list path.small k.list deepest t right 0 (among_left pages (pages_of t))

  -- what is there is what lookup finds
  says_agrees : lawful k.list ≡ true → (v : PathVerdict) → Says path.list k.list t path.list v → Agrees v path.list s.list k.list
  says_agrees l (stopped r) h = tt
  says_agrees l absent h = ((((lookup_replies s k).accepts t j).passes (λ e. false≢true (sym e ∙ l))).refuses h.0).answer
  says_agrees l (present place) h =
      (((lookup_replies s k).accepts t j).passes (λ e. false≢true (sym e ∙ l))).passes (λ e. none-ne-some _ (sym e ∙ h.0)) (value_in path.list place) h.0

  says_path : (v : PathVerdict) → Says path.list k.list t path.list v → ((r : Refusal) → v ≡ stopped r → ⊥) → path.list ≡ path_of k.list t
  says_path (stopped r) h f = absurd (f r refl)
  says_path absent h f = h.1
  says_path (present place) h f = h.1

  -- a number may be due before the pages
  abbrev tests : List Test
  tests = (TooLong, leb (length path.list) longest) ∷ (UnlawfulKey, lawful k.list) ∷ (WrongValue, is_digest (root_digest t)) ∷ []

  agrees : (o : Option Refusal) → due tests ≡ o → Agrees (unless o verdict) path.list s.list k.list
  unfolding unless
  agrees (some r) d = tt
  agrees none d = says_agrees (due_none tests d).1.0 verdict says

  only : (o : Option Refusal) → ((r : Refusal) → unless o verdict ≡ stopped r → ⊥) → path.list ≡ path_of k.list t
  unfolding unless
  only (some r) f = absurd (f r refl)
  only none f = says_path verdict says f

pub verdict_agrees : VerdictAgrees
unfolding verify_verdict
verdict_agrees path k s t j apart = agrees path k s t j apart (due (tests path k s t j apart)) refl

pub one_path : OnePath
unfolding verify_verdict
one_path path k s t j apart f = only path k s t j apart (due (tests path k s t j apart)) f
