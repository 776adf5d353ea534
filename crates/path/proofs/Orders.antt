-- The order of checks of a path and of its verification.
use Prim.Native.Nat.{ℕ, zero, suc, ◌+◌}
use mathlib.Core.Path.{◌≡◌, refl, sym, ap, subst, ◌∙◌}
use mathlib.Core.Bool.{Bool, true, false}
use mathlib.Core.Option.{Option, none, some}
use mathlib.Core.List.{List, [], ◌∷◌, ◌++◌, cons≢nil}
use native.Mathlib.Omega.{arith}
use lib.ListN.{length, drop, length-drop}
use lib.Dec.{eqb, leb}
use borrow.Author.Tests.{eqb-false, lt-leb, le-leb, ne_eqb}
use borrow.Table.Steps.{cases}
use Rattle.limits.specs.Limits.{longest, deepest}
use Rattle.bytestring.proofs.Equal.{equal-cases}
use Rattle.bytestring.proofs.Tools.{bytes_drop}
use Rattle.bytestring.specs.Bytes.{Bytes, equal}
use Rattle.answer.specs.Answer.{number_of, done_with, said_of_two}
use Rattle.answer.specs.declared.Refusal.{Refusal}
use Rattle.answer.specs.declared.Refusal.TheVariants.{TooLong, EndsEarly, Departs, BytesFollow, WrongPrefix, UnlawfulKey, KeysNotRising, WrongValue, NoRoom, PageNotDue}
use Rattle.fips180.specs.Hash.{sha256}
use Rattle.value.specs.Value.{is_digest, value_codec, value_digest}
use Rattle.value.proofs.Laws.{value_codec_lem}
use Rattle.key.specs.Key.{lawful}
use Rattle.page.specs.Reading.{Read, read, ends_early, departs}
use Rattle.page.specs.Page.{RawPage, page_bytes, page}
use Rattle.page.proofs.Pages.{GoodPage, page_spells}
use Rattle.tree.specs.Judge.{due, all_lawful, rising, refused, judge}
use Rattle.tree.specs.OnePage.{entries_start, prefixes_of, records_in}
use Rattle.promises.specs.Outcome.{answer_of, output_of}
use Rattle.promises.specs.Reply.{Reply, writing_reply}
use Rattle.promises.specs.Order.{Refuses, filled}
use Rattle.promises.proofs.MapLaws.{rising_sorted}
use Rattle.promises.proofs.Orders.{check, lawful_passes, within}
use Rattle.path.specs.Path.{path_of, settle_path, path_verdict, path_outcome}
use Rattle.path.specs.Verify.{in_gap, sought_in, PathVerdict, stopped, absent, present, unless, on_page, page_tests, at_end, go_on, judge_pages, verify_verdict, verify_answer}
use Rattle.path.specs.Order.{path_reply, verify_reply, last_gap, StandsIn, SearchEnds, Searches, is_entry, no_link, has_link, ReadOrder, PageOrder, PagesOrder}
use Rattle.path.specs.Promises.{PathReplies, VerifyReplies}
use Rattle.path.proofs.Searching.{Way, found, missed, searched, rest_is, entries_within, entries_stand}

-- ---- path
-- the reply by the first number that is due
module _ (path : List ℕ) (room : ℕ) where
  abbrev settled_by : Option Refusal → Reply
  settled_by o = writing_reply (settle_path o path) room

  settled_refuses : (r : Refusal) → Refuses (settled_by (some r)) (number_of r)
  unfolding settle_path answer_of output_of
  settled_refuses r = record { answer = refl; outputs = (refl, tt); head = tt }

  settled_writes : ((settled_by none).answer ≡ done_with (length path ∷ [])) × ((settled_by none).outputs ≡ filled room path ∷ [])
  unfolding settle_path answer_of output_of
  settled_writes = (refl, refl)

path_refuses : (s k : List ℕ) (room : ℕ) (r : Refusal) → judge s ≡ refused r → Refuses (path_reply s k room) (number_of r)
unfolding path_outcome path_verdict answer_of output_of
path_refuses s k room r j = record { answer = rw j; outputs = (rw j, tt); head = tt }

pub path_replies : PathReplies
unfolding path_outcome path_verdict due
path_replies s key room = record {
  refuses = path_refuses s.list key.list room;
  accepts = λ t j.
      let k = key.list in
      let path : List ℕ = path_of k t in
      let whole = path_reply s.list k room in
      let reply = settled_by path room in
      check whole reply (settled_refuses path room) UnlawfulKey (lawful k) ((NoRoom, leb (length path) room) ∷ [])
      (λ h. h) (lawful_passes (lawful k)) (rw j)
      (λ _ e₁. check whole reply (settled_refuses path room) NoRoom (leb (length path) room) []
      (lt-leb (length path) room) (λ h. le-leb (length path) room (within (length path) room h)) e₁
      (λ _ e₂.
      (ap (λ (q : Reply). q.answer) e₂ ∙ (settled_writes path room).0, ap (λ (q : Reply). q.outputs) e₂ ∙ (settled_writes path room).1)));
}

-- ---- verify
-- what a verdict replies
abbrev verdict_reply : List ℕ → PathVerdict → Reply
verdict_reply path v = record { answer = said_of_two (verify_answer path v); outputs = []; head = none }

stop_refuses : (path : List ℕ) (whole : Reply) (r : Refusal) → whole ≡ verdict_reply path (stopped r) → Refuses whole (number_of r)
unfolding verify_answer
stop_refuses path whole r e = subst (λ (q : Reply). Refuses q (number_of r)) (sym e) (record { answer = refl; outputs = tt; head = tt })

module _ (path : List ℕ) (v : PathVerdict) where
  -- the reply by the first number that is due
  abbrev due_reply : Option Refusal → Reply
  due_reply o = verdict_reply path (unless o v)

  due_refuses : (r : Refusal) → Refuses (due_reply (some r)) (number_of r)
  unfolding unless
  due_refuses r = stop_refuses path (due_reply (some r)) r refl

digest_fails : (a b : List ℕ) → (a ≡ b → ⊥) → equal a b ≡ false
digest_fails a b h = equal-cases a b (λ _ e. absurd (h e)) (λ e _. e)

digest_passes : (a b : List ℕ) → ((a ≡ b → ⊥) → ⊥) → equal a b ≡ true
digest_passes a b h = equal-cases a b (λ e _. e) (λ _ e. absurd (h e))

module _ (path : List ℕ) (small : Bytes path) (k : List ℕ) (whole : Reply) where
  ends_order : (rest : List ℕ) (v : PathVerdict) {done : Type 0} → whole ≡ verdict_reply path (at_end v rest) → (whole ≡ verdict_reply path v → done) → SearchEnds rest whole done
  unfolding at_end
  ends_order [] v e d = record { refuses = λ h. absurd (h refl); passes = λ _. d e }
  ends_order (b ∷ rest) v e d = record { refuses = λ _. stop_refuses path whole BytesFollow e; passes = λ h. absurd (h cons≢nil) }

  abbrev Continues : ℕ → Type 0
  Continues depth =
      (digest : List ℕ) (at : ℕ) → whole ≡ verdict_reply path (judge_pages depth k digest at (drop at path)) → PagesOrder depth path k digest at whole

  module _ (depth at : ℕ) (next : Continues depth) (p : RawPage) (rest : List ℕ) (reads : page (drop at path) ≡ read p rest) where
    stands : (drop at path ≡ page_bytes p ++ rest) × GoodPage p
    stands = page_spells.back (drop at path) rest p (bytes_drop at path small) reads

    abbrev later : List ℕ → PathVerdict
    later digest = judge_pages depth k digest (at + length (page_bytes p)) rest

    -- in the gap it has come to there is a link, or none
    gap_order : (gap : Option (List ℕ)) → StandsIn k p gap → whole ≡ verdict_reply path (go_on (in_gap gap) rest later)
        → Searches k p path rest whole (λ digest. PagesOrder depth path k digest (at + length (page_bytes p)) whole)
    unfolding go_on verify_answer
    gap_order none w e = no_link w (ends_order rest absent e (λ d. ap (λ (r : Reply). r.answer) d))
    gap_order (some digest) w e =
        let there = ap (λ (s : List ℕ). verdict_reply path (judge_pages depth k digest (at + length (page_bytes p)) s)) (rest_is path at p rest stands.0) in
        has_link digest w (next digest (at + length (page_bytes p)) (e ∙ there))

    search_order : Way k path p.left [] (at + entries_start p.entries) p.entries (sought_in k at p)
        → whole ≡ verdict_reply path (go_on (sought_in k at p) rest later)
        → Searches k p path rest whole (λ digest. PagesOrder depth path k digest (at + length (page_bytes p)) whole)
    unfolding go_on verify_answer
    search_order (found place v q f w) e =
        is_entry v f (ends_order rest (present place) (e ∙ ap (λ s. verdict_reply path (go_on s rest later)) q) (λ d. record {
          place = place;
          some = omega (arith, w.ahead);
          within = omega (arith, w.within, entries_within path at p rest stands.0);
          answer = ap (λ (r : Reply). r.answer) d ∙ ap (λ (x : List ℕ). done_with (place ∷ value_codec x ∷ [])) w.bytes;
          codec = value_codec_lem v w.right;
          digest = ap (λ (x : List ℕ). value_digest x) w.bytes;
        }))
    search_order (missed first after q split lesser greater) e =
        gap_order (last_gap p.left first)
        (record { before = first; later = after; whole = split; lesser = lesser; greater = greater; between = refl })
        (e ∙ ap (λ s. verdict_reply path (go_on s rest later)) q)

    page_order : (digest : List ℕ) → whole ≡ verdict_reply path (unless (due (page_tests digest p)) (go_on (sought_in k at p) rest later))
        → PageOrder digest p whole (Searches k p path rest whole (λ next. PagesOrder depth path k next (at + length (page_bytes p)) whole))
    unfolding page_tests due unless sought_in
    page_order digest e₀ =
        let rs = records_in [] p.entries in
        let own : Bool = equal (sha256 (page_bytes p)) digest in
        let v = go_on (sought_in k at p) rest later in
        check whole (due_reply path v) (due_refuses path v) WrongPrefix (prefixes_of [] p.entries)
        ((UnlawfulKey, all_lawful rs) ∷ (KeysNotRising, rising rs) ∷ (PageNotDue, own) ∷ []) (λ h. h) (lawful_passes (prefixes_of [] p.entries)) e₀
        (λ _ e₁. check whole (due_reply path v) (due_refuses path v) UnlawfulKey (all_lawful rs) ((KeysNotRising, rising rs) ∷ (PageNotDue, own) ∷ [])
        (λ h. h) (lawful_passes (all_lawful rs)) e₁
        (λ _ e₂. check whole (due_reply path v) (due_refuses path v) KeysNotRising (rising rs) ((PageNotDue, own) ∷ []) (λ h. h) (lawful_passes (rising rs)) e₂
        (λ rise e₃. check whole (due_reply path v) (due_refuses path v) PageNotDue own []
        (digest_fails (sha256 (page_bytes p)) digest) (digest_passes (sha256 (page_bytes p)) digest) e₃
        (λ _ e₄. search_order
        (searched k path p.left [] (at + entries_start p.entries) p.entries stands.1.entries (entries_stand path at p rest stands.0)
        (rising_sorted rs (lawful_passes (rising rs) rise))) e₄))))

  read_order : (depth at : ℕ) (digest : List ℕ) → Continues depth → (r : Read RawPage) → page (drop at path) ≡ r
      → whole ≡ verdict_reply path (on_page r (λ p rest. unless (due (page_tests digest p)) (go_on (sought_in k at p) rest (λ next. judge_pages depth k next (at + length (page_bytes p)) rest))))
      → ReadOrder r whole (λ p rest.
      PageOrder digest p whole (Searches k p path rest whole (λ next. PagesOrder depth path k next (at + length (page_bytes p)) whole)))
  unfolding on_page
  read_order depth at digest next ends_early q e = stop_refuses path whole EndsEarly e
  read_order depth at digest next departs q e = stop_refuses path whole Departs e
  read_order depth at digest next (read p rest) q e = page_order depth at next p rest q digest e

  -- a page too many
  last_page : (digest : List ℕ) (at : ℕ) (s : List ℕ) → drop at path ≡ s → whole ≡ verdict_reply path (judge_pages zero k digest at s) → PagesOrder zero path k digest at whole
  unfolding judge_pages
  last_page digest at [] q e = record {
    refuses = λ h. absurd (omega (arith, ap length q, length-drop at path));
    passes = λ _. stop_refuses path whole EndsEarly e;
  }
  last_page digest at (b ∷ s) q e = record {
    refuses = λ _. stop_refuses path whole Departs e;
    passes = λ h. absurd (h (omega (arith, ap length q, length-drop at path)));
  }

  pages_order : (depth : ℕ) → Continues depth
  unfolding judge_pages
  pages_order zero digest at e = last_page digest at (drop at path) refl e
  pages_order (suc depth) digest at e = read_order depth at digest (pages_order depth) (page (drop at path)) refl e

root_fails : (root : List ℕ) → (length root ≡ 32 → ⊥) → is_digest root ≡ false
unfolding is_digest
root_fails root h = ne_eqb (length root) 32 h

root_passes : (root : List ℕ) → ((length root ≡ 32 → ⊥) → ⊥) → is_digest root ≡ true
unfolding is_digest
root_passes root h = cases (eqb (length root) 32) (λ e. e) (λ e. absurd (h (eqb-false (length root) 32 e)))

pub verify_replies : VerifyReplies
unfolding verify_verdict due unless
verify_replies bytes key digest =
    let path = bytes.list in
    let k = key.list in
    let root = digest.list in
    let whole = verify_reply path k root in
    let v = judge_pages deepest k root 0 path in
    check whole (due_reply path v) (due_refuses path v) TooLong (leb (length path) longest) ((UnlawfulKey, lawful k) ∷ (WrongValue, is_digest root) ∷ [])
    (lt-leb (length path) longest) (λ h. le-leb (length path) longest (within (length path) longest h)) refl
    (λ _ e₁. check whole (due_reply path v) (due_refuses path v) UnlawfulKey (lawful k) ((WrongValue, is_digest root) ∷ []) (λ h. h) (lawful_passes (lawful k)) e₁
    (λ _ e₂. check whole (due_reply path v) (due_refuses path v) WrongValue (is_digest root) [] (root_fails root) (root_passes root) e₂
    (λ _ e₃. pages_order path bytes.small k whole deepest root 0 e₃)))
