-- The left link of a page, by the bytes that end the page.
use Rattle.std.specs.Prelude.{Result, Ok, Err}
use Prim.Native.Nat.{ℕ, suc, ◌+◌, ◌-◌, ◌≤◌, ◌<◌}
use mathlib.Core.Path.{◌≡◌, refl, sym, ap, subst, ◌∙◌}
use mathlib.Core.Bool.{true}
use mathlib.Core.Option.{Option, none, some}
use mathlib.Core.List.{List, [], ◌∷◌, ◌++◌, append_assoc, append-nil}
use native.Mathlib.Omega.{arith}
use lib.ListN.{length, drop, get_or, length-append, length-drop}
use lib.Seq.{take_at, drop_at, drop-drop, get_or-drop}
use borrow.Author.Tests.{lt-ltb, le-ltb}
use Rattle.bytestring.specs.Bytes.{Bytes}
use Rattle.bytestring.proofs.Tools.{All, bytes_drop}
use Rattle.value.specs.Value.{digest_in, dag_cbor, value_codec, value_digest, is_value}
use Rattle.value.proofs.Laws.{value_digest_lem}
use Rattle.page.specs.Reading.{concat}
use Rattle.page.specs.Number.{plain_number, byte_string, array, number_bytes}
use Rattle.page.specs.Page.{link_head, link_bytes, gap_bytes, value_bytes, RawEntry, entry_bytes, RawPage, page_bytes, page}
use Rattle.page.proofs.Pages.{before_entries, before_left, before_remainder, before_shares, before_gap, before_value, GoodEntry, GoodGap, GoodPage, page_spells}
use Rattle.page_reader.specs.Place.{Reads, PageHere, PageIs}
use Rattle.page_reader.specs.declared.Stop.{Stop}
use Rattle.page_reader.specs.declared.PageAt.{PageAt}
use Rattle.page_reader.proofs.Spelling.{reads_end}
use Rattle.page_keys.proofs.Entries.{read_stop≢read}
use Rattle.states.specs.Pages.{link_list, links_after}
use Rattle.sequence.specs.Noted.{links_by_place}
use Rattle.sequence.proofs.Sizes.{page_takes}
use Rattle.filing.specs.Filed.{page_place}
use Rattle.tree_keys.specs.Inner.{place_after, LeftIs}
use Rattle.tree_keys.proofs.Firsts.{same_page, link_is, no_link_lem}

-- ---- where a page ends
pub next_place : (p pages : List ℕ) (n i : ℕ) → i + 1 < n → (place : ℕ) → place ≡ page_place (get_or pages (i + 1) 0) → place ≡ place_after p pages n i
unfolding place_after
next_place p pages n i h place is =
    let e : i + 1 ≡ suc i = omega arith in
    let k : suc i < n = omega arith in
    is ∙ rw (lt-ltb (suc i) n k, e)

pub end_place : (p pages : List ℕ) (n i : ℕ) → n ≤ i + 1 → length p ≡ place_after p pages n i
unfolding place_after
end_place p pages n i h = let k : n ≤ suc i = omega arith in rw (le-ltb (suc i) n k)

-- ---- the bytes that end a page
-- all of an entry but its value
abbrev before_val : RawEntry → List ℕ
before_val e =
    before_remainder ++ (number_bytes byte_string (length e.remainder) ++ (e.remainder ++ (
    before_shares ++ (number_bytes plain_number e.shares ++ (
    before_gap ++ (gap_bytes e.after ++ before_value))))))

entry_val : (e : RawEntry) → entry_bytes e ≡ before_val e ++ value_bytes e.val
unfolding entry_bytes
entry_val e = simp append_assoc

-- entries end with a value
last_value : (e : RawEntry) (es : List RawEntry) → All GoodEntry (e ∷ es)
    → (front : List ℕ) × (v : List ℕ) × (concat entry_bytes (e ∷ es) ≡ front ++ value_bytes v) × (is_value v ≡ true)
last_value e [] g = (before_val e, e.val, rw entry_val (simp append-nil), g.0.val)
last_value e (a ∷ es) g =
    let r = last_value a es g.1 in
    (entry_bytes e ++ r.0, r.1, rw r.2 (sym (append_assoc (entry_bytes e) r.0 (value_bytes r.1))), r.3)

module _ (p : List ℕ) (at end : ℕ) (b : Bytes p) (raw : RawPage) (r : Reads page p at raw end) where
  spelt : (drop at p ≡ page_bytes raw ++ drop end p) × GoodPage raw
  spelt = page_spells.back (drop at p) (drop end p) raw (bytes_drop at p b) r.reads

  -- bytes that end the page stand before its end
  ending : (front back : List ℕ) → page_bytes raw ≡ front ++ back → drop (end - length back) p ≡ back ++ drop end p
  ending front back e =
      let n : end - length back ≡ at + length front = omega (arith, reads_end page_spells b r, ap length e, length-append front back) in
      let parts : drop at p ≡ front ++ (back ++ drop end p) = spelt.0 ∙ rw e (append_assoc front back (drop end p)) in
      rw n (sym (drop-drop (length front) at p) ∙ rw parts (drop_at front (back ++ drop end p) (length front) refl))

  -- the first of 41 of them
  ending_first : (front : List ℕ) (x : ℕ) (back : List ℕ) → page_bytes raw ≡ front ++ (x ∷ back) → length back ≡ 40 → get_or p (end - 41) 0 ≡ x
  ending_first front x back e n =
      let here : end - 41 ≡ end - length (x ∷ back) = omega (arith, n) in
      let same : end - 41 ≡ end - 41 + 0 = omega arith in
      ap (λ (k : ℕ). get_or p k 0) same ∙ sym (get_or-drop (end - 41) p 0 0) ∙ rw here (ap (λ (l : List ℕ). get_or l 0 0) (ending front (x ∷ back) e))

  abbrev before_gap_of_left : List ℕ
  before_gap_of_left = before_entries ++ (number_bytes array (length raw.entries) ++ (concat entry_bytes raw.entries ++ before_left))

  page_parts : page_bytes raw ≡ before_gap_of_left ++ gap_bytes raw.left
  unfolding page_bytes
  page_parts = simp append_assoc

  -- ---- a page with a left link
  module _ (d : List ℕ) (e : raw.left ≡ some d) where
    digest_size : length d ≡ 32
    digest_size = subst GoodGap e spelt.1.left

    link_parts : page_bytes raw ≡ before_gap_of_left ++ (link_head dag_cbor ++ d)
    unfolding gap_bytes link_bytes
    link_parts = page_parts ∙ rw e

    pub linked_size : 47 ≤ end - at
    unfolding links_by_place link_list
    linked_size =
        let many : length (links_by_place raw) ≡ length (links_after raw.entries) + 1
        = ap (λ (g : Option (List ℕ)). length (links_after raw.entries ++ link_list g)) e ∙ length-append (links_after raw.entries) (d ∷ []) in
        omega (arith, many, page_takes (drop at p) raw (drop end p) r.reads, length-drop at p, length-drop end p, r.ahead, r.within)

    pub linked_byte : get_or p (end - 41) 0 ≡ 0xD8
    linked_byte = ending_first before_gap_of_left 0xD8 _ link_parts (omega (arith, digest_size))

    pub linked_digest_lem : digest_in p (end - 32) ≡ d
    linked_digest_lem =
        let parts : page_bytes raw ≡ (before_gap_of_left ++ link_head dag_cbor) ++ d = link_parts ∙ sym (append_assoc before_gap_of_left (link_head dag_cbor) d) in
        let n : end - 32 ≡ end - length d = omega (arith, digest_size) in
        rw n (rw (ending (before_gap_of_left ++ link_head dag_cbor) d parts) (take_at d (drop end p) 32 digest_size))

  -- ---- a page without one: the fourth byte of its last entry's value
  module _ (e : raw.left ≡ none) where
    abbrev before_fourth : List ℕ → List ℕ
    before_fourth front = before_entries ++ (number_bytes array (length raw.entries) ++ (front ++ (0xD8 ∷ 0x2A ∷ 0x58 ∷ [])))

    abbrev after_fourth : List ℕ → List ℕ
    after_fourth v = 0x00 ∷ 0x01 ∷ value_codec v ∷ 0x12 ∷ 0x20 ∷ (value_digest v ++ (0x61 ∷ 0x6C ∷ 0xF6 ∷ []))

    value_parts : (front v : List ℕ) → concat entry_bytes raw.entries ≡ front ++ value_bytes v → page_bytes raw ≡ before_fourth front ++ (0x25 ∷ after_fourth v)
    unfolding page_bytes gap_bytes value_bytes
    value_parts front v q = rw (e, q) (simp append_assoc)

    unlinked_byte : (es : List RawEntry) → raw.entries ≡ es → 47 ≤ end - at → get_or p (end - 41) 0 ≡ 0x25
    unfolding page_bytes gap_bytes number_bytes
    unlinked_byte [] q h =
        let seven : length (page_bytes raw) ≡ 7 = rw (e, q) refl in
        absurd (omega (arith, seven, reads_end page_spells b r))
    unlinked_byte (a ∷ es) q h =
        let v = last_value a es (subst (All GoodEntry) q spelt.1.entries) in
        ending_first (before_fourth v.0) 0x25 (after_fourth v.1) (value_parts v.0 v.1 (ap (concat entry_bytes) q ∙ v.2))
        (omega (arith, length-append (value_digest v.1) (0x61 ∷ 0x6C ∷ 0xF6 ∷ []), value_digest_lem v.1 v.3))

  -- ---- what the byte tells
  left_none : (g : Option (List ℕ)) → raw.left ≡ g → ((47 ≤ end - at) × (get_or p (end - 41) 0 ≡ 0xD8) → ⊥) → none ≡ raw.left
  left_none none e f = sym e
  left_none (some d) e f = absurd (f (linked_size d e, linked_byte d e))

  left_some : (g : Option (List ℕ)) → raw.left ≡ g → 47 ≤ end - at → get_or p (end - 41) 0 ≡ 0xD8 → some (digest_in p (end - 32)) ≡ raw.left
  left_some none e h k = absurd (omega (arith, k, unlinked_byte e raw.entries refl h))
  left_some (some d) e h k = ap (λ (x : List ℕ). some x) (linked_digest_lem d e) ∙ sym e

module _ (p : List ℕ) (at end : ℕ) where
  pub short_page : end - at < 47 → LeftIs p at end 0
  short_page h = record {
    within = λ z. absurd (omega arith);
    link = λ b raw r. no_link_lem p 0 refl ∙ left_none p at end b raw r raw.left refl (λ w. omega (arith, w.0));
  }

  pub no_link_begins : (get_or p (end - 41) 0 ≡ 0xD8 → ⊥) → LeftIs p at end 0
  no_link_begins f = record {
    within = λ z. absurd (omega arith);
    link = λ b raw r. no_link_lem p 0 refl ∙ left_none p at end b raw r raw.left refl (λ w. f w.1);
  }

  pub link_begins : 47 ≤ end - at → end ≤ length p → get_or p (end - 41) 0 ≡ 0xD8 → LeftIs p at end (end - 32)
  link_begins h l k = record {
    within = λ z. omega arith;
    link = λ b raw r. link_is p (end - 32) (λ z. omega arith) ∙ left_some p at end b raw r raw.left refl h k;
  }

-- ---- a page that is read
module _ (p : List ℕ) (at : ℕ) (got : Result PageAt Stop) (w : PageIs p at got) where
  pub left_not_read : (stop : Stop) → got ≡ Err stop → (end : ℕ) → LeftIs p at end 0
  left_not_read stop q end = record {
    within = λ z. absurd (omega arith);
    link = λ b raw r. absurd (read_stop≢read stop (sym (subst (PageIs p at) q w) ∙ r.reads));
  }

  pub left_read : (pa : PageAt) → got ≡ Ok pa → (end : ℕ) → LeftIs p at end pa.left
  left_read pa q end =
      let here : PageHere p at pa = subst (PageIs p at) q w in
      record {
        within = λ z. omega (arith, here.left z, here.whole.within);
        link = λ b raw r. ap (λ (x : RawPage). x.left) (same_page p at _ raw _ end here.whole r);
      }
