-- Keys that are kept, each with a tag of its page.
use Prim.Native.Nat.{ℕ, ◌+◌, ◌-◌, ◌*◌, ◌%◌, ◌≤◌, ◌<◌}
use mathlib.Core.Path.{◌≡◌, refl, sym, ap, subst, ◌∙◌}
use mathlib.Core.List.{List, ◌++◌, append-nil}
use native.Mathlib.Omega.{arith}
use native.Mathlib.Nat.{mod-lt}
use lib.ListN.{length, take, drop, get_or, set, length-set, length-take, length-drop, drop_of_length-le}
use lib.Seq.{get_or-set_same, get_or-set_other, take-take, take_at, drop-drop, length-take-le}
use lib.Dec.{eqb, ltb}
use borrow.Author.Tests.{eqb-true, eqb-false, ltb-true, ltb-false}
use borrow.Table.Steps.{cases}
use Rattle.bytestring.specs.Bytes.{front}
use Rattle.limits.specs.Limits.{longest, longest_key}
use Rattle.page.specs.Page.{RawPage}
use Rattle.page.proofs.Readers.{read_sub}
use Rattle.row.proofs.Memories.{part_there, part_before, part_behind, part_length}
use Rattle.summaries.specs.Summary.{Summary}
use Rattle.sequence.proofs.Sizes.{few_pages_lem}
use Rattle.filing.specs.Filed.{Filed}
use Rattle.tree_keys.specs.Ends.{SummaryAt, LastSays, tag_page, tag_size, KeptKeys}
use Rattle.tree_keys.specs.Inner.{TagFound, KeyKept}
use Rattle.tree_keys.proofs.Following.{pages_rise}

-- ---- tags
pub turn_within : (w m : ℕ) → 2 ≤ m → w % (m - 1) + 1 < m
turn_within w m h =
    let positive : 0 < m - 1 = omega arith in
    omega (arith, mod-lt w positive)

pub end_within : (tags : List ℕ) (turn w : ℕ) → 2 ≤ length tags → length tags - 1 < length (set tags turn w)
end_within tags turn w h = omega (arith, length-set tags turn w)

-- ---- so few pages that the number of one has room in a tag
pub few_filed : {s p labels pages : List ℕ} {n : ℕ} {raws : List RawPage} → Filed s p labels pages n raws → n < longest
few_filed {p} {raws} f = omega (arith, few_pages_lem p raws f.reads (pages_rise f), f.number, f.short)

-- ---- a key that was kept is copied
module _ (keys last last' : List ℕ) (from size : ℕ) (e : last' ≡ front (take (from + size - from) (drop from keys)) last)
    (fits : from + size ≤ length keys) (room : length last ≡ longest_key) (short : size ≤ longest_key) where
  pub key_copied : take size last' ≡ take size (drop from keys)
  key_copied =
      let m : from + size - from ≡ size = omega arith in
      let l : length (take size (drop from keys)) ≡ size = length-take-le size (drop from keys) (omega (arith, length-drop from keys)) in
      rw (e, m) (take_at (take size (drop from keys)) (drop (length (take size (drop from keys))) last) size l)

-- ---- a key that is kept is the last key
same_pages : {s p labels pages : List ℕ} {n : ℕ} {raws raws' : List RawPage} → Filed s p labels pages n raws → Filed s p labels pages n raws' → raws ≡ raws'
same_pages {raws} f g = read_sub (λ (l : List RawPage) _. raws ≡ l) (sym f.reads ∙ g.reads) refl

module _ {s p labels pages : List ℕ} {n : ℕ} {raws : List RawPage} (f : Filed s p labels pages n raws) {keys tags : List ℕ}
    (kept : KeptKeys raws n keys tags)
    (c k : ℕ) (found : TagFound tags c k) where
  pub kept_short : tag_size (get_or tags k 0) ≤ longest_key
  kept_short = kept.size k found.within

  pub kept_says : (last : List ℕ) (size : ℕ) → size ≡ tag_size (get_or tags k 0) → take size last ≡ take size (drop (longest_key * k) keys) → length last ≡ longest_key
      → LastSays s p labels pages n c last size
  kept_says last size e same room raws' g x q =
      let here : SummaryAt raws c x = subst (λ (l : List RawPage). SummaryAt l c x) (same_pages g f) q in
      record {
        room = omega (arith, kept_short);
        bytes = same ∙ rw e ((kept.right k c found.within found.tag).1 x here);
      }

-- ---- a key more
module _ (raws : List RawPage) (n : ℕ) (keys tags : List ℕ) (i : ℕ) (last : List ℕ) (size : ℕ) (keys' tags' : List ℕ)
    (w : KeyKept keys tags i last size keys' tags')
    (kept : KeptKeys raws n keys tags) (number : i < n) (room : length last ≡ longest_key) (short : size ≤ longest_key)
    (right : (x : Summary) → SummaryAt raws i x → take size last ≡ x.last) where
  abbrev end : ℕ
  end = length tags - 1

  abbrev word : ℕ
  word = 512 * (1 + i) + size

  fits : longest_key * w.turn + longest_key ≤ length keys
  fits = omega (arith, kept.room, w.within)

  keys_long : length keys' ≡ length keys
  keys_long = rw w.bytes (part_length keys last (longest_key * w.turn) longest_key fits room)

  tags_long : length tags' ≡ length tags
  tags_long = rw w.tag (length-set (set tags w.turn word) end w.next ∙ length-set tags w.turn word)

  -- the tag at the end, the new one, and the others
  tag_end : get_or tags' end 0 ≡ w.next
  tag_end = rw w.tag (get_or-set_same (set tags w.turn word) end w.next 0 (omega (arith, length-set tags w.turn word, w.within)))

  tag_new : get_or tags' w.turn 0 ≡ word
  tag_new =
      rw w.tag
      (get_or-set_other (set tags w.turn word) end w.turn w.next 0 (λ e. omega (arith, w.within)) ∙ get_or-set_same tags w.turn word 0 (omega (arith, w.within)))

  tag_old : (k : ℕ) → (k ≡ end → ⊥) → (k ≡ w.turn → ⊥) → get_or tags' k 0 ≡ get_or tags k 0
  tag_old k a b = rw w.tag (get_or-set_other (set tags w.turn word) end k w.next 0 a ∙ get_or-set_other tags w.turn k word 0 b)

  key_new : take size (drop (longest_key * w.turn) keys') ≡ take size last
  key_new =
      rw w.bytes
      (sym (take-take size longest_key _ short) ∙ ap (take size) (part_there keys last (longest_key * w.turn) longest_key fits room))

  key_old : (k m : ℕ) → (k ≡ w.turn → ⊥) → m ≤ longest_key → take m (drop (longest_key * k) keys') ≡ take m (drop (longest_key * k) keys)
  key_old k m e h =
      rw w.bytes
      (cases (ltb k w.turn)
      (λ q. part_before keys last (longest_key * w.turn) longest_key fits room (longest_key * k) m (omega (arith, ltb-true k w.turn q)))
      (λ q. part_behind keys last (longest_key * w.turn) longest_key fits room (longest_key * k) m (omega (arith, ltb-false k w.turn q, e))))

  abbrev RightAt : ℕ → ℕ → Type 0
  RightAt k j = tag_page (get_or tags' k 0) ≡ 1 + j
      → (j < n) × ((x : Summary) → SummaryAt raws j x → take (tag_size (get_or tags' k 0)) (drop (longest_key * k) keys') ≡ x.last)

  new_right : (j : ℕ) → RightAt w.turn j
  new_right j e =
      let page_is : i ≡ j = omega (arith, tag_new) in
      let size_is : tag_size (get_or tags' w.turn 0) ≡ size = omega (arith, tag_new) in
      (omega arith, λ x q. rw size_is (key_new ∙ right x (rw page_is q)))

  old_right : (k j : ℕ) → k < length tags → (k ≡ end → ⊥) → (k ≡ w.turn → ⊥) → RightAt k j
  old_right k j h a b e =
      let same = tag_old k a b in
      let before = kept.right k j h (ap tag_page (sym same) ∙ e) in
      (before.0, λ x q. rw same (key_old k (tag_size (get_or tags k 0)) b (kept.size k h) ∙ before.1 x q))

  -- by the place of the tag
  pick {κ} : {C : Type κ} (k : ℕ) → (k ≡ end → C) → (k ≡ w.turn → C) → ((k ≡ end → ⊥) → (k ≡ w.turn → ⊥) → C) → C
  pick k f g h =
      cases (eqb k end)
      (λ q. f (eqb-true k end q))
      (λ q. cases (eqb k w.turn) (λ r. g (eqb-true k w.turn r)) (λ r. h (eqb-false k end q) (eqb-false k w.turn r)))

  pub key_more : KeptKeys raws n keys' tags'
  key_more = record {
    room = omega (arith, kept.room, keys_long, tags_long);
    size = λ k h.
        let within : k < length tags = omega (arith, tags_long) in
        pick k
        (λ e. rw e (omega (arith, tag_end, w.short)))
        (λ e. rw e (omega (arith, tag_new)))
        (λ a b. rw (tag_old k a b) (kept.size k within));
    right = λ k j h e.
        let within : k < length tags = omega (arith, tags_long) in
        pick k
        (λ z. absurd (omega (arith, tag_end, w.short, ap (λ (m : ℕ). get_or tags' m 0) z)))
        (λ z. subst (λ (m : ℕ). RightAt m j) (sym z) (new_right j) e)
        (λ a b. old_right k j within a b e);
  }

-- ---- the key is written in the place of another
module _ (keys tags last part : List ℕ) (i size turn k : ℕ) (within : turn + 1 < length tags) (whole : k ≡ longest_key) (room : length last ≡ longest_key)
    (long : longest_key * length tags ≤ length keys) (e : part ≡ front last (take k (drop (longest_key * turn) keys))) where
  part_is : part ≡ last
  part_is =
      let lent : List ℕ = take k (drop (longest_key * turn) keys) in
      e ∙ rw (drop_of_length-le lent {i = length last} (omega (arith, length-take k (drop (longest_key * turn) keys)))) (append-nil last)

  pub key_kept : KeyKept keys tags i last size
      (take (longest_key * turn) keys ++ (part ++ drop k (drop (longest_key * turn) keys)))
      (set (set tags turn (512 * (i + 1) + size)) (length tags - 1) ((turn + 1) % 256))
  key_kept =
      let tag_is : 512 * (i + 1) + size ≡ 512 * (1 + i) + size = omega arith in
      record {
        turn = turn;
        next = (turn + 1) % 256;
        within = within;
        short = omega arith;
        bytes = rw (part_is, whole, drop-drop longest_key (longest_key * turn) keys);
        tag = rw tag_is;
      }
