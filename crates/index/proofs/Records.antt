-- Records: what the tests of their keys say, and their words in the index.
use Prim.Native.Nat.{ℕ, ◌+◌, ◌≤◌, ◌<◌}
use mathlib.Core.Path.{◌≡◌, refl, sym, ap, ◌∙◌}
use mathlib.Core.Bool.{Bool, true, ◌&&◌, and-true}
use mathlib.Core.List.{List, [], ◌∷◌, ◌++◌}
use native.Mathlib.Omega.{arith}
use lib.Dec.{ltb}
use lib.ListN.{length, take, get_or, length-append, length-set, get_or-append}
use lib.Seq.{get_or-set_same, get_or-set_other, get_or_at}
use borrow.Author.Tests.{ltb-true, ltb-false}
use borrow.Table.Steps.{cases}
use Rattle.bytestring.proofs.Tools.{and_inv}
use Rattle.key.specs.Key.{lawful, less}
use Rattle.key.proofs.Laws.{lawful_length}
use Rattle.page_keys.specs.Buffer.{HoldsKey, LastIs, LawfulIs, RisesIs}
use Rattle.page_keys.proofs.Buffers.{holds_whole}
use Rattle.index.specs.Slot.{Slot, key_of, lawful_slots, rising_after, last_after}
use Rattle.index.specs.Chain.{ChainsAt}
use Rattle.index.specs.Walk.{DepthWord, blank, HoldsWords, Noted, Moved, Taken}
use Rattle.index.specs.declared.walk.WalkState.{WalkState}

-- ---- the index
module _ (index index' : List ℕ) (before : List Slot) (x : Slot) (noted : Noted index (length before) x.page x.entry x.depth index') where
  abbrev Word : ℕ → Type 0
  Word i = DepthWord (get_or index' i 0) (get_or (before ++ (x ∷ [])) i blank)

  word_before : (i : ℕ) → i < length before → i < length index → DepthWord (get_or index i 0) (get_or before i blank) → Word i
  word_before i h g w =
      rw (get_or-append before (x ∷ []) blank i h)
      (cases (ltb (length before) (length index))
      (λ q.
      let z = noted.room (ltb-true (length before) (length index) q) in
      rw (z.1, get_or-set_other index (length before) i z.0 0 (λ e. omega arith)) w)
      (λ q. rw (noted.full (ltb-false (length before) (length index) q)) w))

  word_here : length before < length index → Word (length before)
  word_here q =
      let z = noted.room q in
      rw (z.1, get_or-set_same index (length before) z.0 0 q, get_or_at before x [] blank (length before) refl)
      z.2

  noted_length : length index' ≡ length index
  noted_length =
      cases (ltb (length before) (length index))
      (λ q. let z = noted.room (ltb-true (length before) (length index) q) in rw z.1 (length-set index (length before) z.0))
      (λ q. ap length (noted.full (ltb-false (length before) (length index) q)))

  index_more : HoldsWords DepthWord index before → HoldsWords DepthWord index' (before ++ (x ∷ []))
  unfolding HoldsWords
  index_more u i h g =
      cases (ltb i (length before))
      (λ q.
      let low : i < length before = ltb-true i (length before) q in
      let room : i < length index = omega (arith, noted_length) in
      word_before i low room (u i low room))
      (λ q.
      let here : i ≡ length before = omega (arith, ltb-false i (length before) q, length-append before (x ∷ [])) in
      rw here (word_here (omega (arith, noted_length))))

-- ---- one record more
module _ (index last buffer : List ℕ) (level pg at size : ℕ) (fits : Bool) (st : WalkState) (index' last' : List ℕ)
    (room : length buffer ≡ 256) (same : length last ≡ 256) (stays : length last' ≡ length last)
    (isLawful : Bool) (el : LawfulIs buffer size isLawful)
    (rises : Bool) (er : RisesIs last st.last buffer size rises)
    (noted : Noted index st.count pg at level index') (kept : size ≤ length buffer → take size last' ≡ take size buffer)
    (a b c : Bool) (ea : a ≡ (st.prefixes && fits)) (eb : b ≡ (st.lawful && isLawful)) (ec : c ≡ (st.rising && rises)) where
  abbrev after : WalkState
  after = record {
    next = st.next;
    count = st.count + 1;
    chains = st.chains;
    last = size;
    prefixes = a;
    lawful = b;
    rising = c;
    filled = st.filled;
  }

  module _ (x : Slot) (ed : x.depth ≡ level) (ep : x.page ≡ pg) (ee : x.entry ≡ at) (holds : HoldsKey buffer size (key_of x)) where
    lawful_now : lawful (key_of x) ≡ isLawful
    unfolding LawfulIs
    lawful_now = sym (el (key_of x) holds)

    short_now : lawful (key_of x) ≡ true → size ≤ length buffer
    short_now h = omega (arith, lawful_length (key_of x) h, holds.size)

    less_now : (k : List ℕ) → lawful (key_of x) ≡ true → LastIs last st.last k → rises ≡ less k (key_of x)
    unfolding RisesIs
    less_now k h w = er k (key_of x) w holds (short_now h)

    first : lawful_slots (x ∷ []) ≡ true → lawful (key_of x) ≡ true
    unfolding lawful_slots
    first h = sym (and-true (lawful (key_of x))) ∙ h

    last_now : lawful (key_of x) ≡ true → LastIs last' size (key_of x)
    last_now h = record { room = omega (arith, short_now h); bytes = kept (short_now h) ∙ holds_whole holds (short_now h) }

    index_now : (before : List Slot) → length before ≡ st.count → HoldsWords DepthWord index before → HoldsWords DepthWord index' (before ++ (x ∷ []))
    index_now before e u = index_more index index' before x (rw (e, ep, ee, ed) noted) u

    record_moved : (s row : List ℕ) → st.next ≤ length s → (right : Bool) → (fits ≡ true → right ≡ true)
        → Moved s index row last (x ∷ []) [] right true st after index' row last'
    unfolding lawful_slots rising_after last_after ChainsAt
    record_moved s row h right f = record {
      ahead = omega arith;
      within = h;
      count = refl;
      chain_count = omega arith;
      prefixes = λ e. let q = and_inv st.prefixes (sym ea ∙ e) in (q.0, f q.1);
      fill = sym (and-true st.filled);
      lawful = eb ∙ simp (and-true, lawful_now);
      rising = λ k g w. ec ∙ simp (and-true, ← less_now k (first g) w);
      latest = λ k g w. last_now (first g);
      indexed = index_now;
      room = refl;
      kept = λ i g. refl;
      chained = λ g. tt;
    }

  pub record_taken : Taken index last level pg at buffer size fits st after index' last'
  unfolding Taken
  record_taken s row h x ed ep ee holds right f = record_moved x ed ep ee holds s row h right f
