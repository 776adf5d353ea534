-- The key of an entry: whether it is greater than the key before it, and how the search goes past it.
use Rattle.std.specs.declared.cmp.Ordering.{Ordering}
use Rattle.std.specs.declared.cmp.Ordering.TheVariants.{Less, Equal, Greater}
use Prim.Native.Nat.{ℕ, suc, ◌+◌, ◌-◌, ◌≤◌, ◌<◌}
use mathlib.Core.Path.{◌≡◌, refl, sym, ap, ◌∙◌}
use mathlib.Core.Bool.{Bool, true, false, ◌&&◌}
use mathlib.Core.List.{List, ◌++◌}
use native.Mathlib.Omega.{arith}
use lib.Dec.{leb, ltb}
use lib.ListN.{length, take, drop, get_or, length-append, length-drop}
use lib.Seq.{get_or_at, length-take-le}
use borrow.Author.Tests.{ltb-true, ltb-false, leb-true, leb-false}
use borrow.Table.Steps.{cases}
use Rattle.key.specs.Key.{less, order, shared}
use Rattle.key.proofs.Laws.{less_asymmetric, less_same, order_less, order_equal, order_greater, shared_le_left}
use Rattle.key_order.proofs.Shared.{both_end, b_begins_a, a_begins_b, lower_byte, higher_byte}
use Rattle.page_reader.specs.declared.EntryAt.{EntryAt}
use Rattle.page_keys.specs.Buffer.{LawfulIs}
use Rattle.page_keys.proofs.Buffers.{holds_whole}
use Rattle.page_keys.proofs.Prefixes.{first, held}
use Rattle.path_reader.specs.Judging.{Rises, go_past, PastEntry, TakesEntry}
use Rattle.path_reader.specs.declared.entries.Search.{Search}
use Rattle.path_reader.specs.declared.entries.Search.TheVariants.{On, Value, Gap}
use Rattle.path_reader.specs.declared.entries.EntriesJudged.{EntriesJudged}

-- ---- by the first byte behind the prefix
module _ (buffer s : List ℕ) (size shares at n : ℕ) (fits : at + n ≤ length s) where
  abbrev next : List ℕ → List ℕ
  next k = take shares k ++ take n (drop at s)

  module _ (k : List ℕ) (right : shares ≡ shared k (next k)) where
    kept : length (take shares k) ≡ shares
    kept = length-take-le shares k (omega (arith, right, shared_le_left k (next k)))

    next_length : length (next k) ≡ shares + n
    next_length =
        omega (arith, length-append (take shares k) (take n (drop at s)), kept, length-take-le n (drop at s) (omega (arith, length-drop at s)))

    next_greater : Less ≡ order k (next k) → true ≡ less k (next k)
    next_greater e = sym (order_less k (next k) (sym e))

    next_less : Greater ≡ order k (next k) → false ≡ less k (next k)
    next_less e = sym (less_asymmetric (next k) k (order_greater k (next k) (sym e)))

  pub no_byte : n ≡ 0 → Rises buffer size s shares at n false
  unfolding Rises
  no_byte z k w right room =
      let short : length (next k) ≤ shares = omega (arith, next_length k right) in
      cases (leb (length k) shares)
      (λ e. sym (less_same k (next k) (order_equal k (next k) (sym (both_end k (next k) shares right short (leb-true (length k) shares e))))))
      (λ e. next_less k right (b_begins_a k (next k) shares right short (leb-false (length k) shares e)))

  module _ (some : n ≡ 0 → ⊥) where
    longer : (k : List ℕ) → shares ≡ shared k (next k) → shares < length (next k)
    longer k right = omega (arith, next_length k right, some)

    pub key_ends : size ≤ shares → Rises buffer size s shares at n true
    unfolding Rises
    key_ends h k w right room = next_greater k right (a_begins_b k (next k) shares right (longer k right) (omega (arith, w.size)))

    pub no_room : length buffer ≤ shares → Rises buffer size s shares at n false
    unfolding Rises
    no_room h k w right room = absurd (omega (arith, longer k right))

    pub byte_decides : shares < size → shares < length buffer → Rises buffer size s shares at n (ltb (get_or buffer shares 0) (get_or s at 0))
    unfolding Rises
    byte_decides h b k w right room =
        let low : shares ≤ size = omega arith in
        let other : size ≡ shares → ⊥ = λ q. omega arith in
        let before : get_or k shares 0 ≡ get_or buffer shares 0 = held buffer s size shares at n low other some fits k w b in
        let after : get_or (next k) shares 0 ≡ get_or s at 0 =
        ap (λ (l : List ℕ). get_or (take shares k ++ l) shares 0) (first buffer s size shares at n low other some fits)
        ∙ get_or_at (take shares k) (get_or s at 0) (take (n - 1) (drop (suc at) s)) 0 shares (kept k right) in
        let there : shares < length k = omega (arith, w.size) in
        cases (ltb (get_or buffer shares 0) (get_or s at 0))
        (λ e.
        let lower : get_or k shares 0 < get_or (next k) shares 0 = omega (arith, before, after, ltb-true (get_or buffer shares 0) (get_or s at 0) e) in
        rw e (next_greater k right (lower_byte k (next k) shares right (longer k right) there lower)))
        (λ e.
        let higher : get_or (next k) shares 0 ≤ get_or k shares 0 = omega (arith, before, after, ltb-false (get_or buffer shares 0) (get_or s at 0) e) in
        rw e (next_less k right (higher_byte k (next k) shares right (longer k right) there higher)))

-- ---- the search goes past an entry
module _ (buffer : List ℕ) (size : ℕ) (key : List ℕ) (e : EntryAt) where
  module _ (search : Search) where
    -- it has ended
    pub past_ended : (ended : Search) → search ≡ ended → ((k : List ℕ) → go_past key k e ended ≡ ended) → PastEntry buffer size key e search ended
    unfolding PastEntry
    past_ended ended q f k w room = rw (q, f k)

    module _ (gap : ℕ) (q : search ≡ On gap) where
      pub past_long : length buffer < size → PastEntry buffer size key e search (On gap)
      unfolding PastEntry
      past_long h k w room = absurd (omega arith)

      module _ (o : Ordering) (is : o ≡ order key (take size buffer)) where
        pub past_less : o ≡ Less → PastEntry buffer size key e search (Gap gap)
        unfolding PastEntry
        past_less p k w room = rw (q, ← holds_whole w room, order_less key (take size buffer) (sym is ∙ p))

        pub past_greater : o ≡ Greater → PastEntry buffer size key e search (On e.link)
        unfolding PastEntry
        past_greater p k w room =
            let h = order_greater key (take size buffer) (sym is ∙ p) in
            rw (q, ← holds_whole w room, less_asymmetric (take size buffer) key h, h)

        pub past_equal : o ≡ Equal → PastEntry buffer size key e search (Value e.value)
        unfolding PastEntry
        past_equal p k w room =
            let h = order_equal key (take size buffer) (sym is ∙ p) in
            rw (q, ← holds_whole w room, less_same key (take size buffer) h, less_same (take size buffer) key (sym h))

  -- the tests of its key are taken in
  pub entry_taken : (judged : EntriesJudged) (fits rises keeps : Bool) (search : Search) → LawfulIs buffer size keeps
      → PastEntry buffer size key e judged.search search
      → TakesEntry buffer size key fits rises e judged
      (record { prefixes = judged.prefixes && fits; lawful = judged.lawful && keeps; rising = judged.rising && rises; search = search })
  unfolding LawfulIs
  entry_taken judged fits rises keeps search says past = record {
    prefixes = refl;
    lawful = λ k w. ap (λ (b : Bool). judged.lawful && b) (says k w);
    rising = refl;
    search = past;
  }
