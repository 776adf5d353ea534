-- Prefix lengths: one entry's, and those of a row of entries.
use Rattle.std.specs.Prelude.{Result, Ok, Err}
use Prim.Native.Nat.{ℕ, zero, suc, ◌+◌, ◌-◌, ◌≤◌, ◌<◌}
use mathlib.Core.Path.{◌≡◌, refl, sym, ap, ◌∙◌}
use mathlib.Core.Bool.{Bool, true, false, not}
use mathlib.Core.List.{List, [], ◌∷◌, ◌++◌}
use native.Mathlib.Omega.{arith}
use native.Mathlib.Nat.{sub-zero}
use lib.Dec.{eqb}
use lib.ListN.{length, take, drop, get_or}
use lib.Seq.{drop-cons, get_or-take}
use borrow.Table.Steps.{cases}
use borrow.Author.Tests.{eqb-true, eqb-false, eq-eqb, ne_eqb, not-true, not-false}
use Rattle.bytestring.specs.Bytes.{Bytes}
use Rattle.key.specs.Key.{shared}
use Rattle.page.specs.Reading.{read, times}
use Rattle.page.specs.Page.{RawEntry, entry}
use Rattle.page_reader.specs.Place.{EntryIs}
use Rattle.page_reader.specs.declared.Stop.{Stop}
use Rattle.page_reader.specs.declared.EntryAt.{EntryAt}
use Rattle.tree.specs.OnePage.{prefixes_of}
use Rattle.page_keys.specs.Buffer.{HoldsKey, Extended, PrefixIs}
use Rattle.page_keys.proofs.Buffers.{holds_none}
use Rattle.page_keys.proofs.Entries.{shares_small, row_ends, row_goes_on, row_behind}

-- ---- how many bytes a key shares with one that begins with n of its bytes
shared_long : (k r : List ℕ) (n : ℕ) → length k ≤ n → shared k (take n k ++ r) ≡ length k
unfolding shared
shared_long [] r n h = refl
shared_long (a ∷ k) r zero h = absurd (omega arith)
shared_long (a ∷ k) r (suc n) h = rw (eq-eqb a a refl) (ap suc (shared_long k r n (omega arith)))

shared_stop : (k : List ℕ) (n : ℕ) → n < length k → shared k (take n k ++ []) ≡ n
unfolding shared
shared_stop [] n h = absurd (omega arith)
shared_stop (a ∷ k) zero h = refl
shared_stop (a ∷ k) (suc n) h = rw (eq-eqb a a refl) (ap suc (shared_stop k n (omega arith)))

shared_off : (k r : List ℕ) (n b : ℕ) → n < length k → (get_or k n 0 ≡ b → ⊥) → shared k (take n k ++ (b ∷ r)) ≡ n
unfolding shared
shared_off [] r n b h f = absurd (omega arith)
shared_off (a ∷ k) r zero b h f = rw (ne_eqb a b f)
shared_off (a ∷ k) r (suc n) b h f = rw (eq-eqb a a refl) (ap suc (shared_off k r n b (omega arith) f))

shared_on : (k r : List ℕ) (n b : ℕ) → n < length k → get_or k n 0 ≡ b → n < shared k (take n k ++ (b ∷ r))
unfolding shared
shared_on [] r n b h f = absurd (omega arith)
shared_on (a ∷ k) r zero b h f = rw (eq-eqb a b f) (omega arith)
shared_on (a ∷ k) r (suc n) b h f = rw (eq-eqb a a refl) (omega (arith, shared_on k r n b (omega arith) f))

-- ---- one prefix length, in the facts that the branches of the code leave
module _ (buffer s : List ℕ) (size shares at n : ℕ) where
  pub key_shorter : size < shares → PrefixIs buffer size s shares at n false
  unfolding PrefixIs
  key_shorter h k w room =
      rw (shared_long k (take n (drop at s)) shares (omega (arith, w.size))) (sym (ne_eqb shares (length k) (λ q. omega (arith, w.size))))

  pub key_ends : size ≡ shares → PrefixIs buffer size s shares at n true
  unfolding PrefixIs
  key_ends h k w room =
      rw (shared_long k (take n (drop at s)) shares (omega (arith, w.size))) (sym (eq-eqb shares (length k) (omega (arith, w.size))))

  pub no_room : length buffer ≤ shares → PrefixIs buffer size s shares at n false
  unfolding PrefixIs
  no_room h k w room = absurd (omega arith)

  module _ (low : shares ≤ size) (other : size ≡ shares → ⊥) where
    longer : (k : List ℕ) → HoldsKey buffer size k → shares < length k
    longer k w = omega (arith, w.size, other)

    pub nothing_follows : n ≡ 0 → PrefixIs buffer size s shares at n true
    unfolding PrefixIs
    nothing_follows z k w room = rw z (sym (eq-eqb shares _ (sym (shared_stop k shares (longer k w)))))

    module _ (some : n ≡ 0 → ⊥) (fits : at + n ≤ length s) where
      pub first : take n (drop at s) ≡ get_or s at 0 ∷ take (n - 1) (drop (suc at) s)
      first =
          let e : n ≡ suc (n - 1) = omega (arith, some) in
          ap (λ (m : ℕ). take m (drop at s)) e ∙ rw (drop-cons s at 0 (omega (arith, some)))

      pub held : (k : List ℕ) → HoldsKey buffer size k → shares < length buffer → get_or k shares 0 ≡ get_or buffer shares 0
      held k w room =
          sym (get_or-take (length buffer) k shares 0 room) ∙ ap (λ (l : List ℕ). get_or l shares 0) (sym w.bytes)
          ∙ get_or-take size buffer shares 0 (omega (arith, w.size, longer k w))

      pub byte_differs : (get_or buffer shares 0 ≡ get_or s at 0 → ⊥) → PrefixIs buffer size s shares at n true
      unfolding PrefixIs
      byte_differs f k w room =
          rw first (sym (eq-eqb shares _ (sym (shared_off k _ shares (get_or s at 0) (longer k w) (λ q. f (sym (held k w room) ∙ q))))))

      pub byte_agrees : get_or buffer shares 0 ≡ get_or s at 0 → PrefixIs buffer size s shares at n false
      unfolding PrefixIs
      byte_agrees f k w room =
          let h = shared_on k (take (n - 1) (drop (suc at) s)) shares (get_or s at 0) (longer k w) (held k w room ∙ f) in
          rw first (sym (ne_eqb shares _ (λ q. omega (arith, q, h))))

      pub byte_compared : PrefixIs buffer size s shares at n (not (eqb (get_or buffer shares 0) (get_or s at 0)))
      byte_compared =
          let b = get_or buffer shares 0 in
          let c = get_or s at 0 in
          cases (eqb b c) (λ q. rw q (byte_agrees (eqb-true b c q))) (λ q. rw q (byte_differs (eqb-false b c q)))

-- ---- a row of entries
-- What is left of a row that was read, and the key before it, which the buffer holds.
pub record RowLeft (s : List ℕ) (past : ℕ) (es : List RawEntry) (n at : ℕ) (buffer : List ℕ) (size : ℕ) : Type 0 where
  pub before : List ℕ
  pub left : List RawEntry
  pub holds : HoldsKey buffer size before
  pub reads : times n entry (drop at s) ≡ read left (drop past s)
  pub same : prefixes_of [] es ≡ prefixes_of before left

-- The first i entries of a row are right.
unfoldable pub RowSoFar : List ℕ → ℕ → ℕ → ℕ → ℕ → List ℕ → ℕ → Type 0
RowSoFar s first n i at buffer size =
    (es : List RawEntry) (past : ℕ) → times n entry (drop first s) ≡ read es (drop past s) → RowLeft s past es (n - i) at buffer size

abbrev pub RowIs : List ℕ → ℕ → ℕ → Bool → Type 0
RowIs s first n r = (es : List RawEntry) (past : ℕ) → times n entry (drop first s) ≡ read es (drop past s) → r ≡ prefixes_of [] es

pub row_none : (s : List ℕ) (first n : ℕ) (buffer : List ℕ) → RowSoFar s first n 0 first buffer 0
unfolding RowSoFar
row_none s first n buffer es past r = record { before = []; left = es; holds = holds_none buffer; reads = rw sub-zero r; same = refl }

-- the ways that a turn of the loop goes
module _ (s : List ℕ) (first n i at : ℕ) (buffer : List ℕ) (size : ℕ) (u : RowSoFar s first n i at buffer size) where
  pub row_all : n ≤ i → RowIs s first n true
  unfolding RowSoFar prefixes_of
  row_all h es past r = let x = u es past r in sym (x.same ∙ rw (row_ends s n i at past x.left x.reads h))

  module _ (h : i < n) (m : Result EntryAt Stop) (w : EntryIs s at m) where
    pub row_stops : (stop : Stop) → m ≡ Err stop → RowIs s first n true
    unfolding RowSoFar
    row_stops stop q es past r = let x = u es past r in absurd (row_goes_on s n i at past x.left x.reads h m w stop q)

    module _ (e : EntryAt) (q : m ≡ Ok e) (fits : Bool) (p : PrefixIs buffer size s e.shares e.remainder e.size fits)
        (bytes : Bytes s) (large : 65536 ≤ length buffer) where
      right_now : (k : List ℕ) → HoldsKey buffer size k → fits ≡ eqb e.shares (shared k (take e.shares k ++ take e.size (drop e.remainder s)))
      unfolding PrefixIs
      right_now k x = p k x (omega (arith, shares_small s at m w e q bytes))

      pub row_wrong : not fits ≡ true → RowIs s first n false
      unfolding RowSoFar prefixes_of
      row_wrong f es past r =
          let x = u es past r in
          let y = row_behind s n i at past x.left x.reads h m w e q in
          sym (x.same ∙ rw (y.1, ← right_now x.before x.holds, not-true fits f))

      pub row_more : not fits ≡ false → (buffer' : List ℕ) (size' : ℕ) → Extended buffer size s e.shares e.remainder e.size buffer' size'
          → RowSoFar s first n (i + 1) e.end buffer' size'
      unfolding RowSoFar Extended prefixes_of
      row_more f buffer' size' z es past r =
          let x = u es past r in
          let y = row_behind s n i at past x.left x.reads h m w e q in
          record {
            before = take e.shares x.before ++ take e.size (drop e.remainder s);
            left = y.0;
            holds = z x.before x.holds;
            reads = y.2;
            same = x.same ∙ ap (prefixes_of x.before) y.1 ∙ rw (← right_now x.before x.holds, not-false fits f);
          }
