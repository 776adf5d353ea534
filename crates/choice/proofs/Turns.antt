-- Two rows combined, turn by turn.
use Rattle.std.specs.declared.cmp.Ordering.{Ordering}
use Rattle.std.specs.declared.cmp.Ordering.TheVariants.{Less, Equal, Greater}
use Rattle.std.specs.Prelude.{Option, Some, None, unwrap_or}
use Prim.Native.Nat.{ℕ, ◌+◌, ◌-◌, ◌≤◌, ◌<◌}
use mathlib.Core.Path.{◌≡◌, refl, sym, ap, subst, ◌∙◌}
use mathlib.Core.Bool.{Bool, true, false, cond}
use mathlib.Core.List.{List, [], ◌∷◌, ◌++◌, map, append_assoc, append-nil, map-append}
use native.Mathlib.Numerals.{add-one}
use native.Mathlib.Omega.{arith}
use lib.ListN.{length, take, drop, get_or, length-append, length-map}
use lib.Seq.{take-suc-set}
use borrow.Table.Steps.{cases}
use Rattle.limits.specs.Limits.{most}
use Rattle.bytestring.proofs.Equal.{equal-cases}
use Rattle.bytestring.proofs.Tools.{All, all_append, part_taken}
use Rattle.key.specs.Key.{order}
use Rattle.key.proofs.Laws.{order_less, order_equal, order_greater}
use Rattle.tree.specs.Record.{Record}
use Rattle.row.specs.Row.{source_of, record_of_word, Stands, Row, records_of}
use Rattle.row.specs.Memory.{Recalls}
use Rattle.row.proofs.Rows.{records_length}
use Rattle.value.specs.Value.{value_in}
use Rattle.promises.specs.Map.{less_value, greater}
use Rattle.promises.proofs.ValueOrder.{value-connected, value_asymmetric, value_same}
use Rattle.choice.specs.Choice.{combined, rule_of, combined_of, choice_of, sifted_of, value_order, value_at, greater_word, word_of, keeps_first, candidate_of, Kept, Held, held_key, Readable, candidate_at, rest_end, AppendSays, RowOf, WithinSays}
use Rattle.choice.specs.declared.cursor.Cursor.{Cursor}
use Rattle.choice.specs.declared.policy.Policy.{Policy}
use Rattle.choice.specs.declared.policy.Policy.TheVariants.{Merged, Lacking}
use Rattle.choice.specs.declared.policy.Candidate.{Candidate}
use Rattle.choice.proofs.Weaving.{combined_none, combined_first, combined_second, combined_both, weave_whole}
use Rattle.choice.proofs.Sifting.{sift_end, sift_few}
use Rattle.choice.proofs.Choosing.{all_first, first_at, all_drop, records_past, records_cons, records_snoc, records_slice}

-- ---- two words for records under one key
-- the word is one of the two
greater_either : (P : ℕ → Type 0) {x y : ℕ} → P x → P y → (o : Ordering) → P (greater_word o x y)
greater_either P p q Less = q
greater_either P p q Equal = p
greater_either P p q Greater = p

module _ (s u : List ℕ) (x y : ℕ) where
  abbrev value_of : ℕ → List ℕ
  value_of w = (record_of_word s u w).val

  abbrev by_value_lem : Ordering
  by_value_lem = value_order (value_of x) (value_of y)

  greater_record : (record_of_word s u x).key ≡ (record_of_word s u y).key
      → record_of_word s u (greater_word by_value_lem x y) ≡ record { key = (record_of_word s u x).key; val = greater (value_of x) (value_of y) }
  unfolding value_order greater
  greater_record e =
      cases (less_value (value_of x) (value_of y)) (λ h. rw h (λ i. record { key = sym e i; val = value_of y }))
      (λ h. rw h (cases (less_value (value_of y) (value_of x)) (λ g. rw g refl) (λ g. rw g refl)))

  -- the word of the value chosen, where the values stand at these places
  module _ (g : Bool) (place other w : ℕ) (first : value_in (source_of s u x) place ≡ (record_of_word s u x).val) (second : value_in (source_of s u y) other ≡ (record_of_word s u y).val)
      (chosen : w ≡ word_of g (value_at s u x place) (value_at s u y other) x y) where
    word_is : w ≡ cond g (greater_word by_value_lem x y) y
    unfolding value_at word_of
    word_is = chosen ∙ cases g (λ e. rw (e, first, second)) (λ e. rw e)

    pub word_stands : Stands s u x → Stands s u y → Stands s u w
    word_stands h k = rw word_is (cases g (λ e. rw e (greater_either (Stands s u) h k by_value_lem)) (λ e. rw e k))

    pub word_spells : (record_of_word s u x).key ≡ (record_of_word s u y).key
        → record_of_word s u w ≡ record { key = (record_of_word s u x).key; val = choice_of g (record_of_word s u x).val (record_of_word s u y).val }
    unfolding choice_of
    word_spells e =
        rw word_is (cases g (λ h. rw h (greater_record e)) (λ h. rw h (λ i. record { key = sym e i; val = value_of y })))

  -- ---- the candidate
  -- the records that it stands for: one or none
  abbrev kept_of : Candidate → List Record
  kept_of c = cond c.kept (record_of_word s u c.word ∷ []) []

  abbrev candidate : Policy → Ordering → Candidate
  candidate p o = candidate_of p o (value_of x) (value_of y) x y

  candidate_stands : Stands s u x → Stands s u y → (p : Policy) (o : Ordering) → Stands s u (candidate p o).word
  candidate_stands h k p Less = h
  candidate_stands h k Merged Equal = greater_either (Stands s u) h k by_value_lem
  candidate_stands h k Lacking Equal = k
  candidate_stands h k p Greater = k

  alone_kept : (p : Policy) → (rule_of p).alone (record_of_word s u x) ≡ cond (keeps_first p) (record_of_word s u x ∷ []) []
  unfolding rule_of
  alone_kept Merged = refl
  alone_kept Lacking = refl

  both_kept : (p : Policy) → (record_of_word s u x).key ≡ (record_of_word s u y).key → (rule_of p).both (record_of_word s u x) (record_of_word s u y) ≡ kept_of (candidate p Equal)
  unfolding rule_of choice_of value_order
  both_kept Merged e = ap (λ (r : Record). r ∷ []) (sym (greater_record e))
  both_kept Lacking e =
      equal-cases (value_of x) (value_of y) (λ h q. rw (h, q, value_same (value_of y) (value_of y) refl))
      (λ h n.
      value-connected (value_of x) (value_of y) (λ g. rw (h, g)) (λ q. absurd (n q))
      (λ g. rw (h, g, value_asymmetric (value_of y) (value_of x) g)))

  candidate_first : (p : Policy) (o : Ordering) → order (record_of_word s u x).key (record_of_word s u y).key ≡ o → (ms rs : List Record)
      → combined (rule_of p) (record_of_word s u x ∷ ms) (record_of_word s u y ∷ rs)
      ≡ kept_of (candidate p o) ++ combined (rule_of p) (cond (candidate p o).first ms (record_of_word s u x ∷ ms)) (cond (candidate p o).second rs (record_of_word s u y ∷ rs))
  candidate_first p Less e ms rs =
      combined_first (rule_of p) (record_of_word s u x) ms (record_of_word s u y) rs (order_less (record_of_word s u x).key (record_of_word s u y).key e) ∙ rw (alone_kept p)
  candidate_first p Equal e ms rs =
      let same = order_equal (record_of_word s u x).key (record_of_word s u y).key e in
      combined_both (rule_of p) (record_of_word s u x) ms (record_of_word s u y) rs same ∙ rw (both_kept p same)
  candidate_first p Greater e ms rs =
      combined_second (rule_of p) (record_of_word s u x) ms (record_of_word s u y) rs (order_greater (record_of_word s u x).key (record_of_word s u y).key e)

-- ---- one word more, or none
module _ (row : List ℕ) (k limit w : ℕ) (kept : Bool) (row' : List ℕ) (k' : ℕ) (t : Kept row k limit w kept row' (Some k')) (room : limit ≤ length row) where
  fits : kept ≡ true → k < length row
  fits e = omega (arith, rw e at t.0, t.1)

  kept_stands : (s u : List ℕ) → All (Stands s u) (take k row) → Stands s u w → All (Stands s u) (take k' row')
  kept_stands s u stands standing =
      rw (t.0, t.2)
      (cases kept
      (λ e. rw (e, add-one k, take-suc-set row k w (fits e)) (all_append (Stands s u) (take k row) (w ∷ []) stands (standing, tt)))
      (λ e. rw e stands))

  kept_records : (s u : List ℕ) → records_of s u row' k' ≡ records_of s u row k ++ cond kept (record_of_word s u w ∷ []) []
  kept_records s u =
      rw (t.0, t.2)
      (cases kept (λ e. rw (e, records_snoc s u row k w (fits e))) (λ e. rw e (sym (append-nil (records_of s u row k)))))

-- ---- the rows combined so far
-- The first k words of the row stand for records, and the rest of both rows, combined, makes them whole.
pub record SoFar (s u first : List ℕ) (n : ℕ) (second : List ℕ) (m : ℕ) (p : Policy) (limit : ℕ) (row keys notes others marks : List ℕ) (a b : Cursor) (k : ℕ) : Type 0 where
  pub whole : Row s u first n
  pub other : Row s u second m
  pub left : Held s u first n keys notes a
  pub right : Held s u second m others marks b
  pub slots : length notes ≡ 64
  pub others_slots : length marks ≡ 64
  pub within : a.at ≤ n
  pub beside : b.at ≤ m
  pub few : k ≤ limit
  pub room : limit ≤ length row
  pub small : limit ≤ most
  pub stands : All (Stands s u) (take k row)
  pub records : records_of s u row k ++ combined (rule_of p) (drop a.at (records_of s u first n)) (drop b.at (records_of s u second m)) ≡ combined_of p s u first n second m

module _ {s u first : List ℕ} {n : ℕ} {second : List ℕ} {m : ℕ} (p : Policy) (limit : ℕ) where
  pub begins : (row keys notes others marks : List ℕ) (a b : Cursor) → Row s u first n → Row s u second m
      → Held s u first n keys notes a → Held s u second m others marks b → length notes ≡ 64 → length marks ≡ 64 → a.at ≡ 0 → b.at ≡ 0
      → limit ≤ most → limit ≤ length row → SoFar s u first n second m p limit row keys notes others marks a b 0
  unfolding records_of combined_of
  begins row keys notes others marks a b v w h i e f q r small room = record {
    whole = v;
    other = w;
    left = h;
    right = i;
    slots = e;
    others_slots = f;
    within = omega arith;
    beside = omega arith;
    few = omega arith;
    room = room;
    small = small;
    stands = tt;
    records = rw (q, r);
  }

-- the words of a part of a row
module _ {s u words : List ℕ} {n : ℕ} (r : Row s u words n) where
  part_stands : (i c : ℕ) → c ≤ n → All (Stands s u) (take (c - i) (drop i words))
  part_stands i c h =
      rw (part_taken c i words) (all_drop (Stands s u) i (take c words) (all_first (Stands s u) words c (omega (arith, r.room)) (λ j g. r.stands j (omega arith))))

  part_records : (i : ℕ) → map (record_of_word s u) (take (n - i) (drop i words)) ≡ drop i (records_of s u words n)
  part_records i = rw (part_taken n i words) (records_slice s u words n i)

  -- the second row is used up
  rest_records : (p : Policy) (i : ℕ) → map (record_of_word s u) (take (rest_end p i n - i) (drop i words)) ≡ combined (rule_of p) (drop i (records_of s u words n)) []
  unfolding rule_of
  rest_records Merged i = part_records i ∙ sym (weave_whole (choice_of true) (drop i (records_of s u words n)))
  rest_records Lacking i =
      let none : i - i ≡ 0 = omega arith in rw none (sym (sift_end (drop i (records_of s u words n))))

  -- the position that a cursor goes to
  moved : (i : ℕ) (b : Bool) → i < n → drop (cond b (i + 1) i) (records_of s u words n)
      ≡ cond b (drop (i + 1) (records_of s u words n)) (record_of_word s u (get_or words i 0) ∷ drop (i + 1) (records_of s u words n))
  moved i true h = refl
  moved i false h = records_cons s u words n i r.room h

-- a cursor that goes on by one position at most stays within its row
at_most : {i n : ℕ} (b : Bool) → i < n → cond b (i + 1) i ≤ n
at_most true h = omega arith
at_most false h = omega arith

module _ {s u first : List ℕ} {n : ℕ} {second : List ℕ} {m : ℕ} {p : Policy} {limit : ℕ} {row keys notes others marks : List ℕ} {a b : Cursor} {k : ℕ}
    (f : SoFar s u first n second m p limit row keys notes others marks a b k) where
  abbrev later : ℕ → ℕ → List Record
  later i j = combined (rule_of p) (drop i (records_of s u first n)) (drop j (records_of s u second m))

  pub keys_size : 16384 ≡ length keys
  keys_size = omega (arith, f.left.remembers.size, f.slots)

  pub others_size : 16384 ≡ length others
  others_size = omega (arith, f.right.remembers.size, f.others_slots)

  size : length (combined_of p s u first n second m) ≡ k + length (later a.at b.at)
  size =
      sym (ap length f.records) ∙ length-append (records_of s u row k) (later a.at b.at)
      ∙ rw (records_length s u row k (omega (arith, f.few, f.room)))

  -- what is left goes behind the row
  ended : (words : List ℕ) → All (Stands s u) words → map (record_of_word s u) words ≡ later a.at b.at
      → (r : Option ℕ) (row' : List ℕ) → length row' ≡ length row → AppendSays row k limit words r row'
      → WithinSays limit s u (combined_of p s u first n second m) r row'
  unfolding records_of
  ended words standing same (Some c) row' same_length says =
      let room : c ≤ length row' = omega (arith, says.1, f.room) in
      record {
        whole = record {
          few = omega (arith, says.1, f.small);
          room = room;
          first = f.whole.first;
          second = f.whole.second;
          stands = first_at (Stands s u) row' c room (rw says.2 (all_append (Stands s u) (take k row) words f.stands standing));
        };
        records = rw says.2 (map-append (record_of_word s u) (take k row) words ∙ rw same f.records);
      }
  ended words standing same None row' same_length says = omega (arith, says, size, ap length (sym same), length-map words (record_of_word s u))

  module _ (r : Option ℕ) (row' : List ℕ) (same_length : length row' ≡ length row) where
    -- the second row is used up
    pub ends_second : m ≤ b.at → {end : ℕ} → (end ≡ rest_end p a.at n) × (a.at ≤ end) × (end ≤ n) → AppendSays row k limit (take (end - a.at) (drop a.at first)) r row'
        → WithinSays limit s u (combined_of p s u first n second m) r row'
    ends_second h {end} e says =
        let none : drop b.at (records_of s u second m) ≡ [] = records_past s u second m b.at f.other.room h in
        ended (take (end - a.at) (drop a.at first)) (part_stands f.whole a.at end e.2)
        (rw (e.0, none) (rest_records f.whole p a.at)) r row' same_length says

    -- the first row is used up
    pub ends_first : n ≤ a.at → AppendSays row k limit (take (m - b.at) (drop b.at second)) r row'
        → WithinSays limit s u (combined_of p s u first n second m) r row'
    ends_first h says =
        let none : drop a.at (records_of s u first n) ≡ [] = records_past s u first n a.at f.whole.room h in
        ended (take (m - b.at) (drop b.at second)) (part_stands f.other b.at m (omega arith))
        (part_records f.other b.at ∙ rw none (sym (combined_none (rule_of p) (drop b.at (records_of s u second m))))) r row' same_length says

  module _ (more : a.at < n) (there : b.at < m) where
    abbrev x : ℕ
    x = get_or first a.at 0

    abbrev y : ℕ
    y = get_or second b.at 0

    abbrev recalled_first : Recalls s u x keys notes (record { from = a.from; size = a.size; value = a.value })
    recalled_first = f.left.recalls more

    abbrev recalled_second : Recalls s u y others marks (record { from = b.from; size = b.size; value = b.value })
    recalled_second = f.right.recalls there

    pub readable : Readable s u first keys a × Readable s u second others b
    readable = (
      record { word = omega (arith, f.whole.room); key = recalled_first.room; value = recalled_first.within },
      record { word = omega (arith, f.other.room); key = recalled_second.room; value = recalled_second.within },
    )

    abbrev by_key : Ordering
    by_key = order (held_key keys a) (held_key others b)

    module _ (c : Candidate) (ec : c ≡ candidate_at p s u first keys a second others b) where
      candidate_is : c ≡ candidate s u x y p by_key
      unfolding value_at
      candidate_is = ec ∙ rw (recalled_first.val, recalled_second.val)

      taken : later a.at b.at ≡ kept_of s u x y c ++ later (cond c.first (a.at + 1) a.at) (cond c.second (b.at + 1) b.at)
      taken =
          let keys-order : order (record_of_word s u x).key (record_of_word s u y).key ≡ by_key = rw (← recalled_first.key, ← recalled_second.key) in
          rw (moved f.whole a.at c.first more, moved f.other b.at c.second there, moved f.whole a.at false more, moved f.other b.at false there, candidate_is)
          (candidate_first s u x y p by_key keys-order _ _)

      -- one cursor at least goes on
      pub turn_less : {i j : ℕ} → i ≡ cond c.first (a.at + 1) a.at → j ≡ cond c.second (b.at + 1) b.at → (n - i) + (m - j) < (n - a.at) + (m - b.at)
      turn_less ei ej = goes_on by_key (ei ∙ rw candidate_is) (ej ∙ rw candidate_is)
        where
          goes_on : {i j : ℕ} (o : Ordering) → i ≡ cond (candidate s u x y p o).first (a.at + 1) a.at → j ≡ cond (candidate s u x y p o).second (b.at + 1) b.at
              → (n - i) + (m - j) < (n - a.at) + (m - b.at)
          goes_on Less ei ej = omega arith
          goes_on Equal ei ej = omega arith
          goes_on Greater ei ej = omega arith

      pub too_many : (r : Option ℕ) (row' : List ℕ) → Kept row k limit c.word c.kept row' r → r ≡ None → limit < length (combined_of p s u first n second m)
      too_many r row' kept e =
          let none : limit < cond c.kept (k + 1) k = subst (λ (r : Option ℕ). Kept row k limit c.word c.kept row' r) e kept in
          cases c.kept (λ e. omega (arith, size, rw e at none, ap length (rw e at taken))) (λ e. absurd (omega (arith, f.few, rw e at none)))

      module _ (r : Option ℕ) (row' : List ℕ) (k' : ℕ) (done : Kept row k limit c.word c.kept row' r) (is : r ≡ Some k') where
        abbrev kept : Kept row k limit c.word c.kept row' (Some k')
        kept = subst (λ (r : Option ℕ). Kept row k limit c.word c.kept row' r) is done

        -- the word is kept or not, and the cursors go on
        pub turn : length row' ≡ length row
            → {keys' notes' : List ℕ} {a' : Cursor} → (a'.at ≡ cond c.first (a.at + 1) a.at) × Held s u first n keys' notes' a' → length notes' ≡ 64
            → {others' marks' : List ℕ} {b' : Cursor} → (b'.at ≡ cond c.second (b.at + 1) b.at) × Held s u second m others' marks' b' → length marks' ≡ 64
            → SoFar s u first n second m p limit row' keys' notes' others' marks' a' b' k'
        turn same_length left slots right others_slots = record {
          whole = f.whole;
          other = f.other;
          left = left.1;
          right = right.1;
          slots = slots;
          others_slots = others_slots;
          within = rw left.0 (at_most c.first more);
          beside = rw right.0 (at_most c.second there);
          few = kept.1;
          room = omega (arith, f.room);
          small = f.small;
          stands = kept_stands row k limit c.word c.kept row' k' kept f.room s u f.stands
              (rw candidate_is (candidate_stands s u x y (f.whole.stands a.at more) (f.other.stands b.at there) p by_key));
          records = rw (left.0, right.0, kept_records row k limit c.word c.kept row' k' kept f.room s u)
              (append_assoc (records_of s u row k) (kept_of s u x y c) _ ∙ rw (← taken) f.records);
        }

-- ---- what the second row has that the first does not hold
pub sifted_row : (s u first : List ℕ) (n : ℕ) (second : List ℕ) (m : ℕ) (row : List ℕ) (r : Option ℕ) → WithinSays m s u (combined_of Lacking s u first n second m) r row
    → Row s u second m → (count : ℕ) → count ≡ unwrap_or r 0 → RowOf s u row count (sifted_of s u first n second m)
unfolding combined_of rule_of sifted_of
sifted_row s u first n second m row (Some k) says other count e = rw e says
sifted_row s u first n second m row None says other count e =
    absurd (omega (arith, says, sift_few (records_of s u first n) (records_of s u second m), records_length s u second m other.room))
