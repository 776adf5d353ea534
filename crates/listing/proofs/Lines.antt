-- The lines of records.
use Rattle.std.specs.Prelude.{Option, Some, None}
use Prim.Native.Nat.{ℕ, suc, ◌+◌, ◌-◌, ◌*◌, ◌/◌, ◌%◌, ◌≤◌, ◌<◌}
use mathlib.Core.Path.{◌≡◌, refl, sym, ap, subst, ◌∙◌}
use mathlib.Core.List.{List, [], ◌∷◌, ◌++◌, map, append_assoc, append-nil}
use native.Mathlib.Omega.{arith}
use native.Mathlib.Numerals.{add-one}
use lib.ListN.{length, take, drop, get_or, set, length-set}
use lib.Seq.{take_all, take-suc, take-suc-set}
use Rattle.value.specs.Value.{value_in}
use Rattle.tree.specs.Record.{Record}
use Rattle.row.specs.Row.{record_of_word, records_of}
use Rattle.row.specs.Memory.{Recalls}
use Rattle.row.specs.declared.recall.Recalled.{Recalled}
use Rattle.row.proofs.Rows.{source_same, records_none, records_more, records_split}
use Rattle.promises.specs.Listing.{hex_digit, hexadecimal, space, line_feed, record_lines}
use Rattle.listing.specs.Text.{Adds, line_end, line_of, LineSays}
use Rattle.listing.proofs.Adding.{adds_nothing, adds_then, adds_short, adds_none, adds_same}

-- ---- the end of a line
one_more_byte : (l : List ℕ) (b : ℕ) → hexadecimal (l ++ (b ∷ [])) ≡ hexadecimal l ++ (hex_digit (b / 16) ∷ hex_digit (b % 16) ∷ [])
unfolding hexadecimal
one_more_byte [] b = refl
one_more_byte (a ∷ l) b = ap (λ (r : List ℕ). hex_digit (a / 16) ∷ hex_digit (a % 16) ∷ r) (one_more_byte l b)

-- the space and the digits of the value's first i bytes are written
abbrev pub DigitsSoFar : List ℕ → List ℕ → ℕ → Type 0
DigitsSoFar value text i = take (2 * i + 1) text ≡ space ∷ hexadecimal (take i value)

pub digits_begin : (value text : List ℕ) → take 1 text ≡ space ∷ [] → DigitsSoFar value text 0
unfolding hexadecimal
digits_begin value text e = e

digits_more : (value text : List ℕ) (i : ℕ) → DigitsSoFar value text i → 2 * i + 2 < length text → i < length value
    → DigitsSoFar value (set (set text (2 * i + 1) (hex_digit (get_or value i 0 / 16))) (2 * i + 2) (hex_digit (get_or value i 0 % 16))) (i + 1)
digits_more value text i u h k =
    let b : ℕ = get_or value i 0 in
    let once : List ℕ = set text (2 * i + 1) (hex_digit (b / 16)) in
    let first : take (suc (2 * i + 1)) once ≡ take (2 * i + 1) text ++ (hex_digit (b / 16) ∷ []) =
    take-suc-set text (2 * i + 1) (hex_digit (b / 16)) (omega arith) in
    let second : take (suc (2 * i + 2)) (set once (2 * i + 2) (hex_digit (b % 16))) ≡ take (2 * i + 2) once ++ (hex_digit (b % 16) ∷ []) =
    take-suc-set once (2 * i + 2) (hex_digit (b % 16)) (omega (arith, length-set text (2 * i + 1) (hex_digit (b / 16)))) in
    let e : 2 * (i + 1) + 1 ≡ suc (2 * i + 2) = omega arith in
    let f : 2 * i + 2 ≡ suc (2 * i + 1) = omega arith in
    let d : take (i + 1) value ≡ take i value ++ (b ∷ []) = rw (add-one i) (take-suc value i 0 k) in
    ap (λ (x : ℕ). take x (set once (2 * i + 2) (hex_digit (b % 16)))) e
    ∙ second
    ∙ ap (λ (l : List ℕ). l ++ (hex_digit (b % 16) ∷ []))
    (ap (λ (x : ℕ). take x once) f ∙ first ∙ ap (λ (l : List ℕ). l ++ (hex_digit (b / 16) ∷ [])) u)
    ∙ ap (λ (l : List ℕ). space ∷ l)
    (append_assoc (hexadecimal (take i value)) (hex_digit (b / 16) ∷ []) (hex_digit (b % 16) ∷ [])
    ∙ sym (ap hexadecimal d ∙ one_more_byte (take i value) b))

pub digits_turn : (value text : List ℕ) (i : ℕ) → DigitsSoFar value text i → 2 * i + 2 < length text → i < length value
    → (a b : ℕ) → a ≡ hex_digit (get_or value i 0 / 16) → b ≡ hex_digit (get_or value i 0 % 16)
    → DigitsSoFar value (set (set text (2 * i + 1) a) (2 * i + 2) b) (i + 1)
digits_turn value text i u h k a b e f = rw (e, f) (digits_more value text i u h k)

pub digits_all : (value text : List ℕ) (i : ℕ) → DigitsSoFar value text i → length value ≡ 33 → length text ≡ 68 → 33 ≤ i → i ≤ 33
    → set text 67 line_feed ≡ line_end value
unfolding line_end
digits_all value text i u n e h k =
    let m : 67 ≡ 2 * i + 1 = omega arith in
    sym (take_all 68 (set text 67 line_feed) (omega (arith, length-set text 67 line_feed)))
    ∙ take-suc-set text 67 line_feed (omega arith)
    ∙ ap (λ (l : List ℕ). l ++ (line_feed ∷ []))
    (ap (λ (x : ℕ). take x text) m ∙ u ∙ ap (λ (l : List ℕ). space ∷ hexadecimal l) (take_all i value (omega arith)))

-- ---- a line
module _ {s keys notes : List ℕ} {word : ℕ} {found : Recalled} (w : Recalls s s word keys notes found) {o : List ℕ} {at n : ℕ} (size : n ≡ found.size)
    {m : List ℕ} {q : Option ℕ} (a : Adds o at (take n (drop found.from keys)) m q) where
  key_added : Adds o at (record_of_word s s word).key m q
  key_added = adds_same a (sym w.key ∙ ap (λ (i : ℕ). take i (drop found.from keys)) (sym size))

  pub short_line : q ≡ None → {r : Option ℕ} → r ≡ None → LineSays s word o at m keys notes r
  short_line h e = record { line = adds_none (adds_short key_added h (line_end (record_of_word s s word).val)) e; remembers = w.remembers }

  pub whole_line : {e value rest : List ℕ} {next : ℕ} {r : Option ℕ} → q ≡ Some next → (found.value + 32 ≤ length s → value ≡ value_in s found.value)
      → rest ≡ line_end value → Adds m next rest e r → LineSays s word o at e keys notes r
  whole_line {rest} h v l b =
      let place : found.value + 32 ≤ length s = rw source_same at w.within in
      let held : value_in s found.value ≡ (record_of_word s s word).val = rw source_same at w.val in
      record { line = adds_then key_added h (adds_same b (sym (l ∙ ap line_end (v place ∙ held)))); remembers = w.remembers }

-- ---- all lines
one_line : (r : Record) (rs : List Record) → record_lines (r ∷ rs) ≡ line_of r ++ record_lines rs
unfolding record_lines line_end
one_line r rs =
    sym (append_assoc r.key (space ∷ (hexadecimal r.val ++ (line_feed ∷ []))) (record_lines rs)
    ∙ ap (λ (l : List ℕ). r.key ++ (space ∷ l)) (append_assoc (hexadecimal r.val) (line_feed ∷ []) (record_lines rs)))

lines_append : (xs ys : List Record) → record_lines (xs ++ ys) ≡ record_lines xs ++ record_lines ys
unfolding record_lines
lines_append [] ys = refl
lines_append (r ∷ xs) ys =
    one_line r (xs ++ ys) ∙ ap (λ (l : List ℕ). line_of r ++ l) (lines_append xs ys)
    ∙ sym (append_assoc (line_of r) (record_lines xs) (record_lines ys)) ∙ ap (λ (l : List ℕ). l ++ record_lines ys) (sym (one_line r xs))

no_lines : record_lines [] ≡ []
unfolding record_lines
no_lines = refl

one_line_alone : (r : Record) → record_lines (r ∷ []) ≡ line_of r
one_line_alone r = one_line r [] ∙ ap (λ (l : List ℕ). line_of r ++ l) no_lines ∙ append-nil (line_of r)

-- the lines of the first i records are added
abbrev pub LinesSoFar : List ℕ → List ℕ → List ℕ → ℕ → List ℕ → ℕ → ℕ → Type 0
LinesSoFar s index o at out next i = Adds o at (record_lines (records_of s s index i)) out (Some next)

pub lines_begin : (s index o : List ℕ) (at : ℕ) → LinesSoFar s index o at o at 0
lines_begin s index o at = adds_same (adds_nothing o at) (ap record_lines (records_none s s index) ∙ no_lines)

module _ (s index o : List ℕ) (at : ℕ) (out : List ℕ) (next i : ℕ) (u : LinesSoFar s index o at out next i) (count : ℕ) (most : i ≤ count) where
  abbrev Lines : List ℕ → Option ℕ → Type 0
  Lines e r = Adds o at (record_lines (records_of s s index count)) e r

  pub lines_end : count ≤ i → Lines out (Some next)
  lines_end h = let all : count ≡ i = omega arith in rw all u

  module _ (more : i < count) (room : count ≤ length index) (e keys notes : List ℕ) (q : Option ℕ)
      (l : LineSays s (get_or index i 0) out next e keys notes q) where
    with_line : Adds o at (record_lines (records_of s s index (i + 1))) e q
    with_line =
        let r : Record = record_of_word s s (get_or index i 0) in
        adds_same (adds_then u refl l.line)
        (ap record_lines (records_more s s index i (omega arith)) ∙ lines_append (records_of s s index i) (r ∷ [])
        ∙ ap (λ (x : List ℕ). record_lines (records_of s s index i) ++ x) (one_line_alone r))

    pub lines_more : (past : ℕ) → q ≡ Some past → LinesSoFar s index o at e past (i + 1)
    lines_more past h = subst (λ (r : Option ℕ). Adds o at (record_lines (records_of s s index (i + 1))) e r) h with_line

    pub lines_short : q ≡ None → {r : Option ℕ} → r ≡ None → Lines e r
    lines_short h end =
        let rest : List Record = map (record_of_word s s) (take (count - (i + 1)) (drop (i + 1) index)) in
        adds_none
        (adds_same (adds_short with_line h (record_lines rest))
        (ap record_lines (records_split s s index (i + 1) count (omega arith)) ∙ lines_append (records_of s s index (i + 1)) rest))
        end
