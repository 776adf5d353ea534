-- What the writers write, in the facts that the code leaves.
use Prim.Native.Nat.{ℕ, ◌+◌, ◌-◌, ◌/◌, ◌%◌, ◌≤◌, ◌<◌}
use mathlib.Core.Path.{◌≡◌, refl, sym, ap, ◌∙◌}
use Rattle.std.specs.Prelude.{Some, None, is_some, Option as OptionOf}
use mathlib.Core.List.{List, [], ◌∷◌, ◌++◌, append_assoc}
use native.Mathlib.Omega.{arith}
use lib.ListN.{length, get_or, take, drop, length-append, length-drop}
use lib.Seq.{take_all}
use Rattle.bytestring.proofs.Lending.{lent, back, onto}
use Rattle.bytestring.specs.Bytes.{front}
use Rattle.key.specs.Key.{shared}
use Rattle.value.specs.Value.{value_codec, value_digest}
use Rattle.page.specs.Number.{plain_number, byte_string, number_bytes}
use Rattle.page.specs.Page.{link_head, link_bytes, null, gap_bytes, value_bytes, entry_bytes}
use Rattle.page_writer.specs.Front.{number_length, link_held, gap_length, entry_start_bytes, entry_start_length, entry_end_bytes, entry_end_length, entry_after, entry_length}
use Rattle.page.proofs.Numbers.{bytes_first, bytes_one, bytes_two}
use Rattle.page.proofs.Pages.{before_remainder, before_shares, before_gap, before_value}
use Rattle.page_writer.proofs.Sizes.{length_first, length_one, length_two, length_number, Whole, length_gap, length_start, entry_parts}

-- ---- numbers
module _ (kind n : ℕ) (o xs : List ℕ) where
  abbrev NumberWritten : ℕ → Type 0
  NumberWritten r = (xs ≡ front (number_bytes kind n) o) × (r ≡ number_length n)

  pub first_written : n < 24 → xs ≡ front ((kind + n) ∷ []) o → NumberWritten 1
  first_written h e = (e ∙ rw (bytes_first kind n h), sym (length_first n h))

  pub one_written : 24 ≤ n → n < 256 → xs ≡ front ((kind + 24) ∷ n ∷ []) o → NumberWritten 2
  one_written h k e = (e ∙ rw (bytes_one kind n h k), sym (length_one n h k))

  -- the two bytes of a number, the high one first
  pub two_written : 256 ≤ n → n < 65536 → (bytes : List ℕ) → bytes ≡ n / 256 % 256 ∷ n % 256 ∷ [] → xs ≡ front ((kind + 25) ∷ get_or bytes 0 0 ∷ get_or bytes 1 0 ∷ []) o → NumberWritten 3
  two_written h k bytes b e =
      let high : n / 256 % 256 ≡ n / 256 = omega arith in
      (rw (b, high) at e ∙ rw (bytes_two kind n h), sym (length_two n h))

-- ---- gaps and values
module _ (link : OptionOf (List ℕ)) (o xs : List ℕ) where
  abbrev GapWritten : ℕ → Type 0
  GapWritten r = (xs ≡ front (gap_bytes (link_held link)) o) × (r ≡ gap_length (is_some link))

  pub link_written : (digest : List ℕ) → link ≡ Some digest → xs ≡ front (link_bytes digest) o → GapWritten 41
  unfolding gap_bytes
  link_written digest e w = rw e (w, refl)

  pub null_written : link ≡ None → xs ≡ front (null ∷ []) o → GapWritten 1
  unfolding gap_bytes
  null_written e w = rw e (w, refl)

pub value_written : (o val xs ys : List ℕ) → length val ≡ 33 → xs ≡ front (link_head (value_codec val)) o → ys ≡ front (take 32 (drop 1 val)) (lent 9 xs)
    → back 9 xs ys ≡ front (value_bytes val) o
unfolding value_bytes
value_written o val xs ys h e f =
    let all : take 32 (drop 1 val) ≡ value_digest val = take_all 32 (drop 1 val) (omega (arith, length-drop 1 val)) in
    onto o (link_head (value_codec val)) (value_digest val) 9 xs ys e refl (f ∙ rw all)

-- ---- entries
pub end_written : (o val xs ys zs : List ℕ) (link : OptionOf (List ℕ)) (at : ℕ) → Whole link
    → xs ≡ front (before_gap ++ gap_bytes (link_held link)) o → at ≡ 2 + gap_length (is_some link)
    → ys ≡ front before_value (lent at xs) → zs ≡ front (value_bytes val) (lent (at + 2) (back at xs ys))
    → back (at + 2) (back at xs ys) zs ≡ front (entry_end_bytes (link_held link) val) o
unfolding entry_end_bytes
end_written o val xs ys zs link at h e ea f g =
    let gap : List ℕ = before_gap ++ gap_bytes (link_held link) in
    let l : length gap ≡ at = omega (arith, length_gap link h) in
    let k : length (gap ++ before_value) ≡ at + 2 = omega (arith, length-append gap before_value) in
    onto o (gap ++ before_value) (value_bytes val) (at + 2) (back at xs ys) zs (onto o gap before_value at xs ys e l f) k g
    ∙ ap (λ (p : List ℕ). front p o) (append_assoc gap before_value (value_bytes val))

module _ (key : List ℕ) (shares : ℕ) (k : shares ≤ length key) where
  abbrev size : ℕ
  size = length key - shares

  -- what `&key[shares..]` lends
  part_is : lent shares key ≡ drop shares key
  part_is = take_all size (drop shares key) (omega (arith, length-drop shares key))

  pub start_written : (o xs ys zs : List ℕ) (at : ℕ)
      → xs ≡ front (before_remainder ++ number_bytes byte_string size) o → at ≡ 3 + number_length size
      → ys ≡ front (lent shares key) (lent at xs) → zs ≡ front (before_shares ++ number_bytes plain_number shares) (lent (at + size) (back at xs ys))
      → back (at + size) (back at xs ys) zs ≡ front (entry_start_bytes shares (drop shares key)) o
  unfolding entry_start_bytes
  start_written o xs ys zs at e ea f g =
      let head : List ℕ = before_remainder ++ number_bytes byte_string size in
      let part : List ℕ = drop shares key in
      let n : length part ≡ size = length-drop shares key in
      let l : length head ≡ at = omega (arith, length_number byte_string size) in
      let m : length (head ++ part) ≡ at + size = omega (arith, length-append head part) in
      let whole : (head ++ part) ++ (before_shares ++ number_bytes plain_number shares) ≡ entry_start_bytes shares part = rw n (simp append_assoc) in
      onto o (head ++ part) (before_shares ++ number_bytes plain_number shares) (at + size) (back at xs ys) zs (onto o head part at xs ys e l (f ∙ rw part_is)) m g
      ∙ ap (λ (p : List ℕ). front p o) whole

module _ (previous key : List ℕ) (link : OptionOf (List ℕ)) (shares : ℕ) (e : shares ≡ shared previous key) where
  pub entry_parts_length : entry_start_length shares (length key - shares) + entry_end_length (is_some link) ≡ entry_length previous key (is_some link)
  entry_parts_length = rw e

  pub entry_written : (o val xs ys : List ℕ) (at : ℕ)
      → xs ≡ front (entry_start_bytes shares (drop shares key)) o → at ≡ entry_start_length shares (length key - shares)
      → ys ≡ front (entry_end_bytes (link_held link) val) (lent at xs)
      → back at xs ys ≡ front (entry_bytes (entry_after previous key (link_held link) val)) o
  entry_written o val xs ys at f ea g =
      let start : List ℕ = entry_start_bytes shares (drop shares key) in
      let l : length start ≡ at = length_start shares (drop shares key) ∙ rw (length-drop shares key) (sym ea) in
      let whole : start ++ entry_end_bytes (link_held link) val ≡ entry_bytes (entry_after previous key (link_held link) val) =
      rw e (sym (entry_parts previous key (link_held link) val)) in
      onto o start (entry_end_bytes (link_held link) val) at xs ys f l g ∙ ap (λ (p : List ℕ). front p o) whole
