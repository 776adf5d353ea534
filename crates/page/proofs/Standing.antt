-- The value of an entry that stands at a place of a string of bytes.
use Prim.Native.Nat.{ℕ, ◌+◌, ◌-◌}
use mathlib.Core.Path.{◌≡◌, refl, sym, ap, ◌∙◌}
use mathlib.Core.Bool.{true}
use mathlib.Core.List.{List, ◌++◌, append_assoc}
use native.Mathlib.Omega.{arith}
use lib.ListN.{length, drop, get_or, length-append}
use lib.Seq.{take_at, drop_at, drop-drop, get_or-drop}
use Rattle.value.specs.Value.{value_codec, value_digest, is_value, value_in}
use Rattle.value.proofs.Laws.{value_digest_lem, value_parts}
use Rattle.page.specs.Number.{plain_number, byte_string, number_bytes}
use Rattle.page.specs.Page.{gap_bytes, value_bytes, RawEntry, entry_bytes}
use Rattle.page.proofs.Pages.{before_remainder, before_shares, before_gap, before_value}

-- nine bytes, of which the codec is the seventh, and then the digest
link_there : (s : List ℕ) (at : ℕ) (v rest : List ℕ) → is_value v ≡ true → drop at s ≡ value_bytes v ++ rest → value_in s (at + 9) ≡ v
unfolding value_bytes
link_there s at v rest h q =
    let n : at + 9 - 3 ≡ at + 6 = omega arith in
    let codec : get_or s (at + 6) 0 ≡ value_codec v = sym (get_or-drop at s 6 0) ∙ ap (λ (l : List ℕ). get_or l 6 0) q in
    let digest : drop (at + 9) s ≡ value_digest v ++ rest = sym (drop-drop 9 at s) ∙ ap (drop 9) q in
    rw (n, codec, digest, take_at (value_digest v) rest 32 (value_digest_lem v h)) (value_parts v h)

-- all of an entry but its value
abbrev entry_head : RawEntry → List ℕ
entry_head e =
    before_remainder ++ (number_bytes byte_string (length e.remainder) ++ (e.remainder ++ (
    before_shares ++ (number_bytes plain_number e.shares ++ (
    before_gap ++ (gap_bytes e.after ++ before_value))))))

module _ (e : RawEntry) (h : is_value e.val ≡ true) where
  entry_parts : entry_bytes e ≡ entry_head e ++ value_bytes e.val
  unfolding entry_bytes
  entry_parts = simp append_assoc

  pub size_of_entry : length (entry_bytes e) ≡ length (entry_head e) + 41
  unfolding value_bytes
  size_of_entry = ap length entry_parts ∙ omega (arith, length-append (entry_head e) (value_bytes e.val), value_digest_lem e.val h)

  -- an entry's bytes end with its value's digest
  pub value_there : (s : List ℕ) (at : ℕ) (rest : List ℕ) → drop at s ≡ entry_bytes e ++ rest → value_in s (at + length (entry_bytes e) - 32) ≡ e.val
  value_there s at rest q =
      let parts : drop at s ≡ entry_head e ++ (value_bytes e.val ++ rest) = q ∙ rw entry_parts (append_assoc (entry_head e) (value_bytes e.val) rest) in
      let n : at + length (entry_bytes e) - 32 ≡ at + length (entry_head e) + 9 = omega (arith, size_of_entry) in
      rw n
      (link_there s (at + length (entry_head e)) e.val rest h
      (sym (drop-drop (length (entry_head e)) at s) ∙ rw parts (drop_at (entry_head e) (value_bytes e.val ++ rest) (length (entry_head e)) refl)))
