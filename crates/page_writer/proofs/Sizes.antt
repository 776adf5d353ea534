-- How many bytes numbers, gaps, entries and pages take.
use Prim.Native.Nat.{ℕ, ◌+◌, ◌-◌, ◌≤◌, ◌<◌}
use mathlib.Core.Path.{◌≡◌, refl, ap, ◌∙◌}
use mathlib.Core.Bool.{Bool}
use mathlib.Core.Option.{Option, none, some}
use Rattle.std.specs.Prelude.{Some, None, is_some, IfSome, Option as OptionOf}
use mathlib.Core.List.{List, ◌++◌, append_assoc}
use native.Mathlib.Omega.{arith}
use lib.ListN.{length, drop, length-append, length-drop}
use lib.Dec.{ltb}
use borrow.Table.Steps.{cases}
use Rattle.key.specs.Key.{shared}
use Rattle.key.proofs.Laws.{shared_le_right}
use Rattle.page.specs.Reading.{concat}
use Rattle.page.specs.Number.{plain_number, array, number_bytes}
use Rattle.page.specs.Page.{link_bytes, gap_bytes, value_bytes, entry_bytes, RawPage, page_bytes}
use Rattle.page_writer.specs.Front.{number_length, link_held, gap_length, entry_start_bytes, entry_start_length, entry_end_bytes, entry_end_length, entry_after, entry_length, page_start_bytes, page_end_bytes}
use Rattle.page.proofs.Numbers.{bytes_first, bytes_one, bytes_two}

-- ---- numbers
pub length_first : (n : ℕ) → n < 24 → number_length n ≡ 1
unfolding number_length
length_first n h = rw (bytes_first plain_number n h)

pub length_one : (n : ℕ) → 24 ≤ n → n < 256 → number_length n ≡ 2
unfolding number_length
length_one n h k = rw (bytes_one plain_number n h k)

pub length_two : (n : ℕ) → 256 ≤ n → number_length n ≡ 3
unfolding number_length
length_two n h = rw (bytes_two plain_number n h)

-- whatever is counted
pub length_number : (kind n : ℕ) → length (number_bytes kind n) ≡ number_length n
unfolding number_length number_bytes
length_number kind n =
    cases (ltb n 24) (λ e. rw e) (λ e. cases (ltb n 256) (λ f. rw (e, f)) (λ f. rw (e, f)))

-- ---- links, values and gaps
pub length_link : (digest : List ℕ) → length digest ≡ 32 → length (link_bytes digest) ≡ 41
unfolding link_bytes
length_link digest h = rw h

pub length_value : (val : List ℕ) → length val ≡ 33 → length (value_bytes val) ≡ 41
unfolding value_bytes
length_value val h = omega (arith, length-drop 1 val)

-- a link that is held has a digest's length
abbrev pub Whole : OptionOf (List ℕ) → Type 0
Whole link = IfSome link (λ digest. length digest ≡ 32)

pub length_gap : (link : OptionOf (List ℕ)) → Whole link → length (gap_bytes (link_held link)) ≡ gap_length (is_some link)
unfolding gap_bytes
length_gap (Some digest) h = length_link digest h
length_gap None h = refl

-- ---- entries
pub length_start : (shares : ℕ) (remainder : List ℕ) → length (entry_start_bytes shares remainder) ≡ entry_start_length shares (length remainder)
unfolding entry_start_bytes
length_start shares remainder = simp (length-append, length_number) (omega arith)

pub length_end : (link : OptionOf (List ℕ)) (val : List ℕ) → Whole link → length val ≡ 33 → length (entry_end_bytes (link_held link) val) ≡ entry_end_length (is_some link)
unfolding entry_end_bytes
length_end link val hd hv = simp (length-append, length_gap link hd, length_value val hv) (omega arith)

pub entry_parts : (previous key : List ℕ) (after : Option (List ℕ)) (val : List ℕ)
    → entry_bytes (entry_after previous key after val) ≡ entry_start_bytes (shared previous key) (drop (shared previous key) key) ++ entry_end_bytes after val
unfolding entry_bytes entry_after entry_start_bytes entry_end_bytes
entry_parts previous key after val = simp append_assoc

pub length_entry : (previous key : List ℕ) (link : OptionOf (List ℕ)) (val : List ℕ) → Whole link → length val ≡ 33
    → length (entry_bytes (entry_after previous key (link_held link) val)) ≡ entry_length previous key (is_some link)
length_entry previous key link val hd hv =
    ap length (entry_parts previous key (link_held link) val)
    ∙ length-append (entry_start_bytes (shared previous key) (drop (shared previous key) key)) (entry_end_bytes (link_held link) val)
    ∙ rw (length_start (shared previous key) (drop (shared previous key) key), length_end link val hd hv, length-drop (shared previous key) key)

-- ---- pages
pub length_page_start : (count : ℕ) → length (page_start_bytes count) ≡ 3 + number_length count
unfolding page_start_bytes
length_page_start count = omega (arith, length_number array count)

pub length_page_end : (link : OptionOf (List ℕ)) → Whole link → length (page_end_bytes (link_held link)) ≡ 2 + gap_length (is_some link)
unfolding page_end_bytes
length_page_end link h = omega (arith, length_gap link h)

least_number : (n : ℕ) → 1 ≤ number_length n
unfolding number_length number_bytes
least_number n = cases (ltb n 24) (λ e. rw e (omega arith)) (λ e. cases (ltb n 256) (λ f. rw (e, f) (omega arith)) (λ f. rw (e, f) (omega arith)))

pub most_number : (n : ℕ) → number_length n ≤ 3
unfolding number_length number_bytes
most_number n = cases (ltb n 24) (λ e. rw e (omega arith)) (λ e. cases (ltb n 256) (λ f. rw (e, f) (omega arith)) (λ f. rw (e, f) (omega arith)))

least_gap : (g : Option (List ℕ)) → 1 ≤ length (gap_bytes g)
unfolding gap_bytes link_bytes
least_gap none = omega arith
least_gap (some digest) = omega arith

pub least_page : (p : RawPage) → 7 ≤ length (page_bytes p)
unfolding page_bytes
least_page p = simp (length-append, length_number) (omega (arith, least_number (length p.entries), least_gap p.left))

pub page_parts : (p : RawPage) → page_bytes p ≡ page_start_bytes (length p.entries) ++ (concat entry_bytes p.entries ++ page_end_bytes p.left)
unfolding page_bytes page_start_bytes page_end_bytes
page_parts p = simp append_assoc

-- ---- keys as the code holds them
pub shares_fit : (previous key : List ℕ) (shares : ℕ) → shares ≡ shared previous key → shares ≤ length key
shares_fit previous key shares e = omega (arith, shared_le_right previous key)

pub entry_size : (previous key : List ℕ) (linked : Bool) (shares a b g : ℕ) → shares ≡ shared previous key
    → a ≡ number_length (length key - shares) → b ≡ number_length shares → g ≡ gap_length linked
    → 3 + a + (length key - shares) + 2 + b + 2 + g + 2 + 41 ≡ entry_length previous key linked
entry_size previous key linked shares a b g es ea eb eg = rw (ea, eb, eg, es) (omega arith)
