-- The search in one page: where the value that it finds stands, and the gap that it comes to; and a page's place in its path.
use Prim.Native.Nat.{ℕ, ◌+◌, ◌-◌, ◌≤◌, ◌<◌}
use mathlib.Core.Path.{◌≡◌, refl, sym, ap, ◌∙◌}
use mathlib.Core.Bool.{true}
use mathlib.Core.Option.{Option, some}
use mathlib.Core.List.{List, [], ◌∷◌, ◌++◌}
use native.Mathlib.Omega.{arith}
use lib.ListN.{length, drop, length-append, length-drop}
use lib.Seq.{drop-drop, drop-append_seam}
use Rattle.bytestring.proofs.Tools.{All}
use Rattle.value.specs.Value.{digest_length, is_value, value_in}
use Rattle.value.proofs.Laws.{value_digest_lem}
use Rattle.key.specs.Key.{less}
use Rattle.key.proofs.Laws.{less-connected, less_same, less_asymmetric}
use Rattle.page.specs.Reading.{concat}
use Rattle.page.specs.Number.{array, number_bytes}
use Rattle.page.specs.Page.{gap_bytes, value_bytes, RawEntry, entry_bytes, RawPage, page_bytes}
use Rattle.page.proofs.Pages.{GoodEntry}
use Rattle.page.proofs.Standing.{value_there}
use Rattle.tree.specs.Record.{Record}
use Rattle.tree.specs.OnePage.{entries_start, key_after, records_in}
use Rattle.tree.proofs.Laws.{At, at_left, at_right, at_both}
use Rattle.promises.specs.Map.{find}
use Rattle.promises.proofs.MapLaws.{Before, Above, above_before, Sorted, find_here, find_later}
use Rattle.path.specs.Verify.{Sought, value_at, in_gap, sought_from}
use Rattle.path.specs.Order.{AllKeys, last_key, last_gap}

-- ---- one entry of a row, by the order of its key and the key sought
module _ (k : List ℕ) (gap : Option (List ℕ)) (before : List ℕ) (at : ℕ) (e : RawEntry) (es : List RawEntry) where
  abbrev whole : Sought
  whole = sought_from k gap before at (e ∷ es)

  pub sought_before : Before k (key_after before e) → whole ≡ in_gap gap
  unfolding sought_from
  sought_before h = rw h

  pub sought_here : k ≡ key_after before e → whole ≡ value_at (at + length (entry_bytes e) - digest_length)
  unfolding sought_from
  sought_here h = rw (less_same k (key_after before e) h, less_same (key_after before e) k (sym h))

  pub sought_later : Before (key_after before e) k → whole ≡ sought_from k e.after (key_after before e) (at + length (entry_bytes e)) es
  unfolding sought_from
  sought_later h = rw (h, less_asymmetric (key_after before e) k h)

-- ---- where the value stands
entry_long : (e : RawEntry) → is_value e.val ≡ true → 32 < length (entry_bytes e)
unfolding entry_bytes value_bytes
entry_long e h = simp length-append (omega (arith, value_digest_lem e.val h))

-- A value's digest stands at a place, between two others.
pub record ValueStands (path : List ℕ) (from place to : ℕ) (v : List ℕ) : Type 0 where
  pub ahead : from < place
  pub within : place + digest_length ≤ to
  pub right : is_value v ≡ true
  pub bytes : value_in path place ≡ v

-- The search has found an entry's value, or it has come to a gap.
pub data Way (k path : List ℕ) (gap : Option (List ℕ)) (before : List ℕ) (at : ℕ) (es : List RawEntry) (sought : Sought) : Type 0 where
  found : (place : ℕ) (v : List ℕ) → sought ≡ value_at place → find k (records_in before es) ≡ some v
      → ValueStands path at place (at + length (concat entry_bytes es)) v → Way k path gap before at es sought
  missed : (first later : List RawEntry) → sought ≡ in_gap (last_gap gap first) → es ≡ first ++ later
      → AllKeys (λ key. less key k ≡ true) (records_in before first)
      → AllKeys (λ key. less k key ≡ true) (records_in (last_key before first) later) → Way k path gap before at es sought

module _ (k path : List ℕ) where
  all_greater : (rs : List Record) → Above k rs → AllKeys (λ key. less k key ≡ true) rs
  all_greater [] a = tt
  all_greater (r ∷ rs) a = (a.0, all_greater rs a.1)

  -- an entry with a lesser key is passed over
  further : (gap : Option (List ℕ)) (before : List ℕ) (at : ℕ) (e : RawEntry) (es : List RawEntry) → Before (key_after before e) k
      → Way k path e.after (key_after before e) (at + length (entry_bytes e)) es
      (sought_from k e.after (key_after before e) (at + length (entry_bytes e)) es)
      → Way k path gap before at (e ∷ es) (sought_from k gap before at (e ∷ es))
  unfolding records_in
  further gap before at e es h (found place v q f w) =
      found place v (sought_later k gap before at e es h ∙ q) (find_later k (record { key = key_after before e; val = e.val }) (records_in (key_after before e) es) h ∙ f)
      (record { ahead = omega (arith, w.ahead); within = omega (arith, w.within, length-append (entry_bytes e) (concat entry_bytes es)); right = w.right; bytes = w.bytes })
  further gap before at e es h (missed first later q split lesser greater) =
      missed (e ∷ first) later (sought_later k gap before at e es h ∙ q) (ap (λ (l : List RawEntry). e ∷ l) split) (h, lesser) greater

  pub searched : (gap : Option (List ℕ)) (before : List ℕ) (at : ℕ) (es : List RawEntry) → All GoodEntry es
      → At path at (concat entry_bytes es) → Sorted (records_in before es) → Way k path gap before at es (sought_from k gap before at es)
  unfolding sought_from records_in
  searched gap before at [] g b s = missed [] [] refl refl tt tt
  searched gap before at (e ∷ es) g b s =
      let key : List ℕ = key_after before e in
      let r : Record = record { key = key; val = e.val } in
      let later : List Record = records_in key es in
      let end : ℕ = at + length (entry_bytes e) in
      let size = length-append (entry_bytes e) (concat entry_bytes es) in
      less-connected k key
      (λ h. missed [] (e ∷ es) (sought_before k gap before at e es h) refl tt (h, all_greater later (above_before k key later h s.0)))
      (λ h. found (end - 32) e.val (sought_here k gap before at e es h) (find_here k r later h) (record {
        ahead = omega (arith, entry_long e g.0.val);
        within = omega (arith, size, entry_long e g.0.val);
        right = g.0.val;
        bytes = let l = at_left path at (entry_bytes e) (concat entry_bytes es) b in value_there e g.0.val path at l.0 l.1;
      }))
      (λ h. further gap before at e es h (searched e.after key end es g.1 (at_right path at (entry_bytes e) (concat entry_bytes es) b) s.1))

-- the value that is found is the one under the key
pub found_value : (k path : List ℕ) (gap : Option (List ℕ)) (before : List ℕ) (at : ℕ) (es : List RawEntry) (sought : Sought) → Way k path gap before at es sought
    → (place : ℕ) → sought ≡ value_at place → find k (records_in before es) ≡ some (value_in path place)
found_value k path gap before at es sought (found there v q f w) place e =
    let same : there ≡ place = cc in
    f ∙ ap some (sym w.bytes ∙ ap (λ (n : ℕ). value_in path n) same)
found_value k path gap before at es sought (missed first later q split lesser greater) place e = let z : ◌≡◌ {A = ℕ} 0 1 = cc in absurd (omega arith)

-- ---- a page that stands in a path
module _ (path : List ℕ) (at : ℕ) (p : RawPage) (rest : List ℕ) (stands : drop at path ≡ page_bytes p ++ rest) where
  pub rest_is : rest ≡ drop (at + length (page_bytes p)) path
  rest_is = sym (sym (drop-drop (length (page_bytes p)) at path) ∙ ap (drop (length (page_bytes p))) stands ∙ drop-append_seam (page_bytes p) rest)

  pub entries_within : at + entries_start p.entries + length (concat entry_bytes p.entries) ≤ length path
  unfolding page_bytes
  entries_within = omega (arith, simp length-append at (ap length stands), length-drop at path)

  pub entries_stand : At path (at + entries_start p.entries) (concat entry_bytes p.entries)
  unfolding page_bytes
  entries_stand =
      let head : List ℕ = 0xA2 ∷ 0x61 ∷ 0x65 ∷ [] in
      let count : List ℕ = number_bytes array (length p.entries) in
      let rows : List ℕ = concat entry_bytes p.entries in
      let tail : List ℕ = (0x61 ∷ 0x6C ∷ []) ++ gap_bytes p.left in
      at_left path (at + entries_start p.entries) rows tail (at_both path at head count (rows ++ tail) (rest, stands))
