-- A collection's name in a buffer, with bytes behind it; the name's test; and where its records begin and end.
use Rattle.std.specs.Prelude.{Result, Ok, Err, is_ok}
use Prim.Native.Nat.{ℕ, suc, ◌+◌, ◌-◌, ◌≤◌, ◌<◌}
use mathlib.Core.Path.{◌≡◌, sym, ap, ◌∙◌}
use mathlib.Core.Bool.{Bool, true, false, false≢true}
use mathlib.Core.List.{List, [], ◌∷◌, ◌++◌}
use native.Mathlib.Omega.{arith}
use lib.ListN.{length, take, set, replicate}
use lib.Seq.{take-append-add, set-append_seam}
use borrow.Table.Steps.{cases}
use Rattle.bytestring.proofs.Tools.{All, all_weaken, drop_replicate}
use Rattle.bytestring.specs.Bytes.{front}
use Rattle.answer.specs.declared.Refusal.{Refusal}
use Rattle.key.specs.Key.{slash_byte, less, slash_answer}
use Rattle.key.proofs.SlashLaws.{slash_done, slash_refused}
use Rattle.tree.specs.Record.{records}
use Rattle.tree.specs.Judge.{judge}
use Rattle.tree.proofs.Laws.{LawfulKey, accepted_table}
use Rattle.row.specs.Search.{count_below}
use Rattle.row.proofs.Counting.{Window, below_falls, fronts_rise, window_slice}
use Rattle.reading.specs.Positions.{accepted_records}
use Rattle.reading.proofs.Verdicts.{Accepting, t, sorted}
use Rattle.reading.proofs.Listings.{records_in_lem}
use Rattle.writing.specs.Writing.{records_from}
use Rattle.collections.specs.Screen.{is_collection_name, is_in, of_collection}
use Rattle.collections.specs.Order.{ShortOrdinary}
use Rattle.collections.proofs.Names.{short_passes, passes_short, name_short, tried, short_tried, tried_name}
use Rattle.collections.proofs.Bounds.{from, to, below_bounds, from_bound}

-- ---- the buffer
module _ (name : List ℕ) (b size : ℕ) where
  -- the name is written over a row of one byte
  behind : (rest : ℕ) → size - length name ≡ rest → front name (replicate size b) ≡ name ++ replicate rest b
  behind rest e = ap (λ (s : List ℕ). name ++ s) (drop_replicate b (length name) size ∙ ap (λ (n : ℕ). replicate n b) e)

  pub one_behind : length name < size → take (length name + 1) (front name (replicate size b)) ≡ name ++ (b ∷ [])
  one_behind h =
      let rest : ℕ = size - length name - 1 in
      ap (take (length name + 1)) (behind (suc rest) (omega arith)) ∙ take-append-add name (b ∷ replicate rest b) 1

  two_behind : (a : ℕ) → suc (length name) < size
      → take (length name + 2) (set (front name (replicate size b)) (length name) a) ≡ name ++ (a ∷ b ∷ [])
  two_behind a h =
      let rest : ℕ = size - length name - 2 in
      let whole : set (front name (replicate size b)) (length name) a ≡ name ++ (a ∷ b ∷ replicate rest b) =
      ap (λ (s : List ℕ). set s (length name) a) (behind (suc (suc rest)) (omega arith)) ∙ set-append_seam name b (b ∷ replicate rest b) a in
      ap (take (length name + 2)) whole ∙ take-append-add name (a ∷ b ∷ replicate rest b) 2

-- ---- the test
module _ (c : List ℕ) where
  -- the key that is tried stands in the buffer
  pub key_tried : (buffer : List ℕ) → buffer ≡ front c (replicate 256 0x61) → length c ≤ 254
      → slash_answer (tried c) ≡ slash_answer (take (length c + 2) (set buffer (length c) slash_byte))
  key_tried buffer e h =
      let same = ap (λ (s : List ℕ). take (length c + 2) (set s (length c) slash_byte)) e ∙ two_behind c 0x61 256 slash_byte (omega arith) in
      ap slash_answer (sym same)

  pub name_lawful : {n : ℕ} → slash_answer (tried c) ≡ Ok n → is_collection_name c ≡ true
  name_lawful e = short_passes c (name_short c (tried_name c (slash_done (tried c) _ e)))

  not_name : (ShortOrdinary c → ⊥) → is_collection_name c ≡ false
  not_name h = cases (is_collection_name c) (λ e. absurd (h (passes_short c e))) (λ e. e)

  pub name_unlawful : {r : Refusal} → slash_answer (tried c) ≡ Err r → is_collection_name c ≡ false
  name_unlawful e = not_name (λ h. false≢true (sym (slash_refused (tried c) _ e).0 ∙ short_tried c h))

  pub name_tested : (r : Result ℕ Refusal) → slash_answer (tried c) ≡ r → is_ok r ≡ is_collection_name c
  name_tested (Ok n) e = sym (name_lawful e)
  name_tested (Err r) e = sym (name_unlawful e)

  pub name_long : 254 < length c → is_collection_name c ≡ false
  name_long h = not_name (λ s. omega (arith, s.few))

  pub name_fits : is_collection_name c ≡ true → length c < 256
  name_fits h = omega (arith, (passes_short c h).few)

-- ---- the records of the collection stand together
module _ {s index : List ℕ} {count : ℕ} (a : Accepting s index count) (c : List ℕ) (h : is_collection_name c ≡ true) (low high : ℕ)
    (lower : low ≡ count_below (from c) (accepted_records (judge s))) (upper : high ≡ count_below (to c) (accepted_records (judge s))) where
  abbrev below : List ℕ → List ℕ → Bool
  below bound key = less key bound

  windows : All (Window (below (from c)) (below (to c)) (is_in c)) (records (t a))
  windows =
      all_weaken LawfulKey (Window (below (from c)) (below (to c)) (is_in c))
      (λ r l. record { below = below_bounds r.key c l; from = from_bound r.key c l (passes_short c h).bytes })
      (records (t a)) (accepted_table s a.bytes (t a) a.given.judged).fit.keys

  pub bounds_rise : low ≤ high
  bounds_rise =
      let rise = fronts_rise (below (from c)) (below (to c)) (is_in c) (below_falls (from c)) (below_falls (to c)) (records (t a)) windows in
      rw (lower, upper, records_in_lem a.given) rise

  pub collection_slice : records_from low high (accepted_records (judge s)) ≡ of_collection c (records (t a))
  collection_slice =
      let slice = window_slice (below (from c)) (below (to c)) (is_in c) (below_falls (from c)) (below_falls (to c)) (records (t a)) (sorted a) windows in
      rw (lower, upper, records_in_lem a.given) (sym slice)
