-- The labels of a chain that stand before a known one, label by label.
use Prim.Native.Nat.{ℕ, suc, ◌+◌, ◌-◌, ◌≤◌, ◌<◌}
use mathlib.Core.Path.{◌≡◌, sym, ◌∙◌}
use mathlib.Core.Bool.{Bool, true, false, cond}
use mathlib.Core.List.{List, [], ◌∷◌}
use native.Mathlib.Omega.{arith}
use native.Mathlib.Numerals.{add-one}
use lib.ListN.{take, drop, get_or, drop_of_length-le}
use lib.Seq.{get_or-take, length-take-le, drop-cons}
use Rattle.bytestring.proofs.Tools.{part_is}
use Rattle.known.specs.Rows.{label_count, label_place, LabelsStand}
use Rattle.known.specs.Known.{is_among, Linked, digests_in, IsKnown, labels_before, OpenLabels}

module _ (s heads words root u : List ℕ) (w most : ℕ) where
  abbrev digests : ℕ → List (List ℕ)
  digests count = root ∷ digests_in s (take count words)

  -- the first k labels are not known
  abbrev pub OpenSoFar : ℕ → Type 0
  OpenSoFar k =
      (labels : List (List ℕ)) → LabelsStand u w labels → (count : ℕ) → Linked s heads words count
      → labels_before (root ∷ digests_in s (take count words)) (take most labels) ≡ k + labels_before (root ∷ digests_in s (take count words)) (drop k (take most labels))

  pub none_tried : OpenSoFar 0
  none_tried labels x count l = omega arith

  module _ (fits : most ≤ label_count w) (k : ℕ) (so_far : OpenSoFar k) where
    pub open_all : k ≡ most → OpenLabels s heads words root u w most most
    unfolding labels_before
    open_all h labels x count l =
        let n = length-take-le most labels (omega (arith, x.count)) in
        let e : drop k (take most labels) ≡ [] = drop_of_length-le (take most labels) {i = k} (omega (arith, n)) in
        let z : labels_before (digests count) (drop k (take most labels)) ≡ 0 = rw e in
        omega (arith, so_far labels x count l, z)

    module _ (h : k < most) (at : ℕ) (e : at ≡ label_place w k) (a : Bool) (ea : IsKnown s heads words root (take (at + 32 - at) (drop at u)) a) where
      next_label : (labels : List (List ℕ)) → LabelsStand u w labels → (count : ℕ) → Linked s heads words count
          → labels_before (digests count) (drop k (take most labels)) ≡ cond a 0 (suc (labels_before (digests count) (drop (suc k) (take most labels))))
      unfolding labels_before
      next_label labels x count l =
          let n = length-take-le most labels (omega (arith, x.count)) in
          let label : get_or (take most labels) k [] ≡ take 32 (drop at u) =
          get_or-take most labels k [] h ∙ sym (x.stand k (omega (arith, x.count))).bytes ∙ rw e in
          let test : is_among (digests count) (take 32 (drop at u)) ≡ a = sym (ea count l ∙ rw (part_is u at 32)) in
          rw (drop-cons (take most labels) k [] (omega (arith, n)), label, test)

      pub open_stops : a ≡ true → OpenLabels s heads words root u w most k
      open_stops q labels x count l =
          let z : labels_before (digests count) (drop k (take most labels)) ≡ 0 = next_label labels x count l ∙ rw q in
          omega (arith, so_far labels x count l, z)

      pub open_more : a ≡ false → OpenSoFar (k + 1)
      open_more q labels x count l =
          let z : labels_before (digests count) (drop k (take most labels)) ≡ suc (labels_before (digests count) (drop (suc k) (take most labels))) = next_label labels x count l ∙ rw q in
          rw (add-one k) (omega (arith, so_far labels x count l, z))
