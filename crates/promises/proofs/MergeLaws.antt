-- Merge is commutative, associative and idempotent on sorted lists: in each law both sides find the same under every key.
use mathlib.Core.Path.{◌≡◌, refl, sym, ap, ◌∙◌}
use mathlib.Core.Option.{Option, none, some}
use mathlib.Core.List.{List}
use Prim.Native.Nat.{ℕ}
use Rattle.tree.specs.Record.{Record}
use Rattle.promises.specs.Map.{find, merge, greater_found}
use Rattle.promises.proofs.MapLaws.{Sorted, greater_idempotent, greater_commutes, greater_associates, find_merge, sorted_merge, sorted_ext}

-- ---- the greater of what two sets find
found_idempotent : (v : Option (List ℕ)) → greater_found v v ≡ v
unfolding greater_found
found_idempotent none = refl
found_idempotent (some v) = ap some (greater_idempotent v)

found_commutes : (v w : Option (List ℕ)) → greater_found v w ≡ greater_found w v
unfolding greater_found
found_commutes none none = refl
found_commutes none (some w) = refl
found_commutes (some v) none = refl
found_commutes (some v) (some w) = ap some (greater_commutes v w)

found_associates : (u v w : Option (List ℕ)) → greater_found (greater_found u v) w ≡ greater_found u (greater_found v w)
unfolding greater_found
found_associates none v w = refl
found_associates (some u) none w = refl
found_associates (some u) (some v) none = refl
found_associates (some u) (some v) (some w) = ap some (greater_associates u v w)

-- ---- merge
pub merge_commutes : (a b : List Record) → Sorted a → Sorted b → merge a b ≡ merge b a
merge_commutes a b s t =
    sorted_ext (merge a b) (merge b a) (sorted_merge b a s) (sorted_merge a b t)
    (λ k. find_merge k b a t ∙ found_commutes (find k a) (find k b) ∙ sym (find_merge k a b s))

pub merge_associates : (a b c : List Record) → Sorted a → Sorted b → Sorted c → merge (merge a b) c ≡ merge a (merge b c)
merge_associates a b c s t u =
    sorted_ext (merge (merge a b) c) (merge a (merge b c)) (sorted_merge c (merge a b) (sorted_merge b a s)) (sorted_merge (merge b c) a s)
    (λ k. rw (find_merge k c (merge a b) u, find_merge k b a t, find_merge k (merge b c) a (sorted_merge c b t), find_merge k c b u)
    (found_associates (find k a) (find k b) (find k c)))

pub merge_idempotent : (a : List Record) → Sorted a → merge a a ≡ a
merge_idempotent a s = sorted_ext (merge a a) a (sorted_merge a a s) s (λ k. find_merge k a a s ∙ found_idempotent (find k a))
