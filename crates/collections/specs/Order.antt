-- The order of checks of a screen, and what its caller has after the call.
use Rattle.std.specs.Prelude.{ℕ, ◌≤◌, ◌≡◌, true, List, [], ◌∷◌, length}
use Rattle.key.specs.Key.{collection, lawful, all_ordinary}
use Rattle.tree.specs.Record.{records}
use Rattle.promises.specs.Reply.{Reply, counted_reply}
use Rattle.promises.specs.Order.{Judged, Check, Measured}
use Rattle.collections.specs.Screen.{of_collection, screens, on_screen, screen_outcome}

-- A collection name is the part before the slash in some lawful key.
pub record CollectionName (c : List ℕ) : Type 0 where
  pub key : List ℕ
  pub rule : lawful key ≡ true
  pub before : collection key ≡ c

-- 1 to 254 ordinary bytes: a slash and one byte more still fit into a key.
pub record ShortOrdinary (c : List ℕ) : Type 0 where
  pub some : 1 ≤ length c
  pub few : length c ≤ 254
  pub bytes : all_ordinary c ≡ true

-- The reply of the call; its contract states the same answer and output.
abbrev pub screen_reply : List ℕ → List ℕ → ℕ → ℕ → Reply
screen_reply s c n room = counted_reply (screen_outcome s c n room) room

-- Screen: the collection name; 15 from the number of screens on; then the output. The register of the screen's records is written, and the
-- number of screens is answered after its length.
abbrev pub ScreenOrder : List ℕ → List ℕ → ℕ → ℕ → Reply → Type 0
ScreenOrder s c n room reply =
    Judged s reply (λ t.
    Check reply 7 (CollectionName c → ⊥)
    (Check reply 15 (screens (length (of_collection c (records t))) ≤ n)
    (Measured reply room (screens (length (of_collection c (records t))) ∷ []) (on_screen n (of_collection c (records t))))))
