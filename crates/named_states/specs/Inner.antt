-- What the contracts inside this crate cite, and no public contract does.
use Rattle.std.specs.Prelude.{ℕ, ◌+◌, ◌≤◌, ◌<◌, ◌≡◌, List, [], length, get_or}
use Rattle.value.specs.Value.{digest_length, digest_in}
use Rattle.links.specs.Links.{AllName, Rising}
use Rattle.filing.specs.Filed.{link_named}
pub use Rattle.state_outputs.specs.Outputs.{KeyOf}

-- The label of a page names the digest at this place of the state register.
abbrev pub RootIs : List ℕ → List ℕ → List ℕ → ℕ → ℕ → ℕ → Type 0
RootIs s p labels n place i = (i < n) × (link_named s p (get_or labels i 0) ≡ digest_in s place)

-- So does that of some page among labels that rise.
pub record RootStands (s p labels : List ℕ) (n place : ℕ) : Type 0 where
  pub room : n ≤ length labels
  pub names : AllName s p [] labels n
  pub order : Rising (link_named s p) labels n
  pub within : place + digest_length ≤ length s
  pub small : length s ≤ 4194304
  pub there : (i : ℕ) × RootIs s p labels n place i
