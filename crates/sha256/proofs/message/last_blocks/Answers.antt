use mathlib.Core.Path.{ap, ◌∙◌}
use mathlib.Core.List.{List}
use Prim.Native.Nat.{ℕ}
use lib.ListN.{length}
use lib.Seq.{paste}
use Rattle.sha256.proofs.Tail.{filled}
use Rattle.sha256.proofs.message.last_blocks.Goals as goal

pub returns : goal.returns
returns c =
    let a = c.args in
    let p = c.requires in
    filled a.rest.now _ _ _ _ a.n a.j p.1 p.2 (c.paste_bytes.ensures ∙ ap (λ (t : List ℕ). paste t 0 a.rest.now (length a.rest.now)) p.0) c.paste_bytes-2.ensures c.length_bytes.ensures c.paste_bytes-3.ensures
