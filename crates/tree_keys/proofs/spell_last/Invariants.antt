use mathlib.Core.Path.{◌≡◌}
use lib.ListN.{length}
use Rattle.bytestring.specs.Bytes.{Bytes}
use Rattle.limits.specs.Limits.{longest_key}
use Rattle.tree_keys.specs.Inner.{LinkWithin}
use Rattle.tree_keys.proofs.Lasts.{SpeltSoFar}
use Rattle.tree_keys.proofs.spell_last.Given as goal

abbrev pub invariant-loop-j : goal.invariant-loop-j
invariant-loop-j l =
    (length l.last ≡ longest_key) × (length l.last ≡ length l.initial.last) × LinkWithin l.sequence l.link × Bytes l.sequence
    × SpeltSoFar l.sequence l.first l.count l.left l.j l.at l.last l.size l.link
