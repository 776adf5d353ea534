-- The head of a set, which a caller keeps beside the set's register.
use Rattle.std.specs.Prelude.{Bool, ◌&&◌, List, map, length, eqb}
use Rattle.bytestring.specs.Bytes.{zeros, equal}
use Rattle.value.specs.Value.{digest_length}
use Rattle.tree.specs.Tree.{top_layer}
use Rattle.tree.specs.Record.{Record, placed}
use Rattle.tree.specs.Table.{digest_of, tree_of_set}
use Rattle.head.specs.declared.Head.{Head}

-- The record count, the root's layer (0 for the empty set) and the root's digest.
unfoldable pub head_of : List Record → Head
head_of rs = record { count = length rs; layer = top_layer (map placed rs); digest = digest_of (tree_of_set rs) }

-- Two heads are the same when all three fields are.
unfoldable pub same_head : Head → Head → Bool
same_head h g = eqb h.count g.count && (eqb h.layer g.layer && equal h.digest g.digest)

-- The head of zeros, which check gives where it refuses.
abbrev pub zero_head : Head
zero_head = record { count = 0; layer = 0; digest = zeros digest_length }
