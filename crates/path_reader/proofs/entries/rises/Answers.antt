use borrow.Author.Rules.{rules}
use Rattle.path_reader.proofs.Keys.{no_byte, key_ends, no_room, byte_decides}
use Rattle.path_reader.proofs.entries.rises.Goals as goal

pub returns-then-n-eq0 : goal.returns-then-n-eq0
returns-then-n-eq0 c = search (rules, no_byte)

pub returns-then-size-shares : goal.returns-then-size-shares
returns-then-size-shares c = search (rules, key_ends)

pub returns-then-buffer-shares : goal.returns-then-buffer-shares
returns-then-buffer-shares c = search (rules, no_room)

pub returns : goal.returns
returns c = search (rules, byte_decides)
