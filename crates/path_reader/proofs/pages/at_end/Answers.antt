use borrow.Author.Rules.{rules}
use Rattle.path_reader.proofs.Paths.{bytes_follow, none_follow}
use Rattle.path_reader.proofs.pages.at_end.Goals as goal

pub returns-then-end-path : goal.returns-then-end-path
returns-then-end-path c = search (rules, bytes_follow)

pub returns : goal.returns
returns c = search (rules, none_follow)
