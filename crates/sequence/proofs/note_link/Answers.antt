use borrow.Author.Rules.{rules}
use Rattle.sequence.proofs.Links.{no_link_noted, link_noted}
use Rattle.sequence.proofs.note_link.Goals as goal

pub returns-then-at-eq0 : goal.returns-then-at-eq0
returns-then-at-eq0 c =
    record {
      few = search rules;
      noted = search (rules, no_link_noted);
    }

pub returns : goal.returns
returns c =
    record {
      few = search rules;
      noted = search (rules, link_noted);
    }
