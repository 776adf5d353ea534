use mathlib.Core.Bool.{false≢true}
use Rattle.page_keys.proofs.Prefixes.{key_shorter, key_ends, no_room, nothing_follows, byte_compared}
use borrow.Author.Rules.{rules}
use Rattle.page_keys.proofs.prefix_fits.Goals as goal

pub returns-then-buffer-shares : goal.returns-then-buffer-shares
returns-then-buffer-shares c =
    record {
      says = search (rules, no_room);
      short = λ e. absurd (false≢true e);
    }

pub returns-then-size-shares : goal.returns-then-size-shares
returns-then-size-shares c =
    record {
      says = search (rules, key_shorter);
      short = λ e. absurd (false≢true e);
    }

pub returns-then-size-shares-2 : goal.returns-then-size-shares-2
returns-then-size-shares-2 c =
    record {
      says = search (rules, key_ends);
      short = λ e. search rules;
    }

pub returns-then-n-eq0 : goal.returns-then-n-eq0
returns-then-n-eq0 c =
    record {
      says = search (rules, nothing_follows);
      short = λ e. search rules;
    }

pub returns : goal.returns
returns c =
    record {
      says = search (rules, byte_compared);
      short = λ e. search rules;
    }
