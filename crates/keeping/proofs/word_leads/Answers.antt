use mathlib.Core.Path.{ap₂, ◌∙◌}
use Rattle.key.specs.Key.{order}
use Rattle.keeping.proofs.Naming.{lt_is}
use Rattle.keeping.proofs.word_leads.Goals as goal

pub returns : goal.returns
returns c =
    c.is_lt.ensures
    ∙ lt_is _ _ c.compare.result
    (c.compare.ensures
    ∙ ap₂ order c.word_digest-digest.ensures
    c.label_digest-other.ensures)
