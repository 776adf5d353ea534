use mathlib.Core.Path.{ap, ◌∙◌, sym, subst}
use Rattle.answer.specs.Inner.{FirstFits}
use Rattle.promises.proofs.Promises.{difference_short}
use Rattle.answer.specs.Answer.{encoded_of_two}
use Rattle.mijdegen.proofs.mijdegen_difference.Goals as goal

pub encode-requires : goal.encode-requires
encode-requires c = subst FirstFits (sym c.difference.ensures.answer) (difference_short _ _ _)

pub returns : goal.returns
returns c =
    record {
      answer = c.encode.ensures ∙ ap encoded_of_two c.difference.ensures.answer;
      output = c.difference.ensures.output;
    }
