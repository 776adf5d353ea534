use mathlib.Core.Path.{ap, ◌∙◌, sym, subst}
use Rattle.answer.specs.Inner.{FirstFits}
use Rattle.collections.proofs.Promises.{screen_short}
use Rattle.answer.specs.Answer.{encoded_of_two}
use Rattle.mijdegen.proofs.mijdegen_screen.Goals as goal

pub encode-requires : goal.encode-requires
encode-requires c = subst FirstFits (sym c.screen.ensures.answer) (screen_short _ _ _ _)

pub returns : goal.returns
returns c =
    record {
      answer = c.encode.ensures ∙ ap encoded_of_two c.screen.ensures.answer;
      output = c.screen.ensures.output;
    }
