use mathlib.Core.Path.{ap, ◌∙◌, sym, subst}
use native.Mathlib.Omega.{arith}
use Rattle.bytestring.proofs.Tools.{bytes_of_lem}
use Rattle.answer.specs.Inner.{FirstFits}
use Rattle.answer.specs.Answer.{encoded_of_two}
use Rattle.path.proofs.Places.{verify_short}
use Rattle.mijdegen.proofs.mijdegen_verify.Goals as goal

pub encode-requires : goal.encode-requires
encode-requires c =
    let bytes = bytes_of_lem c.args.lent.now (λ i h. omega (arith, c.type_inv.lent i)) in
    subst FirstFits (sym c.verify.ensures) (verify_short _ _ _ bytes)

pub returns : goal.returns
returns c = c.encode.ensures ∙ ap encoded_of_two c.verify.ensures
