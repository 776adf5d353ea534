use mathlib.Core.Path.{ap, ◌∙◌, sym, subst}
use native.Mathlib.Omega.{arith}
use Rattle.bytestring.proofs.Tools.{bytes_of_lem}
use Rattle.answer.specs.Inner.{FirstFits}
use Rattle.answer.specs.Answer.{encoded_of_two}
use Rattle.promises.proofs.Lookups.{lookup_short}
use Rattle.mijdegen.proofs.mijdegen_lookup.Goals as goal

pub encode-requires : goal.encode-requires
encode-requires c =
    let bytes = bytes_of_lem c.args.lent.now (λ i h. omega (arith, c.type_inv.lent i)) in
    subst FirstFits (sym c.lookup.ensures) (lookup_short _ _ bytes)

pub returns : goal.returns
returns c = c.encode.ensures ∙ ap encoded_of_two c.lookup.ensures
