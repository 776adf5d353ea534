use native.Mathlib.Omega.{arith}
use Rattle.reading.proofs.Verdicts.{Accepting, accepting, accepted_few}
use Rattle.checking.proofs.Heads.{top_small, head_is}
use Rattle.checking.proofs.head_of.Goals as goal

pub overflow_cast-result : goal.overflow_cast-result
overflow_cast-result c =
    let given : Accepting c.args.register.now c.args.index.now c.args.count = accepting (λ i h. omega (arith, c.type_inv.register i)) c.requires.0 in
    omega (arith, accepted_few given.bytes given.given)

pub overflow_cast-result-2 : goal.overflow_cast-result-2
overflow_cast-result-2 c =
    let s = c.args.register.now in
    let given : Accepting c.args.register.now c.args.index.now c.args.count = accepting (λ i h. omega (arith, c.type_inv.register i)) c.requires.0 in
    omega (arith, top_small given c.top_layer-top.result (c.top_layer-top.ensures s s))

pub returns : goal.returns
returns c =
    let s = c.args.register.now in
    let given : Accepting c.args.register.now c.args.index.now c.args.count = accepting (λ i h. omega (arith, c.type_inv.register i)) c.requires.0 in
    head_is given c.top_layer-top.result (c.top_layer-top.ensures s s) c.root_digest-digest.result c.root_digest-digest.ensures
