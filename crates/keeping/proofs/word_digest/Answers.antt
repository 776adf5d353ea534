use Rattle.keeping.proofs.Naming.{named_in_first, named_by_label}
use Rattle.keeping.proofs.word_digest.Goals as goal

pub returns-then-word-lt-FROM_CHAINS : goal.returns-then-word-lt-FROM_CHAINS
returns-then-word-lt-FROM_CHAINS c =
    let a = c.args in
    named_in_first a.root.now a.register.now a.chains.now a.word c.requires.0 _ c.requires.1 c.if-word-lt-FROM_CHAINS.true
    c.digest_at.ensures

pub bounds-chains-number : goal.bounds-chains-number
bounds-chains-number c = c.requires.0.chain c.if-word-lt-FROM_CHAINS.false

pub label_place-requires : goal.label_place-requires
label_place-requires c = (c.requires.0.label c.if-word-lt-FROM_CHAINS.false, c.requires.0.above c.if-word-lt-FROM_CHAINS.false)

pub returns : goal.returns
returns c =
    let a = c.args in
    named_by_label a.root.now a.register.now a.chains.now a.word c.requires.0 _ c.if-word-lt-FROM_CHAINS.false _
    c.label_place.ensures c.digest_at-2.ensures
