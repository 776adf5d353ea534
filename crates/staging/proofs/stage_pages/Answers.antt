use mathlib.Core.Path.{◌≡◌, refl, ◌∙◌}
use native.Mathlib.Omega.{arith}
use lib.ListN.{length, length-set}
use Rattle.bytestring.proofs.Tools.{bytes_of_lem}
use Rattle.staging.proofs.Words.{root_put, chain_put}
use Rattle.staging.proofs.Staged.{words_few, chain_few, all_staged}
use Rattle.staging.proofs.stage_pages.Goals as goal

pub bounds-words-0 : goal.bounds-words-0
bounds-words-0 c =
    let bytes = bytes_of_lem c.args.register.now (λ i h. omega (arith, c.type_inv.register i)) in
    omega (arith, words_few c.requires.0 bytes 0 (omega arith), c.requires.1)

pub loop-i-init : goal.loop-i-init
loop-i-init c =
    let bytes = bytes_of_lem c.args.register.now (λ i h. omega (arith, c.type_inv.register i)) in
    let few = words_few c.requires.0 bytes 0 (omega arith) in
    (refl, root_put c.args.words.now c.args.chains.now (omega (arith, few, c.requires.1)))

pub bounds-chains-i : goal.bounds-chains-i
bounds-chains-i c = omega (arith, c.requires.0.room)

pub stage_chain-total-requires : goal.stage_chain-total-requires
stage_chain-total-requires c =
    let l = c.loop-i in
    let bytes = bytes_of_lem c.args.register.now (λ i h. omega (arith, c.type_inv.register i)) in
    let few = chain_few c.requires.0 bytes l.i (omega arith) in
    let size : length l.words ≡ length c.args.words.now = l.invariant.0 ∙ length-set c.args.words.now 0 _ in
    (omega (arith, c.requires.0.few), omega (arith, few, c.requires.1, size, l.invariant.1.number))

pub loop-i-preserved : goal.loop-i-preserved
loop-i-preserved c =
    let a = c.args in
    let l = c.loop-i in
    let added = c.stage_chain-total.ensures in
    (added.size ∙ l.invariant.0, chain_put a.chains.now l.words l.total l.i l.invariant.1 _ _ added)

pub shape_of-words : goal.shape_of-words
shape_of-words c = c.loop-i.invariant.0 ∙ length-set c.args.words.now 0 _

pub returns : goal.returns
returns c =
    let a = c.args in
    let l = c.loop-i in
    let bytes = bytes_of_lem a.register.now (λ i h. omega (arith, c.type_inv.register i)) in
    let size : length l.words ≡ length a.words.now = l.invariant.0 ∙ length-set a.words.now 0 _ in
    let few = words_few c.requires.0 bytes l.i (omega arith) in record {
      staged = all_staged c.requires.0 bytes l.words l.total l.i l.invariant.1 (omega arith) (omega (arith, few, c.requires.1, size, l.invariant.1.number));
      few = (omega (arith, l.invariant.1.number), omega (arith, few, l.invariant.1.number));
    }
