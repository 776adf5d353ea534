use Prim.Native.Nat.{◌-◌}
use mathlib.Core.Path.{sym, ◌∙◌}
use native.Mathlib.Omega.{arith}
use lib.ListN.{length}
use borrow.Author.Rules.{rules}
use Rattle.digests.proofs.ChainReads.{row_noted}
use Rattle.digests.proofs.RowLoops.{chain_fits}
use Rattle.writer.proofs.Overwriting.{part_length}
use Rattle.path_writer.proofs.Copying.{none_copied, all_copied, chain_passed, chain_copied, chain_lacks}
use Rattle.path_writer.proofs.Outcomes.{path_fits, path_lacks}
use Rattle.path_writer.proofs.Verdicts.{register_short, covering_short, empty_says, chains_say}
use Rattle.path_writer.proofs.pages.write_path.Goals as goal

pub write_whole-requires : goal.write_whole-requires
write_whole-requires c = register_short c.requires.0.pages c.requires.0.bytes

pub returns-then-n-eq0 : goal.returns-then-n-eq0
returns-then-n-eq0 c =
    let a = c.args in
    let bytes = c.requires.0.bytes in
    empty_says c.requires.0.pages bytes a.low a.high _ c.if-n-eq0.true c.write_whole.ensures

pub loop-i-init : goal.loop-i-init
loop-i-init c =
    let a = c.args in
    (search rules, search rules, none_copied a.accepted.now.register.now a.accepted.now.chains.now _ a.low a.high a.out.now)

pub loop-i-preserved-then-not-chain_covers : goal.loop-i-preserved-then-not-chain_covers
loop-i-preserved-then-not-chain_covers c =
    let l = c.loop-i in
    (search rules, search rules, chain_passed l.invariant.2 c.loop-i-test.true (sym c.chain_covers.ensures ∙ c.if-not-chain_covers.true))

pub chain_pages-pages-requires : goal.chain_pages-pages-requires
chain_pages-pages-requires c =
    let a = c.args in
    chain_fits a.accepted.now.register.now a.accepted.now.chains.now _ c.loop-i.i (row_noted c.requires.0.pages) c.loop-i-test.true

pub returns-then-out-next : goal.returns-then-out-next
returns-then-out-next c =
    let a = c.args in
    let w = c.requires.0.pages in
    let l = c.loop-i in
    let covers = sym c.chain_covers.ensures ∙ c.if-not-chain_covers.false in
    let lacks = chain_lacks l.invariant.2 c.loop-i-test.true covers c.chain_pages-pages.result.now c.chain_pages-pages.ensures (omega (arith, l.invariant.0, c.if-out-next.true)) w in
    chains_say w a.low a.high _ (omega (arith, c.if-n-eq0.false)) (path_lacks _ a.out.now lacks c.refuse.ensures.answer (rw l.invariant.0 at c.refuse.ensures.output))

pub loop-i-preserved : goal.loop-i-preserved
loop-i-preserved c =
    let l = c.loop-i in
    let covers = sym c.chain_covers.ensures ∙ c.if-not-chain_covers.false in
    let same = part_length l.next l.out (length l.out - l.next) (omega (arith, l.invariant.1)) c.write_bytes.new.out c.write_bytes.auto.out in
    (same ∙ l.invariant.0, omega (arith, same, c.if-out-next.false), chain_copied l.invariant.2 c.loop-i-test.true covers c.chain_pages-pages.result.now c.chain_pages-pages.ensures c.write_bytes.new.out c.write_bytes.ensures)

pub overflow_cast-result : goal.overflow_cast-result
overflow_cast-result c =
    let a = c.args in
    let w = c.requires.0.pages in
    omega (arith, covering_short w a.low a.high c.requires.1 (omega (arith, c.if-n-eq0.false)), (all_copied c.loop-i.invariant.2 (omega (arith, c.loop-i-test.false)) w).0)

pub returns : goal.returns
returns c =
    let a = c.args in
    let w = c.requires.0.pages in
    let l = c.loop-i in
    let all = all_copied l.invariant.2 (omega (arith, c.loop-i-test.false)) w in
    chains_say w a.low a.high _ (omega (arith, c.if-n-eq0.false)) (path_fits _ a.out.now (omega (arith, all.0, l.invariant)) l.out _ l.next all.1 all.0 c.clear.ensures)
