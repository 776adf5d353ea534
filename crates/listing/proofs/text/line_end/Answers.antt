use borrow.Author.Rules.{rules}
use mathlib.Core.Path.{refl}
use native.Mathlib.Omega.{arith}
use lib.ListN.{replicate, length-set}
use Rattle.listing.proofs.Lines.{digits_begin, digits_turn, digits_all}
use Rattle.listing.proofs.text.line_end.Goals as goal

pub loop-i-init : goal.loop-i-init
loop-i-init c = (search rules, digits_begin c.args.value.now (replicate 68 0x20) refl)

pub hex_digit-requires : goal.hex_digit-requires
hex_digit-requires c = omega (arith, c.type_inv.value c.loop-i.i)

pub hex_digit-requires-in-loop-i : goal.hex_digit-requires-in-loop-i
hex_digit-requires-in-loop-i c = omega (arith, c.type_inv.value c.loop-i.i)

pub loop-i-preserved : goal.loop-i-preserved
loop-i-preserved c =
    let a = c.args in
    let l = c.loop-i in (
      simp length-set (search rules),
      digits_turn a.value.now l.text l.i l.invariant.1 (omega arith) (omega arith) _ _ c.hex_digit.ensures c.hex_digit-in-loop-i.ensures,
    )

pub returns : goal.returns
returns c =
    let a = c.args in
    let l = c.loop-i in
    digits_all a.value.now l.text l.i l.invariant.1 c.requires (omega arith) (omega arith) (omega arith)
