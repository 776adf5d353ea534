use borrow.Author.Rules.{rules}
use native.Mathlib.Omega.{arith}
use Rattle.bytestring.proofs.Tools.{bytes_of_lem}
use Rattle.listing.proofs.Verdicts.{wrote_whole}
use Rattle.listing.proofs.text.list_input.Goals as goal

pub returns : goal.returns
returns c =
    let a = c.args in
    let w = c.write_listing in
    let bytes = bytes_of_lem a.s.now (λ i h. omega (arith, c.type_inv.s i)) in
    wrote_whole a.s.now w.new.out w.result w.ensures bytes (search rules) c.unwrap_or.result c.unwrap_or.ensures
