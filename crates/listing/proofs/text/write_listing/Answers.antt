use borrow.Author.Rules.{rules}
use native.Mathlib.Omega.{arith}
use Rattle.bytestring.proofs.Tools.{bytes_of_lem}
use Rattle.reading.proofs.Verdicts.{accepted_index, judged_refused, index_long, chains_long}
use Rattle.listing.proofs.Verdicts.{index_row, wrote_too_long, wrote_refused, wrote_records, wrote_short}
use Rattle.listing.proofs.text.write_listing.Goals as goal

pub returns-then-s-gt65536 : goal.returns-then-s-gt65536
returns-then-s-gt65536 c =
    let a = c.args in
    wrote_too_long a.s.now (omega arith) c.add_first_line.ensures

pub judge-requires : goal.judge-requires
judge-requires c =
    let s = c.args.s.now in
    (index_long s _ (search rules), chains_long s _ (search rules))

pub add_lines-requires : goal.add_lines-requires
add_lines-requires c =
    let a = c.args in
    let j = c.judge in
    let index = accepted_index a.s.now _ _ j.result j.ensures c.in-Ok.is in
    let bytes = bytes_of_lem a.s.now (λ i h. omega (arith, c.type_inv.s i)) in
    index_row bytes index

pub returns-in_ok-at-in-Ok : goal.returns-in_ok-at-in-Ok
returns-in_ok-at-in-Ok c =
    let a = c.args in
    let j = c.judge in
    let index = accepted_index a.s.now _ _ j.result j.ensures c.in-Ok.is in
    let bytes = bytes_of_lem a.s.now (λ i h. omega (arith, c.type_inv.s i)) in
    wrote_records (omega arith) index c.add_first_line-in-Ok.ensures bytes c.in_ok-at-in-Ok.was c.add_lines.ensures

pub returns-in_err-at-in-Ok : goal.returns-in_err-at-in-Ok
returns-in_err-at-in-Ok c =
    let a = c.args in
    let j = c.judge in
    let index = accepted_index a.s.now _ _ j.result j.ensures c.in-Ok.is in
    wrote_short (omega arith) index c.add_first_line-in-Ok.ensures c.in_err-at-in-Ok.was (search rules)

pub returns-in-Err : goal.returns-in-Err
returns-in-Err c =
    let a = c.args in
    let j = c.judge in
    wrote_refused a.s.now (omega arith) (judged_refused a.s.now _ _ j.result j.ensures c.in-Err.is) _ c.from.ensures
    c.add_first_line-in-Err.ensures
