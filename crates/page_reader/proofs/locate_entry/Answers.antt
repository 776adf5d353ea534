use borrow.Author.Rules.{rules}
use native.Mathlib.Omega.{arith}
use Rattle.bytestring.proofs.Tools.{bytes_of_lem}
use Rattle.page_reader.proofs.PagePlaces.{first_within}
use Rattle.page_reader.proofs.Located.{number_small, entry_short, size_not_located, remainder_short, shares_not_located, entry_located}
use Rattle.page_reader.proofs.locate_entry.Goals as goal

pub returns-then-saturating_sub-lt3 : goal.returns-then-saturating_sub-lt3
returns-then-saturating_sub-lt3 c = search (rules, entry_short)

pub overflow_sub-s : goal.overflow_sub-s
overflow_sub-s c = search (rules, first_within)

pub overflow_add-size : goal.overflow_add-size
overflow_add-size c =
    let bytes = bytes_of_lem c.args.s.now (λ i h. omega (arith, c.type_inv.s i)) in
    omega (arith, number_small _ _ _ _ _ _ bytes c.read_number.ensures c.in_ok-size.was)

pub returns-then-s-remainder : goal.returns-then-s-remainder
returns-then-s-remainder c = search (rules, remainder_short, c.in_ok-size.was)

pub locate_entry_end-requires : goal.locate_entry_end-requires
locate_entry_end-requires c = search (rules, first_within)

pub returns : goal.returns
returns c =
    let bytes = bytes_of_lem c.args.s.now (λ i h. omega (arith, c.type_inv.s i)) in
    search (rules, entry_located, bytes)

pub returns-in_err-shares : goal.returns-in_err-shares
returns-in_err-shares c = search (rules, shares_not_located)

pub returns-in_err-size : goal.returns-in_err-size
returns-in_err-size c = search (rules, size_not_located)
