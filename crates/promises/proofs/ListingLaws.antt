-- The first bytes of an input decide its listing, and every listing fits. A line has at most 324 bytes. An entry has at least 53, so that
-- 65,536 bytes have at most 1,236 records.
use Prim.Native.Nat.{ℕ, zero, suc, ◌+◌, ◌*◌, ◌/◌, ◌%◌, ◌≤◌, ◌<◌}
use mathlib.Core.Path.{◌≡◌, refl, sym, ap, ◌∙◌}
use mathlib.Core.List.{List, [], ◌∷◌, ◌++◌}
use native.Mathlib.Omega.{arith}
use lib.ListN.{length, take, length-append}
use lib.Seq.{take_all, length-take-le}
use lib.Dec.{ltb, leb}
use borrow.Author.Tests.{leb-true, leb-false, lt-leb}
use borrow.Table.Steps.{cases}
use Rattle.limits.specs.Limits.{deepest}
use Rattle.bytestring.proofs.Tools.{All}
use Rattle.bytestring.specs.Bytes.{ByteString}
use Rattle.answer.specs.Answer.{number_of}
use Rattle.answer.specs.declared.Refusal.{Refusal}
use Rattle.answer.specs.declared.Refusal.TheVariants.{TooLong}
use Rattle.key.proofs.Laws.{lawful_length}
use Rattle.value.proofs.Laws.{value_length_lem}
use Rattle.tree.specs.Record.{Record, records}
use Rattle.tree.specs.Table.{SpeltTree, table, table_of}
use Rattle.tree.specs.Judge.{Verdict, refused, accepted, judge}
use Rattle.tree.proofs.Sizes.{table_length}
use Rattle.tree.proofs.Laws.{LawfulKey, RightValue, accepted_table}
use Rattle.promises.specs.Listing.{digits, decimal, hexadecimal, space, line_feed, record_lines, listing_of, refusal_line, listing_verdict, longest_input, listing, FirstBytesDecide, longest_listing, ListingFits}

-- ---- long inputs
pub too_long : (s : List ℕ) → longest_input < length s → listing s ≡ refusal_line TooLong
unfolding listing
too_long s h = rw (lt-leb (length s) longest_input h)

first_bytes : (n : ℕ) → longest_input < n → (s : List ℕ) → listing (take n s) ≡ listing s
first_bytes n h s =
    cases (leb n (length s))
    (λ e.
    let within : n ≤ length s = leb-true n (length s) e in
    too_long (take n s) (rw (length-take-le n s within) h) ∙ sym (too_long s (omega arith)))
    (λ e. ap listing (take_all n s (omega (arith, leb-false n (length s) e))))

pub first_bytes_decide : FirstBytesDecide
first_bytes_decide = first_bytes (longest_input + 1) (omega arith)

-- ---- digits
digits_length : (most n : ℕ) → length (digits most n) ≤ most
unfolding digits
digits_length zero n = omega arith
digits_length (suc most) n =
    cases (ltb n 10)
    (λ e. rw e (omega arith))
    (λ e. rw e (omega (arith, digits_length most (n / 10), length-append (digits most (n / 10)) ((0x30 + n % 10) ∷ []))))

hexadecimal_length : (l : List ℕ) → length (hexadecimal l) ≡ 2 * length l
unfolding hexadecimal
hexadecimal_length [] = refl
hexadecimal_length (b ∷ l) = omega (arith, hexadecimal_length l)

-- ---- lines
lines_length : (rs : List Record) → All LawfulKey rs → All RightValue rs → length (record_lines rs) ≤ 324 * length rs
unfolding record_lines
lines_length [] h k = omega arith
lines_length (r ∷ rs) h k =
    let value : List ℕ = hexadecimal r.val ++ (line_feed ∷ record_lines rs) in
    omega (
      arith,
      lawful_length r.key h.0,
      value_length_lem r.val k.0,
      hexadecimal_length r.val,
      length-append r.key (space ∷ value),
      length-append (hexadecimal r.val) (line_feed ∷ record_lines rs),
      lines_length rs h.1 k.1,
    )

-- ---- the listing
refusal_length : (r : Refusal) → length (refusal_line r) ≤ longest_listing
unfolding refusal_line
refusal_length r = omega (arith, digits_length 20 (number_of r), length-append (decimal (number_of r)) (line_feed ∷ []))

module _ (s : ByteString) (short : length s.list ≤ longest_input) where
  records_length : (t : SpeltTree) → judge s.list ≡ accepted t → length (listing_of (records t)) ≤ longest_listing
  unfolding listing_of table_of
  records_length t h =
      let a = accepted_table s.list s.small t h in
      let whole : s.list ≡ table t = a.written ∙ ap table (sym a.spells) in
      omega (
        arith,
        ap length whole,
        table_length t deepest a.good,
        digits_length 20 (length (records t)),
        length-append (decimal (length (records t))) (line_feed ∷ record_lines (records t)),
        lines_length (records t) a.fit.keys a.fit.values,
      )

  verdict_length : (v : Verdict) → judge s.list ≡ v → length (listing_verdict v) ≤ longest_listing
  unfolding listing_verdict
  verdict_length (refused r) h = refusal_length r
  verdict_length (accepted t) h = records_length t h

pub listing_fits : ListingFits
unfolding listing
listing_fits s =
    cases (leb (length s.list) longest_input)
    (λ e. rw e (verdict_length s (leb-true (length s.list) longest_input e) (judge s.list) refl))
    (λ e. rw e (refusal_length TooLong))
