use Rattle.std.proofs.Common.{◌≡◌, ℕ, ◌+◌, ◌≤◌, List, ◌++◌, rules, length, take, sym, ap, ◌∙◌, subst, drop_at, length-take-le}
use Rattle.std.specs.Io.KnownBytes.{Consumes}
use Rattle.std.proofs.KnownBytes.{Consumes-trans}
use borrow.Rule.Slice.PartMut.{put_mid, post_of}
use lib.Seq.{take-add, take_at, take-append-le}
use Rattle.listing.proofs.read_full.Goals as goal

-- what was read before, and then what is read
read_on : (a k n : ℕ) (xs ys : List ℕ) → a ≤ length xs → n ≤ length ys → take (a + n) (put_mid a k xs ys) ≡ take a xs ++ take n ys
read_on a k n xs ys h f =
    let after = post_of a k xs in
    let size : length (take a xs) ≡ a = length-take-le a xs h in
    take-add a n (take a xs ++ (ys ++ after))
    ∙ rw (take_at (take a xs) (ys ++ after) a size, drop_at (take a xs) (ys ++ after) a size) (ap (λ l. take a xs ++ l) (take-append-le n ys after f))

pub loop-done-preserved : goal.loop-done-preserved
loop-done-preserved g c =
    let it = read_on c.loop-done.done _ c.in_ok-n.n c.loop-done.buffer c.read.new.buf c.loop-done.invariant.0 c.in_ok-n.ensures.bound.0 in
    (search rules, subst (Consumes _ _) (sym it) (Consumes-trans _ _ _ _ _ c.loop-done.invariant.1 c.in_ok-n.ensures.bytes.0))
