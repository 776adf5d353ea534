use mathlib.Core.Path.{refl, sym}
use native.Mathlib.Omega.{arith}
use lib.ListN.{length, length-take}
use lib.Seq.{length-take-le}
use Rattle.reading.proofs.Listings.{size_small, list_no_room, list_record_lem}
use Rattle.reading.proofs.accepted.record_at.Goals as goal

pub returns-then-size-gt-LONGEST_KEY : goal.returns-then-size-gt-LONGEST_KEY
returns-then-size-gt-LONGEST_KEY c =
    let a = c.args in
    let pre = c.requires in
    let bytes = pre.0.bytes in
    let f = c.fetch_from-found in
    let over = size_small pre.0.records bytes a.n pre.1 _ _ f.result f.ensures (omega (arith, pre.0.records.room)) in
    absurd (omega arith)

pub returns-then-out-size : goal.returns-then-out-size
returns-then-out-size c =
    let a = c.args in
    let pre = c.requires in
    let bytes = pre.0.bytes in
    let f = c.fetch_from-found in let it = list_no_room pre.0.records bytes a.n pre.1 _ _ f.result f.ensures (omega (arith, pre.0.records.room)) (length a.out.now) c.clear.ensures refl (omega arith) in record { answer = it.0; key = it.1.0; value = it.1.1 }

pub slice_bounds-write_bytes-end : goal.slice_bounds-write_bytes-end
slice_bounds-write_bytes-end c =
    let f = c.fetch_from-found in
    sym (length-take-le f.result.size f.new.buffer (omega arith))

pub write_bytes-requires : goal.write_bytes-requires
write_bytes-requires c =
    let f = c.fetch_from-found in
    omega (arith, length-take f.result.size f.new.buffer)

pub returns : goal.returns
returns c =
    let a = c.args in
    let pre = c.requires in
    let bytes = pre.0.bytes in
    let f = c.fetch_from-found in
    let clear = c.clear in let it = list_record_lem pre.0.records bytes a.n pre.1 _ _ f.result f.ensures (omega (arith, pre.0.records.room)) (length a.out.now) _ _ _ (omega arith) (omega (arith, clear.auto.out)) clear.ensures c.write_bytes.ensures c.value_at.ensures in record { answer = it.0; key = it.1.0; value = it.1.1 }
