use mathlib.Core.Path.{ap}
use mathlib.Core.Bool.{not}
use mathlib.Core.Path.{sym}
use native.Mathlib.Omega.{arith}
use lib.ListN.{length-take}
use lib.Seq.{length-take-le}
use Rattle.summing.proofs.Keys.{prefix_wrong, key_wrong, key_right}
use Rattle.summing.proofs.take_key.Goals as goal

pub returns-then-not-prefix_fits : goal.returns-then-not-prefix_fits
returns-then-not-prefix_fits c =
    let a = c.args in
    let f = c.prefix_fits in
    prefix_wrong a.buffer.now a.size a.sequence.now a.e a.last.now a.before a.layer c.requires f.result f.ensures.says f.ensures.short (ap not c.if-not-prefix_fits.true)

pub returns-then-not-key_holds : goal.returns-then-not-key_holds
returns-then-not-key_holds c =
    let a = c.args in
    let f = c.prefix_fits in
    let x = c.extend_key-new in
    let k = c.key_holds in
    key_wrong a.buffer.now a.size a.sequence.now a.e a.last.now a.before a.layer c.requires f.result f.ensures.says f.ensures.short (ap not c.if-not-prefix_fits.false)
    x.new.buffer x.result x.ensures k.result k.ensures.says k.ensures.short (ap not c.if-not-key_holds.true)

pub slice_bounds-write_bytes-end : goal.slice_bounds-write_bytes-end
slice_bounds-write_bytes-end c = omega (arith, c.key_holds.ensures.short (c.if-not-key_holds.false), c.extend_key-new.auto, c.requires.held)

pub slice_bounds-write_bytes-end-2 : goal.slice_bounds-write_bytes-end-2
slice_bounds-write_bytes-end-2 c =
    sym (length-take-le c.extend_key-new.result c.extend_key-new.new.buffer
    (omega (arith, c.key_holds.ensures.short (c.if-not-key_holds.false), c.extend_key-new.auto, c.requires.held)))

pub write_bytes-requires : goal.write_bytes-requires
write_bytes-requires c =
    omega (
      arith,
      c.key_holds.ensures.short (c.if-not-key_holds.false),
      length-take c.extend_key-new.result c.extend_key-new.new.buffer,
      c.requires.room,
    )

pub returns : goal.returns
returns c =
    let a = c.args in
    let f = c.prefix_fits in
    let x = c.extend_key-new in
    let k = c.key_holds in
    key_right a.buffer.now a.size a.sequence.now a.e a.last.now a.before a.layer c.requires f.result f.ensures.says f.ensures.short (ap not c.if-not-prefix_fits.false)
    x.new.buffer x.result x.ensures k.result k.ensures.says k.ensures.short (ap not c.if-not-key_holds.false) (omega (arith, x.auto)) c.write_bytes.new.out c.write_bytes.ensures
