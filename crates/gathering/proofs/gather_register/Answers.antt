use native.Mathlib.Omega.{arith}
use Rattle.bytestring.proofs.Tools.{bytes_of_lem}
use Rattle.gathering.proofs.Trees.{noted_stands, alone_stands, noted_gathered, alone_gathered}
use Rattle.gathering.proofs.gather_register.Goals as goal

pub gather_tree-requires : goal.gather_tree-requires
gather_tree-requires c =
    let q = c.requires in
    let sequence_bytes = bytes_of_lem c.args.sequence.now (λ i h. omega (arith, c.type_inv.sequence i)) in
    alone_stands q.0.1 sequence_bytes c.args.i q.1 q.2 (omega (arith, c.if-note-gt-DEEPEST.true, c.word_note-note.ensures))

pub returns-then-note-gt-DEEPEST : goal.returns-then-note-gt-DEEPEST
returns-then-note-gt-DEEPEST c =
    let q = c.requires in
    let sequence_bytes = bytes_of_lem c.args.sequence.now (λ i h. omega (arith, c.type_inv.sequence i)) in
    let w = c.gather_tree in
    λ raws notes noted. alone_gathered notes sequence_bytes c.args.i q.1 noted c.args.out.now w.result w.new.out (omega (arith, c.if-note-gt-DEEPEST.true, c.word_note-note.ensures)) w.ensures

pub gather_tree-requires-2 : goal.gather_tree-requires-2
gather_tree-requires-2 c =
    let q = c.requires in
    let sequence_bytes = bytes_of_lem c.args.sequence.now (λ i h. omega (arith, c.type_inv.sequence i)) in
    rw c.word_note-note.ensures (noted_stands q.0.1 sequence_bytes c.args.i q.1 q.2 (omega (arith, c.if-note-gt-DEEPEST.false, c.word_note-note.ensures)))

pub returns : goal.returns
returns c =
    let q = c.requires in
    let sequence_bytes = bytes_of_lem c.args.sequence.now (λ i h. omega (arith, c.type_inv.sequence i)) in
    let w = c.gather_tree-2 in
    λ raws notes noted. noted_gathered notes sequence_bytes c.args.i q.1 noted c.args.out.now w.result w.new.out (omega (arith, c.if-note-gt-DEEPEST.false, c.word_note-note.ensures)) (rw c.word_note-note.ensures at w.ensures)
