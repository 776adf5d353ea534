-- The output along the loop that writes a page's entries and the tables below them.
use Prim.Native.Nat.{ℕ, ◌+◌, ◌-◌, ◌≤◌, ◌<◌}
use Rattle.std.specs.Prelude.{Option, None, Some, is_some, IfSome}
use mathlib.Core.Path.{◌≡◌, refl, sym, ap, subst, ◌∙◌}
use mathlib.Core.Bool.{Bool, true, false, ◌&&◌}
use mathlib.Core.List.{List, [], ◌++◌, append_assoc, append-nil}
use native.Mathlib.Omega.{arith}
use borrow.Author.Tests.{le-leb, lt-leb, leb-true, leb-false}
use lib.Dec.{leb}
use lib.ListN.{length, take, drop, get_or, replicate, length-append, length-drop}
use lib.Seq.{length-take-le}
use Rattle.word.specs.Word.{layer_in}
use Rattle.bytestring.proofs.Tools.{and_both}
use Rattle.bytestring.proofs.Lending.{lent, back}
use Rattle.page.specs.Page.{entry_bytes}
use Rattle.page_writer.specs.Front.{link_held, entry_length, entry_after}
use Rattle.page_writer.proofs.Sizes.{length_entry}
use Rattle.tree.specs.Tree.{Gap, Entries, Placed}
use Rattle.tree.specs.Record.{Record}
use Rattle.row.specs.Row.{record_of_word, Stands}
use Rattle.row.specs.Memory.{Remembers}
use Rattle.layout.specs.Build.{record_in, entries_at, entries_bytes}
use Rattle.layout.specs.Entry.{Holding, bytes_after, EntryWritten, EntryTried}
use Rattle.layout.specs.Layout.{Ready, Run}
use Rattle.layout.specs.declared.records.Added.{Added}
use Rattle.layout.proofs.Ranges.{link_to, record_item, record_layer, cuts, no_bytes, bytes_turn}
use Rattle.layout.proofs.Holding.{val_length}
use Rattle.writer.specs.Wrote.{gap_at, tables_of, GapDone, GapWritten, overwritten, entries_fit, EntriesWritten}
use Rattle.writer.specs.declared.pages.Below.{Below}
use Rattle.writer.specs.declared.pages.Laid.{Laid}
use Rattle.writer.proofs.Gaps.{gap_lacks, gap_done, gap_fits}
use Rattle.writer.proofs.Tables.{table_in, no_tables, tables_turn}
use Rattle.writer.proofs.Overwriting.{part_length, over_nothing, over_part, over_length, over_more, over_apart}

-- ---- the memory goes on
pub ready_within : {s u row keys notes : List ℕ} {lo hi : ℕ} → Ready s u row keys notes lo hi
    → {keys' notes' : List ℕ} (a b : ℕ) → Remembers s u keys' notes' → length notes' ≡ 128 → a ≤ b → b ≤ hi → Ready s u row keys' notes' a b
ready_within r a b m e h k = record {
  range = record {
    few = omega (arith, r.range.few);
    room = omega (arith, r.range.room);
    first = r.range.first;
    second = r.range.second;
    stands = λ i l. r.range.stands i (omega arith);
  };
  order = h;
  memory = m;
  slots = e;
}

pub still_holding : {s u keys notes previous keys' notes' : List ℕ} {held : ℕ} → Holding s u keys notes previous held → Remembers s u keys' notes' → length notes' ≡ length notes
    → Holding s u keys' notes' previous held
still_holding h m e = record { memory = m; slots = e ∙ h.slots; room = h.room; fits = h.fits }

-- ---- along the loop: B is written of the entries, and T of the tables
pub record Going (s u row : List ℕ) (n first hi start limit behind : ℕ) (o keys notes out : List ℕ) (at tail : ℕ) (previous : List ℕ) (held i : ℕ) : Type 0 where
  pub holding : Holding s u keys notes previous held
  pub most : i ≤ hi
  pub here : i < hi → layer_in (get_or row i 0) ≡ n
  pub B : List ℕ
  pub T : List ℕ
  pub is : out ≡ overwritten start B (overwritten behind T o)
  pub place : at ≡ start + length B
  pub end : tail ≡ behind + length T
  pub bytes : B ++ entries_bytes (take held previous) (entries_at n (record_in s u row) i hi) ≡ entries_bytes [] (entries_at n (record_in s u row) first hi)
  pub tables : T ++ tables_of (take held previous) (entries_at n (record_in s u row) i hi) ≡ tables_of [] (entries_at n (record_in s u row) first hi)
  pub inside : at ≤ limit
  pub apart : limit ≤ behind
  pub fits : tail ≤ length o

pub starts : {s u row keys notes : List ℕ} {n first hi start limit behind : ℕ} {o : List ℕ} → Ready s u row keys notes first hi → (first < hi → layer_in (get_or row first 0) ≡ n)
    → start ≤ limit → limit ≤ behind → behind ≤ length o → Going s u row n first hi start limit behind o keys notes o start behind (replicate 256 0) 0 first
starts {start = start} {behind = behind} {o} r e h k l = record {
  holding = record { memory = r.memory; slots = r.slots; room = refl; fits = omega arith };
  most = r.order;
  here = e;
  B = [];
  T = [];
  is = sym (rw (over_nothing behind o l) (over_nothing start o (omega arith)));
  place = omega arith;
  end = omega arith;
  bytes = refl;
  tables = refl;
  inside = h;
  apart = k;
  fits = l;
}

nil_end : (a b r : List ℕ) → b ≡ [] → a ++ b ≡ r → a ≡ r
nil_end a b r e q = sym (append-nil a) ∙ ap (λ (l : List ℕ). a ++ l) (sym e) ∙ q

and-false : (a : Bool) → (a && false) ≡ false
and-false true = refl
and-false false = refl

module _ {s u row : List ℕ} {n first hi start limit behind : ℕ} {o keys notes out : List ℕ} {at tail : ℕ} {previous : List ℕ} {held i : ℕ}
    (g : Going s u row n first hi start limit behind o keys notes out at tail previous held i) where
  abbrev f : ℕ → Placed Record
  f = record_in s u row

  abbrev es : Entries Record (List ℕ)
  es = entries_at n f first hi

  inner_length : length (overwritten behind g.T o) ≡ length o
  inner_length = over_length behind o (omega (arith, g.end, g.fits)) g.T (omega (arith, g.end, g.fits))

  pub out_length : length out ≡ length o
  out_length =
      let h : start + length g.B ≤ length (overwritten behind g.T o) = omega (arith, inner_length, g.place, g.inside, g.apart, g.end, g.fits) in
      ap length g.is ∙ over_length start (overwritten behind g.T o) (omega arith) g.B h ∙ inner_length

  pub tail_within : tail ≤ length out
  tail_within = omega (arith, out_length, g.fits)

  pub tail_grown : behind ≤ tail
  tail_grown = omega (arith, g.end)

  pub limit_within : (ys : List ℕ) → length ys ≡ length (lent tail out) → limit ≤ length (back tail out ys)
  limit_within ys e = omega (arith, part_length tail out (length out - tail) (omega (arith, tail_within)) ys e, out_length, g.apart, g.end, g.fits)

  pub below_length : (ys : List ℕ) → length ys ≡ length (lent tail out) → length (back tail out ys) ≡ length o
  below_length ys e = part_length tail out (length out - tail) (omega (arith, tail_within)) ys e ∙ out_length

  pub turn_length : (ys zs : List ℕ) → length ys ≡ length (lent tail out) → length zs ≡ length (take (limit - at) (drop at (back tail out ys)))
      → length (take at (back tail out ys) ++ (zs ++ drop (limit - at) (drop at (back tail out ys)))) ≡ length o
  turn_length ys zs e k =
      part_length at (back tail out ys) (limit - at) (omega (arith, limit_within ys e, g.inside)) zs k
      ∙ part_length tail out (length out - tail) (omega (arith, tail_within)) ys e ∙ out_length

  -- all entries are written
  pub laid_all : hi ≤ i → EntriesWritten es start limit behind o out (Some (record { at = at; below = tail - behind }))
  unfolding entries_fit
  laid_all h =
      let b : g.B ≡ entries_bytes [] es = nil_end g.B (entries_bytes (take held previous) (entries_at n f i hi)) (entries_bytes [] es) (no_bytes n f (take held previous) i hi h) g.bytes in
      let t : g.T ≡ tables_of [] es = nil_end g.T (tables_of (take held previous) (entries_at n f i hi)) (tables_of [] es) (no_tables n f (take held previous) i hi h) g.tables in
      record {
        room =
            sym (
            and_both
            (le-leb (start + length (entries_bytes [] es)) limit (omega (arith, g.place, g.inside, ap length b)))
            (le-leb (behind + length (tables_of [] es)) (length o) (omega (arith, g.end, g.fits, ap length t))));
        done = record { wrote = g.is ∙ rw (b, t); ends = g.place ∙ rw b; tables = omega (arith, g.end, ap length t) };
      }

  -- ---- a turn: the gap behind the i-th record was written, and its entry was tried
  module _ (h : i < hi) (v : Stands s u (get_or row i 0)) {next : ℕ} (w : Run row n (i + 1) hi next)
      {ys : List ℕ} {rb : Option Below} (gap : GapWritten (gap_at s u row (i + 1) next n) (lent tail out) ys rb) (kept : length ys ≡ length (lent tail out)) where
    abbrev gap_i : Gap Record (List ℕ)
    gap_i = gap_at s u row (i + 1) next n

    layer_is : (f i).layer ≡ n
    layer_is = record_layer s u row i ∙ g.here h

    lent_size : length (lent tail out) ≡ length o - tail
    lent_size = length-take-le (length out - tail) (drop tail out) (omega (arith, length-drop tail out)) ∙ omega (arith, out_length)

    pub tables_most : tail + length (table_in gap_i) ≤ behind + length (tables_of [] es)
    tables_most =
        omega (
          arith,
          g.end,
          ap length g.tables,
          length-append g.T (tables_of (take held previous) (entries_at n f i hi)),
          ap length (tables_turn n f (take held previous) i hi next h layer_is (cuts s u row n (i + 1) hi next w)),
          length-append (table_in gap_i) (tables_of (f i).item.key (entries_at n f next hi)),
        )

    -- the tables had no room
    pub turn_lacks : (after : List ℕ) → rb ≡ None → (r : Option Laid) → r ≡ None → EntriesWritten es start limit behind o after r
    unfolding entries_fit
    turn_lacks after e r er =
        rw er (record {
          room =
              sym (
              rw (lt-leb (behind + length (tables_of [] es)) (length o) (omega (arith, gap_lacks gap e, lent_size, tables_most, g.fits)))
              (and-false (leb (start + length (entries_bytes [] es)) limit)));
          done = tt;
        })

    -- the entry as the code has it
    module _ {b : Below} (is : rb ≡ Some b) {keys' notes' previous' zs : List ℕ} {rm : Option Added}
        (d : EntryTried s u (get_or row i 0) (take held previous) b.link (take (limit - at) (drop at (back tail out ys))) zs keys' notes' previous' rm) where
      abbrev coded : List ℕ
      coded = bytes_after s u (get_or row i 0) (take held previous) (link_held b.link)

      abbrev bytes_i : List ℕ
      bytes_i = entry_bytes (entry_after (take held previous) (f i).item.key (link_to gap_i) (f i).item.val)

      abbrev out₁ : List ℕ
      out₁ = back tail out ys

      done : GapDone gap_i (lent tail out) ys b.len b.link
      done = gap_done gap is

      fits : length (table_in gap_i) ≤ length (lent tail out)
      fits = gap_fits gap is

      coded_is : coded ≡ bytes_i
      coded_is = rw (record_item s u row i, done.link)

      coded_length : length coded ≡ entry_length (take held previous) (record_of_word s u (get_or row i 0)).key (is_some b.link)
      coded_length = length_entry (take held previous) (record_of_word s u (get_or row i 0)).key b.link (record_of_word s u (get_or row i 0)).val done.whole (val_length v)

      more_tail : tail + length (table_in gap_i) ≤ length o
      more_tail = omega (arith, lent_size, fits, g.fits)

      first_is : out₁ ≡ overwritten tail (table_in gap_i) out
      first_is =
          ap (λ (l : List ℕ). take tail out ++ (l ++ drop (length out - tail) (drop tail out))) done.wrote
          ∙ over_part tail out (omega (arith, out_length, g.fits)) (table_in gap_i) (length out - tail) (omega (arith, out_length, more_tail)) (omega (arith, out_length, g.fits))

      first_length : length out₁ ≡ length o
      first_length = ap length first_is ∙ over_length tail out (omega (arith, out_length, g.fits)) (table_in gap_i) (omega (arith, out_length, more_tail)) ∙ out_length

      part_size : length (take (limit - at) (drop at out₁)) ≡ limit - at
      part_size = length-take-le (limit - at) (drop at out₁) (omega (arith, length-drop at out₁, first_length, g.inside, g.apart, g.end, g.fits))

      bytes_most : at + length bytes_i ≤ start + length (entries_bytes [] es)
      bytes_most =
          omega (
            arith,
            g.place,
            ap length g.bytes,
            length-append g.B (entries_bytes (take held previous) (entries_at n f i hi)),
            ap length (bytes_turn n f (take held previous) i hi next h layer_is (cuts s u row n (i + 1) hi next w)),
            length-append bytes_i (entries_bytes (f i).item.key (entries_at n f next hi)),
          )

      pub entry_lacks : rm ≡ None → limit < start + length (entries_bytes [] es)
      entry_lacks e =
          omega (
            arith,
            leb-false (entry_length (take held previous) (record_of_word s u (get_or row i 0)).key (is_some b.link)) (length (take (limit - at) (drop at out₁))) (sym d.room ∙ ap is_some e),
            part_size,
            coded_length,
            ap length coded_is,
            bytes_most,
            g.inside,
          )

      module _ {m : Added} (e : rm ≡ Some m) where
        wrote : EntryWritten s u (get_or row i 0) (take held previous) b.link (take (limit - at) (drop at (back tail out ys))) zs keys' notes' previous' m
        wrote = subst (λ (x : Option Added). IfSome x (EntryWritten s u (get_or row i 0) (take held previous) b.link (take (limit - at) (drop at (back tail out ys))) zs keys' notes' previous')) e d.done

        enough : length coded ≤ limit - at
        enough =
            omega (
              arith,
              leb-true (entry_length (take held previous) (record_of_word s u (get_or row i 0)).key (is_some b.link)) (length (take (limit - at) (drop at out₁))) (sym d.room ∙ ap is_some e),
              part_size,
              coded_length,
            )

        abbrev out₂ : List ℕ
        out₂ = take at out₁ ++ (zs ++ drop (limit - at) (drop at out₁))

        second_is : out₂ ≡ overwritten at coded (overwritten tail (table_in gap_i) out)
        second_is =
            ap (λ (l : List ℕ). take at out₁ ++ (l ++ drop (limit - at) (drop at out₁))) wrote.wrote
            ∙ over_part at out₁ (omega (arith, first_length, g.inside, g.apart, g.end, g.fits)) coded (limit - at) enough (omega (arith, first_length, g.inside, g.apart, g.end, g.fits))
            ∙ ap (overwritten at coded) first_is

        all_room : start ≤ length (overwritten behind (g.T ++ table_in gap_i) o)
        all_room =
            let l : behind + length (g.T ++ table_in gap_i) ≤ length o = omega (arith, length-append g.T (table_in gap_i), g.end, more_tail) in
            omega (arith, over_length behind o (omega (arith, g.end, g.fits)) (g.T ++ table_in gap_i) l, g.place, g.inside, g.apart, g.end, g.fits)

        all_is : out₂ ≡ overwritten start (g.B ++ coded) (overwritten behind (g.T ++ table_in gap_i) o)
        all_is =
            let k : start + length g.B ≤ tail = omega (arith, g.place, g.inside, g.apart, g.end) in
            let l : tail ≤ length (overwritten behind g.T o) = omega (arith, inner_length, g.fits) in
            second_is
            ∙ rw (g.is, ← over_apart start tail g.B (table_in gap_i) (overwritten behind g.T o) k l, g.end, g.place, over_more behind o (omega (arith, g.end, g.fits)) g.T (table_in gap_i))
            (over_more start (overwritten behind (g.T ++ table_in gap_i) o) all_room g.B coded)

        pub turn_done : Going s u row n first hi start limit behind o keys' notes' out₂ (at + m.len) (tail + b.len) previous' m.held next
        turn_done =
            let key : take m.held previous' ≡ (f i).item.key = wrote.next.key ∙ ap (λ (y : Record). y.key) (sym (record_item s u row i)) in
            let c = cuts s u row n (i + 1) hi next w in
            record {
              holding = wrote.next.holding;
              most = w.to;
              here = w.stop;
              B = g.B ++ coded;
              T = g.T ++ table_in gap_i;
              is = all_is;
              place = omega (arith, g.place, wrote.size, coded_length, length-append g.B coded);
              end = omega (arith, g.end, done.size, length-append g.T (table_in gap_i));
              bytes =
                  rw (key, coded_is)
                  (append_assoc g.B bytes_i (entries_bytes (f i).item.key (entries_at n f next hi)) ∙ rw (← bytes_turn n f (take held previous) i hi next h layer_is c) g.bytes);
              tables =
                  rw key
                  (append_assoc g.T (table_in gap_i) (tables_of (f i).item.key (entries_at n f next hi)) ∙ rw (← tables_turn n f (take held previous) i hi next h layer_is c) g.tables);
              inside = omega (arith, wrote.size, coded_length, enough, g.inside);
              apart = g.apart;
              fits = omega (arith, done.size, more_tail);
            }

      pub turn_refused : (after : List ℕ) → rm ≡ None → (r : Option Laid) → r ≡ None → EntriesWritten es start limit behind o after r
      unfolding entries_fit
      turn_refused after e r er =
          rw er (record {
            room = sym (rw (lt-leb (start + length (entries_bytes [] es)) limit (entry_lacks e)));
            done = tt;
          })
