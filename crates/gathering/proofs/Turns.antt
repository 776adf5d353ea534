-- The trees under the links after the entries of a page, gathered one after the other.
use Rattle.std.specs.Prelude.{Result, Ok, Err, Option, Some, None}
use Prim.Native.Nat.{ℕ, suc, ◌+◌, ◌-◌, ◌≤◌, ◌<◌}
use mathlib.Core.Path.{◌≡◌, refl, sym, ap, subst, ◌∙◌}
use mathlib.Core.List.{List, [], ◌∷◌, ◌++◌, append-nil, append_assoc}
use native.Mathlib.Omega.{arith}
use native.Mathlib.Nat.{sub-zero}
use lib.ListN.{length, drop}
use Rattle.bytestring.proofs.Lending.{lent, back}
use Rattle.page.specs.Reading.{read, times}
use Rattle.page.specs.Page.{RawEntry, entry_bytes, entry}
use Rattle.page.proofs.Readers.{andThen-inv}
use Rattle.page_reader.specs.Place.{Reads, link_at, entry_at, EntryHere, LocatedIs}
use Rattle.page_reader.specs.declared.Stop.{Stop}
use Rattle.page_reader.specs.declared.EntryAt.{EntryAt}
use Rattle.page_reader.proofs.Located.{entry_place}
use Rattle.page_keys.proofs.Entries.{row_ends, row_behind}
use Rattle.promises.specs.Promises.{Among}
use Rattle.promises.proofs.DifferenceLaws.{among_left, among_right}
use Rattle.states.specs.Pages.{link_list, links_after}
use Rattle.gathering.specs.Gathered.{WrittenFront}
use Rattle.gathering.specs.Inner.{gathered_from_all, LinkStands, EntriesStand, LinkGathered}
use Rattle.gathering.proofs.Depth.{from_both}
use Rattle.gathering.proofs.Fronts.{nothing_written, still_lacks, front_fits, then_more, then_lacks, sum_fits}

-- What is left of the entries, and the digests of the links before them, whose trees are gathered.
pub record TreesSoFar {s p labels pages : List ℕ} {n first count layer : ℕ} (g : EntriesStand s p labels pages n first count layer)
    (o out : List ℕ) (total at j : ℕ) : Type 0 where
  pub left : List RawEntry
  pub before : List (List ℕ)
  pub reads : times (count - j) entry (drop at p) ≡ read left (drop g.past p)
  pub same : before ++ links_after left ≡ links_after g.entries
  pub wrote : WrittenFront (gathered_from_all g.tree.raws before) o (Some total) out

module _ {s p labels pages : List ℕ} {n first count layer : ℕ} (g : EntriesStand s p labels pages n first count layer) where
  pub turns_begin : (o : List ℕ) → TreesSoFar g o o 0 first 0
  unfolding gathered_from_all
  turns_begin o = record { left = g.entries; before = []; reads = rw sub-zero g.reads; same = refl; wrote = nothing_written o }

  module _ {o out : List ℕ} {total at j : ℕ} (u : TreesSoFar g o out total at j) where
    pub turns_end : count ≤ j → WrittenFront (gathered_from_all g.tree.raws (links_after g.entries)) o (Some total) out
    unfolding links_after
    turns_end h =
        let none_left : u.left ≡ [] = row_ends p count j at g.past u.left u.reads h in
        let same : u.before ≡ links_after g.entries =
        sym (append-nil u.before) ∙ ap (λ (l : List RawEntry). u.before ++ links_after l) (sym none_left) ∙ u.same in
        subst (λ (l : List (List ℕ)). WrittenFront (gathered_from_all g.tree.raws l) o (Some total) out) same u.wrote

    pub total_within : length out ≡ length o → total ≤ length out
    total_within same = front_fits (gathered_from_all g.tree.raws u.before) o total out u.wrote same

    module _ (h : j < count) (got : Result EntryAt Stop) (w : LocatedIs p at got) where
      entry_read : (a : RawEntry) × Reads entry p at a (at + length (entry_bytes a))
      unfolding times
      entry_read =
          let one_less : count - j ≡ suc (count - (j + 1)) = omega arith in
          andThen-inv (entry (drop at p)) (λ a t e _. (a, entry_place p at a t g.tree.bytes e)) (rw one_less at u.reads)

      pub turns_go_on : (stop : Stop) → got ≡ Err stop → ⊥
      turns_go_on stop q = subst (LocatedIs p at) q w entry_read.0 _ entry_read.1

      module _ (e : EntryAt) (q : got ≡ Ok e) where
        abbrev link : List (List ℕ)
        link = link_list (link_at p e.link)

        located : EntryHere p at e
        located = (subst (LocatedIs p at) q w).here entry_read.0 _ entry_read.1

        behind : (k : List RawEntry) × (u.left ≡ entry_at p e ∷ k) × (times (count - (j + 1)) entry (drop e.end p) ≡ read k (drop g.past p))
        behind = row_behind p count j at g.past u.left u.reads h (Ok e) located e refl

        all_are : (u.before ++ link) ++ links_after behind.0 ≡ links_after g.entries
        unfolding links_after
        all_are =
            append_assoc u.before link (links_after behind.0)
            ∙ ap (λ (l : List RawEntry). u.before ++ links_after l) (sym behind.1) ∙ u.same

        pub turn_stands : LinkStands s p labels pages n e.link layer
        turn_stands = record {
          i = g.i;
          tree = g.tree;
          within = λ z. omega (arith, located.ends.link z, located.ends.value, located.whole.within);
          among = λ digest i.
              g.among digest (subst (λ (l : List (List ℕ)). Among digest l) all_are
              (among_left (u.before ++ link) (links_after behind.0) digest (among_right u.before link digest i)));
        }

        module _ (same : length out ≡ length o) (ys : List ℕ) (r : Option ℕ)
            (v : LinkGathered s p labels pages n e.link layer (lent total out) r ys) where
          abbrev so_far : List ℕ
          so_far = gathered_from_all g.tree.raws u.before

          abbrev more : List ℕ
          more = gathered_from_all g.tree.raws link

          turn_wrote : {k : Option ℕ} → r ≡ k → WrittenFront more (lent total out) k ys
          unfolding turn_stands
          turn_wrote z = subst (λ (k : Option ℕ). WrittenFront more (lent total out) k ys) z (v turn_stands)

          pub turn_gathered : (m : ℕ) → r ≡ Some m → TreesSoFar g o (back total out ys) (total + m) e.end (j + 1)
          turn_gathered m z = record {
            left = behind.0;
            before = u.before ++ link;
            reads = behind.2;
            same = all_are;
            wrote = rw (from_both g.tree.raws u.before link) (then_more so_far o total out u.wrote same more ys m (turn_wrote z));
          }

          pub turn_fits : (m : ℕ) → r ≡ Some m → length ys ≡ length (lent total out) → total + m ≤ length o
          turn_fits m z = sum_fits so_far o total out u.wrote same more ys m (turn_wrote z)

          pub no_room_turn : r ≡ None → WrittenFront (gathered_from_all g.tree.raws (links_after g.entries)) o None (back total out ys)
          no_room_turn z =
              let rest = gathered_from_all g.tree.raws (links_after behind.0) in
              rw (← all_are, from_both g.tree.raws (u.before ++ link) (links_after behind.0), from_both g.tree.raws u.before link)
              (still_lacks (so_far ++ more) rest o (back total out ys) (then_lacks so_far o total out u.wrote same more ys (turn_wrote z)))
