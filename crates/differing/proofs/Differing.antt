-- The difference of two accepted registers, from the words that are staged to the answer.
use Rattle.std.specs.Prelude.{Result}
use Prim.Native.Nat.{ℕ, zero, suc, ◌+◌, ◌^◌, ◌≤◌, ◌<◌}
use mathlib.Core.Path.{◌≡◌, refl, sym, ap, subst, ◌∙◌}
use mathlib.Core.Bool.{Bool, true, false, cond, not, ◌&&◌}
use mathlib.Core.List.{List, [], ◌∷◌, ◌++◌, map}
use native.Mathlib.Omega.{arith}
use lib.ListN.{length, take, get_or, length-append, length-map}
use lib.Seq.{length-take-le, take_all, get_or-take}
use lib.Dec.{leb}
use borrow.Author.Tests.{le-leb}
use borrow.Table.Steps.{cases}
use Rattle.limits.specs.Limits.{longest, most}
use Rattle.bytestring.proofs.Tools.{All}
use Rattle.answer.specs.declared.Refusal.{Refusal}
use Rattle.answer.specs.declared.Refusal.TheVariants.{NoRoom}
use Rattle.answer.specs.Inner.{with_second}
use Rattle.page.specs.Page.{page_bytes}
use Rattle.tree.specs.Tree.{page, Gap, empty, under, Entries, end, entry}
use Rattle.tree.specs.Record.{Record, Spelt, records}
use Rattle.tree.specs.Table.{SpeltTree, bytes_of_page, table, table_under, table_from, table_of}
use Rattle.tree.specs.Judge.{due, refused, accepted, judge}
use Rattle.tree.proofs.Accept.{Accepted, accepted_table}
use Rattle.index.specs.Accepted.{AcceptedIndex, ChainRow}
use Rattle.row.specs.Row.{record_of_word, Stands, Row, records_of}
use Rattle.row.proofs.Rows.{records_length}
use Rattle.writer.specs.Output.{fits_output, table_answer, table_output}
use Rattle.promises.specs.Pages.{pages_of, known, opened_pages}
use Rattle.opened.specs.Passing.{pages_in, flags, pick, marked, OpenedStaged}
use Rattle.opened.specs.declared.pass.Opening.{Opening}
use Rattle.opened.proofs.Picks.{pick_map}
use Rattle.opened.proofs.OpenFlags.{opened_picks}
use Rattle.promises.specs.Outcome.{sizes}
use Rattle.promises.specs.Counted.{CountedOutcome, stopped, counted, settle_counted, counted_answer, counted_output}
use Rattle.promises.specs.Difference.{difference_records, difference_verdicts, difference_outcome}
use Rattle.choice.specs.Choice.{sifted_of, RowOf}
use Rattle.promises.proofs.MapLaws.{Sorted}
use Rattle.promises.proofs.Parts.{sorted_part}
use Rattle.promises.proofs.OpenedLaws.{descent, descent_under, descent_from, opened_descent, opened_records, opened_part}
use Rattle.promises.proofs.CountedLaws.{CountedSays}
use Rattle.promises.proofs.DifferenceLaws.{difference_opened}
use Rattle.choice.proofs.Choosing.{all_first, first_at}
use Rattle.choice.proofs.Sifting.{sift_lacking}
use Rattle.reading.proofs.Verdicts.{Accepting, t, sorted, short, row_first, records_first, row_second, records_second, accepted_few}

-- ---- no more pages are opened than the table has bytes
page_bytes_lem : (t : SpeltTree) → 1 ≤ length (bytes_of_page t)
unfolding bytes_of_page page_bytes
page_bytes_lem t = omega arith

module _ (first : List (List ℕ)) where
  mutual
    unfolding descent table

    descent_few : (t : SpeltTree) → length (descent first t) ≤ length (table t)
    descent_few (page g es) =
        let whole : length (page g es ∷ (descent_under first g ++ descent_from first es)) ≤ length (table (page g es)) = omega (arith, length-append (descent_under first g) (descent_from first es), page_bytes_lem (page g es), length-append (bytes_of_page (page g es)) (table_under g ++ table_from es), length-append (table_under g) (table_from es), descent_few_under g, descent_few_from es) in
        cases (known first (bytes_of_page (page g es))) (λ e. rw e (omega arith)) (λ e. rw e whole)

    descent_few_under : (g : Gap Spelt (List ℕ)) → length (descent_under first g) ≤ length (table_under g)
    descent_few_under empty = omega arith
    descent_few_under (under digest p) = descent_few p

    descent_few_from : (es : Entries Spelt (List ℕ)) → length (descent_from first es) ≤ length (table_from es)
    descent_few_from end = omega arith
    descent_few_from (entry e g es) = omega (arith, length-append (descent_under first g) (descent_from first es), length-append (table_under g) (table_from es), descent_few_under g, descent_few_from es)

  opened_few : (t : SpeltTree) → length (opened_pages first t) ≤ length (table t)
  opened_few t = rw (opened_descent first t) (descent_few t)

-- ---- those of a list whose flag is set
pick_all : (P : ℕ → Type 0) (bs : List Bool) (l : List ℕ) → All P l → All P (pick bs l)
unfolding pick
pick_all P [] l a = tt
pick_all P (b ∷ bs) [] a = tt
pick_all P (true ∷ bs) (w ∷ l) a = (a.0, pick_all P bs l a.1)
pick_all P (false ∷ bs) (w ∷ l) a = pick_all P bs l a.1

marked_at : (l : List ℕ) (i : ℕ) → i < length l → get_or (marked l) i 0 ≡ get_or l i 0 + 2 ^ 60
marked_at [] i h = absurd (omega arith)
marked_at (w ∷ l) zero h = refl
marked_at (w ∷ l) (suc i) h = marked_at l i (omega arith)

-- ---- the words that are staged
module _ (s : List ℕ) {u other : List ℕ} {m : ℕ} (b : Accepting u other m) where
  abbrev words : List ℕ
  words = marked (take m other)

  words_length : length words ≡ m
  words_length = length-map (take m other) (λ w. w + 2 ^ 60) ∙ length-take-le m other b.given.room

  words_all : take m words ≡ words
  words_all = take_all m words (omega (arith, words_length))

  words_at : (i : ℕ) → i < m → get_or words i 0 ≡ get_or other i 0 + 2 ^ 60
  words_at i h =
      marked_at (take m other) i (omega (arith, length-take-le m other b.given.room)) ∙ ap (λ (w : ℕ). w + 2 ^ 60) (get_or-take m other i 0 h)

  words_stand : length s < 2 ^ 24 → All (Stands s u) words
  words_stand h =
      let row = row_second b s words (omega (arith, words_length)) words_at h in
      subst (All (Stands s u)) words_all (all_first (Stands s u) words m row.room row.stands)

  words_records : map (record_of_word s u) words ≡ records (t b)
  unfolding records_of
  words_records = ap (map (record_of_word s u)) (sym words_all) ∙ records_second b s words (omega (arith, words_length)) words_at

  -- the first words of the row stand for the records in opened pages
  module _ (first : List (List ℕ)) (r : Opening) (row : List ℕ) (o : OpenedStaged first (t b) other m r row) (fits : m ≤ length row) where
    abbrev bs : List Bool
    bs = flags first (not (known first (bytes_of_page (t b)))) (t b)

    row_staged : length s < 2 ^ 24 → Row s u row r.staged
    row_staged h = record {
      few = omega (arith, o.fits, accepted_few b.bytes b.given);
      room = omega (arith, o.fits);
      first = h;
      second = short b;
      stands = first_at (Stands s u) row r.staged (omega (arith, o.fits)) (rw o.staged (pick_all (Stands s u) bs words (words_stand h)));
    }

    records_staged : records_of s u row r.staged ≡ opened_records first (t b)
    unfolding records_of
    records_staged =
        ap (map (record_of_word s u)) o.staged ∙ sym (pick_map (record_of_word s u) bs words) ∙ rw words_records (sym (opened_picks first (t b)))

-- ---- the answer and the output, by whether the table fits
module _ (rs : List Record) (few : length rs ≤ most) (room count : ℕ) where
  abbrev settled : CountedOutcome
  settled = settle_counted (due (sizes rs room)) rs count

  settled_is : settled ≡ cond (fits_output (table_of rs) room) (counted (table_of rs) count) (stopped NoRoom)
  unfolding settle_counted due sizes fits_output
  settled_is =
      let b : Bool = leb (length (table_of rs)) room && leb (length (table_of rs)) longest in
      rw (le-leb (length rs) most few) (cases b (λ e. rw e) (λ e. rw e))

  settled_says : CountedSays settled room (with_second (table_answer (table_of rs) room) count) (table_output (table_of rs) room)
  unfolding table_answer table_output counted_answer counted_output
  settled_says = rw settled_is (cases (fits_output (table_of rs) room) (λ h. rw h (refl, refl)) (λ h. rw h (refl, refl)))

-- ---- two registers that are accepted
module _ {s u index other : List ℕ} {n m : ℕ} (a : Accepting s index n) (b : Accepting u other m) where
  abbrev first_accepted : Accepted s (t a)
  first_accepted = accepted_table s a.bytes (t a) a.given.judged

  abbrev second_accepted : Accepted u (t b)
  second_accepted = accepted_table u b.bytes (t b) b.given.judged

  first_short : length s ≤ longest
  first_short = omega (arith, ap length first_accepted.written, first_accepted.fit.size)

  second_short : length u ≤ longest
  second_short = omega (arith, ap length second_accepted.written, second_accepted.fit.size)

  pub may_open : {known chains : List ℕ} {k l room : ℕ} → ChainRow s known k → ChainRow u chains l → m ≤ room
      → ChainRow s known k × ChainRow u chains l × AcceptedIndex u other m × (m ≤ room) × (length s ≤ longest) × (length u ≤ longest)
  may_open x y h = (x, y, b.given, h, first_short, second_short)

  -- what is opened rises
  opened_sorted : Sorted (opened_records (pages_of (t a)) (t b))
  opened_sorted = sorted_part (opened_part (pages_of (t a)) (t b)) (sorted b)

  module _ (r : Opening) (row : List ℕ) (o : (w : SpeltTree) → judge u ≡ accepted w → OpenedStaged (pages_in (judge s)) w other m r row) (enough : m ≤ length row) where
    staged : OpenedStaged (pages_of (t a)) (t b) other m r row
    unfolding pages_in
    staged = rw a.given.judged at (o (t b) b.given.judged)

    pub may_leave : Row s u index n × Row s u row r.staged × (r.staged ≤ length other)
    may_leave = (
      row_first a u (short b),
      row_staged s b (pages_of (t a)) r row staged enough (short a),
      omega (arith, staged.fits, b.given.room),
    )

    -- each opened page has at least one byte
    pub small_counts : (r.staged ≤ most) × (r.opened ≤ longest)
    unfolding table_of
    small_counts =
        let e : u ≡ table (t b) = second_accepted.written ∙ ap table (sym second_accepted.spells) in
        (omega (arith, staged.fits, accepted_few b.bytes b.given), omega (arith, staged.opened, opened_few (pages_of (t a)) (t b), ap length e, second_short))

    sifted_records : sifted_of s u index n row r.staged ≡ difference_records (t a) (t b)
    unfolding sifted_of
    sifted_records =
        rw (records_first a u, records_staged s b (pages_of (t a)) r row staged enough)
        (sift_lacking (records (t a)) (opened_records (pages_of (t a)) (t b)) opened_sorted ∙ sym (difference_opened (t a) (t b) (sorted b)))

    module _ (row' : List ℕ) (k : ℕ) (w : RowOf s u row' k (sifted_of s u index n row r.staged)) (room : ℕ) where
      row_records_lem : records_of s u row' k ≡ difference_records (t a) (t b)
      row_records_lem = w.records ∙ sifted_records

      -- number 5 is never due
      few : length (difference_records (t a) (t b)) ≤ most
      few = omega (arith, w.whole.few, sym (ap length row_records_lem), records_length s u row' k w.whole.room)

      outcome : difference_outcome s u room ≡ settled (difference_records (t a) (t b)) few room r.opened
      unfolding difference_outcome difference_verdicts
      outcome = rw (a.given.judged, b.given.judged, staged.opened)

      pub difference_says : {answer : Result ℕ Refusal} {out : List ℕ} {d : Result (ℕ × ℕ) Refusal}
          → (answer ≡ table_answer (table_of (records_of s u row' k)) room) × (out ≡ table_output (table_of (records_of s u row' k)) room)
          → d ≡ with_second answer r.opened → CountedSays (difference_outcome s u room) room d out
      difference_says says e =
          let settles = settled_says (difference_records (t a) (t b)) few room r.opened in
          (e ∙ rw (says.0, row_records_lem, outcome) settles.0, says.1 ∙ rw (row_records_lem, outcome) settles.1)

-- ---- a register that is refused
module _ (s u : List ℕ) (room : ℕ) {q : Refusal} where
  pub first_refused : judge s ≡ refused q → difference_outcome s u room ≡ stopped q
  unfolding difference_outcome difference_verdicts
  first_refused e = rw e

  pub second_refused : (t : SpeltTree) → judge s ≡ accepted t → judge u ≡ refused q → difference_outcome s u room ≡ stopped q
  unfolding difference_outcome difference_verdicts
  second_refused t e f = rw (e, f)
