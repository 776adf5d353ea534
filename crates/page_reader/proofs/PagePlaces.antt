-- Entries and pages at a place of a slice, in the facts that the branches of the code leave.
use Rattle.std.specs.Prelude.{Result, Ok, Err}
use Prim.Native.Nat.{ℕ, suc, ◌+◌, ◌-◌, ◌≤◌, ◌<◌}
use mathlib.Core.Path.{◌≡◌, refl, sym, ap, subst, ◌∙◌}
use mathlib.Core.Bool.{Bool, true, false, ◌||◌}
use mathlib.Core.Option.{Option, none}
use mathlib.Core.List.{List, [], ◌∷◌, ◌++◌, append_assoc, append-nil}
use native.Mathlib.Omega.{arith}
use native.Mathlib.Nat.{sub-zero}
use lib.ListN.{length, take, drop, get_or, take-append-drop}
use lib.Seq.{drop-drop, get_or-drop}
use borrow.Table.Steps.{cases}
use Rattle.bytestring.specs.Bytes.{equal}
use Rattle.bytestring.proofs.Equal.{equal_true}
use Rattle.value.specs.Value.{raw, dag_cbor, is_codec, value_in}
use Rattle.page.specs.Reading.{Read, read, ends_early, departs, Reader, and_then, exactly, any_bytes, times}
use Rattle.page.specs.Number.{plain_number, byte_string, array, number}
use Rattle.page.specs.Page.{gap, codec, value, RawEntry, entry, RawPage, page}
use Rattle.page_reader.specs.Place.{Reads, read_stop, after, NumberIs, LinkIs, link_at, GapIs, entry_start, entry_end, empty_gap_to_value, entry_at, EntryEndIs, EntryHere, EntryIs, page_start, EntriesHere, EntriesIs, PageIs}
use Rattle.page_reader.specs.declared.Stop.{Stop}
use Rattle.page_reader.specs.declared.EntryAt.{EntryAt}
use Rattle.page.proofs.Pages.{before_entries, before_left, before_remainder, before_shares, before_gap, before_value}
use Rattle.page_reader.proofs.Places.{then_stops, then_assoc, reads_on, bytes_there, bytes_end}

-- ---- the readers in the steps of the code
-- fixed bytes and p, and then f
pub steps : {A B : Type 0} (bytes : List ℕ) (p : Reader A) (f : A → List ℕ → Read B) (t : List ℕ)
    → and_then (exactly bytes t) (λ _ u. and_then (p u) f) ≡ and_then (after bytes p t) f
steps bytes p f t = then_assoc (exactly bytes t) (λ _ u. p u) f

abbrev pub with_value : ℕ → List ℕ → Option (List ℕ) → List ℕ → Read RawEntry
with_value p r g t = and_then (exactly before_value t) (λ _ u. and_then (value u) (λ v x. read (record { shares = p; remainder = r; after = g; val = v }) x))

pub end_steps : (p : ℕ) (r t : List ℕ) → entry_end p r t ≡ and_then (after before_gap gap t) (with_value p r)
unfolding entry_end
end_steps p r t = steps before_gap gap (with_value p r) t

abbrev with_shares : List ℕ → List ℕ → Read RawEntry
with_shares r t = and_then (exactly before_shares t) (λ _ u. and_then (number plain_number u) (λ p v. entry_end p r v))

entry_steps : (t : List ℕ) → entry t ≡ and_then (entry_start t) (λ n u. and_then (any_bytes n u) with_shares)
unfolding entry entry_end
entry_steps t = steps before_remainder (number byte_string) (λ n u. and_then (any_bytes n u) with_shares) t

abbrev with_left : List RawEntry → List ℕ → Read RawPage
with_left es t = and_then (exactly before_left t) (λ _ u. and_then (gap u) (λ g v. read (record { entries = es; left = g }) v))

page_steps : (t : List ℕ) → page t ≡ and_then (page_start t) (λ n u. and_then (times n entry u) with_left)
unfolding page
page_steps t = steps before_entries (number array) (λ n u. and_then (times n entry u) with_left) t

-- what was read, and then f
pub reads_then : {A B : Type 0} {p : Reader A} {s : List ℕ} {at : ℕ} {a : A} {to : ℕ} (f : A → List ℕ → Read B) → Reads p s at a to → and_then (p (drop at s)) f ≡ f a (drop to s)
reads_then f w = rw w.reads

-- ---- the end of an entry
module _ (s : List ℕ) (at shares remainder size : ℕ) (m : Result (ℕ × ℕ) Stop) (w : GapIs (after before_gap gap) s at m) where
  abbrev ended : List ℕ → Read RawEntry
  ended = entry_end shares (take size (drop remainder s))

  abbrev valued : Option (List ℕ) → List ℕ → Read RawEntry
  valued = with_value shares (take size (drop remainder s))

  pub gap_stopped : (stop : Stop) → m ≡ Err stop → ended (drop at s) ≡ read_stop stop
  gap_stopped stop e = end_steps shares _ (drop at s) ∙ then_stops valued stop (subst (GapIs (after before_gap gap) s at) e w)

  module _ (digest to : ℕ) (e : m ≡ Ok (digest, to)) (n : Result ℕ Stop) (v : LinkIs value_in (after before_value value) 11 s to n) where
    gap_here : GapIs (after before_gap gap) s at (Ok (digest, to))
    gap_here = subst (GapIs (after before_gap gap) s at) e w

    value_next : ended (drop at s) ≡ and_then (after before_value value (drop to s)) (λ x u. read (record { shares = shares; remainder = take size (drop remainder s); after = link_at s digest; val = x }) u)
    value_next = end_steps shares _ (drop at s) ∙ reads_then valued gap_here.whole ∙ steps before_value value _ (drop to s)

    pub value_stopped : (stop : Stop) → n ≡ Err stop → ended (drop at s) ≡ read_stop stop
    value_stopped stop f = value_next ∙ then_stops _ stop (subst (LinkIs value_in (after before_value value) 11 s to) f v)

    pub end_there : (place : ℕ) → n ≡ Ok place
        → EntryEndIs s at shares remainder size (Ok (record { shares = shares; remainder = remainder; size = size; link = digest; value = place; end = place + 32 }))
    end_there place f =
        let x : LinkIs value_in (after before_value value) 11 s to (Ok place) = subst (LinkIs value_in (after before_value value) 11 s to) f v in (
          refl,
          refl,
          refl,
          record {
            whole = record { reads = value_next ∙ reads_then _ x.whole; ahead = omega (arith, gap_here.whole.ahead, x.whole.ahead); within = x.whole.within };
            ends = record { link = λ z. omega (arith, gap_here.last z, x.head); value = refl };
          },
        )

-- one comparison, and then another
module _ (a b r : Bool) (e : r ≡ a) where
  pub or_first_lem : r ≡ true → true ≡ (a || b)
  or_first_lem h = rw (← e, h)

  pub or_second : (q : Bool) → r ≡ false → q ≡ b → q ≡ (a || b)
  or_second q h f = rw (← e, h) f

-- an empty gap: all bytes before the digest of the value are fixed but the codec
empty_gap : (c p : ℕ) (r t : List ℕ) → is_codec c ≡ true
    → entry_end p r (empty_gap_to_value c ++ t)
    ≡ and_then (and_then (any_bytes 32 t) (λ d u. read (c ∷ d) u)) (λ v u. read (record { shares = p; remainder = r; after = none; val = v }) u)
unfolding entry_end exactly gap value codec
empty_gap c p r t h = rw h

module _ (s : List ℕ) (at shares remainder size left : ℕ) (el : left ≡ length s - at) (h : 46 ≤ left) where
  abbrev EmptyGapThere : Type 0
  EmptyGapThere =
      EntryEndIs s at shares remainder size (Ok (record { shares = shares; remainder = remainder; size = size; link = 0; value = at + 14; end = at + 14 + 32 }))

  empty_gap_here : (c : ℕ) → is_codec c ≡ true → equal (take (at + 14 - at) (drop at s)) (empty_gap_to_value c) ≡ true → EmptyGapThere
  unfolding link_at
  empty_gap_here c k e =
      let n : at + 14 - at ≡ 14 = omega arith in
      let b : take 14 (drop at s) ≡ empty_gap_to_value c = equal_true (take 14 (drop at s)) (empty_gap_to_value c) (rw n at e) in
      let d : drop at s ≡ empty_gap_to_value c ++ drop (at + 14) s = sym (take-append-drop 14 (drop at s)) ∙ rw (b, drop-drop 14 at s) in
      let codec-place : at + 14 - 3 ≡ at + 11 = omega arith in
      let stands : get_or s (at + 11) 0 ≡ c = sym (get_or-drop at s 11 0) ∙ ap (λ (l : List ℕ). get_or l 11 0) d in
      let v = bytes_there s (at + 14) 32 (length s - (at + 14)) refl (omega arith) in (
        refl,
        refl,
        refl,
        record {
          whole = record {
            reads = rw (d, codec-place, stands) (empty_gap c shares (take size (drop remainder s)) (drop (at + 14) s) k ∙ rw v);
            ahead = omega arith;
            within = omega arith;
          };
          ends = record { link = λ z. absurd (omega arith); value = refl };
        },
      )

  pub empty_gap_there : (r : Bool)
      → r ≡ (equal (take (at + 14 - at) (drop at s)) (empty_gap_to_value dag_cbor) || equal (take (at + 14 - at) (drop at s)) (empty_gap_to_value raw)) → r ≡ true → EmptyGapThere
  unfolding is_codec
  empty_gap_there r e q =
      cases (equal (take (at + 14 - at) (drop at s)) (empty_gap_to_value dag_cbor))
      (λ f. empty_gap_here dag_cbor refl f)
      (λ f. empty_gap_here raw refl (rw f at (sym e ∙ q)))

-- ---- an entry
module _ (s : List ℕ) (at : ℕ) (m : Result (ℕ × ℕ) Stop) (w : NumberIs entry_start s at m) where
  pub start_stopped : (stop : Stop) → m ≡ Err stop → entry (drop at s) ≡ read_stop stop
  start_stopped stop e = entry_steps (drop at s) ∙ then_stops _ stop (subst (NumberIs entry_start s at) e w)

  module _ (size remainder left : ℕ) (e : m ≡ Ok (size, remainder)) (el : left ≡ length s - remainder) where
    start_here : NumberIs entry_start s at (Ok (size, remainder))
    start_here = subst (NumberIs entry_start s at) e w

    pub remainder_next : entry (drop at s) ≡ and_then (any_bytes size (drop remainder s)) with_shares
    remainder_next = entry_steps (drop at s) ∙ reads_then _ start_here

    pub remainder_ends : left < size → entry (drop at s) ≡ ends_early
    remainder_ends h = remainder_next ∙ rw (bytes_end s remainder size left el h)

    module _ (h : size ≤ left) (n : Result (ℕ × ℕ) Stop) (v : NumberIs (after before_shares (number plain_number)) s (remainder + size) n) where
      shares_next : entry (drop at s) ≡ and_then (after before_shares (number plain_number) (drop (remainder + size) s)) (λ p u. entry_end p (take size (drop remainder s)) u)
      shares_next = remainder_next ∙ rw (bytes_there s remainder size left el h) (steps before_shares (number plain_number) _ (drop (remainder + size) s))

      pub shares_stopped : (stop : Stop) → n ≡ Err stop → entry (drop at s) ≡ read_stop stop
      shares_stopped stop f = shares_next ∙ then_stops _ stop (subst (NumberIs (after before_shares (number plain_number)) s (remainder + size)) f v)

      module _ (shares to : ℕ) (f : n ≡ Ok (shares, to)) where
        shares_here : NumberIs (after before_shares (number plain_number)) s (remainder + size) (Ok (shares, to))
        shares_here = subst (NumberIs (after before_shares (number plain_number)) s (remainder + size)) f v

        pub end_next : entry (drop at s) ≡ entry_end shares (take size (drop remainder s)) (drop to s)
        end_next = shares_next ∙ reads_then _ shares_here

        pub entry_there : (r : Result EntryAt Stop) → EntryEndIs s to shares remainder size r → EntryIs s at r
        entry_there (Ok e) x = record {
          start = rw (x.1, x.2) start_here;
          inside = omega (arith, x.1, x.2, shares_here.ahead, x.3.whole.ahead);
          whole = reads_on (omega (arith, start_here.ahead, shares_here.ahead)) (end_next ∙ rw (x.0, x.1, x.2)) x.3.whole;
          ends = x.3.ends;
        }
        entry_there (Err stop) x = end_next ∙ x

-- ---- entries
-- i of them were read, up to a place
pub record EntriesSoFar (count : ℕ) (s : List ℕ) (at next i : ℕ) : Type 0 where
  pub entries : List RawEntry
  pub reads : times count entry (drop at s) ≡ and_then (times (count - i) entry (drop next s)) (λ l u. read (entries ++ l) u)
  pub ahead : at + i ≤ next
  pub within : next ≤ length s

with_none : {A : Type 0} (r : Read (List A)) → r ≡ and_then r (λ l u. read ([] ++ l) u)
with_none (read l u) = refl
with_none ends_early = refl
with_none departs = refl

with_one : {A : Type 0} (r : Read (List A)) (l : List A) (a : A)
    → and_then (and_then r (λ k u. read (a ∷ k) u)) (λ k u. read (l ++ k) u) ≡ and_then r (λ k u. read ((l ++ (a ∷ [])) ++ k) u)
with_one (read k u) l a = simp append_assoc
with_one ends_early l a = refl
with_one departs l a = refl

pub entries_none : (count : ℕ) (s : List ℕ) (at : ℕ) → at ≤ length s → EntriesSoFar count s at at 0
entries_none count s at h = record {
  entries = [];
  reads = simp sub-zero (with_none (times count entry (drop at s)));
  ahead = omega arith;
  within = h;
}

module _ (count : ℕ) (s : List ℕ) (at next i : ℕ) (l : EntriesSoFar count s at next i) where
  pub entries_all : count ≤ i → i ≤ count → EntriesIs count s at (Ok next)
  unfolding times
  entries_all h k =
      let none_left : count - i ≡ 0 = omega arith in
      record {
        entries = l.entries;
        reads = l.reads ∙ rw (none_left, append-nil);
        ahead = omega (arith, l.ahead);
        within = l.within;
      }

  module _ (h : i < count) (m : Result EntryAt Stop) (w : EntryIs s next m) where
    entry_next : times (count - i) entry (drop next s)
        ≡ and_then (entry (drop next s)) (λ e t. and_then (times (count - (i + 1)) entry t) (λ k u. read (e ∷ k) u))
    unfolding times
    entry_next = let one_less : count - i ≡ suc (count - (i + 1)) = omega arith in rw one_less

    pub entry_stopped : (stop : Stop) → m ≡ Err stop → times count entry (drop at s) ≡ read_stop stop
    entry_stopped stop e =
        l.reads ∙ rw entry_next (then_stops _ stop (then_stops _ stop (subst (EntryIs s next) e w)))

    pub entries_more : (e : EntryAt) → m ≡ Ok e → EntriesSoFar count s at e.end (i + 1)
    entries_more e q =
        let x : EntryHere s next e = subst (EntryIs s next) q w in
        record {
          entries = l.entries ++ (entry_at s e ∷ []);
          reads = l.reads ∙ rw (entry_next, x.whole.reads) (with_one (times (count - (i + 1)) entry (drop e.end s)) l.entries (entry_at s e));
          ahead = omega (arith, l.ahead, x.whole.ahead);
          within = x.whole.within;
        }

-- ---- a page
module _ (s : List ℕ) (at : ℕ) (m : Result (ℕ × ℕ) Stop) (w : NumberIs page_start s at m) where
  pub count_stopped : (stop : Stop) → m ≡ Err stop → page (drop at s) ≡ read_stop stop
  count_stopped stop e = page_steps (drop at s) ∙ then_stops _ stop (subst (NumberIs page_start s at) e w)

  module _ (count first : ℕ) (e : m ≡ Ok (count, first)) (n : Result ℕ Stop) (v : EntriesIs count s first n) where
    count_here : NumberIs page_start s at (Ok (count, first))
    count_here = subst (NumberIs page_start s at) e w

    entries_next : page (drop at s) ≡ and_then (times count entry (drop first s)) with_left
    entries_next = page_steps (drop at s) ∙ reads_then _ count_here

    pub entries_stopped : (stop : Stop) → n ≡ Err stop → page (drop at s) ≡ read_stop stop
    entries_stopped stop f = entries_next ∙ then_stops _ stop (subst (EntriesIs count s first) f v)

    module _ (past : ℕ) (f : n ≡ Ok past) (k : Result (ℕ × ℕ) Stop) (x : GapIs (after before_left gap) s past k) where
      entries_here : EntriesHere count s first past
      entries_here = subst (EntriesIs count s first) f v

      left_next : page (drop at s) ≡ and_then (after before_left gap (drop past s)) (λ g u. read (record { entries = entries_here.entries; left = g }) u)
      left_next = entries_next ∙ rw entries_here.reads (steps before_left gap _ (drop past s))

      pub left_stopped : (stop : Stop) → k ≡ Err stop → page (drop at s) ≡ read_stop stop
      left_stopped stop q = left_next ∙ then_stops _ stop (subst (GapIs (after before_left gap) s past) q x)

      pub page_there : (left end : ℕ) → k ≡ Ok (left, end) → PageIs s at (Ok (record { count = count; first = first; past = past; left = left; end = end }))
      page_there left end q =
          let y : GapIs (after before_left gap) s past (Ok (left, end)) = subst (GapIs (after before_left gap) s past) q x in
          record {
            start = count_here;
            row = entries_here;
            whole = record {
              reads = left_next ∙ reads_then _ y.whole;
              ahead = omega (arith, count_here.ahead, entries_here.ahead, y.whole.ahead);
              within = y.whole.within;
            };
            inside = y.whole.ahead;
            left = y.last;
          }

pub first_within : (p : Reader ℕ) (s : List ℕ) (at n to : ℕ) (m : Result (ℕ × ℕ) Stop) → NumberIs p s at m → m ≡ Ok (n, to) → to ≤ length s
first_within p s at n to m w e = (subst (NumberIs p s at) e w).within
