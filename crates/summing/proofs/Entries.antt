-- The entries of a page, one after the other, as judge_entries judges them.
use Rattle.std.specs.Prelude.{Result, Ok, Err, Some, None, Option as OptionOf}
use Prim.Native.Nat.{ℕ, suc, ◌+◌, ◌-◌, ◌≤◌, ◌<◌}
use mathlib.Core.Path.{◌≡◌, refl, sym, ap, subst, ◌∙◌}
use mathlib.Core.Bool.{true}
use mathlib.Core.Logic.{◌⊎◌, inl, inr, ⊎_elim}
use mathlib.Core.Option.{Option, some}
use mathlib.Core.List.{List, [], ◌∷◌, ◌++◌}
use native.Mathlib.Omega.{arith}
use native.Mathlib.Nat.{sub-zero}
use lib.ListN.{length, drop}
use Rattle.limits.specs.Limits.{deepest, longest_key, most}
use Rattle.value.specs.Value.{digest_in}
use Rattle.page.specs.Reading.{read, times}
use Rattle.page.specs.Page.{RawEntry, entry}
use Rattle.page.proofs.Readers.{read_sub}
use Rattle.page_reader.specs.Place.{Reads, link_at, entry_at, EntryHere, Located, LocatedIs}
use Rattle.page_reader.specs.declared.Stop.{Stop}
use Rattle.page_reader.specs.declared.EntryAt.{EntryAt}
use Rattle.page_keys.specs.Buffer.{HoldsKey, LastIs}
use Rattle.page_keys.proofs.Buffers.{holds_none, holds_whole}
use Rattle.tree.specs.OnePage.{key_after}
use Rattle.promises.specs.Promises.{Among}
use Rattle.promises.proofs.DifferenceLaws.{among_left, among_right}
use Rattle.states.specs.Pages.{link_list, links_after}
use Rattle.states.proofs.Filing.{among-split}
use Rattle.summaries.specs.Summary.{Tally, agrees, with_key, after_gap, after_entry, after_entries, then_tally}
use Rattle.summaries.proofs.Tallies.{then_taken, entries_agree}
use Rattle.tree_keys.proofs.Firsts.{link_is}
use Rattle.summing.specs.Summed.{Reaching}
use Rattle.summing.specs.Inner.{raws_in, tree_under, Underway, Tallied, LeadsOn, JudgedAt, CarriesOn, BeforeGap, GapTold, GapAsked, EntriesTold, EntriesAsked, key_stands, KeyAsked, KeyTaken, KeySays}
use Rattle.summing.specs.declared.PartSum.{PartSum}
use Rattle.summing.proofs.Tallies.{entries_grow, entry_grows, entry_goes_on, entry_fails, key_agrees}
use Rattle.summing.proofs.Reaching.{reaching_none, reaching_then, judged_stays}
use Rattle.summing.proofs.Raws.{entry_there, entry_behind}
use Rattle.summing.proofs.Gaps.{gap_carries}

pub entry_located : {p : List ℕ} {at : ℕ} {got : Result EntryAt Stop} {e : EntryAt} → LocatedIs p at got → got ≡ Ok e → Located p at e
entry_located {p} {at} w q = subst (LocatedIs p at) q w

-- the last key is another
pub underway_last : {s p labels pages counts : List ℕ} {n : ℕ} {keys tags last : List ℕ} → Underway s p labels pages counts n keys tags last
    → (last₁ : List ℕ) → length last₁ ≡ length last → Underway s p labels pages counts n keys tags last₁
underway_last u last₁ e = record { bytes = u.bytes; summings = u.summings; kept = u.kept; places = u.places; room = e ∙ u.room }

-- i of the entries are judged and the next stands at a place: what is left leads from the tally so far to what all lead to.
pub record SummedSoFar (s p labels : List ℕ) (n : ℕ) (pages₀ counts₀ last₀ : List ℕ) (start : PartSum) (first entries layer mark : ℕ)
    (pages counts keys tags last buffer : List ℕ) (size : ℕ) (cur : PartSum) (at i : ℕ) : Type 0 where
  pub under : Underway s p labels pages counts n keys tags last
  pub there : at ≤ length p
  pub room : length buffer ≡ suc longest_key
  pub few : cur.count ≤ most
  pub low : layer < deepest
  pub marked : mark < 2
  pub before : List ℕ
  pub holds : HoldsKey buffer size before
  pub short : length before ≤ longest_key
  pub all : List RawEntry
  pub left : List RawEntry
  pub past : ℕ
  pub row : times entries entry (drop first p) ≡ read all (drop past p)
  pub reads : times (entries - i) entry (drop at p) ≡ read left (drop past p)
  pub leads : (link : List ℕ) → Among link (links_after left) → LeadsOn p n link
  pub links : (link : List ℕ) → Among link (links_after left) → Among link (links_after all)
  pub judged : (link : List ℕ) → Among link (links_after all) → Among link (links_after left) ⊎ JudgedAt p n pages link
  pub grown : (digest : List ℕ) → CarriesOn p (links_after all) digest → Reaching (raws_in p) n mark digest pages₀ counts₀ pages counts
  pub onward : (t : Tally) → Tallied layer start.count last₀ start.size t
      → (u : Tally) × Tallied layer cur.count last cur.size u × (after_entries (tree_under p) [] all t ≡ after_entries (tree_under p) before left u)

pub entries_begin : {s p labels pages counts : List ℕ} {n : ℕ} {keys tags last : List ℕ} {first entries layer mark : ℕ} (start : PartSum) (buffer : List ℕ)
    → Underway s p labels pages counts n keys tags last → EntriesAsked p n first entries start.count layer mark → length buffer ≡ suc longest_key
    → SummedSoFar s p labels n pages counts last start first entries layer mark pages counts keys tags last buffer 0 start first 0
entries_begin {s} {p} {labels} {pages} {counts} {n} {keys} {tags} {last} {first} {entries} {layer} {mark} start buffer under asked room = record {
  under = under;
  there = asked.there;
  room = room;
  few = asked.few;
  low = asked.low;
  marked = asked.marked;
  before = [];
  holds = holds_none buffer;
  short = omega arith;
  all = asked.row;
  left = asked.row;
  past = asked.past;
  row = asked.reads;
  reads = rw sub-zero asked.reads;
  leads = asked.leads;
  links = λ link i. i;
  judged = λ link i. inl i;
  grown = λ digest f. reaching_none (raws_in p) n mark digest pages counts;
  onward = λ t w. (t, w, refl);
}

module _ {s p labels : List ℕ} {n : ℕ} {pages₀ counts₀ last₀ : List ℕ} {start : PartSum} {first entries layer mark : ℕ}
    {pages counts keys tags last buffer : List ℕ} {size : ℕ} {cur : PartSum} {at i : ℕ}
    (so_far : SummedSoFar s p labels n pages₀ counts₀ last₀ start first entries layer mark pages counts keys tags last buffer size cur at i) where
  -- the entries that a caller names are those of the row
  same_row : (es : List RawEntry) (past : ℕ) → times entries entry (drop first p) ≡ read es (drop past p) → so_far.all ≡ es
  same_row es past q = read_sub (λ (l : List RawEntry) _. so_far.all ≡ l) (sym so_far.row ∙ q) refl

  -- what fails for the entries left fails for all
  fails : ((t : Tally) → Tallied layer cur.count last cur.size t → (u : Tally) → after_entries (tree_under p) so_far.before so_far.left t ≡ some u
      → agrees u.layer layer ≡ true → u.count ≤ most → ⊥)
      → EntriesTold s p labels n pages₀ counts₀ last₀ start.size first entries start.count layer mark None pages counts keys tags last
  fails f es past q t w u h a few =
      let x = so_far.onward t w in
      let e = same_row es past q in
      f x.0 x.1 u (sym x.2 ∙ ap (λ (l : List RawEntry). after_entries (tree_under p) [] l t) e ∙ h) a few

  -- none is left
  pub entries_end : entries ≤ i
      → EntriesTold s p labels n pages₀ counts₀ last₀ start.size first entries start.count layer mark (Some cur) pages counts keys tags last
  unfolding times after_entries links_after
  entries_end h es past q =
      let none_left : entries - i ≡ 0 = omega arith in
      let over : so_far.left ≡ [] =
      sym (read_sub (λ (l : List RawEntry) _. [] ≡ l) (ap (λ (m : ℕ). times m entry (drop at p)) (sym none_left) ∙ so_far.reads) refl) in
      let e = same_row es past q in
      rw (← e) (record {
        underway = so_far.under;
        few = so_far.few;
        grown = so_far.grown;
        judged = λ link j. ⊎_elim (λ k. absurd (rw over at k)) (λ k. k) (so_far.judged link j);
        tally = λ t w.
            let x = so_far.onward t w in
            (x.0, x.2 ∙ rw over, x.1);
      })

  module _ (more : i < entries) where
    one_more : entries - i ≡ suc (entries - (i + 1))
    one_more = omega arith

    next_read : times (suc (entries - (i + 1))) entry (drop at p) ≡ read so_far.left (drop so_far.past p)
    next_read = ap (λ (m : ℕ). times m entry (drop at p)) (sym one_more) ∙ so_far.reads

    -- the next entry was there when the page was read
    next_there : (a : RawEntry) × ((to : ℕ) × Reads entry p at a to)
    next_there = entry_there p at (entries - (i + 1)) so_far.left (drop so_far.past p) next_read so_far.under.bytes

    pub entry_found : (got : Result EntryAt Stop) (stop : Stop) → LocatedIs p at got → got ≡ Err stop → ⊥
    entry_found got stop w e = let x = next_there in subst (LocatedIs p at) e w x.0 x.1.0 x.1.1

    module _ (e : EntryAt) (found : Located p at e) where
      here : EntryHere p at e
      here = let x = next_there in found.here x.0 x.1.0 x.1.1

      behind : (later : List RawEntry) × (so_far.left ≡ entry_at p e ∷ later) × (times (entries - (i + 1)) entry (drop e.end p) ≡ read later (drop so_far.past p))
      behind = entry_behind p at (entries - (i + 1)) so_far.left (drop so_far.past p) next_read e here

      later : List RawEntry
      later = behind.0

      left_is : so_far.left ≡ entry_at p e ∷ later
      unfolding later
      left_is = behind.1

      later_reads : times (entries - (i + 1)) entry (drop e.end p) ≡ read later (drop so_far.past p)
      unfolding later
      later_reads = behind.2

      abbrev key : List ℕ
      key = key_after so_far.before (entry_at p e)

      -- one entry and those after it
      one_then : (t : Tally) → after_entries (tree_under p) so_far.before so_far.left t
          ≡ then_tally (after_entry (tree_under p) so_far.before (entry_at p e) t) (after_entries (tree_under p) key later)
      unfolding after_entries
      one_then t = ap (λ (l : List RawEntry). after_entries (tree_under p) so_far.before l t) left_is

      -- too many records
      pub entries_too_many : most ≤ cur.count
          → EntriesTold s p labels n pages₀ counts₀ last₀ start.size first entries start.count layer mark None pages counts keys tags last
      entries_too_many h =
          fails (λ t w u q a few.
          let k = then_taken (after_entry (tree_under p) so_far.before (entry_at p e) t) (after_entries (tree_under p) key later) u (sym (one_then t) ∙ q) in
          omega (
            arith,
            w.number,
            entry_grows (tree_under p) so_far.before (entry_at p e) t k.between k.there,
            entries_grow (tree_under p) key later k.between u k.after,
          ))

      pub key_asked : KeyAsked buffer p e last
      key_asked = record {
        held = so_far.room;
        room = so_far.under.room;
        within = omega (arith, found.inside, found.within);
        shares = found.shares;
        size = found.size;
      }

      -- its key was tested
      module _ (got : OptionOf ℕ) (buffer₁ last₁ : List ℕ) (says : KeySays buffer size p e last cur.size layer got buffer₁ last₁) where
        pub key_fails : got ≡ None
            → EntriesTold s p labels n pages₀ counts₀ last₀ start.size first entries start.count layer mark None pages counts keys tags last
        key_fails z =
            let wrong = subst (λ (r : OptionOf ℕ). KeySays buffer size p e last cur.size layer r buffer₁ last₁) z says in
            fails (λ t w u q a few.
            let k = then_taken (after_entry (tree_under p) so_far.before (entry_at p e) t) (after_entries (tree_under p) key later) u (sym (one_then t) ∙ q) in
            entry_fails so_far.before (entry_at p e) t layer (tree_under p)
            (wrong so_far.before so_far.holds so_far.short t.last w.latest) k.between k.there
            (entries_agree layer (tree_under p) key later k.between u k.after a))

        module _ (size₁ : ℕ) (is : got ≡ Some size₁) (room : length buffer₁ ≡ suc longest_key) (long : length last₁ ≡ longest_key) where
          taken : KeyTaken buffer size p e last cur.size layer size₁ buffer₁ last₁
          taken = subst (λ (r : OptionOf ℕ). KeySays buffer size p e last cur.size layer r buffer₁ last₁) is says

          held : HoldsKey buffer₁ size₁ key
          held = taken.holds so_far.before so_far.holds

          stands : (t : Tally) → Tallied layer cur.count last cur.size t → key_stands so_far.before (entry_at p e) t.last layer ≡ true
          stands t w = taken.right so_far.before so_far.holds t.last w.latest

          is_last : LastIs last₁ size₁ key
          is_last = record { room = omega (arith, taken.short); bytes = taken.same ∙ holds_whole held (omega (arith, taken.short)) }

          -- the tally with the record
          with_key_lem : (t : Tally) → Tallied layer cur.count last cur.size t → BeforeGap layer (cur.count + 1) last₁ size₁ (with_key key t)
          with_key_lem t w = (
            record {
              number = omega (arith, w.number);
              agree = key_agrees so_far.before (entry_at p e) t layer (tree_under p) (stands t w);
              latest = is_last;
            },
            λ z. absurd (omega (arith, taken.some_bytes so_far.before so_far.holds t.last w.latest)),
          )

          goes_on : (t : Tally) → Tallied layer cur.count last cur.size t
              → after_entries (tree_under p) so_far.before so_far.left t
              ≡ then_tally (after_gap (tree_under p) (link_at p e.link) (with_key key t)) (after_entries (tree_under p) key later)
          goes_on t w =
              one_then t ∙ ap (λ (o : Option Tally). then_tally o (after_entries (tree_under p) key later))
              (entry_goes_on so_far.before (entry_at p e) t layer (tree_under p) (stands t w) w.agree)

          -- the tree after it fails
          pub entry_gap_fails : (got : OptionOf PartSum) (pages' counts' keys' tags' last' : List ℕ)
              → GapTold s p labels n pages counts last₁ size₁ e.link (cur.count + 1) layer mark got pages' counts' keys' tags' last' → got ≡ None
              → EntriesTold s p labels n pages₀ counts₀ last₀ start.size first entries start.count layer mark None pages counts keys tags last
          entry_gap_fails got pages' counts' keys' tags' last' gap g =
              let no = subst (λ (r : OptionOf PartSum). GapTold s p labels n pages counts last₁ size₁ e.link (cur.count + 1) layer mark r pages' counts' keys' tags' last') g gap in
              fails (λ t w u q a few.
              let k = then_taken (after_gap (tree_under p) (link_at p e.link) (with_key key t)) (after_entries (tree_under p) key later) u (sym (goes_on t w) ∙ q) in
              no (with_key key t) (with_key_lem t w) k.between k.there
              (entries_agree layer (tree_under p) key later k.between u k.after a)
              (omega (arith, entries_grow (tree_under p) key later k.between u k.after)))

          -- the links after it
          links_are : links_after so_far.left ≡ link_list (link_at p e.link) ++ links_after later
          unfolding links_after
          links_are = ap links_after left_is

          link_among : (d : List ℕ) → Among d (link_list (link_at p e.link)) → Among d (links_after so_far.left)
          link_among d j = rw links_are (among_left (link_list (link_at p e.link)) (links_after later) d j)

          later_among : (d : List ℕ) → Among d (links_after later) → Among d (links_after so_far.left)
          later_among d j = rw links_are (among_right (link_list (link_at p e.link)) (links_after later) d j)

          link_first : (e.link ≡ 0 → ⊥) → Among (digest_in p e.link) (link_list (link_at p e.link))
          unfolding link_list
          link_first z = rw (link_is p e.link z) (inl refl)

          pub entry_asks : cur.count < most → GapAsked p n buffer₁ last₁ size₁ e.link (cur.count + 1) layer mark
          entry_asks h = record {
            leads = λ z. so_far.leads (digest_in p e.link) (link_among (digest_in p e.link) (link_first (λ y. omega arith)));
            within = λ z. omega (arith, found.ends.link z, found.ends.value, found.within);
            room = omega (arith, taken.short);
            same = taken.same;
            few = omega arith;
            low = so_far.low;
            marked = so_far.marked;
          }

          -- the tree after it is judged
          pub entries_go_on : (got : OptionOf PartSum) (next : PartSum) (pages' counts' keys' tags' last' : List ℕ)
              → GapTold s p labels n pages counts last₁ size₁ e.link (cur.count + 1) layer mark got pages' counts' keys' tags' last' → got ≡ Some next
              → SummedSoFar s p labels n pages₀ counts₀ last₀ start first entries layer mark pages' counts' keys' tags' last' buffer₁ size₁ next e.end (i + 1)
          unfolding then_tally
          entries_go_on got next pages' counts' keys' tags' last' gap g =
              let whole = subst (λ (r : OptionOf PartSum). GapTold s p labels n pages counts last₁ size₁ e.link (cur.count + 1) layer mark r pages' counts' keys' tags' last') g gap in
              let grew : (digest : List ℕ) → CarriesOn p (links_after so_far.all) digest → Reaching (raws_in p) n mark digest pages counts pages' counts' =
              λ digest f. whole.grown digest (λ d q j r. f d q (so_far.links d (link_among d j)) r) in
              record {
                under = whole.underway;
                there = found.within;
                room = room;
                few = whole.few;
                low = so_far.low;
                marked = so_far.marked;
                before = key;
                holds = held;
                short = omega (arith, held.size, taken.short);
                all = so_far.all;
                left = later;
                past = so_far.past;
                row = so_far.row;
                reads = later_reads;
                leads = λ d j. so_far.leads d (later_among d j);
                links = λ d j. so_far.links d (later_among d j);
                judged = λ d j.
                    ⊎_elim
                    (λ l.
                    among-split (link_list (link_at p e.link)) (links_after later) d (rw links_are at l)
                    (λ m. inr (whole.judged d m))
                    (λ m. inl m))
                    (λ l. inr (judged_stays p (whole.grown (digest_in p e.link) (gap_carries p e.link)) d l))
                    (so_far.judged d j);
                grown = λ digest f. reaching_then (so_far.grown digest f) (grew digest f);
                onward = λ t w.
                    let x = so_far.onward t w in
                    let y = whole.tally (with_key key x.0) (with_key_lem x.0 x.1) in
                    (y.0, y.2, x.2 ∙ goes_on x.0 x.1 ∙ rw y.1);
              }
