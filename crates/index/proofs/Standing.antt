-- Every slot of a table that was read stands at its places. Laws of the way to an entry, for loops that go it.
use Prim.Native.Nat.{ℕ, zero, suc, ◌+◌, ◌-◌, ◌≤◌, ◌<◌}
use mathlib.Core.Path.{◌≡◌, refl, sym, ap, subst, ◌∙◌}
use mathlib.Core.List.{List, [], ◌∷◌, ◌++◌, append_assoc, append-nil}
use native.Mathlib.Omega.{arith}
use lib.ListN.{length, drop, get_or, length-append, length-drop}
use lib.Seq.{drop_at, drop-drop}
use Rattle.limits.specs.Limits.{deepest}
use Rattle.bytestring.proofs.Tools.{All, all_append, all_at}
use Rattle.bytestring.specs.Bytes.{Bytes}
use Rattle.page.specs.Reading.{read, Reader, exactly, concat}
use Rattle.page.specs.Number.{array, number_bytes}
use Rattle.page.specs.Page.{gap_bytes, RawEntry, entry_bytes, entry as entry_reader, RawPage, page_bytes}
use Rattle.page_reader.specs.Place.{Reads, read_stop, entry_at, EntryHere, page_start}
use Rattle.page_reader.specs.declared.Stop.{Stop}
use Rattle.page_reader.specs.declared.Stop.TheVariants.{EndsEarly, Departs}
use Rattle.page_reader.specs.declared.EntryAt.{EntryAt}
use Rattle.page.proofs.Readers.{ends_early≢read, departs≢read}
use Rattle.page.proofs.Numbers.{number_reads}
use Rattle.page.proofs.Pages.{GoodEntry, GoodPage, entry_reads}
use Rattle.page.proofs.Standing.{size_of_entry, value_there}
use Rattle.tree.specs.OnePage.{key_after}
use Rattle.tree.specs.Tree.{page, Gap, empty, under, Entries, end, entry}
use Rattle.tree.specs.Record.{Spelt, record_of}
use Rattle.tree.specs.Table.{SpeltTree, link_of, raw_entries, raw_page, bytes_of_page, table, table_under, table_from, table_of, read_tree}
use Rattle.tree.specs.Judge.{accepted, judge}
use Rattle.tree.specs.Place.{length_of_entry, first_entry}
use Rattle.tree.proofs.Tables.{AllUnder, AllFrom, Good, tree_spells}
use Rattle.tree.proofs.Accept.{accepted_table}
use Rattle.index.specs.Slot.{Slot, slots, slots_under, slots_from, key_of}
use Rattle.index.specs.Walk.{blank}
use Rattle.index.specs.Standing.{Steps, here, next, SlotAt}

-- ---- bytes at a place
-- what follows them
after_bytes : (s : List ℕ) (at : ℕ) (l rest : List ℕ) → drop at s ≡ l ++ rest → drop (at + length l) s ≡ rest
after_bytes s at l rest e = sym (drop-drop (length l) at s) ∙ rw e (drop_at l rest (length l) refl)

-- they end within the list
bytes_within : (s : List ℕ) (at : ℕ) (l rest : List ℕ) → drop at s ≡ l ++ rest → 1 ≤ length l → at + length l ≤ length s
bytes_within s at l rest e h =
    omega (arith, ap length e, length-drop at s, length-append l rest)

-- a reader that reads them back
pub reads_there : {A : Type 0} (p : Reader A) (a : A) (s : List ℕ) (at : ℕ) (l rest : List ℕ) → p (l ++ rest) ≡ read a rest → 1 ≤ length l
    → drop at s ≡ l ++ rest → Reads p s at a (at + length l)
reads_there p a s at l rest q h e = record {
  reads = ap p e ∙ q ∙ ap (read a) (sym (after_bytes s at l rest e));
  ahead = omega arith;
  within = bytes_within s at l rest e h;
}

-- an entry
pub entry_there : (s : List ℕ) (at : ℕ) (e : RawEntry) (rest : List ℕ) → GoodEntry e → drop at s ≡ entry_bytes e ++ rest
    → Reads entry_reader s at e (at + length (entry_bytes e))
unfolding entry_bytes
entry_there s at e rest good q = reads_there entry_reader e s at (entry_bytes e) rest (entry_reads e rest good) (omega arith) q

-- ---- the start of a page
abbrev start_bytes : RawPage → List ℕ
start_bytes p = (0xA2 ∷ 0x61 ∷ 0x65 ∷ []) ++ number_bytes array (length p.entries)

abbrev left_bytes : RawPage → List ℕ
left_bytes p = (0x61 ∷ 0x6C ∷ []) ++ gap_bytes p.left

page_parts : (p : RawPage) → page_bytes p ≡ start_bytes p ++ (concat entry_bytes p.entries ++ left_bytes p)
unfolding page_bytes
page_parts p = refl

start_length : (p : RawPage) → length (start_bytes p) ≡ 3 + length (number_bytes array (length p.entries))
start_length p = omega arith

start_reads : (p : RawPage) (rest : List ℕ) → GoodPage p → page_start (start_bytes p ++ rest) ≡ read (length p.entries) rest
unfolding exactly
start_reads p rest g = number_reads array (length p.entries) rest g.count

-- ---- the way to an entry
module _ {A : Type 0} {p : Reader A} {s : List ℕ} {at : ℕ} {a b : A} {m n : ℕ} (v : Reads p s at a m) (w : Reads p s at b n) where
  same_result : read a (drop m s) ≡ read b (drop n s)
  same_result = sym v.reads ∙ w.reads

  pub same_read : a ≡ b
  same_read = let e = same_result in cc

  pub same_end : m ≡ n
  same_end =
      let e = same_result in
      let d : drop m s ≡ drop n s = cc in
      omega (arith, v.within, w.within, ap length d, length-drop m s, length-drop n s)

pub read_not_stopped : {A : Type 0} {p : Reader A} {s : List ℕ} {at : ℕ} {a : A} {m : ℕ} → Reads p s at a m → (stop : Stop) → p (drop at s) ≡ read_stop stop → ⊥
read_not_stopped v EndsEarly q = ends_early≢read (sym q ∙ v.reads)
read_not_stopped v Departs q = departs≢read (sym q ∙ v.reads)

pub steps_ahead : {s : List ℕ} {at to : ℕ} {j k : List ℕ} → Steps s at j to k → at ≤ to
steps_ahead here = omega arith
steps_ahead (next e m r w) = omega (arith, r.ahead, steps_ahead w)

-- at the end the key is that of the end
pub steps_done : {s : List ℕ} {at to : ℕ} {j k : List ℕ} → Steps s at j to k → to ≤ at → j ≡ k
steps_done here h = refl
steps_done (next e m r w) h = absurd (omega (arith, r.ahead, steps_ahead w))

-- before the end the entry that is read is the next
pub steps_next : {s : List ℕ} {at to m : ℕ} {j k : List ℕ} {e : RawEntry} → Steps s at j to k → at < to → Reads entry_reader s at e m → Steps s m (key_after j e) to k
steps_next here h v = absurd (omega arith)
steps_next {s} {to} {m} {j} {k} {e} (next f n r w) h v =
    subst (λ (i : ℕ). Steps s i (key_after j e) to k) (same_end r v) (subst (λ (g : RawEntry). Steps s n (key_after j g) to k) (same_read r v) w)

-- and one is read
pub steps_there : {s : List ℕ} {at to : ℕ} {j k : List ℕ} {C : Type 0} → Steps s at j to k → at < to → ((e : RawEntry) (m : ℕ) → Reads entry_reader s at e m → C) → C
steps_there here h f = absurd (omega arith)
steps_there (next e m r w) h f = f e m r

-- one more step
pub steps_end : {s : List ℕ} {at m to : ℕ} {j k : List ℕ} {e : RawEntry} → Steps s at j m k → Reads entry_reader s m e to → Steps s at j to (key_after k e)
steps_end {to} {e} here v = next e to v here
steps_end (next f n r w) v = next f n r (steps_end w v)

-- two ways from one place agree
pub steps_split : {s : List ℕ} {at m to : ℕ} {i j k : List ℕ} → Steps s at i m j → Steps s at i to k → m ≤ to → Steps s m j to k
steps_split here v h = v
steps_split (next e n r w) here h = absurd (omega (arith, r.ahead, steps_ahead w))
steps_split (next e n r w) (next f o q v) h =
    steps_split w (steps_next (next f o q v) (omega (arith, r.ahead, steps_ahead w)) r) h

-- ---- the slots of a table that stands at a place
-- an entry of a tree as its bytes have it
abbrev raw_of : Spelt → Gap Spelt (List ℕ) → RawEntry
raw_of e g = record { shares = e.shares; remainder = e.remainder; after = link_of g; val = e.val }

module _ (s : List ℕ) where
  -- a page begins with its count of entries, and its entries follow
  page_start_lem : (at : ℕ) (p : RawPage) (rest : List ℕ) → GoodPage p → drop at s ≡ page_bytes p ++ rest
      → Reads page_start s at (length p.entries) (at + (3 + length (number_bytes array (length p.entries))))
  page_start_lem at p rest g e =
      let more : List ℕ = concat entry_bytes p.entries ++ (left_bytes p ++ rest) in
      rw (← start_length p)
      (reads_there page_start (length p.entries) s at (start_bytes p) more (start_reads p more g) (omega arith) (e ∙ rw (page_parts p) (simp append_assoc)))

  page_entries : (at : ℕ) (p : RawPage) (rest : List ℕ) → drop at s ≡ page_bytes p ++ rest
      → drop (at + (3 + length (number_bytes array (length p.entries)))) s ≡ concat entry_bytes p.entries ++ (left_bytes p ++ rest)
  page_entries at p rest e =
      rw (← start_length p)
      (after_bytes s at (start_bytes p) (concat entry_bytes p.entries ++ (left_bytes p ++ rest))
      (e ∙ rw (page_parts p) (simp append_assoc)))

  -- the slot of one entry
  module _ (depth pg at count first : ℕ) (before : List ℕ) (e : Spelt) (g : Gap Spelt (List ℕ)) (rest : List ℕ) where
    slot_there : Reads page_start s pg count first → Steps s first [] at before → GoodEntry (raw_of e g) → drop at s ≡ entry_bytes (raw_of e g) ++ rest
        → SlotAt s (record { depth = depth; page = pg; entry = at; value = at + length_of_entry e g - 32; item = record_of before e })
    slot_there start steps good q = record {
      count = count;
      first = first;
      start = start;
      before = before;
      steps = steps;
      spells = raw_of e g;
      past = at + length_of_entry e g;
      reads = entry_there s at (raw_of e g) rest good q;
      key = refl;
      val = refl;
      value = omega (arith, size_of_entry (raw_of e g) good.val);
      bytes = value_there (raw_of e g) good.val s at rest q;
    }

  mutual
    unfolding slots table bytes_of_page raw_page raw_entries

    tree_stands : (t : SpeltTree) (n depth at : ℕ) (rest : List ℕ) → Good n t → drop at s ≡ table t ++ rest → All (SlotAt s) (slots depth at t)
    tree_stands (page g es) zero depth at rest good q = absurd good
    tree_stands (page g es) (suc n) depth at rest good q =
        let p : RawPage = raw_page (page g es) in
        let more : List ℕ = table_under g ++ (table_from es ++ rest) in
        let below : ℕ = at + length (page_bytes p) in
        let q₁ : drop at s ≡ page_bytes p ++ more = q ∙ simp append_assoc in
        let q₂ : drop below s ≡ more = after_bytes s at (page_bytes p) more q₁ in
        let q₃ : drop (below + length (table_under g)) s ≡ table_from es ++ rest = after_bytes s below (table_under g) (table_from es ++ rest) q₂ in
        all_append (SlotAt s) (slots_under (depth + 1) below g) (slots_from depth at (at + first_entry es) (below + length (table_under g)) [] es)
        (under_stands g n (depth + 1) below (table_from es ++ rest) good.1 q₂)
        (from_stands es n depth at (at + first_entry es) (below + length (table_under g)) [] (left_bytes p ++ more) rest
        (length (raw_entries es)) (at + first_entry es) (page_start_lem at p more good.0 q₁) here good.0.entries good.2 (page_entries at p more q₁) q₃)

    under_stands : (g : Gap Spelt (List ℕ)) (n depth at : ℕ) (rest : List ℕ) → AllUnder (Good n) g → drop at s ≡ table_under g ++ rest
        → All (SlotAt s) (slots_under depth at g)
    under_stands empty n depth at rest good q = tt
    under_stands (under digest p) n depth at rest good q = tree_stands p n depth at rest good q

    from_stands : (es : Entries Spelt (List ℕ)) (n depth pg at below : ℕ) (before rest more : List ℕ) (count first : ℕ)
        → Reads page_start s pg count first → Steps s first [] at before → All GoodEntry (raw_entries es) → AllFrom (Good n) es
        → drop at s ≡ concat entry_bytes (raw_entries es) ++ rest → drop below s ≡ table_from es ++ more
        → All (SlotAt s) (slots_from depth pg at below before es)
    from_stands end n depth pg at below before rest more count first start steps good kids q u = tt
    from_stands (entry e g es) n depth pg at below before rest more count first start steps good kids q u =
        let r : RawEntry = raw_of e g in
        let others : List ℕ = concat entry_bytes (raw_entries es) ++ rest in
        let q₁ : drop at s ≡ entry_bytes r ++ others = q ∙ append_assoc (entry_bytes r) (concat entry_bytes (raw_entries es)) rest in
        let u₁ : drop below s ≡ table_under g ++ (table_from es ++ more) = u ∙ append_assoc (table_under g) (table_from es) more in (
          slot_there depth pg at count first before e g others start steps good.0 q₁,
          all_append (SlotAt s) (slots_under (depth + 1) below g)
              (slots_from depth pg (at + length_of_entry e g) (below + length (table_under g)) (record_of before e).key es)
              (under_stands g n (depth + 1) below (table_from es ++ more) kids.0 u₁)
              (from_stands es n depth pg (at + length_of_entry e g) (below + length (table_under g)) (record_of before e).key rest more count first start
              (steps_end steps (entry_there s at r others good.0 q₁)) good.1 kids.1
              (after_bytes s at (entry_bytes r) others q₁) (after_bytes s below (table_under g) (table_from es ++ more) u₁)),
        )

-- every slot of a table that was read stands at its places
pub slots_stand : (s rest : List ℕ) (t : SpeltTree) → Bytes s → read_tree deepest s ≡ read t rest → All (SlotAt s) (slots 0 0 t)
slots_stand s rest t b r =
    let k = (tree_spells deepest).back s rest t b r in
    tree_stands s t deepest 0 0 rest k.1 k.0

pub slot_stands : (s rest : List ℕ) (t : SpeltTree) → Bytes s → read_tree deepest s ≡ read t rest
    → (i : ℕ) → i < length (slots 0 0 t) → SlotAt s (get_or (slots 0 0 t) i blank)
slot_stands s rest t b r = all_at (SlotAt s) blank (slots 0 0 t) (slots_stand s rest t b r)

-- the same of a register that is accepted
pub accepted_slots_stand : (s : List ℕ) (t : SpeltTree) → Bytes s → judge s ≡ accepted t → All (SlotAt s) (slots 0 0 t)
unfolding table_of
accepted_slots_stand s t b h =
    let a = accepted_table s b t h in
    let e : s ≡ table t = a.written ∙ ap table (sym a.spells) in
    tree_stands s t deepest 0 0 [] a.good (e ∙ sym (append-nil (table t)))

pub accepted_slot_stands : (s : List ℕ) (t : SpeltTree) → Bytes s → judge s ≡ accepted t
    → (i : ℕ) → i < length (slots 0 0 t) → SlotAt s (get_or (slots 0 0 t) i blank)
accepted_slot_stands s t b h = all_at (SlotAt s) blank (slots 0 0 t) (accepted_slots_stand s t b h)

-- ---- what code finds at the places of a slot
module _ {s : List ℕ} {x : Slot} (w : SlotAt s x) where
  pub page_within : x.page < length s
  page_within = omega (arith, w.start.ahead, w.start.within)

  pub entry_within : x.entry < length s
  entry_within = omega (arith, w.reads.ahead, w.reads.within)

  pub value_within : x.value + 32 ≤ length s
  value_within = omega (arith, w.value, w.reads.within)

  -- from the first entry, as the start of the page gives it
  pub slot_steps : {count first : ℕ} → Reads page_start s x.page count first → Steps s first [] x.entry w.before
  slot_steps v = subst (λ (i : ℕ). Steps s i [] x.entry w.before) (same_end w.start v) w.steps

  -- at its entry
  module _ {e : EntryAt} (v : EntryHere s x.entry e) where
    pub slot_key : key_after w.before (entry_at s e) ≡ key_of x
    slot_key = ap (key_after w.before) (sym (same_read w.reads v.whole)) ∙ w.key

    pub slot_value : e.value ≡ x.value
    slot_value = omega (arith, same_end w.reads v.whole, v.ends.value, w.value)
