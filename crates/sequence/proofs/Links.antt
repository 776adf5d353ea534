-- Links noted one after the other: one more, and those after the entries of a page.
use Rattle.std.specs.Prelude.{Result, Ok, Err}
use Prim.Native.Nat.{ℕ, zero, suc, ◌+◌, ◌-◌, ◌≤◌, ◌<◌}
use mathlib.Core.Path.{◌≡◌, refl, sym, ap, subst, ◌∙◌}
use mathlib.Core.List.{List, [], ◌∷◌, ◌++◌, append_assoc, append-nil, map-append}
use native.Mathlib.Omega.{arith}
use native.Mathlib.Numerals.{add-one}
use native.Mathlib.Nat.{sub-zero}
use lib.ListN.{length, drop, get_or, set, length-append, length-set}
use lib.Seq.{get_or-set_same, get_or-set_other, take-suc-set}
use lib.Dec.{eqb}
use borrow.Author.Tests.{eqb-true, eqb-false}
use borrow.Table.Steps.{cases}
use Rattle.bytestring.specs.Bytes.{Bytes}
use Rattle.value.specs.Value.{digest_in}
use Rattle.page.specs.Reading.{read, times}
use Rattle.page.specs.Page.{RawEntry, entry_bytes, entry}
use Rattle.page.proofs.Readers.{andThen-inv}
use Rattle.page_reader.specs.Place.{Reads, link_at, EntryHere, Located, LocatedIs}
use Rattle.page_reader.specs.declared.Stop.{Stop}
use Rattle.page_reader.specs.declared.EntryAt.{EntryAt}
use Rattle.page_reader.proofs.Located.{entry_place}
use Rattle.page_keys.proofs.Entries.{row_ends, row_behind}
use Rattle.states.specs.Pages.{link_list, links_after}
use Rattle.sequence.specs.Inner.{LinksNoted, LinkNoted, EntriesNoted}

-- ---- one link more
pub no_link_noted : (links : List ℕ) (at m : ℕ) → at ≡ 0 → LinkNoted links at m links m
unfolding LinkNoted link_at link_list
no_link_noted links at m e s digests fits w = rw (e, append-nil) w

link_digest : (s : List ℕ) (at : ℕ) → (at ≡ 0 → ⊥) → link_list (link_at s at) ≡ digest_in s at ∷ []
unfolding link_at link_list
link_digest s zero f = absurd (f refl)
link_digest s (suc before) f = refl

module _ (links : List ℕ) (at m : ℕ) (some : at ≡ 0 → ⊥) where
  words_inside : (s : List ℕ) → at + 32 ≤ length s → m < length links → ((i : ℕ) → i < m → get_or links i 0 + 32 ≤ length s)
      → (i : ℕ) → i < m + 1 → get_or (set links m at) i 0 + 32 ≤ length s
  words_inside s fits room w i h =
      cases (eqb i m)
      (λ e. rw (eqb-true i m e, get_or-set_same links m at 0 room) fits)
      (λ e. rw (get_or-set_other links m i at 0 (eqb-false i m e)) (w i (omega (arith, eqb-false i m e))))

  pub link_noted : (links' : List ℕ) → links' ≡ set links m at → LinkNoted links at m links' (m + 1)
  unfolding LinkNoted
  link_noted links' e s digests fits w = rw (e, link_digest s at some) (record {
    count = omega (arith, length-append digests (digest_in s at ∷ []), w.count);
    stand = λ h.
        let room : m < length links = omega (arith, length-set links m at) in
        rw (add-one m, take-suc-set links m at room, map-append, w.stand (omega arith));
    within = λ h.
        let room : m < length links = omega (arith, length-set links m at) in
        words_inside s (fits (omega (arith, some))) room (w.within (omega arith));
  })

-- ---- the links after the entries of a page
-- What is left of a row of entries that was read, and the digests of the links noted before it.
pub record EntriesLeft (s : List ℕ) (past n at : ℕ) (links : List ℕ) (m : ℕ) (digests : List (List ℕ)) : Type 0 where
  pub left : List RawEntry
  pub before : List (List ℕ)
  pub reads : times n entry (drop at s) ≡ read left (drop past s)
  pub noted : LinksNoted s links m before
  pub same : before ++ links_after left ≡ digests

-- The links after the first i entries are noted.
unfoldable pub LinksSoFar : List ℕ → ℕ → ℕ → List ℕ → ℕ → ℕ → ℕ → List ℕ → ℕ → Type 0
LinksSoFar s first n links m i at links' m' =
    (es : List RawEntry) (past : ℕ) → times n entry (drop first s) ≡ read es (drop past s)
    → (digests : List (List ℕ)) → LinksNoted s links m digests → EntriesLeft s past (n - i) at links' m' (digests ++ links_after es)

pub links_begin : (s : List ℕ) (first n : ℕ) (links : List ℕ) (m : ℕ) → LinksSoFar s first n links m 0 first links m
unfolding LinksSoFar
links_begin s first n links m es past r digests w =
    record { left = es; before = digests; reads = rw sub-zero r; noted = w; same = refl }

-- the digest of a located entry's link stands within s
module _ (s : List ℕ) (at : ℕ) (got : Result EntryAt Stop) (w : LocatedIs s at got) (e : EntryAt) (q : got ≡ Ok e) where
  link_found : Located s at e
  link_found = subst (LocatedIs s at) q w

  link_inside : 0 < e.link → e.link + 32 ≤ length s
  link_inside z = omega (arith, link_found.ends.link z, link_found.ends.value, link_found.within)

  pub link_low : e.link ≤ length s
  link_low =
      cases (eqb e.link 0)
      (λ z. omega (arith, eqb-true e.link 0 z))
      (λ z. omega (arith, link_inside (omega (arith, eqb-false e.link 0 z))))

module _ (s : List ℕ) (first n : ℕ) (links : List ℕ) (m i at : ℕ) (links' : List ℕ) (m' : ℕ) (u : LinksSoFar s first n links m i at links' m') where
  pub links_end : n ≤ i → EntriesNoted s first n links m links' m'
  unfolding LinksSoFar EntriesNoted links_after
  links_end h es past r digests w =
      let x = u es past r digests w in
      let none_left : x.left ≡ [] = row_ends s n i at past x.left x.reads h in
      let same : x.before ≡ digests ++ links_after es =
      sym (append-nil x.before) ∙ ap (λ (l : List RawEntry). x.before ++ links_after l) (sym none_left) ∙ x.same in
      subst (LinksNoted s links' m') same x.noted

  module _ (h : i < n) (slice : Bytes s) (got : Result EntryAt Stop) (w : LocatedIs s at got) where
    entry_stands : (l : List RawEntry) (past : ℕ) → times (n - i) entry (drop at s) ≡ read l (drop past s)
        → (a : RawEntry) × Reads entry s at a (at + length (entry_bytes a))
    unfolding times
    entry_stands l past r =
        let one_less : n - i ≡ suc (n - (i + 1)) = omega arith in
        andThen-inv (entry (drop at s)) (λ a t e _. (a, entry_place s at a t slice e)) (rw one_less at r)

    pub links_stop : (stop : Stop) → got ≡ Err stop → EntriesNoted s first n links m links' m'
    unfolding LinksSoFar EntriesNoted
    links_stop stop q es past r digests v =
        let x = u es past r digests v in
        let y = entry_stands x.left past x.reads in
        absurd (subst (LocatedIs s at) q w y.0 _ y.1)

    pub links_go_on : (e : EntryAt) → got ≡ Ok e → (links'' : List ℕ) (m'' : ℕ) → LinkNoted links' e.link m' links'' m''
        → LinksSoFar s first n links m (i + 1) e.end links'' m''
    unfolding LinksSoFar LinkNoted links_after
    links_go_on e q links'' m'' noted es past r digests v =
        let x = u es past r digests v in
        let y = entry_stands x.left past x.reads in
        let here : EntryHere s at e = (subst (LocatedIs s at) q w).here y.0 _ y.1 in
        let z = row_behind s n i at past x.left x.reads h (Ok e) here e refl in
        record {
          left = z.0;
          before = x.before ++ link_list (link_at s e.link);
          reads = z.2;
          noted = noted s x.before (link_inside s at got w e q) x.noted;
          same =
              append_assoc x.before (link_list (link_at s e.link)) (links_after z.0)
              ∙ ap (λ (l : List RawEntry). x.before ++ links_after l) (sym z.1) ∙ x.same;
        }
