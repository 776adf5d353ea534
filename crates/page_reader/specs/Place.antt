-- What the readers at a place of a slice answer. The bytes of a slice s from place `at` on are `drop at s`.
use Rattle.std.specs.Prelude.{ℕ, zero, suc, ◌+◌, ◌≤◌, ◌<◌, ◌≡◌, List, [], ◌∷◌, length, take, drop, Result, Ok, Err}
use Rattle.std.proofs.Math.Option.{Option, none, some}
use Rattle.answer.specs.declared.Refusal.{Refusal}
use Rattle.answer.specs.declared.Refusal.TheVariants.{EndsEarly as Early, Departs as Departing}
use Rattle.limits.specs.Limits.{numbers}
use Rattle.value.specs.Value.{digest_length, value_in}
use Rattle.page.specs.Reading.{Read, read, ends_early, departs, Reader, ◌>>=◌, ◌>>◌, pure, exactly, any_bytes, times}
use Rattle.page.specs.Number.{number, byte_string, array}
use Rattle.page.specs.Page.{after_codec, link_head, null, gap, codec, value, RawEntry, entry, page}
use Rattle.page_reader.specs.declared.Stop.{Stop}
use Rattle.page_reader.specs.declared.Stop.TheVariants.{EndsEarly, Departs}
use Rattle.page_reader.specs.declared.EntryAt.{EntryAt}
use Rattle.page_reader.specs.declared.PageAt.{PageAt}

-- Reader p reads a from place `at` of s to before place `to`.
pub record Reads {A : Type 0} (p : Reader A) (s : List ℕ) (at : ℕ) (a : A) (to : ℕ) : Type 0 where
  pub reads : p (drop at s) ≡ read a (drop to s)
  pub ahead : at < to
  pub within : to ≤ length s

-- Why a reader stopped.
abbrev pub read_stop : {A : Type 0} → Stop → Read A
read_stop EndsEarly = ends_early
read_stop Departs = departs

-- The refusal of a page that cannot be read.
abbrev pub refusal_of : Stop → Refusal
refusal_of EndsEarly = Early
refusal_of Departs = Departing

-- Fixed bytes, and then what p reads.
abbrev pub after : {A : Type 0} → List ℕ → Reader A → Reader A
after bytes p = exactly bytes >> p

-- Fixed bytes: the place after them.
abbrev pub ExactIs : List ℕ → List ℕ → ℕ → Result ℕ Stop → Type 0
ExactIs bytes s at (Ok to) = (exactly bytes (drop at s) ≡ read tt (drop to s)) × (to ≡ at + length bytes)
ExactIs bytes s at (Err stop) = exactly bytes (drop at s) ≡ read_stop stop

-- A number, and the place after it.
abbrev pub NumberIs : Reader ℕ → List ℕ → ℕ → Result (ℕ × ℕ) Stop → Type 0
NumberIs p s at (Ok (n, to)) = Reads p s at n to
NumberIs p s at (Err stop) = p (drop at s) ≡ read_stop stop

-- A link: the place of its digest, which comes after `before` bytes and ends the link. What is read is what `stands` says of that place:
-- the digest of a page, or a value, whose codec stands before its digest.
pub record LinkHere (stands : List ℕ → ℕ → List ℕ) (p : Reader (List ℕ)) (before : ℕ) (s : List ℕ) (at digest : ℕ) : Type 0 where
  pub whole : Reads p s at (stands s digest) (digest + 32)
  pub head : at + before ≡ digest

abbrev pub LinkIs : (List ℕ → ℕ → List ℕ) → Reader (List ℕ) → ℕ → List ℕ → ℕ → Result ℕ Stop → Type 0
LinkIs stands p before s at (Ok digest) = LinkHere stands p before s at digest
LinkIs stands p before s at (Err stop) = p (drop at s) ≡ read_stop stop

-- A value from its codec on.
unfoldable pub value_end : Reader (List ℕ)
value_end = do
  c ← codec
  exactly after_codec
  d ← any_bytes digest_length
  pure (c ∷ d)

-- The link whose digest stands at a place. No digest stands at place 0, which means no link.
unfoldable pub link_at : List ℕ → ℕ → Option (List ℕ)
link_at s zero = none
link_at s (suc before) = some (take 32 (drop (suc before) s))

-- A gap: the place of its link's digest, which ends it, or 0; and the place after the gap.
pub record GapHere (p : Reader (Option (List ℕ))) (s : List ℕ) (at digest to : ℕ) : Type 0 where
  pub whole : Reads p s at (link_at s digest) to
  pub last : 0 < digest → digest + 32 ≡ to

abbrev pub GapIs : Reader (Option (List ℕ)) → List ℕ → ℕ → Result (ℕ × ℕ) Stop → Type 0
GapIs p s at (Ok (digest, to)) = GapHere p s at digest to
GapIs p s at (Err stop) = p (drop at s) ≡ read_stop stop

-- The start of an entry: the number of bytes in its key's remainder, which follows.
abbrev pub entry_start : Reader ℕ
entry_start = after (0xA4 ∷ 0x61 ∷ 0x6B ∷ []) (number byte_string)

-- The end of an entry whose key was read: the gap after it, and its value.
unfoldable pub entry_end : ℕ → List ℕ → Reader RawEntry
entry_end shares remainder = do
  exactly (0x61 ∷ 0x74 ∷ [])
  g ← gap
  exactly (0x61 ∷ 0x76 ∷ [])
  v ← value
  pure (record { shares = shares; remainder = remainder; after = g; val = v })

-- What stands between an entry's numbers and the digest of its value where the gap is empty and the value has codec c.
abbrev pub empty_gap_to_value : ℕ → List ℕ
empty_gap_to_value c = 0x61 ∷ 0x74 ∷ null ∷ 0x61 ∷ 0x76 ∷ link_head c

-- The entry whose parts stand at these places. A value's place is that of its digest.
abbrev pub entry_at : List ℕ → EntryAt → RawEntry
entry_at s e = record { shares = e.shares; remainder = take e.size (drop e.remainder s); after = link_at s e.link; val = value_in s e.value }

-- The value's digest ends the entry. From the digest of the gap's link to it are 43 places: 32 digest bytes, the two before a value, and
-- the nine of its link.
pub record Ends (e : EntryAt) : Type 0 where
  pub link : 0 < e.link → e.link + 43 ≡ e.value
  pub value : e.value + digest_length ≡ e.end

-- The end of an entry whose key was read: where its parts stand.
pub record EntryEndHere (s : List ℕ) (at : ℕ) (e : EntryAt) : Type 0 where
  pub whole : Reads (entry_end e.shares (take e.size (drop e.remainder s))) s at (entry_at s e) e.end
  pub ends : Ends e

abbrev pub EntryEndIs : List ℕ → ℕ → ℕ → ℕ → ℕ → Result EntryAt Stop → Type 0
EntryEndIs s at shares remainder size (Ok e) = (e.shares ≡ shares) × (e.remainder ≡ remainder) × (e.size ≡ size) × EntryEndHere s at e
EntryEndIs s at shares remainder size (Err stop) = entry_end shares (take size (drop remainder s)) (drop at s) ≡ read_stop stop

-- An entry: where its parts stand.
pub record EntryHere (s : List ℕ) (at : ℕ) (e : EntryAt) : Type 0 where
  pub start : Reads entry_start s at e.size e.remainder
  pub inside : e.remainder + e.size < e.end
  pub whole : Reads entry s at (entry_at s e) e.end
  pub ends : Ends e

abbrev pub EntryIs : List ℕ → ℕ → Result EntryAt Stop → Type 0
EntryIs s at (Ok e) = EntryHere s at e
EntryIs s at (Err stop) = entry (drop at s) ≡ read_stop stop

-- The end of an entry whose key was located, by places that are in the slice in any case. Where such an end is read there, they are its
-- parts.
pub record LocatedEnd (s : List ℕ) (at : ℕ) (e : EntryAt) : Type 0 where
  pub ahead : at < e.end
  pub within : e.end ≤ length s
  pub ends : Ends e
  pub here : (a : RawEntry) (t : List ℕ) → entry_end e.shares (take e.size (drop e.remainder s)) (drop at s) ≡ read a t → EntryEndHere s at e

abbrev pub LocatedEndIs : List ℕ → ℕ → ℕ → ℕ → ℕ → Result EntryAt Stop → Type 0
LocatedEndIs s at shares remainder size (Ok e) = (e.shares ≡ shares) × (e.remainder ≡ remainder) × (e.size ≡ size) × LocatedEnd s at e
LocatedEndIs s at shares remainder size (Err stop) = (a : RawEntry) (t : List ℕ) → entry_end shares (take size (drop remainder s)) (drop at s) ≡ read a t → ⊥

-- The parts of an entry, by places that are in the slice in any case. Where an entry is read there, they are its parts.
pub record Located (s : List ℕ) (at : ℕ) (e : EntryAt) : Type 0 where
  pub ahead : at < e.end
  pub within : e.end ≤ length s
  pub inside : e.remainder + e.size < e.end
  pub shares : e.shares < numbers
  pub size : e.size < numbers
  pub ends : Ends e
  pub here : (a : RawEntry) (to : ℕ) → Reads entry s at a to → EntryHere s at e

abbrev pub LocatedIs : List ℕ → ℕ → Result EntryAt Stop → Type 0
LocatedIs s at (Ok e) = Located s at e
LocatedIs s at (Err stop) = (a : RawEntry) (to : ℕ) → Reads entry s at a to → ⊥

-- The start of a page: the number of its entries, which follow.
abbrev pub page_start : Reader ℕ
page_start = after (0xA2 ∷ 0x61 ∷ 0x65 ∷ []) (number array)

-- So many entries, one after the other, from a place to before another.
pub record EntriesHere (count : ℕ) (s : List ℕ) (at past : ℕ) : Type 0 where
  pub entries : List RawEntry
  pub reads : times count entry (drop at s) ≡ read entries (drop past s)
  pub ahead : at + count ≤ past
  pub within : past ≤ length s

abbrev pub EntriesIs : ℕ → List ℕ → ℕ → Result ℕ Stop → Type 0
EntriesIs count s at (Ok past) = EntriesHere count s at past
EntriesIs count s at (Err stop) = times count entry (drop at s) ≡ read_stop stop

-- A page: where its parts stand.
pub record PageHere (s : List ℕ) (at : ℕ) (p : PageAt) : Type 0 where
  pub start : Reads page_start s at p.count p.first
  pub row : EntriesHere p.count s p.first p.past
  pub whole : Reads page s at (record { entries = row.entries; left = link_at s p.left }) p.end
  pub inside : p.past < p.end
  pub left : 0 < p.left → p.left + 32 ≡ p.end

abbrev pub PageIs : List ℕ → ℕ → Result PageAt Stop → Type 0
PageIs s at (Ok p) = PageHere s at p
PageIs s at (Err stop) = page (drop at s) ≡ read_stop stop
