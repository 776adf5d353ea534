-- Laws of links, gaps, entries and pages: both ways of reading.
use Prim.Native.Nat.{ℕ, ◌<◌}
use mathlib.Core.Path.{◌≡◌, refl, sym, ap}
use mathlib.Core.Bool.{true}
use mathlib.Core.Option.{Option, none, some}
use mathlib.Core.List.{List, [], ◌∷◌, ◌++◌, append_assoc}
use native.Mathlib.Omega.{arith}
use lib.ListN.{length}
use lib.Dec.{eqb}
use borrow.Author.Tests.{eqb-true}
use Rattle.bytestring.proofs.Tools.{cond-inv, All}
use Rattle.bytestring.specs.Bytes.{Bytes}
use Rattle.page.specs.Reading.{read, and_then, exactly}
use Rattle.page.specs.Number.{plain_number, byte_string, array}
use Rattle.value.specs.Value.{dag_cbor, is_codec, value_codec, value_digest, is_value}
use Rattle.value.proofs.Laws.{value_codec_lem, value_digest_lem, value_parts, parts_value}
use Rattle.page.specs.Page.{before_codec, after_codec, link_head, link_bytes, link, null, gap_bytes, gap, value_bytes, codec, value, RawEntry, entry_bytes, entry, RawPage, page_bytes, page}
use Rattle.page.proofs.Readers.{ends_early≢read, departs≢read, read_sub, Spells, step, any_bytes_reads, times_reads, exactly_spells, any_bytes_spells, times_spells}
use Rattle.page.proofs.Numbers.{number_reads, number_spells}

-- ---- the bytes before each field
abbrev pub before_entries : List ℕ
before_entries = 0xA2 ∷ 0x61 ∷ 0x65 ∷ []

abbrev pub before_left : List ℕ
before_left = 0x61 ∷ 0x6C ∷ []

abbrev pub before_remainder : List ℕ
before_remainder = 0xA4 ∷ 0x61 ∷ 0x6B ∷ []

abbrev pub before_shares : List ℕ
before_shares = 0x61 ∷ 0x70 ∷ []

abbrev pub before_gap : List ℕ
before_gap = 0x61 ∷ 0x74 ∷ []

abbrev pub before_value : List ℕ
before_value = 0x61 ∷ 0x76 ∷ []

-- ---- good fields: numbers of at most 65,535, digests of 32 bytes, values that are such
abbrev pub GoodGap : Option (List ℕ) → Type 0
GoodGap none = Unit {0}
GoodGap (some digest) = length digest ≡ 32

pub record GoodEntry (e : RawEntry) : Type 0 where
  pub shares : e.shares < 65536
  pub remainder : length e.remainder < 65536
  pub after : GoodGap e.after
  pub val : is_value e.val ≡ true

pub record GoodPage (p : RawPage) : Type 0 where
  pub count : length p.entries < 65536
  pub entries : All GoodEntry p.entries
  pub left : GoodGap p.left

-- ---- there
pub link_reads : (digest rest : List ℕ) → length digest ≡ 32 → link (link_bytes digest ++ rest) ≡ read digest rest
unfolding link link_bytes exactly
link_reads digest rest h = rw (← h) (any_bytes_reads digest rest)

pub gap_reads : (g : Option (List ℕ)) (rest : List ℕ) → GoodGap g → gap (gap_bytes g ++ rest) ≡ read g rest
unfolding gap gap_bytes link_bytes
gap_reads none rest h = refl
gap_reads (some digest) rest h = ap (λ r. and_then r (λ d t. read (some d) t)) (link_reads digest rest h)

pub value_reads : (v rest : List ℕ) → is_value v ≡ true → value (value_bytes v ++ rest) ≡ read v rest
unfolding value value_bytes codec exactly
value_reads v rest h =
    rw (value_codec_lem v h, ← value_digest_lem v h, any_bytes_reads (value_digest v) rest) (ap (λ (w : List ℕ). read w rest) (value_parts v h))

pub entry_reads : (e : RawEntry) (rest : List ℕ) → GoodEntry e → entry (entry_bytes e ++ rest) ≡ read e rest
unfolding entry entry_bytes exactly
entry_reads e rest g = simp (append_assoc, number_reads, any_bytes_reads, gap_reads, value_reads, g.remainder, g.shares, g.after, g.val)

pub page_reads : (p : RawPage) (rest : List ℕ) → GoodPage p → page (page_bytes p ++ rest) ≡ read p rest
unfolding page page_bytes exactly
page_reads p rest g = simp (append_assoc, number_reads, times_reads entry entry_bytes GoodEntry entry_reads, gap_reads, g.count, g.entries, g.left)

-- ---- back
pub link_spells : Spells link link_bytes (λ digest. length digest ≡ 32)
unfolding link link_bytes
link_spells = record {
  back = λ s rest d b.
      step (exactly_spells (link_head dag_cbor)) s b (λ _ t e _ bt q.
      let r = (any_bytes_spells 32).back t rest d bt q in
      (rw (e, r.0) (sym (append_assoc (link_head dag_cbor) d rest)), r.1));
}

codec_back : (s rest : List ℕ) (c : ℕ) → Bytes s → codec s ≡ read c rest → (s ≡ (c ∷ []) ++ rest) × (is_codec c ≡ true)
unfolding codec
codec_back [] rest c b h = absurd (ends_early≢read h)
codec_back (x ∷ s) rest c b h =
    cond-inv (is_codec x) (λ e q. read_sub (λ k r. (x ∷ s ≡ (k ∷ []) ++ r) × (is_codec k ≡ true)) q (refl, e)) (λ e q. absurd (departs≢read q)) h

pub codec_spells : Spells codec (λ c. c ∷ []) (λ c. is_codec c ≡ true)
codec_spells = record { back = codec_back }

pub value_spells : Spells value value_bytes (λ v. is_value v ≡ true)
unfolding value value_bytes
value_spells = record {
  back = λ s rest v b.
      step (exactly_spells before_codec) s b (λ _ s₁ e₁ _ b₁.
      step codec_spells s₁ b₁ (λ c s₂ e₂ g₂ b₂.
      step (exactly_spells after_codec) s₂ b₂ (λ _ s₃ e₃ _ b₃.
      step (any_bytes_spells 32) s₃ b₃ (λ d s₄ e₄ g₄ b₄ q.
      read_sub (λ w r. (s ≡ (link_head (value_codec w) ++ value_digest w) ++ r) × (is_value w ≡ true)) q
      (rw (e₁, e₂, e₃, e₄), parts_value c d g₂ g₄)))));
}

gap_back : (s rest : List ℕ) (g : Option (List ℕ)) → Bytes s → gap s ≡ read g rest → (s ≡ gap_bytes g ++ rest) × GoodGap g
unfolding gap gap_bytes
gap_back [] rest g b h = absurd (ends_early≢read h)
gap_back (x ∷ s) rest g b h =
    cond-inv (eqb x null)
    (λ e q. read_sub (λ j r. (x ∷ s ≡ gap_bytes j ++ r) × GoodGap j) q (ap (λ (k : ℕ). k ∷ s) (eqb-true x null e), tt))
    (λ e. step link_spells (x ∷ s) b (λ d t e₁ g₁ bt q. read_sub (λ j r. (x ∷ s ≡ gap_bytes j ++ r) × GoodGap j) q (e₁, g₁)))
    h

pub gap_spells : Spells gap gap_bytes GoodGap
gap_spells = record { back = gap_back }

pub entry_spells : Spells entry entry_bytes GoodEntry
unfolding entry entry_bytes
entry_spells = record {
  back = λ s rest e b.
      step (exactly_spells before_remainder) s b (λ _ s₁ e₁ _ b₁.
      step (number_spells byte_string) s₁ b₁ (λ n s₂ e₂ g₂ b₂.
      step (any_bytes_spells n) s₂ b₂ (λ r s₃ e₃ g₃ b₃.
      step (exactly_spells before_shares) s₃ b₃ (λ _ s₄ e₄ _ b₄.
      step (number_spells plain_number) s₄ b₄ (λ p s₅ e₅ g₅ b₅.
      step (exactly_spells before_gap) s₅ b₅ (λ _ s₆ e₆ _ b₆.
      step gap_spells s₆ b₆ (λ g s₇ e₇ g₇ b₇.
      step (exactly_spells before_value) s₇ b₇ (λ _ s₈ e₈ _ b₈.
      step value_spells s₈ b₈ (λ v s₉ e₉ g₉ b₉ q.
      read_sub (λ j r. (s ≡ entry_bytes j ++ r) × GoodEntry j) q
      (simp append_assoc (rw (e₁, e₂, e₃, e₄, e₅, e₆, e₇, e₈, e₉, g₃)), record { shares = g₅; remainder = omega arith; after = g₇; val = g₉ }))))))))));
}

pub page_spells : Spells page page_bytes GoodPage
unfolding page page_bytes
page_spells = record {
  back = λ s rest p b.
      step (exactly_spells before_entries) s b (λ _ s₁ e₁ _ b₁.
      step (number_spells array) s₁ b₁ (λ n s₂ e₂ g₂ b₂.
      step (times_spells entry_spells n) s₂ b₂ (λ es s₃ e₃ g₃ b₃.
      step (exactly_spells before_left) s₃ b₃ (λ _ s₄ e₄ _ b₄.
      step gap_spells s₄ b₄ (λ g s₅ e₅ g₅ b₅ q.
      read_sub (λ j r. (s ≡ page_bytes j ++ r) × GoodPage j) q
      (simp append_assoc (rw (e₁, e₂, e₃, e₄, e₅, g₃.1)), record { count = omega arith; entries = g₃.0; left = g₅ }))))));
}
