-- What the writer of pages says.
use Rattle.std.specs.Prelude.{ℕ, ◌+◌, ◌-◌, ◌≡◌, Bool, ◌&&◌, List, [], ◌++◌, length, take, drop, leb, Option, Some, is_some, IfSome}
use Rattle.bytestring.specs.Bytes.{front}
use Rattle.fips180.specs.Hash.{sha256}
use Rattle.page_writer.specs.Front.{link_held}
use Rattle.tree.specs.Tree.{Page, Gap, Entries, build}
use Rattle.tree.specs.Record.{Record, spelt, spelt_under, spelt_from}
use Rattle.tree.specs.Table.{link_of, bytes_of_page, table, table_under, table_from, digest_of}
use Rattle.layout.specs.Build.{record_in, span, gap_for, entries_bytes}
use Rattle.writer.specs.declared.pages.Wrote.{Wrote}
use Rattle.writer.specs.declared.pages.Below.{Below}
use Rattle.writer.specs.declared.pages.Laid.{Laid}

-- The page of the records lo..hi of a row at layer n, and what they are in a gap of such a page.
abbrev pub page_at : List ℕ → List ℕ → List ℕ → ℕ → ℕ → ℕ → Page Record (List ℕ)
page_at s u row lo hi n = build digest_of n (span (record_in s u row) lo (hi - lo))

abbrev pub gap_at : List ℕ → List ℕ → List ℕ → ℕ → ℕ → ℕ → Gap Record (List ℕ)
gap_at s u row lo hi n = gap_for n (span (record_in s u row) lo (hi - lo))

-- The tables below the entries of a page, which come after a key.
abbrev pub tables_of : List ℕ → Entries Record (List ℕ) → List ℕ
tables_of before es = table_from (spelt_from before es)

-- The table of t stands at the front of what was lent, and its length and that of its first page are answered.
pub record TableDone (t : Page Record (List ℕ)) (before after : List ℕ) (len own : ℕ) : Type 0 where
  pub wrote : after ≡ front (table (spelt t)) before
  pub size : len ≡ length (table (spelt t))
  pub first : own ≡ length (bytes_of_page (spelt t))

-- There is no room exactly when the table is longer than what was lent.
pub record Written (t : Page Record (List ℕ)) (before after : List ℕ) (r : Option Wrote) : Type 0 where
  pub room : is_some r ≡ leb (length (table (spelt t))) (length before)
  pub done : IfSome r (λ w. TableDone t before after w.len w.own)

-- The same of a gap.
pub record GapDone (g : Gap Record (List ℕ)) (before after : List ℕ) (len : ℕ) (digest : Option (List ℕ)) : Type 0 where
  pub wrote : after ≡ front (table_under (spelt_under g)) before
  pub size : len ≡ length (table_under (spelt_under g))
  pub link : link_held digest ≡ link_of (spelt_under g)
  pub whole : IfSome digest (λ d. length d ≡ 32)

pub record GapWritten (g : Gap Record (List ℕ)) (before after : List ℕ) (r : Option Below) : Type 0 where
  pub room : is_some r ≡ leb (length (table_under (spelt_under g))) (length before)
  pub done : IfSome r (λ b. GapDone g before after b.len b.link)

-- What a gap has where a page was written into it: the digest of that page's bytes.
unfoldable pub below_of : Wrote → List ℕ → Below
below_of w out = record { len = w.len; link = Some (sha256 (take w.own out)) }

-- An output with these bytes written over those from a place on.
unfoldable pub overwritten : ℕ → List ℕ → List ℕ → List ℕ
overwritten place bytes out = take place out ++ (bytes ++ drop (place + length bytes) out)

-- The entries of a page have room from `start` to before `limit`, and the tables below them from `behind` on.
unfoldable pub entries_fit : Entries Record (List ℕ) → ℕ → ℕ → ℕ → List ℕ → Bool
entries_fit es start limit behind out = leb (start + length (entries_bytes [] es)) limit && leb (behind + length (tables_of [] es)) (length out)

-- They were written there.
pub record EntriesDone (es : Entries Record (List ℕ)) (start behind : ℕ) (before after : List ℕ) (r : Laid) : Type 0 where
  pub wrote : after ≡ overwritten start (entries_bytes [] es) (overwritten behind (tables_of [] es) before)
  pub ends : r.at ≡ start + length (entries_bytes [] es)
  pub tables : r.below ≡ length (tables_of [] es)

-- They are, if they have room.
pub record EntriesWritten (es : Entries Record (List ℕ)) (start limit behind : ℕ) (before after : List ℕ) (r : Option Laid) : Type 0 where
  pub room : is_some r ≡ entries_fit es start limit behind before
  pub done : IfSome r (EntriesDone es start behind before after)
