-- What is written is bytes, where the fields are.
use Prim.Native.Nat.{ℕ, ◌≤◌, ◌<◌}
use mathlib.Core.Path.{◌≡◌, subst}
use mathlib.Core.Bool.{true}
use mathlib.Core.Option.{Option, none, some}
use mathlib.Core.List.{List, [], ◌∷◌, append-nil}
use native.Mathlib.Omega.{arith}
use lib.ListN.{length}
use lib.Dec.{ltb}
use borrow.Author.Tests.{ltb-true}
use borrow.Table.Steps.{cases}
use Rattle.bytestring.proofs.Tools.{All, bytes_append, bytes_drop}
use Rattle.bytestring.specs.Bytes.{Bytes}
use Rattle.value.specs.Value.{dag_cbor, value_codec, value_digest, is_value}
use Rattle.value.proofs.Laws.{codec_byte, value_codec_lem}
use Rattle.page.specs.Reading.{concat}
use Rattle.page.specs.Number.{plain_number, byte_string, array, number_bytes}
use Rattle.page.specs.Page.{link_head, link_bytes, gap_bytes, value_bytes, RawEntry, entry_bytes, RawPage, page_bytes}
use Rattle.page.proofs.Tools.{bytes_concat}
use Rattle.page.proofs.Pages.{before_entries, before_left, before_remainder, before_shares, before_gap, before_value, GoodEntry, GoodPage}

abbrev pub ByteGap : Option (List ℕ) → Type 0
ByteGap none = Unit {0}
ByteGap (some digest) = Bytes digest

pub record ByteEntry (e : RawEntry) : Type 0 where
  pub remainder : Bytes e.remainder
  pub after : ByteGap e.after
  pub val : Bytes e.val

pub record BytePage (p : RawPage) : Type 0 where
  pub entries : All ByteEntry p.entries
  pub left : ByteGap p.left

pub number_bytes_lem : (kind n : ℕ) → kind ≤ 128 → n < 65536 → Bytes (number_bytes kind n)
unfolding number_bytes
number_bytes_lem kind n hk hn =
    cases (ltb n 24) (λ e. rw e (omega (arith, ltb-true n 24 e)))
    (λ e. cases (ltb n 256) (λ f. rw (e, f) (omega (arith, ltb-true n 256 f))) (λ f. rw (e, f) (omega arith)))

pub link_bytes_lem : (digest : List ℕ) → Bytes digest → Bytes (link_bytes digest)
unfolding link_bytes
link_bytes_lem digest b = bytes_append (link_head dag_cbor) digest (omega arith) b

pub value_bytes_lem : (v : List ℕ) → is_value v ≡ true → Bytes v → Bytes (value_bytes v)
unfolding value_bytes
value_bytes_lem v h b = bytes_append (link_head (value_codec v)) (value_digest v) (omega (arith, codec_byte (value_codec v) (value_codec_lem v h))) (bytes_drop 1 v b)

pub gap_bytes_lem : (g : Option (List ℕ)) → ByteGap g → Bytes (gap_bytes g)
unfolding gap_bytes
gap_bytes_lem none b = omega arith
gap_bytes_lem (some digest) b = link_bytes_lem digest b

-- parts one after the other
joined : (parts : List (List ℕ)) (s : List ℕ) → concat (λ l. l) parts ≡ s → All Bytes parts → Bytes s
joined parts s e b = subst Bytes e (bytes_concat (λ l. l) parts b)

pub entry_bytes_lem : (e : RawEntry) → GoodEntry e → ByteEntry e → Bytes (entry_bytes e)
unfolding entry_bytes
entry_bytes_lem e g b =
    joined (
    before_remainder ∷ number_bytes byte_string (length e.remainder) ∷ e.remainder
    ∷ before_shares ∷ number_bytes plain_number e.shares
    ∷ before_gap ∷ gap_bytes e.after
    ∷ before_value ∷ value_bytes e.val ∷ [])
    (entry_bytes e) (simp append-nil) (
      omega arith,
      (
        number_bytes_lem byte_string _ (omega arith) g.remainder,
        (
          b.remainder,
          (
            omega arith,
            (
              number_bytes_lem plain_number _ (omega arith) g.shares,
              (
                omega arith,
                (
                  gap_bytes_lem e.after b.after,
                  (
                    omega arith,
                    (value_bytes_lem e.val g.val b.val, tt),
                  ),
                ),
              ),
            ),
          ),
        ),
      ),
    )

entries_bytes_lem : (es : List RawEntry) → All GoodEntry es → All ByteEntry es → Bytes (concat entry_bytes es)
entries_bytes_lem [] g b = tt
entries_bytes_lem (e ∷ es) g b = bytes_append (entry_bytes e) (concat entry_bytes es) (entry_bytes_lem e g.0 b.0) (entries_bytes_lem es g.1 b.1)

pub page_bytes_lem : (p : RawPage) → GoodPage p → BytePage p → Bytes (page_bytes p)
unfolding page_bytes
page_bytes_lem p g b =
    joined (
    before_entries ∷ number_bytes array (length p.entries) ∷ concat entry_bytes p.entries
    ∷ before_left ∷ gap_bytes p.left ∷ [])
    (page_bytes p) (simp append-nil) (
      omega arith,
      (
        number_bytes_lem array _ (omega arith) g.count,
        (
          entries_bytes_lem p.entries g.entries b.entries,
          (
            omega arith,
            (gap_bytes_lem p.left b.left, tt),
          ),
        ),
      ),
    )
