-- How many bytes a sequence has at least. A page has 7, for each entry 53 more, and for each link 40 more than the null in its place.
use Prim.Native.Nat.{ℕ, zero, suc, ◌+◌, ◌*◌, ◌≤◌}
use mathlib.Core.Path.{◌≡◌, refl, sym, ap, subst}
use mathlib.Core.Bool.{true}
use mathlib.Core.Logic.{◌⊎◌, inl, inr, ⊎_elim}
use mathlib.Core.Option.{Option, none, some}
use mathlib.Core.List.{List, [], ◌∷◌, map}
use native.Mathlib.Omega.{arith}
use lib.ListN.{length, length-append}
use lib.Dec.{eqb, ltb}
use Rattle.bytestring.proofs.Tools.{cond-inv}
use Rattle.fips180.specs.Hash.{sha256}
use Rattle.value.specs.Value.{dag_cbor, is_codec}
use Rattle.page.specs.Reading.{read, Reader, exactly, any_bytes, times}
use Rattle.page.specs.Number.{plain_number, byte_string, array, one_byte, two_bytes, number}
use Rattle.page.specs.Page.{before_codec, after_codec, link_head, null, link, gap, codec, value, RawEntry, entry, RawPage, page_bytes, page}
use Rattle.page.proofs.Readers.{ends_early≢read, departs≢read, read_sub, andThen-inv, exactly_inv}
use Rattle.page.proofs.Pages.{before_entries, before_left, before_remainder, before_shares, before_gap, before_value}
use Rattle.tree.specs.Judge.{rising}
use Rattle.promises.proofs.MapLaws.{Above, Sorted, before_other, rising_sorted}
use Rattle.states.specs.Pages.{read_pages, sequence, by_digest, link_list, links_after}
use Rattle.sequence.specs.Noted.{links_by_place, links_of_all}
use Rattle.sequence.specs.Inner.{blank_page}

-- What p reads takes so many bytes at least.
abbrev Takes : {A : Type 0} → Reader A → (A → ℕ) → Type 0
Takes {A} p size = (s : List ℕ) (a : A) (t : List ℕ) → p s ≡ read a t → size a + length t ≤ length s

exactly_takes : (bytes : List ℕ) → Takes (exactly bytes) (λ _. length bytes)
exactly_takes bytes s u t h = omega (arith, ap length (exactly_inv bytes s t u h), length-append bytes t)

any_takes : (n : ℕ) → Takes (any_bytes n) (λ _. n)
unfolding any_bytes
any_takes zero s l t h = read_sub (λ _ r. 0 + length r ≤ length s) h (omega arith)
any_takes (suc n) [] l t h = absurd (ends_early≢read h)
any_takes (suc n) (b ∷ s) l t h =
    andThen-inv (any_bytes n s) (λ k u e q. read_sub (λ _ r. suc n + length r ≤ suc (length s)) q (omega (arith, any_takes n s k u e))) h

one_takes : Takes one_byte (λ _. 1)
unfolding one_byte
one_takes [] n t h = absurd (ends_early≢read h)
one_takes (b ∷ s) n t h =
    cond-inv (ltb b 24) (λ _ q. absurd (departs≢read q)) (λ _ q. read_sub (λ _ r. 1 + length r ≤ suc (length s)) q (omega arith)) h

two_takes : Takes two_bytes (λ _. 1)
unfolding two_bytes
two_takes [] n t h = absurd (ends_early≢read h)
two_takes (a ∷ []) n t h = cond-inv (eqb a 0) (λ _ q. absurd (departs≢read q)) (λ _ q. absurd (ends_early≢read q)) h
two_takes (a ∷ b ∷ s) n t h =
    cond-inv (eqb a 0) (λ _ q. absurd (departs≢read q)) (λ _ q. read_sub (λ _ r. 1 + length r ≤ suc (suc (length s))) q (omega arith)) h

number_takes : (kind : ℕ) → Takes (number kind) (λ _. 1)
unfolding number
number_takes kind [] n t h = absurd (ends_early≢read h)
number_takes kind (b ∷ s) n t h =
    cond-inv (ltb b kind) (λ _ q. absurd (departs≢read q))
    (λ _. cond-inv (ltb b (kind + 24)) (λ _ q. read_sub (λ _ r. 1 + length r ≤ suc (length s)) q (omega arith))
    (λ _. cond-inv (eqb b (kind + 24)) (λ _ q. omega (arith, one_takes s n t q))
    (λ _. cond-inv (eqb b (kind + 25)) (λ _ q. omega (arith, two_takes s n t q)) (λ _ q. absurd (departs≢read q)))))
    h

-- ---- links, entries and pages
abbrev gap_least : Option (List ℕ) → ℕ
gap_least g = 1 + 40 * length (link_list g)

abbrev entry_least : RawEntry → ℕ
entry_least e = 53 + 40 * length (link_list e.after)

abbrev entries_least : List RawEntry → ℕ
entries_least es = 53 * length es + 40 * length (links_after es)

abbrev page_least : RawPage → ℕ
page_least p = 7 + (53 * length p.entries + 40 * length (links_by_place p))

link_takes : Takes link (λ _. 41)
unfolding link
link_takes s d t =
    andThen-inv (exactly (link_head dag_cbor) s) (λ u s₁ e₁ e₂. omega (arith, exactly_takes (link_head dag_cbor) s u s₁ e₁, any_takes 32 s₁ d t e₂))

gap_takes : Takes gap gap_least
unfolding gap link_list
gap_takes [] g t h = absurd (ends_early≢read h)
gap_takes (b ∷ s) g t h =
    cond-inv (eqb b null)
    (λ _ q. read_sub (λ j r. gap_least j + length r ≤ suc (length s)) q (omega arith))
    (λ _. andThen-inv (link (b ∷ s)) (λ d u e q.
    read_sub (λ j r. gap_least j + length r ≤ suc (length s)) q (omega (arith, link_takes (b ∷ s) d u e))))
    h

codec_takes : Takes codec (λ _. 1)
unfolding codec
codec_takes [] c t h = absurd (ends_early≢read h)
codec_takes (b ∷ s) c t h =
    cond-inv (is_codec b) (λ _ q. read_sub (λ _ r. 1 + length r ≤ suc (length s)) q (omega arith)) (λ _ q. absurd (departs≢read q)) h

value_takes : Takes value (λ _. 41)
unfolding value
value_takes s v t =
    andThen-inv (exactly before_codec s) (λ u s₁ e₁.
    andThen-inv (codec s₁) (λ c s₂ e₂.
    andThen-inv (exactly after_codec s₂) (λ w s₃ e₃.
    andThen-inv (any_bytes 32 s₃) (λ d s₄ e₄ q.
    read_sub (λ _ r. 41 + length r ≤ length s) q
    (omega (arith, exactly_takes before_codec s u s₁ e₁, codec_takes s₁ c s₂ e₂, exactly_takes after_codec s₂ w s₃ e₃, any_takes 32 s₃ d s₄ e₄))))))

entry_takes : Takes entry entry_least
unfolding entry
entry_takes s e t =
    andThen-inv (exactly before_remainder s) (λ u₁ s₁ e₁.
    andThen-inv (number byte_string s₁) (λ n s₂ e₂.
    andThen-inv (any_bytes n s₂) (λ r s₃ e₃.
    andThen-inv (exactly before_shares s₃) (λ u₄ s₄ e₄.
    andThen-inv (number plain_number s₄) (λ p s₅ e₅.
    andThen-inv (exactly before_gap s₅) (λ u₆ s₆ e₆.
    andThen-inv (gap s₆) (λ g s₇ e₇.
    andThen-inv (exactly before_value s₇) (λ u₈ s₈ e₈.
    andThen-inv (value s₈) (λ v s₉ e₉ q.
    read_sub (λ j x. entry_least j + length x ≤ length s) q
    (omega (
      arith,
      exactly_takes before_remainder s u₁ s₁ e₁,
      number_takes byte_string s₁ n s₂ e₂,
      any_takes n s₂ r s₃ e₃,
      exactly_takes before_shares s₃ u₄ s₄ e₄,
      number_takes plain_number s₄ p s₅ e₅,
      exactly_takes before_gap s₅ u₆ s₆ e₆,
      gap_takes s₆ g s₇ e₇,
      exactly_takes before_value s₇ u₈ s₈ e₈,
      value_takes s₈ v s₉ e₉,
    )))))))))))

entries_take : (n : ℕ) → Takes (times n entry) entries_least
unfolding times links_after
entries_take zero s es t h = read_sub (λ j r. entries_least j + length r ≤ length s) h (omega arith)
entries_take (suc n) s es t h =
    andThen-inv (entry s) (λ a s₁ e₁.
    andThen-inv (times n entry s₁) (λ l s₂ e₂ q.
    read_sub (λ j r. entries_least j + length r ≤ length s) q
    (omega (arith, entry_takes s a s₁ e₁, entries_take n s₁ l s₂ e₂, length-append (link_list a.after) (links_after l))))) h

pub page_takes : Takes page page_least
unfolding page links_by_place
page_takes s p t =
    andThen-inv (exactly before_entries s) (λ u₁ s₁ e₁.
    andThen-inv (number array s₁) (λ n s₂ e₂.
    andThen-inv (times n entry s₂) (λ es s₃ e₃.
    andThen-inv (exactly before_left s₃) (λ u₄ s₄ e₄.
    andThen-inv (gap s₄) (λ g s₅ e₅ q.
    read_sub (λ j r. page_least j + length r ≤ length s) q
    (omega (
      arith,
      exactly_takes before_entries s u₁ s₁ e₁,
      number_takes array s₁ n s₂ e₂,
      entries_take n s₂ es s₃ e₃,
      exactly_takes before_left s₃ u₄ s₄ e₄,
      gap_takes s₄ g s₅ e₅,
      length-append (links_after es) (link_list g),
    )))))))

-- ---- a sequence
unfoldable pages_least : List RawPage → ℕ
pages_least [] = 0
pages_least (p ∷ ps) = page_least p + pages_least ps

pages_take : (n : ℕ) → Takes (read_pages n) pages_least
unfolding read_pages pages_least
pages_take zero s ps t h = read_sub (λ j r. pages_least j + length r ≤ length s) h (omega arith)
pages_take (suc n) [] ps t h = read_sub (λ j r. pages_least j + length r ≤ 0) h (omega arith)
pages_take (suc n) (b ∷ s) ps t h =
    andThen-inv (page (b ∷ s)) (λ p s₁ e₁.
    andThen-inv (read_pages n s₁) (λ l s₂ e₂ q.
    read_sub (λ j r. pages_least j + length r ≤ suc (length s)) q (omega (arith, page_takes (b ∷ s) p s₁ e₁, pages_take n s₁ l s₂ e₂)))) h

sequence_takes : (s : List ℕ) (raws : List RawPage) → sequence s ≡ read raws [] → pages_least raws ≤ length s
unfolding sequence
sequence_takes s raws h = omega (arith, pages_take (length s) s raws [] h)

-- ---- links
left_few : (g : Option (List ℕ)) → length (link_list g) ≤ 1
unfolding link_list
left_few none = omega arith
left_few (some digest) = omega arith

after_few : (es : List RawEntry) → length (links_after es) ≤ length es
unfolding links_after
after_few [] = omega arith
after_few (e ∷ es) = omega (arith, length-append (link_list e.after) (links_after es), left_few e.after, after_few es)

links_few : (raws : List RawPage) → 47 * length (links_of_all raws) ≤ pages_least raws
unfolding pages_least links_of_all links_by_place
links_few [] = omega arith
links_few (p ∷ ps) =
    omega (
      arith,
      length-append (links_by_place p) (links_of_all ps),
      length-append (links_after p.entries) (link_list p.left),
      after_few p.entries,
      left_few p.left,
      links_few ps,
    )

pub few_links : (s : List ℕ) (raws : List RawPage) → sequence s ≡ read raws [] → 47 * length (links_of_all raws) ≤ length s
few_links s raws h = omega (arith, links_few raws, sequence_takes s raws h)

-- ---- pages
-- every page but the blank one has an entry or a link
page_large : (es : List RawEntry) (g : Option (List ℕ))
    → (◌≡◌ {A = RawPage} (record { entries = es; left = g }) blank_page) ⊎ (47 ≤ page_least (record { entries = es; left = g }))
unfolding blank_page links_by_place links_after link_list
page_large [] none = inl refl
page_large [] (some digest) = inr (omega arith)
page_large (e ∷ es) g = inr (omega arith)

-- digests that are greater than the blank page's are of other pages
others_few : (ps : List RawPage) → Above (sha256 (page_bytes blank_page)) (map by_digest (map page_bytes ps)) → 47 * length ps ≤ pages_least ps
unfolding pages_least
others_few [] w = omega arith
others_few (p ∷ ps) w =
    ⊎_elim
    (λ e. absurd (before_other _ _ w.0 (ap (λ (q : RawPage). sha256 (page_bytes q)) (sym e))))
    (λ h. omega (arith, h, others_few ps w.1))
    (page_large p.entries p.left)

pages_few : (ps : List RawPage) → Sorted (map by_digest (map page_bytes ps)) → 47 * length ps ≤ pages_least ps + 40
unfolding pages_least
pages_few [] w = omega arith
pages_few (p ∷ ps) w =
    ⊎_elim
    (λ e. omega (arith, others_few ps (subst (λ (q : RawPage). Above (sha256 (page_bytes q)) (map by_digest (map page_bytes ps))) e w.0)))
    (λ h. omega (arith, h, pages_few ps w.1))
    (page_large p.entries p.left)

pub few_pages_lem : (s : List ℕ) (raws : List RawPage) → sequence s ≡ read raws [] → rising (map by_digest (map page_bytes raws)) ≡ true
    → 47 * length raws ≤ length s + 40
few_pages_lem s raws h r = omega (arith, pages_few raws (rising_sorted _ r), sequence_takes s raws h)
