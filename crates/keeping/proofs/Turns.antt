-- One page of the rows after the other, in order of digest.
use Prim.Native.Nat.{ℕ, suc, ◌+◌, ◌<◌}
use mathlib.Core.Path.{◌≡◌, sym, subst, ◌∙◌}
use mathlib.Core.Bool.{true, false, false≢true}
use mathlib.Core.List.{List}
use native.Mathlib.Omega.{arith}
use native.Mathlib.Numerals.{add-one}
use lib.ListN.{get_or}
use Rattle.fips180.specs.Hash.{sha256}
use Rattle.key.specs.Key.{less}
use Rattle.key.proofs.Laws.{less_transitive, less-connected, is_false}
use Rattle.page.specs.Page.{RawPage}
use Rattle.links.specs.Links.{digest_named}
use Rattle.filing.specs.Filed.{bytes_at, link_named}
use Rattle.staging.specs.Pages.{page_named}
use Rattle.keeping.specs.declared.PagePart.{PagePart}
use Rattle.keeping.specs.Kept.{LabelledPages, ToKeep}
use Rattle.keeping.specs.Inner.{PartStands, PageBegins, NextIs}

-- ---- the order of digests
abbrev pub NotBefore : List ℕ → List ℕ → Type 0
NotBefore a b = less a b ≡ false

pub not_before_rises : (a b c : List ℕ) → NotBefore a c → less a b ≡ true → NotBefore b c
not_before_rises a b c h k = is_false (less b c) (λ l. false≢true (sym h ∙ less_transitive a b c k l))

-- a is not greater than b, which stands before c
pub rises_before : (a b c : List ℕ) → NotBefore b a → less b c ≡ true → less a c ≡ true
rises_before a b c h k =
    less-connected a b (λ l. less_transitive a b c l k) (λ e. rw e k) (λ l. absurd (false≢true (sym h ∙ l)))

pub before_unless_same : (a b : List ℕ) → NotBefore b a → (b ≡ a → ⊥) → less a b ≡ true
before_unless_same a b h n = less-connected a b (λ l. l) (λ e. absurd (n (sym e))) (λ l. absurd (false≢true (sym h ∙ l)))

module _ {s p labels marks : List ℕ} {n : ℕ} {raws : List RawPage} (f : LabelledPages s p labels n raws)
    {root register : List ℕ} {rootEnd : ℕ} {chains words : List ℕ} {m : ℕ} (k : ToKeep s p labels marks n root register rootEnd chains words m) where
  -- the digests that words name are those of the pages, and neither row falls
  label_is : (i : ℕ) → i < n → link_named s p (get_or labels i 0) ≡ sha256 (bytes_at raws i)
  label_is i h = f.digests i h

  word_is : (j : ℕ) → j < m → digest_named root register chains (get_or words j 0) ≡ sha256 (page_named register rootEnd chains (get_or words j 0))
  word_is j h = (k.saved.1.each j h).digest

  pub page_rises : (i : ℕ) → i + 1 < n → less (sha256 (bytes_at raws i)) (sha256 (bytes_at raws (i + 1))) ≡ true
  page_rises i h =
      let l : suc i < n = omega arith in
      rw (add-one i, ← label_is i (omega arith), ← label_is (suc i) l) (f.order i l)

  pub word_stays : (j : ℕ) → j + 1 < m
      → NotBefore (sha256 (page_named register rootEnd chains (get_or words (j + 1) 0))) (sha256 (page_named register rootEnd chains (get_or words j 0)))
  word_stays j h =
      let l : suc j < m = omega arith in
      rw (add-one j, ← word_is j (omega arith), ← word_is (suc j) l) (k.order j l)

  -- ---- the next page
  module _ (i j : ℕ) (t : PagePart) where
    pub next_is_page : t.saved ≡ false → i < n → PartStands p t (bytes_at raws i) → PageBegins p (i + 1) t.to
        → (j < m → NotBefore (digest_named root register chains (get_or words j 0)) (link_named s p (get_or labels i 0)))
        → NextIs raws n p register rootEnd chains words m i j t t.saved
    next_is_page e h w b l =
        subst (NextIs raws n p register rootEnd chains words m i j t) (sym e)
        (h, w, b, λ q. rw (w.digest, ← label_is i h, ← word_is j q) (l q))

    pub next_is_word : t.saved ≡ true → j < m → PartStands register t (page_named register rootEnd chains (get_or words j 0))
        → (i < n → NotBefore (link_named s p (get_or labels i 0)) (digest_named root register chains (get_or words j 0)))
        → NextIs raws n p register rootEnd chains words m i j t t.saved
    next_is_word e h w l =
        subst (NextIs raws n p register rootEnd chains words m i j t) (sym e)
        (h, w, λ q. rw (w.digest, ← label_is i q, ← word_is j h) (l q))
