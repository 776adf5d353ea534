-- Where the page of a word stands, and that it is the page which the word's label leads to.
use Prim.Native.Nat.{ℕ, zero, suc, ◌+◌, ◌-◌, ◌*◌, ◌/◌, ◌^◌, ◌≤◌, ◌<◌}
use mathlib.Core.Path.{◌≡◌, refl, sym, ap, ◌∙◌}
use mathlib.Core.List.{List, [], ◌∷◌}
use native.Mathlib.Omega.{arith}
use native.Mathlib.Nat.{sub-zero}
use lib.Dec.{eqb, ltb}
use lib.ListN.{length, take, drop, get_or}
use lib.Seq.{take_all}
use borrow.Author.Tests.{eqb-true, eqb-false, eq-eqb, ne_eqb, lt-ltb, le-ltb}
use borrow.Table.Steps.{cases}
use Rattle.fips180.specs.Hash.{sha256}
use Rattle.fips180.proofs.Laws.{length_sha256}
use Rattle.word.specs.Word.{page_in, link_in, above_in, end_in}
use Rattle.tree.specs.Table.{SpeltTree, bytes_of_page}
use Rattle.index.specs.Chain.{Chain, LabelsAt, ChainWords}
use Rattle.known.specs.Rows.{LabelsStand}
use Rattle.known.proofs.Labels.{chain_labels}
use Rattle.links.specs.Links.{from_first, from_chains, chain_word, label_number, digest_named, Names}
use Rattle.staging.specs.Pages.{page_start, page_end, page_named, PageThere, PageWord}
use Rattle.staging.proofs.ChainPages.{labelled_pages}

-- ---- by the kind of a word
pub root_start : (chains : List ℕ) (w : ℕ) → w < from_chains → 0 ≡ page_start chains w
unfolding page_start
root_start chains w h = rw (lt-ltb w from_chains h)

pub root_end : (to : ℕ) (chains : List ℕ) (w : ℕ) → w < from_chains → to ≡ page_end to chains w
unfolding page_end
root_end to chains w h = rw (lt-ltb w from_chains h)

module _ (chains : List ℕ) (w : ℕ) (h : from_chains ≤ w) where
  pub chain_start : page_in (chain_word chains w) - 47 * (above_in (chain_word chains w) - label_number w) ≡ page_start chains w
  unfolding page_start
  chain_start = rw (le-ltb w from_chains h)

  pub last_end : (to : ℕ) → label_number w ≡ above_in (chain_word chains w) → end_in (get_or chains (2 * ((w - from_chains) / 256) + 1) 0) ≡ page_end to chains w
  unfolding page_end
  last_end to e = rw (le-ltb w from_chains h, eq-eqb (label_number w) (above_in (chain_word chains w)) e)

  pub other_end : (to : ℕ) → (label_number w ≡ above_in (chain_word chains w) → ⊥) → page_start chains w + 47 ≡ page_end to chains w
  unfolding page_end
  other_end to f = rw (le-ltb w from_chains h, ne_eqb (label_number w) (above_in (chain_word chains w)) f)

-- a place fits a word
pub start_small : (chains : List ℕ) (w : ℕ) → page_start chains w < 2 ^ 24
unfolding page_start
start_small chains w = cases (ltb w from_chains) (λ e. rw e (omega arith)) (λ e. rw e (omega arith))

-- ---- the pages of a chain stand one after the other
pub labelled_number : (labels : List (List ℕ)) (t : SpeltTree) → length (labelled_pages labels t) ≡ length labels
unfolding labelled_pages
labelled_number [] t = refl
labelled_number (d ∷ []) t = refl
labelled_number (d ∷ (next ∷ more)) t = ap suc (labelled_number (next ∷ more) t)

module _ (s : List ℕ) (to size : ℕ) (t : SpeltTree) (here : take size (drop to s) ≡ bytes_of_page t) where
  pages_stand : (labels : List (List ℕ)) (link at : ℕ) → LabelsAt s link at labels to → (k : ℕ) → k < length labels → (n : ℕ)
      → (suc k ≡ length labels → n ≡ size) → (suc k < length labels → n ≡ 47) → take n (drop (at + 47 * k) s) ≡ get_or (labelled_pages labels t) k []
  unfolding LabelsAt labelled_pages
  pages_stand [] link at h k l n last other = absurd (omega arith)
  pages_stand (d ∷ []) link at h zero l n last other =
      let e : at + 47 * 0 ≡ to = omega (arith, h.3) in
      rw (e, last refl) here
  pages_stand (d ∷ []) link at h (suc k) l n last other = absurd (omega arith)
  pages_stand (d ∷ (next ∷ more)) link at h zero l n last other =
      let e : at + 47 * 0 ≡ at = omega arith in
      rw (e, other (omega arith)) h.3
  pages_stand (d ∷ (next ∷ more)) link at h (suc k) l n last other =
      let e : at + 47 * suc k ≡ (at + 47) + 47 * k = omega arith in
      rw e (pages_stand (next ∷ more) (at + 15) (at + 47) h.4 k (omega arith) n (λ q. last (ap suc q)) (λ q. other (omega arith)))

-- ---- the word of a page of a chain
-- a word is that of a page, whatever its digest
pub record PageFits (root register : List ℕ) (rootEnd : ℕ) (chains : List ℕ) (w : ℕ) : Type 0 where
  pub names : Names root register chains w
  pub there : PageThere chains w
  pub kind : from_first ≤ w
  pub rises : page_start chains w ≤ page_end rootEnd chains w
  pub within : page_end rootEnd chains w ≤ length register

module _ {s : List ℕ} (row : List ℕ) (i : ℕ) {c : Chain} (words : ChainWords s (get_or row (2 * i) 0) (get_or row (2 * i + 1) 0) c) (room : 2 * i + 1 < length row)
    (k : ℕ) (l : k < length c.labels) where
  abbrev word : ℕ
  word = get_or row (2 * i) 0

  stands : LabelsStand s word c.labels
  stands = chain_labels s word (get_or row (2 * i + 1) 0) c words

  number : length c.labels ≡ suc (above_in word)
  number = omega (arith, words.above)

  module _ (x : ℕ) (kind : from_chains ≤ x) (chain : (x - from_chains) / 256 ≡ i) (label : label_number x ≡ k) where
    there : PageThere row x
    there = record {
      chain = λ _. rw chain room;
      label = λ _. rw (chain, label) (omega (arith, number));
      above = λ _. rw chain stands.start;
    }

    names : (root : List ℕ) → Names root s row x
    names root = record {
      in_second = λ h. absurd (omega arith);
      in_first = λ h g. absurd (omega arith);
      chain = λ _. rw chain (omega arith);
      label = there.label;
      above = there.above;
      in_chain = λ _. rw (chain, label) (stands.stand k l).within;
    }

    pub word_digest : (root : List ℕ) → digest_named root s row x ≡ get_or c.labels k []
    unfolding digest_named
    word_digest root =
        let h : from_first ≤ x = omega arith in
        rw (le-ltb x from_first h, le-ltb x from_chains kind, chain, label) (stands.stand k l).bytes

    start : page_start row x ≡ c.page - 47 * above_in word + 47 * k
    start = sym (chain_start row x kind) ∙ rw (chain, label) (omega (arith, words.page, words.start, number))

    -- where the page ends, and how long it is
    last_end_is : (to : ℕ) → suc k ≡ length c.labels → page_end to row x ≡ end_in (get_or row (2 * i + 1) 0)
    last_end_is to e =
        let same : label_number x ≡ above_in (chain_word row x) = rw (chain, label) (omega (arith, number)) in
        sym (last_end row x kind to same) ∙ rw chain

    last_size : (to : ℕ) → suc k ≡ length c.labels → page_end to row x - page_start row x ≡ end_in (get_or row (2 * i + 1) 0) - c.page
    last_size to e = omega (arith, last_end_is to e, start, number, words.start)

    other_size : (to : ℕ) → suc k < length c.labels → page_end to row x ≡ page_start row x + 47
    other_size to e = sym (other_end row x kind to (λ q. let p : k ≡ above_in word = rw (chain, label) at q in omega (arith, number)))

    ends_after : (to : ℕ) → (page_start row x ≤ page_end to row x) × (page_end to row x ≤ length s)
    ends_after to =
        cases (eqb (suc k) (length c.labels))
        (λ q.
        let e : suc k ≡ length c.labels = eqb-true (suc k) (length c.labels) q in
        (omega (arith, last_end_is to e, start, number, words.start, words.ends), omega (arith, last_end_is to e, words.within)))
        (λ q.
        let e : suc k < length c.labels = omega (arith, eqb-false (suc k) (length c.labels) q) in
        (omega (arith, other_size to e), omega (arith, other_size to e, start, number, words.start, words.ends, words.within)))

    pub word_fits : (root : List ℕ) (to : ℕ) → PageFits root s to row x
    word_fits root to = record {
      names = names root;
      there = there;
      kind = omega arith;
      rises = (ends_after to).0;
      within = (ends_after to).1;
    }

    pub word_page : (to : ℕ) → page_named s to row x ≡ get_or (labelled_pages c.labels c.here) k []
    word_page to =
        let size : ℕ = page_end to row x - page_start row x in
        let place : drop (page_start row x) s ≡ drop (c.page - 47 * above_in word + 47 * k) s = ap (λ (p : ℕ). drop p s) start in
        let above : ℕ = c.page - 47 * above_in word in
        ap (take size) place
        ∙ pages_stand s c.page (end_in (get_or row (2 * i + 1) 0) - c.page) c.here words.bytes c.labels (link_in word) above words.labels k l size
        (last_size to) (λ e. omega (arith, other_size to e))

-- ---- the word of the root
module _ (register : List ℕ) (to : ℕ) (chains : List ℕ) where
  pub root_page : page_named register to chains from_first ≡ take to register
  unfolding page_start page_end
  root_page = ap (λ (k : ℕ). take k register) (sub-zero to)

  pub root_word : (root page : List ℕ) → to ≤ length register → take to register ≡ page → root ≡ sha256 page → PageWord root register to chains from_first
  unfolding page_start page_end digest_named
  root_word root page h e d = record {
    names = record {
      in_second = λ l. absurd (omega arith);
      in_first = λ _ _. omega (arith, ap length d, length_sha256 page);
      chain = λ l. absurd (omega arith);
      label = λ l. absurd (omega arith);
      above = λ l. absurd (omega arith);
      in_chain = λ l. absurd (omega arith);
    };
    there = record {
      chain = λ l. absurd (omega arith);
      label = λ l. absurd (omega arith);
      above = λ l. absurd (omega arith);
    };
    kind = omega arith;
    rises = omega arith;
    within = h;
    digest = take_all 32 root (omega (arith, ap length d, length_sha256 page)) ∙ d ∙ ap sha256 (sym (root_page ∙ e));
  }
