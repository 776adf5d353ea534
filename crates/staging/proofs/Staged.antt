-- The words that are put down are those of all pages of the register.
use Prim.Native.Nat.{ℕ, suc, ◌+◌, ◌-◌, ◌*◌, ◌/◌, ◌≤◌, ◌<◌}
use mathlib.Core.Path.{◌≡◌, refl, sym, ap, subst, ◌∙◌}
use mathlib.Core.List.{List, [], ◌∷◌, ◌++◌, append-nil, map, map-map}
use native.Mathlib.Omega.{arith}
use lib.ListN.{length, take, drop, get_or, length-append, length-map, take-append-drop}
use lib.Seq.{take_all, get_or-take}
use Rattle.bytestring.specs.Bytes.{Bytes}
use Rattle.bytestring.proofs.Tools.{All, all_at}
use Rattle.fips180.specs.Hash.{sha256}
use Rattle.tree.specs.Table.{SpeltTree, bytes_of_page}
use Rattle.tree.specs.Judge.{accepted, judge}
use Rattle.tree.proofs.Laws.{one_tree}
use Rattle.promises.specs.Pages.{pages_of}
use Rattle.promises.specs.Promises.{Among}
use Rattle.index.specs.Chain.{Chain, chains, ChainWords, no_chain}
use Rattle.index.specs.Accepted.{ChainRow}
use Rattle.known.specs.Rows.{labels_of, label_count}
use Rattle.known.proofs.ChainRows.{accepted_filled}
use Rattle.known.proofs.Filling.{labels_append}
use Rattle.known.proofs.Labels.{chain_labels, count_above}
use Rattle.digests.specs.Digests.{RootEnd}
use Rattle.digests.proofs.ChainReads.{row_noted, chain_words}
use Rattle.links.specs.Links.{from_chains, label_number, digest_named}
use Rattle.staging.specs.Pages.{page_named, PageWord, PageWords}
use Rattle.staging.specs.Inner.{chain_page_words, row_page_words, register_page_words}
use Rattle.staging.proofs.ChainPages.{labelled_pages, pages_of_chains, chains_append, chains_digests, pages_of_chains_lem}
use Rattle.staging.proofs.PageSizes.{accepted_pages_few}
use Rattle.staging.proofs.Words.{row_number, all_words, chain_map, all_row_words, row_map, PutTo, among_mapped, mapped_among, map_same}
use Rattle.staging.proofs.Places.{labelled_number, PageFits, word_digest, word_fits, word_page, root_page, root_word}

all_both : {A : Type 0} (P Q R : A → Type 0) → ((a : A) → P a → Q a → R a) → (l : List A) → All P l → All Q l → All R l
all_both P Q R f [] p q = tt
all_both P Q R f (a ∷ l) p q = (f a p.0 q.0, all_both P Q R f l p.1 q.1)

module _ {s row : List ℕ} {n : ℕ} (r : ChainRow s row n) where
  abbrev cs : List Chain
  cs = chains 0 0 [] r.tree

  -- ---- one chain
  module _ (i : ℕ) (h : i < length cs) where
    abbrev chain : Chain
    chain = get_or cs i no_chain

    words : ChainWords s (get_or row (2 * i) 0) (get_or row (2 * i + 1) 0) chain
    words = chain_words (row_noted r) i (omega (arith, r.size))

    count : label_count (get_or row (2 * i) 0) ≡ length chain.labels
    count = (chain_labels s (get_or row (2 * i) 0) (get_or row (2 * i + 1) 0) chain words).count

    room : 2 * i + 1 < length row
    room = omega (arith, r.size, r.room)

    module _ (k : ℕ) (l : k < length chain.labels) where
      abbrev word : ℕ
      word = from_chains + 256 * i + k

      small : k < 256
      small = omega (arith, count, count_above (get_or row (2 * i) 0))

      number_is : (word - from_chains) / 256 ≡ i
      number_is = omega (arith, small)

      label_is : label_number word ≡ k
      label_is = omega (arith, small)

      digest_at_lem : (root : List ℕ) → digest_named root s row word ≡ get_or chain.labels k []
      digest_at_lem root = word_digest row i words room k l word (omega arith) number_is label_is root

      page_at_lem : (to : ℕ) → page_named s to row word ≡ get_or (labelled_pages chain.labels chain.here) k []
      page_at_lem to = word_page row i words room k l word (omega arith) number_is label_is to

      fits_at : (root : List ℕ) (to : ℕ) → PageFits root s to row word
      fits_at root to = word_fits row i words room k l word (omega arith) number_is label_is root to

    pages_here : (to : ℕ) → map (page_named s to row) (chain_page_words i (label_count (get_or row (2 * i) 0))) ≡ pages_of_chains (chain ∷ [])
    unfolding pages_of_chains
    pages_here to =
        let l : List (List ℕ) = labelled_pages chain.labels chain.here in
        let size : length l ≡ length chain.labels = labelled_number chain.labels chain.here in
        chain_map (page_named s to row) i l (λ k g. page_at_lem k (omega (arith, size)) to) (label_count (get_or row (2 * i) 0)) (count ∙ sym size) ∙ sym (append-nil l)

    digests_here : (root : List ℕ) → map (digest_named root s row) (chain_page_words i (label_count (get_or row (2 * i) 0))) ≡ labels_of (chain ∷ [])
    unfolding labels_of
    digests_here root =
        chain_map (digest_named root s row) i chain.labels (λ k g. digest_at_lem k g root) (label_count (get_or row (2 * i) 0)) count ∙ sym (append-nil chain.labels)

    fits_here : (root : List ℕ) (to : ℕ) → All (PageFits root s to row) (chain_page_words i (label_count (get_or row (2 * i) 0)))
    fits_here root to = all_words (PageFits root s to row) i (label_count (get_or row (2 * i) 0)) (λ k g. fits_at k (omega (arith, count)) root to)

  -- ---- all chains
  no_pages : pages_of_chains [] ≡ []
  unfolding pages_of_chains
  no_pages = refl

  no_labels : labels_of [] ≡ []
  unfolding labels_of
  no_labels = refl

  pages_named : (to m : ℕ) → m ≤ n → map (page_named s to row) (row_page_words row m) ≡ pages_of_chains (take m cs)
  pages_named to m h = row_map row (page_named s to row) pages_of_chains no_pages chains_append cs (λ i g. pages_here i g to) m (omega (arith, r.size))

  module _ (root : List ℕ) (to : ℕ) where
    abbrev all_there : take n cs ≡ cs
    all_there = take_all n cs (omega (arith, r.size))

    all_pages : map (page_named s to row) (row_page_words row n) ≡ pages_of_chains cs
    all_pages = pages_named to n (omega arith) ∙ ap pages_of_chains all_there

    all_digests : map (digest_named root s row) (row_page_words row n) ≡ labels_of cs
    all_digests =
        row_map row (digest_named root s row) labels_of no_labels labels_append cs (λ i g. digests_here i g root) n (omega (arith, r.size)) ∙ ap labels_of all_there

    -- each word names the digest of its page
    right_digests : All (λ x. digest_named root s row x ≡ sha256 (page_named s to row x)) (row_page_words row n)
    right_digests =
        map_same (digest_named root s row) (λ x. sha256 (page_named s to row x)) (row_page_words row n)
        (all_digests ∙ sym (chains_digests cs r.right) ∙ ap (map sha256) (sym all_pages) ∙ map-map sha256 (page_named s to row) (row_page_words row n))

    all_fit : All (PageFits root s to row) (row_page_words row n)
    all_fit = all_row_words row (PageFits root s to row) n (λ i h. fits_here i (omega (arith, r.size)) root to)

    row_words : All (PageWord root s to row) (row_page_words row n)
    row_words =
        all_both (PageFits root s to row) (λ x. digest_named root s row x ≡ sha256 (page_named s to row x)) (PageWord root s to row)
        (λ x f d. record { names = f.names; there = f.there; kind = f.kind; rises = f.rises; within = f.within; digest = d })
        (row_page_words row n) all_fit right_digests

  -- ---- the whole register
  module _ (bytes : Bytes s) where
    pages_all : pages_of r.tree ≡ bytes_of_page r.tree ∷ pages_of_chains cs
    pages_all = pages_of_chains_lem r.tree (accepted_filled s bytes r.tree r.judged)

    pub words_few : (i : ℕ) → i ≤ n → 47 * length (register_page_words row i) ≤ length s + 40
    words_few i h =
        let parts : pages_of_chains cs ≡ pages_of_chains (take i cs) ++ pages_of_chains (drop i cs) =
        ap pages_of_chains (sym (take-append-drop i cs)) ∙ chains_append (take i cs) (drop i cs) in
        omega (
          arith,
          accepted_pages_few s bytes r.tree r.judged,
          ap length pages_all,
          ap length parts,
          length-append (pages_of_chains (take i cs)) (pages_of_chains (drop i cs)),
          ap length (pages_named 0 i h),
          length-map (row_page_words row i) (page_named s 0 row),
        )

    pub chain_few : (i : ℕ) → i < n → 47 * (length (register_page_words row i) + label_count (get_or row (2 * i) 0)) ≤ length s + 40
    chain_few i h = omega (arith, words_few (suc i) (omega arith), row_number row i)

    module _ (root : List ℕ) (to : ℕ) (ends : RootEnd s to) (top : root ≡ sha256 (bytes_of_page r.tree)) where
      abbrev all_words_of : List ℕ
      all_words_of = register_page_words row n

      each_word : All (PageWord root s to row) all_words_of
      each_word = (root_word s to row root (bytes_of_page r.tree) ends.within (ends.bytes r.tree r.judged) top, row_words root to)

      each_page : map (page_named s to row) all_words_of ≡ pages_of r.tree
      each_page = rw (root_page s to row, ends.bytes r.tree r.judged, all_pages root to) (sym pages_all)

      page_words : (out : List ℕ) (total : ℕ) → PutTo row out total n → total ≤ length out → PageWords root s to row out total (pages_of r.tree)
      page_words out total put fits =
          let word_is : (j : ℕ) → j < total → get_or out j 0 ≡ get_or all_words_of j 0 =
          λ j h. sym (get_or-take total out j 0 h) ∙ ap (λ (l : List ℕ). get_or l j 0) put.put in
          record {
            room = fits;
            each = λ j h. rw (word_is j h) (all_at (PageWord root s to row) 0 all_words_of each_word j (omega (arith, put.number)));
            no_other = λ j h. rw (word_is j h, ← each_page) (among_mapped (page_named s to row) all_words_of j (omega (arith, put.number)));
            all = λ q h.
                let k = mapped_among (page_named s to row) all_words_of q (subst (Among q) (sym each_page) h) in
                let l : k.0 < total = omega (arith, k.1, put.number) in
                (k.0, l, rw (word_is k.0 l) k.2);
          }

    -- for whatever tree the register is accepted with
    pub all_staged : (out : List ℕ) (total i : ℕ) → PutTo row out total i → i ≡ n → total ≤ length out
        → (t : SpeltTree) (root : List ℕ) (to : ℕ) → judge s ≡ accepted t → root ≡ sha256 (bytes_of_page t) → RootEnd s to
        → PageWords root s to row out total (pages_of t)
    all_staged out total i put e fits t root to j top ends =
        let same : r.tree ≡ t = one_tree s r.judged j in
        subst (λ (u : SpeltTree). PageWords root s to row out total (pages_of u)) same
        (page_words root to ends (top ∙ ap (λ (u : SpeltTree). sha256 (bytes_of_page u)) (sym same)) out total (rw e at put) fits)
