-- A page where it is read, and what is written behind its bytes.
use Rattle.std.specs.Prelude.{Result, Ok, Err, Option, Some, None}
use Prim.Native.Nat.{ℕ, ◌+◌, ◌-◌, ◌≤◌, ◌<◌}
use mathlib.Core.Path.{◌≡◌, refl, sym, ap, subst, ◌∙◌}
use mathlib.Core.Logic.{inl}
use mathlib.Core.List.{List, [], ◌∷◌, ◌++◌, append-nil, append_assoc}
use native.Mathlib.Omega.{arith}
use lib.ListN.{length, take, drop, get_or}
use Rattle.bytestring.specs.Bytes.{front}
use Rattle.bytestring.proofs.Lending.{lent, back}
use Rattle.page.specs.Page.{RawPage, page_bytes, page}
use Rattle.page.proofs.Readers.{read_sub}
use Rattle.page_reader.specs.Place.{Reads, link_at, PageHere, PageIs}
use Rattle.page_reader.specs.declared.Stop.{Stop}
use Rattle.page_reader.specs.declared.PageAt.{PageAt}
use Rattle.page_reader.proofs.Determined.{not_both}
use Rattle.page_reader.proofs.Spelling.{page_here, page_ends, page_part}
use Rattle.promises.specs.Promises.{Among}
use Rattle.promises.proofs.DifferenceLaws.{among_left, among_right}
use Rattle.states.specs.Pages.{link_list, links_after}
use Rattle.sequence.specs.Noted.{links_by_place}
use Rattle.filing.specs.Filed.{page_place, no_page, bytes_at}
use Rattle.tree_keys.proofs.Following.{order_links}
use Rattle.gathering.specs.Gathered.{gathered_from, WrittenFront}
use Rattle.gathering.specs.Inner.{gathered_from_all, TreeStands, LinkStands, EntriesStand, LinkGathered, EntriesGathered}
use Rattle.gathering.proofs.Depth.{from_both}
use Rattle.gathering.proofs.Fronts.{still_lacks, front_fits, back_length, then_more, then_lacks, sum_fits}
use Rattle.gathering.proofs.Trees.{gathered_page}

-- ---- the page where it is read
module _ {s p labels pages : List ℕ} {n i layer : ℕ} (g : TreeStands s p labels pages n i layer)
    (at : ℕ) (place : at ≡ page_place (get_or pages i 0)) (got : Result PageAt Stop) (w : PageIs p at got) where
  stands : (to : ℕ) × Reads page p at (get_or g.raws i no_page) to
  stands = let x = g.filed.places i g.within in (x.0, rw place x.1)

  pub tree_goes_on : (stop : Stop) → got ≡ Err stop → ⊥
  tree_goes_on stop q = not_both _ _ stop (sym stands.1.reads ∙ subst (PageIs p at) q w)

  module _ (pa : PageAt) (q : got ≡ Ok pa) where
    abbrev size : ℕ
    size = pa.end - at

    here : PageHere p at pa
    here = subst (PageIs p at) q w

    is_read : page_here g.bytes here ≡ get_or g.raws i no_page
    is_read = read_sub (λ (x : RawPage) _. page_here g.bytes here ≡ x) (sym here.whole.reads ∙ stands.1.reads) refl

    own_bytes : take size (drop at p) ≡ bytes_at g.raws i
    own_bytes = sym (page_part g.bytes here) ∙ ap page_bytes is_read

    own_length : length (bytes_at g.raws i) ≡ size
    own_length = omega (arith, ap (λ (r : RawPage). length (page_bytes r)) is_read, page_ends g.bytes here)

    pub own_ahead : at ≤ pa.end
    own_ahead = omega (arith, here.whole.ahead)

    pub own_within : pa.end ≤ length p
    own_within = here.whole.within

    pub left_stands : LinkStands s p labels pages n pa.left layer
    unfolding links_by_place
    left_stands = record {
      i = i;
      tree = g;
      within = λ z. omega (arith, here.left z, here.whole.within);
      among = λ digest j.
          subst (λ (r : RawPage). Among digest (links_by_place r)) is_read
          (among_right (links_after here.row.entries) (link_list (link_at p pa.left)) digest j);
    }

    pub row_stands : EntriesStand s p labels pages n pa.first pa.count layer
    unfolding links_by_place
    row_stands = record {
      i = i;
      tree = g;
      entries = here.row.entries;
      past = pa.past;
      reads = here.row.reads;
      among = λ digest j.
          subst (λ (r : RawPage). Among digest (links_by_place r)) is_read
          (among_left (links_after here.row.entries) (link_list (link_at p pa.left)) digest j);
    }

    -- its bytes, and those gathered from its left link and from the links after its entries
    abbrev own : List ℕ
    own = bytes_at g.raws i

    abbrev left : List ℕ
    left = gathered_from_all g.raws (link_list (link_at p pa.left))

    abbrev row : List ℕ
    row = gathered_from_all g.raws (links_after here.row.entries)

    parts : gathered_from g.raws i ≡ (own ++ left) ++ row
    parts =
        gathered_page g
        ∙ ap (λ (r : RawPage). own ++ gathered_from_all g.raws (link_list r.left ++ links_after r.entries)) (sym is_read)
        ∙ ap (λ (l : List ℕ). own ++ l) (from_both g.raws (link_list (link_at p pa.left)) (links_after here.row.entries))
        ∙ sym (append_assoc own left row)

    pub no_room_own : (o : List ℕ) → length o < size → WrittenFront (gathered_from g.raws i) o None o
    no_room_own o h = rw parts (still_lacks (own ++ left) row o o (still_lacks own left o o (omega (arith, own_length), refl)))

    -- a page of layer 0 has no links
    none_below : (digests : List (List ℕ)) → layer ≡ 0
        → ((digest : List ℕ) → Among digest digests → Among digest (links_by_place (get_or g.raws i no_page))) → digests ≡ []
    none_below [] z j = refl
    none_below (digest ∷ digests) z j = absurd (omega (arith, z, (g.below digest (j digest (inl refl))).2))

    leaf_bytes : layer ≡ 0 → gathered_from g.raws i ≡ own
    unfolding gathered_from_all
    leaf_bytes z =
        let raw = get_or g.raws i no_page in
        gathered_page g
        ∙ ap (λ (l : List (List ℕ)). own ++ gathered_from_all g.raws l)
        (none_below (link_list raw.left ++ links_after raw.entries) z (λ digest j. order_links raw digest j))
        ∙ append-nil own

    -- ---- behind its bytes
    module _ (o xs : List ℕ) (e : xs ≡ front (take size (drop at p)) o) (same : length xs ≡ length o) where
      first_written : WrittenFront own o (Some size) xs
      first_written = (sym own_length, e ∙ ap (λ (l : List ℕ). front l o) own_bytes)

      pub leaf_written : layer ≡ 0 → WrittenFront (gathered_from g.raws i) o (Some size) xs
      leaf_written z = rw (leaf_bytes z) first_written

      pub own_inside : size ≤ length xs
      own_inside = front_fits own o size xs first_written same

      -- ---- and behind the tree under its left link
      module _ (ys : List ℕ) (r : Option ℕ) (v : LinkGathered s p labels pages n pa.left layer (lent size xs) r ys) where
        left_wrote : {k : Option ℕ} → r ≡ k → WrittenFront left (lent size xs) k ys
        unfolding left_stands
        left_wrote z = subst (λ (k : Option ℕ). WrittenFront left (lent size xs) k ys) z (v left_stands)

        pub no_room_left : r ≡ None → WrittenFront (gathered_from g.raws i) o None (back size xs ys)
        no_room_left z =
            rw parts (still_lacks (own ++ left) row o (back size xs ys) (then_lacks own o size xs first_written same left ys (left_wrote z)))

        module _ (k : ℕ) (z : r ≡ Some k) (whole : length ys ≡ length (lent size xs)) where
          abbrev both : List ℕ
          both = back size xs ys

          both_written : WrittenFront (own ++ left) o (Some (size + k)) both
          both_written = then_more own o size xs first_written same left ys k (left_wrote z)

          both_length : length both ≡ length o
          both_length = back_length own o size xs first_written same left ys whole

          pub both_inside : size + k ≤ length both
          both_inside = front_fits (own ++ left) o (size + k) both both_written both_length

          pub left_fits : size + k ≤ length o
          left_fits = omega (arith, both_inside, both_length)

          module _ (zs : List ℕ) (q₂ : Option ℕ)
              (u : EntriesGathered s p labels pages n pa.first pa.count layer (lent (size + k) both) q₂ zs) where
            row_wrote : {m : Option ℕ} → q₂ ≡ m → WrittenFront row (lent (size + k) both) m zs
            unfolding row_stands
            row_wrote e₂ = subst (λ (m : Option ℕ). WrittenFront row (lent (size + k) both) m zs) e₂ (u row_stands)

            pub no_room_row : q₂ ≡ None → WrittenFront (gathered_from g.raws i) o None (back (size + k) both zs)
            no_room_row e₂ =
                rw parts (then_lacks (own ++ left) o (size + k) both both_written both_length row zs (row_wrote e₂))

            pub tree_written : (m : ℕ) → q₂ ≡ Some m
                → WrittenFront (gathered_from g.raws i) o (Some (size + k + m)) (back (size + k) both zs)
            tree_written m e₂ =
                rw parts (then_more (own ++ left) o (size + k) both both_written both_length row zs m (row_wrote e₂))

            pub tree_fits : (m : ℕ) → q₂ ≡ Some m → length zs ≡ length (lent (size + k) both) → size + k + m ≤ length o
            tree_fits m e₂ = sum_fits (own ++ left) o (size + k) both both_written both_length row zs m (row_wrote e₂)
