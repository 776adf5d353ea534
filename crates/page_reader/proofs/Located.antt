-- Entries that are located: where one was read, the bytes that all entries have stand there, and what is found behind them are its parts.
use Rattle.page_reader.specs.declared.EntryAt.{EntryAt}
use Rattle.std.specs.Prelude.{Result, Ok, Err}
use Prim.Native.Nat.{ℕ, ◌+◌, ◌-◌, ◌≤◌, ◌<◌}
use mathlib.Core.Path.{◌≡◌, refl, sym, ap, subst, ◌∙◌}
use mathlib.Core.Bool.{true, false}
use mathlib.Core.Option.{Option}
use mathlib.Core.List.{List, ◌++◌}
use native.Mathlib.Omega.{arith}
use lib.ListN.{length, take, drop, get_or, length-append, length-drop}
use lib.Seq.{drop-drop, drop-append_seam}
use lib.Dec.{ltb}
use borrow.Author.Tests.{ltb-true, ltb-false}
use borrow.Table.Steps.{cases}
use Rattle.bytestring.proofs.Tools.{bytes_drop}
use Rattle.bytestring.specs.Bytes.{Bytes}
use Rattle.value.specs.Value.{digest_in, dag_cbor, is_codec, value_in}
use Rattle.page.specs.Reading.{Read, read, ends_early, Reader, and_then, exactly, any_bytes}
use Rattle.page.specs.Number.{plain_number, byte_string, number}
use Rattle.page.specs.Page.{before_codec, after_codec, link_head, link, null, gap, value, RawEntry, entry_bytes, entry}
use Rattle.page_reader.specs.Place.{Reads, after, ExactIs, NumberIs, LinkIs, value_end, GapIs, entry_start, entry_end, EntryEndIs, LocatedEndIs, LocatedIs}
use Rattle.page_reader.specs.declared.Stop.{Stop}
use Rattle.page.proofs.Readers.{ends_early≢read, departs≢read, andThen-inv, exactly_inv}
use Rattle.page.proofs.Numbers.{number_spells}
use Rattle.page.proofs.Pages.{before_remainder, before_shares, before_gap, before_value, entry_spells}
use Rattle.page_reader.proofs.Places.{bytes_there, after_is, number_after, link_after, gap_after, digest_ends, digest_there, codec_none, codec_departs, codec_passed, value_end_lem, value_from_codec, gap_none, gap_null, link_follows, gap_there}
use Rattle.page_reader.proofs.PagePlaces.{with_value, steps, end_steps, reads_then, end_there, start_stopped, remainder_next, remainder_ends, shares_stopped, end_next, entry_there}
use Rattle.page_reader.proofs.Determined.{not_both}

-- ---- what was read stands there
-- some bytes, and then t
behind : (bytes s : List ℕ) (at : ℕ) (t : List ℕ) → drop at s ≡ bytes ++ t → (drop (at + length bytes) s ≡ t) × (length bytes ≤ length s - at)
behind bytes s at t e = (
  sym (drop-drop (length bytes) at s) ∙ ap (λ (l : List ℕ). drop (length bytes) l) e ∙ drop-append_seam bytes t,
  omega (arith, ap length e, length-append bytes t, length-drop at s),
)

-- fixed bytes, and then f
exact_place : {A : Type 0} (bytes s : List ℕ) (at : ℕ) (f : Unit {0} → List ℕ → Read A) (a : A) (t : List ℕ)
    → and_then (exactly bytes (drop at s)) f ≡ read a t → ExactIs bytes s at (Ok (at + length bytes)) × (length bytes ≤ length s - at)
exact_place bytes s at f a t =
    andThen-inv (exactly bytes (drop at s)) (λ u v h _.
    let r = behind bytes s at v (exactly_inv bytes (drop at s) v u h) in
    ((h ∙ ap (λ (l : List ℕ). read tt l) (sym r.0), refl), r.1))

-- fixed bytes, and then a digest
digest_place : (bytes s : List ℕ) (at digest : ℕ) (d t : List ℕ) → at + length bytes ≡ digest → after bytes (any_bytes 32) (drop at s) ≡ read d t
    → LinkIs digest_in (after bytes (any_bytes 32)) (length bytes) s at (Ok digest)
digest_place bytes s at digest d t e h =
    let w = subst (λ (n : ℕ). ExactIs bytes s at (Ok n)) e (exact_place bytes s at _ d t h).0 in
    cases (ltb (length s - digest) 32)
    (λ l. absurd (ends_early≢read (sym (digest_ends bytes s at (Ok digest) w digest refl (length s - digest) refl (ltb-true _ 32 l)) ∙ h)))
    (λ l. digest_there bytes s at (Ok digest) w digest refl (length s - digest) refl (ltb-false _ 32 l))

-- what needs a byte
reader_starts : {A : Type 0} (p : Reader A) (s : List ℕ) (at : ℕ) (a : A) (t : List ℕ) → (length s ≤ at → p (drop at s) ≡ ends_early) → p (drop at s) ≡ read a t → at < length s
reader_starts p s at a t none h =
    cases (ltb at (length s))
    (λ l. ltb-true at (length s) l)
    (λ l. absurd (ends_early≢read (sym (none (ltb-false at (length s) l)) ∙ h)))

value_end_place : (s : List ℕ) (at digest : ℕ) (v t : List ℕ) → at + 3 ≡ digest → value_end (drop at s) ≡ read v t → LinkIs value_in value_end 3 s at (Ok digest)
value_end_place s at digest v t e h =
    let l : at < length s = reader_starts value_end s at v t (codec_none s at) h in
    cases (is_codec (get_or s at 0))
    (λ c. value_end_lem s at l true (sym c) refl (Ok digest)
    (andThen-inv (after after_codec (any_bytes 32) (drop (at + 1) s)) (λ d u q _. digest_place after_codec s (at + 1) digest d u (omega arith) q) (sym (codec_passed s at l true (sym c) refl) ∙ h)))
    (λ c. absurd (departs≢read (sym (codec_departs s at l false (sym c) refl) ∙ h)))

value_place : (s : List ℕ) (at digest : ℕ) (v t : List ℕ) → at + 9 ≡ digest → value (drop at s) ≡ read v t → LinkIs value_in value 9 s at (Ok digest)
unfolding value value_end
value_place s at digest v t e h =
    let w = (exact_place before_codec s at _ v t h).0 in
    value_from_codec s at (Ok (at + 6)) w (at + 6) refl (Ok digest)
    (value_end_place s (at + 6) digest v t (omega arith) (sym (after_is before_codec s at (Ok (at + 6)) w (at + 6) refl value_end) ∙ h))

gap_place : (s : List ℕ) (at digest : ℕ) (g : Option (List ℕ)) (t : List ℕ) → (get_or s at 0 ≡ null → ⊥) → at + 9 ≡ digest → gap (drop at s) ≡ read g t
    → GapIs gap s at (Ok (digest, digest + 32))
unfolding link
gap_place s at digest g t f e h =
    let l : at < length s = reader_starts gap s at g t (gap_none s at) h in
    andThen-inv (link (drop at s)) (λ d v q _. gap_there s at l f (Ok digest) (digest_place (link_head dag_cbor) s at digest d v e q) digest refl) (sym (link_follows s at l f) ∙ h)

-- an entry that is read ends at a place
pub entry_place : (s : List ℕ) (at : ℕ) (a : RawEntry) (t : List ℕ) → Bytes s → entry (drop at s) ≡ read a t → Reads entry s at a (at + length (entry_bytes a))
unfolding entry_bytes
entry_place s at a t b h =
    let r = behind (entry_bytes a) s at t (entry_spells.back (drop at s) t a (bytes_drop at s b) h).0 in
    record { reads = h ∙ ap (λ (l : List ℕ). read a l) (sym r.0); ahead = omega arith; within = omega (arith, r.1) }

-- ---- the end of an entry
module _ (s : List ℕ) (at shares remainder size : ℕ) where
  module _ (a : RawEntry) (t : List ℕ) (q : entry_end shares (take size (drop remainder s)) (drop at s) ≡ read a t) where
    gap_passed : ExactIs before_gap s at (Ok (at + 2))
    unfolding entry_end
    gap_passed = (exact_place before_gap s at _ a t q).0

    gap_next : and_then (gap (drop (at + 2) s)) (with_value shares (take size (drop remainder s))) ≡ read a t
    gap_next = rw (after_is before_gap s at (Ok (at + 2)) gap_passed (at + 2) refl gap) at (sym (end_steps shares (take size (drop remainder s)) (drop at s)) ∙ q)

    gap_byte : at + 2 < length s
    gap_byte = andThen-inv (gap (drop (at + 2) s)) (λ g v e _. reader_starts gap s (at + 2) g v (gap_none s (at + 2)) e) gap_next

    end_found : (digest to place : ℕ) → GapIs gap s (at + 2) (Ok (digest, to)) → to + 11 ≡ place
        → EntryEndIs s at shares remainder size (Ok (record { shares = shares; remainder = remainder; size = size; link = digest; value = place; end = place + 32 }))
    end_found digest to place v e =
        let y = sym (reads_then (with_value shares (take size (drop remainder s))) v.whole) ∙ gap_next in
        let w : ExactIs before_value s to (Ok (to + 2)) = (exact_place before_value s to _ a t y).0 in
        let z = rw (after_is before_value s to (Ok (to + 2)) w (to + 2) refl value) at (sym (steps before_value value _ (drop to s)) ∙ y) in
        let x : LinkIs value_in value 9 s (to + 2) (Ok place) = andThen-inv (value (drop (to + 2) s)) (λ d u r _. value_place s (to + 2) place d u (omega arith) r) z in
        end_there s at shares remainder size (Ok (digest, to)) (gap_after before_gap s at (Ok (at + 2)) gap_passed (at + 2) refl gap (Ok (digest, to)) v) digest to refl
        (Ok place) (link_after before_value s to (Ok (to + 2)) w (to + 2) refl value_in value 9 (Ok place) x) place refl

    null_found : get_or s (at + 2) 0 ≡ null
        → EntryEndIs s at shares remainder size (Ok (record { shares = shares; remainder = remainder; size = size; link = 0; value = at + 14; end = at + 14 + 32 }))
    null_found e = end_found 0 (at + 2 + 1) (at + 14) (gap_null s (at + 2) gap_byte e) (omega arith)

    link_found : (get_or s (at + 2) 0 ≡ null → ⊥)
        → EntryEndIs s at shares remainder size (Ok (record { shares = shares; remainder = remainder; size = size; link = at + 11; value = at + 54; end = at + 54 + 32 }))
    link_found f =
        end_found (at + 11) (at + 11 + 32) (at + 54)
        (andThen-inv (gap (drop (at + 2) s)) (λ g v e _. gap_place s (at + 2) (at + 11) g v f (omega arith) e) gap_next) (omega arith)

  pub end_short : (stop : Stop) → length s - at < 3 → LocatedEndIs s at shares remainder size (Err stop)
  end_short stop h a t q = omega (arith, gap_byte a t q)

  module _ (e : get_or s (at + 2) 0 ≡ null) where
    pub null_short : (stop : Stop) → length s - at < 46 → LocatedEndIs s at shares remainder size (Err stop)
    null_short stop h a t q = omega (arith, (null_found a t q e).3.whole.within)

    pub null_located : 46 ≤ length s - at
        → LocatedEndIs s at shares remainder size (Ok (record { shares = shares; remainder = remainder; size = size; link = 0; value = at + 14; end = at + 14 + 32 }))
    null_located h = (
      refl,
      refl,
      refl,
      record { ahead = omega arith; within = omega arith; ends = record { link = λ z. absurd (omega arith); value = refl }; here = λ a t q. (null_found a t q e).3 },
    )

  module _ (f : get_or s (at + 2) 0 ≡ null → ⊥) where
    pub link_short : (stop : Stop) → length s - at < 86 → LocatedEndIs s at shares remainder size (Err stop)
    link_short stop h a t q = omega (arith, (link_found a t q f).3.whole.within)

    pub link_located : 86 ≤ length s - at
        → LocatedEndIs s at shares remainder size (Ok (record { shares = shares; remainder = remainder; size = size; link = at + 11; value = at + 54; end = at + 54 + 32 }))
    link_located h = (
      refl,
      refl,
      refl,
      record { ahead = omega arith; within = omega arith; ends = record { link = λ _. omega arith; value = refl }; here = λ a t q. (link_found a t q f).3 },
    )

-- ---- an entry
pub number_small : (kind : ℕ) (s : List ℕ) (at n to : ℕ) (m : Result (ℕ × ℕ) Stop) → Bytes s → NumberIs (number kind) s at m → m ≡ Ok (n, to) → n < 65536
number_small kind s at n to m b w e =
    ((number_spells kind).back (drop at s) (drop to s) n (bytes_drop at s b) (subst (NumberIs (number kind) s at) e w).reads).1

module _ (s : List ℕ) (at : ℕ) where
  start_passed : (a : RawEntry) (to : ℕ) → Reads entry s at a to → ExactIs before_remainder s at (Ok (at + 3)) × (3 ≤ length s - at)
  unfolding entry
  start_passed a to x = exact_place before_remainder s at _ a (drop to s) x.reads

  pub entry_short : (stop : Stop) (left : ℕ) → left ≡ length s - at → left < 3 → LocatedIs s at (Err stop)
  entry_short stop left el h a to x = omega (arith, (start_passed a to x).1)

  module _ (m : Result (ℕ × ℕ) Stop) (w : NumberIs (number byte_string) s (at + 3) m) where
    start_is : (a : RawEntry) (to : ℕ) → Reads entry s at a to → NumberIs entry_start s at m
    start_is a to x = number_after before_remainder s at (Ok (at + 3)) (start_passed a to x).0 (at + 3) refl (number byte_string) m w

    pub size_not_located : (stop : Stop) → m ≡ Err stop → LocatedIs s at (Err stop)
    size_not_located stop e a to x = not_both a (drop to s) stop (sym x.reads ∙ start_stopped s at m (start_is a to x) stop e)

    module _ (size remainder : ℕ) (e : m ≡ Ok (size, remainder)) where
      remainder_there : (a : RawEntry) (to : ℕ) → Reads entry s at a to → size ≤ length s - remainder
      remainder_there a to x =
          cases (ltb (length s - remainder) size)
          (λ l. absurd (ends_early≢read (sym (remainder_ends s at m (start_is a to x) size remainder (length s - remainder) e refl (ltb-true _ size l)) ∙ x.reads)))
          (λ l. ltb-false _ size l)

      shares_passed : (a : RawEntry) (to : ℕ) → Reads entry s at a to
          → ExactIs before_shares s (remainder + size) (Ok (remainder + size + 2)) × (2 ≤ length s - (remainder + size))
      shares_passed a to x =
          let r = rw (bytes_there s remainder size (length s - remainder) refl (remainder_there a to x)) at
          (sym (remainder_next s at m (start_is a to x) size remainder (length s - remainder) e refl) ∙ x.reads) in
          exact_place before_shares s (remainder + size) _ a (drop to s) r

      pub remainder_short : (stop : Stop) → length s - remainder < size + 2 → LocatedIs s at (Err stop)
      remainder_short stop h a to x = omega (arith, (shares_passed a to x).1)

      module _ (n : Result (ℕ × ℕ) Stop) (v : NumberIs (number plain_number) s (remainder + size + 2) n) where
        shares_is : (a : RawEntry) (to : ℕ) → Reads entry s at a to → NumberIs (after before_shares (number plain_number)) s (remainder + size) n
        shares_is a to x =
            number_after before_shares s (remainder + size) (Ok (remainder + size + 2)) (shares_passed a to x).0 (remainder + size + 2) refl (number plain_number) n v

        pub shares_not_located : (stop : Stop) → n ≡ Err stop → LocatedIs s at (Err stop)
        shares_not_located stop f a to x =
            not_both a (drop to s) stop
            (sym x.reads ∙ shares_stopped s at m (start_is a to x) size remainder (length s - remainder) e refl (remainder_there a to x) n (shares_is a to x) stop f)

        module _ (shares to : ℕ) (f : n ≡ Ok (shares, to)) where
          end_is : (a : RawEntry) (end : ℕ) → Reads entry s at a end → entry_end shares (take size (drop remainder s)) (drop to s) ≡ read a (drop end s)
          end_is a end x =
              sym (end_next s at m (start_is a end x) size remainder (length s - remainder) e refl (remainder_there a end x) n (shares_is a end x) shares to f) ∙ x.reads

          pub entry_located : Bytes s → (r : Result EntryAt Stop) → LocatedEndIs s to shares remainder size r → LocatedIs s at r
          entry_located b (Ok d) x =
              let first = subst (NumberIs (number byte_string) s (at + 3)) e w in
              let second = subst (NumberIs (number plain_number) s (remainder + size + 2)) f v in
              record {
                ahead = omega (arith, first.ahead, second.ahead, x.3.ahead);
                within = x.3.within;
                inside = omega (arith, x.1, x.2, second.ahead, x.3.ahead);
                shares = omega (arith, x.0, number_small plain_number s (remainder + size + 2) shares to n b v f);
                size = omega (arith, x.2, number_small byte_string s (at + 3) size remainder m b w e);
                ends = x.3.ends;
                here = λ a end y.
                    entry_there s at m (start_is a end y) size remainder (length s - remainder) e refl (remainder_there a end y) n (shares_is a end y) shares to f (Ok d)
                    (x.0, x.1, x.2, x.3.here a (drop end s) (rw (x.0, x.1, x.2) (end_is a end y)));
              }
          entry_located b (Err stop) x = λ a end y. x a (drop end s) (end_is a end y)
