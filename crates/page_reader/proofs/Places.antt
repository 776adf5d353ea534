-- Readers at a place of a slice: what each gives, in the facts that the branches of the code leave.
use Rattle.std.specs.Prelude.{Result, Ok, Err}
use Prim.Native.Nat.{ℕ, zero, suc, ◌+◌, ◌-◌, ◌*◌, ◌≤◌, ◌<◌}
use mathlib.Core.Path.{◌≡◌, refl, sym, ap, subst, ◌∙◌}
use mathlib.Core.Bool.{Bool, true, false, cond}
use mathlib.Core.Option.{Option, some}
use mathlib.Core.List.{List, [], ◌∷◌, ◌++◌, append-nil}
use native.Mathlib.Omega.{arith}
use native.Mathlib.Numerals.{add-one}
use lib.ListN.{length, take, drop, get_or, drop_of_length-le, length-drop, take-append-drop}
use lib.Seq.{drop-cons, drop-drop, take_all, length-take-le}
use lib.Dec.{eqb}
use borrow.Table.Steps.{cases}
use borrow.Author.Tests.{eq-eqb, ne_eqb, lt-ltb, le-ltb}
use Rattle.bytestring.specs.Bytes.{equal}
use Rattle.value.specs.Value.{digest_in, is_codec, value_in}
use Rattle.page.specs.Reading.{Read, read, ends_early, departs, Reader, and_then, exactly, any_bytes}
use Rattle.page.specs.Number.{one_byte, two_bytes, number}
use Rattle.page.specs.Page.{before_codec, after_codec, link, null, gap, codec, value}
use Rattle.page_reader.specs.Place.{Reads, read_stop, after, ExactIs, NumberIs, LinkIs, value_end, link_at, GapIs}
use Rattle.page_reader.specs.declared.Stop.{Stop}
use Rattle.page_reader.specs.declared.Stop.TheVariants.{EndsEarly, Departs}
use Rattle.page.proofs.Numbers.{low_departs, first_reads, one_follows, two_follow, high_departs}

-- ---- any reader
-- the byte at a place
byte_at : (s : List ℕ) (at b : ℕ) → at < length s → b ≡ get_or s at 0 → drop at s ≡ b ∷ drop (at + 1) s
byte_at s at b h e = rw (e, add-one at) (drop-cons s at 0 h)

-- what follows a reader that stopped
pub then_stops : {A B : Type 0} {r : Read A} (f : A → List ℕ → Read B) (stop : Stop) → r ≡ read_stop stop → and_then r f ≡ read_stop stop
then_stops f EndsEarly e = rw e
then_stops f Departs e = rw e

pub then_assoc : {A B C : Type 0} (r : Read A) (f : A → List ℕ → Read B) (g : B → List ℕ → Read C)
    → and_then r (λ a t. and_then (f a t) g) ≡ and_then (and_then r f) g
then_assoc (read a s) f g = refl
then_assoc ends_early f g = refl
then_assoc departs f g = refl

-- q at one place reads on as p at a later one
pub reads_on : {A : Type 0} {p q : Reader A} {s : List ℕ} {at to end : ℕ} {a : A} → at ≤ to → q (drop at s) ≡ p (drop to s) → Reads p s to a end → Reads q s at a end
reads_on h e w = record { reads = e ∙ w.reads; ahead = omega (arith, w.ahead); within = w.within }

number_on : (p q : Reader ℕ) (s : List ℕ) (at to : ℕ) → at ≤ to → q (drop at s) ≡ p (drop to s) → (r : Result (ℕ × ℕ) Stop) → NumberIs p s to r → NumberIs q s at r
number_on p q s at to h e (Ok (n, end)) w = reads_on h e w
number_on p q s at to h e (Err stop) w = e ∙ w

-- ---- fixed bytes
-- the first of them are compared with as many bytes, and the others are read after those
exact_compared : (p q a r : List ℕ) → length a ≡ length p → exactly (p ++ q) (a ++ r) ≡ cond (equal a p) (exactly q r) departs
unfolding exactly equal
exact_compared [] q [] r e = refl
exact_compared [] q (b ∷ a) r e = absurd (omega arith)
exact_compared (c ∷ p) q [] r e = absurd (omega arith)
exact_compared (c ∷ p) q (b ∷ a) r e =
    cases (eqb b c) (λ h. rw h (exact_compared p q a r (omega arith))) (λ h. rw h)

module _ (bytes s : List ℕ) (at : ℕ) where
  -- there are none
  pub exact_empty : length bytes ≡ 0 → ExactIs bytes s at (Ok at)
  unfolding exactly
  exact_empty h = let e : bytes ≡ [] = drop_of_length-le bytes {i = 0} (omega arith) in (rw e, omega arith)

  -- as many are left
  module _ (left : ℕ) (el : left ≡ length s - at) (h : length bytes ≤ left) where
    exact_whole : exactly bytes (drop at s) ≡ cond (equal (take (length bytes) (drop at s)) bytes) (read tt (drop (at + length bytes) s)) departs
    unfolding exactly
    exact_whole =
        rw (append-nil, take-append-drop, drop-drop)
        at (exact_compared bytes [] (take (length bytes) (drop at s)) (drop (length bytes) (drop at s)) (length-take-le (length bytes) (drop at s) (omega (arith, length-drop at s))))

    module _ (to : ℕ) (f : to ≡ at + length bytes) (r : Bool) (e : r ≡ equal (take (to - at) (drop at s)) bytes) where
      compared : equal (take (length bytes) (drop at s)) bytes ≡ r
      compared = let n : to - at ≡ length bytes = omega arith in sym (rw n at e)

      pub exact_there : r ≡ true → ExactIs bytes s at (Ok to)
      exact_there q = (exact_whole ∙ rw (compared, q, f), f)

      pub exact_differs : r ≡ false → exactly bytes (drop at s) ≡ departs
      exact_differs q = exact_whole ∙ rw (compared, q)

  -- fewer are left
  module _ (h : length s - at < length bytes) where
    pub left_taken : length s - at ≡ length (take (length s - at) bytes)
    left_taken = sym (length-take-le (length s - at) bytes (omega arith))

    exact_short : exactly bytes (drop at s) ≡ cond (equal (take (length s - at) (drop at s)) (take (length s - at) bytes)) ends_early departs
    unfolding exactly
    exact_short =
        let n : ℕ = length s - at in
        let e : length (drop at s) ≡ length (take n bytes) = omega (arith, length-drop at s, left_taken) in
        rw (take_all n (drop at s) (omega (arith, length-drop at s)))
        (rw (append-nil, take-append-drop, drop-cons bytes n 0 h) at (exact_compared (take n bytes) (drop n bytes) (drop at s) [] e))

    module _ (r : Bool) (e : r ≡ equal (take (length s - at) (drop at s)) (take (length s - at) bytes)) where
      pub exact_ends : r ≡ true → exactly bytes (drop at s) ≡ ends_early
      exact_ends q = exact_short ∙ rw (sym e, q)

      pub exact_departs : r ≡ false → exactly bytes (drop at s) ≡ departs
      exact_departs q = exact_short ∙ rw (sym e, q)

    -- none is left
    pub exact_none : length s ≤ at → exactly bytes (drop at s) ≡ ends_early
    unfolding equal
    exact_none k =
        let e : length s - at ≡ 0 = omega arith in
        exact_short ∙ rw (drop_of_length-le s k, e)

-- ---- any bytes
any_reads : (n : ℕ) (l : List ℕ) → n ≤ length l → any_bytes n l ≡ read (take n l) (drop n l)
unfolding any_bytes
any_reads zero l h = refl
any_reads (suc n) [] h = absurd (omega arith)
any_reads (suc n) (x ∷ l) h = rw (any_reads n l (omega arith))

any_ends : (n : ℕ) (l : List ℕ) → length l < n → any_bytes n l ≡ ends_early
unfolding any_bytes
any_ends zero l h = absurd (omega arith)
any_ends (suc n) [] h = refl
any_ends (suc n) (x ∷ l) h = rw (any_ends n l (omega arith))

-- n bytes from a place on, of which `left` follow it
module _ (s : List ℕ) (at n left : ℕ) (el : left ≡ length s - at) where
  pub bytes_there : n ≤ left → any_bytes n (drop at s) ≡ read (take n (drop at s)) (drop (at + n) s)
  bytes_there h = any_reads n (drop at s) (omega (arith, length-drop at s)) ∙ rw (drop-drop n at s)

  pub bytes_end : left < n → any_bytes n (drop at s) ≡ ends_early
  bytes_end h = any_ends n (drop at s) (omega (arith, length-drop at s))

-- ---- the second and third byte of a number
pub one_none : (s : List ℕ) (at : ℕ) → length s ≤ at → one_byte (drop at s) ≡ ends_early
unfolding one_byte
one_none s at h = rw (drop_of_length-le s h)

pub two_none : (s : List ℕ) (at : ℕ) → length s ≤ at → two_bytes (drop at s) ≡ ends_early
unfolding two_bytes
two_none s at h = rw (drop_of_length-le s h)

module _ (s : List ℕ) (at b : ℕ) (h : at < length s) (e : b ≡ get_or s at 0) where
  pub one_low : b < 24 → one_byte (drop at s) ≡ departs
  unfolding one_byte
  one_low l = rw (byte_at s at b h e, lt-ltb b 24 l)

  pub one_there : 24 ≤ b → Reads one_byte s at b (at + 1)
  unfolding one_byte
  one_there l = record { reads = rw (byte_at s at b h e, le-ltb b 24 l); ahead = omega arith; within = omega arith }

  zero_first : (t : List ℕ) → b ≡ 0 → two_bytes (b ∷ t) ≡ departs
  unfolding two_bytes
  zero_first [] z = rw (eq-eqb b 0 z)
  zero_first (c ∷ t) z = rw (eq-eqb b 0 z)

  pub two_low : b ≡ 0 → two_bytes (drop at s) ≡ departs
  two_low z = rw (byte_at s at b h e) (zero_first (drop (at + 1) s) z)

  module _ (f : b ≡ 0 → ⊥) where
    pub two_ends : length s ≤ at + 1 → two_bytes (drop at s) ≡ ends_early
    unfolding two_bytes
    two_ends l = rw (byte_at s at b h e, drop_of_length-le s l, ne_eqb b 0 f)

    pub two_there : (c : ℕ) → at + 1 < length s → c ≡ get_or s (at + 1) 0 → Reads two_bytes s at (b * 256 + c) (at + 2)
    unfolding two_bytes
    two_there c l q =
        let n : at + 1 + 1 ≡ at + 2 = omega arith in
        record { reads = rw (byte_at s at b h e, byte_at s (at + 1) c l q, ne_eqb b 0 f, n); ahead = omega arith; within = omega arith }

-- ---- a number, by its first byte
pub number_none : (s : List ℕ) (at kind : ℕ) → length s ≤ at → number kind (drop at s) ≡ ends_early
unfolding number
number_none s at kind h = rw (drop_of_length-le s h)

module _ (s : List ℕ) (at kind b least : ℕ) (h : at < length s) (e : b ≡ get_or s at 0) (k : least ≡ kind) where
  pub number_low : b < least → number kind (drop at s) ≡ departs
  number_low l = rw (byte_at s at b h e) (low_departs kind b (drop (at + 1) s) (omega arith))

  module _ (l : least ≤ b) where
    pub number_there : b - least < 24 → Reads (number kind) s at (b - least) (at + 1)
    number_there m = record {
      reads = rw (byte_at s at b h e, k) (first_reads kind b (drop (at + 1) s) (omega arith) (omega arith));
      ahead = omega arith;
      within = omega arith;
    }

    pub number_one : b - least ≡ 24 → (r : Result (ℕ × ℕ) Stop) → NumberIs one_byte s (at + 1) r → NumberIs (number kind) s at r
    number_one m = number_on one_byte (number kind) s at (at + 1) (omega arith) (rw (byte_at s at b h e) (one_follows kind b (drop (at + 1) s) (omega arith)))

    pub number_two : b - least ≡ 25 → (r : Result (ℕ × ℕ) Stop) → NumberIs two_bytes s (at + 1) r → NumberIs (number kind) s at r
    number_two m = number_on two_bytes (number kind) s at (at + 1) (omega arith) (rw (byte_at s at b h e) (two_follow kind b (drop (at + 1) s) (omega arith)))

    pub number_high : 24 ≤ b - least → (b - least ≡ 24 → ⊥) → (b - least ≡ 25 → ⊥) → number kind (drop at s) ≡ departs
    number_high m f g = rw (byte_at s at b h e) (high_departs kind b (drop (at + 1) s) (omega arith))

-- ---- fixed bytes, and then another reader
module _ (bytes s : List ℕ) (at : ℕ) (m : Result ℕ Stop) (w : ExactIs bytes s at m) where
  pub stop_after : {A : Type 0} (p : Reader A) (stop : Stop) → m ≡ Err stop → after bytes p (drop at s) ≡ read_stop stop
  stop_after p stop e = then_stops (λ _ t. p t) stop (subst (ExactIs bytes s at) e w)

  module _ (to : ℕ) (e : m ≡ Ok to) where
    exact_here : ExactIs bytes s at (Ok to)
    exact_here = subst (ExactIs bytes s at) e w

    to_later : at ≤ to
    to_later = omega (arith, exact_here.1)

    pub after_is : {A : Type 0} (p : Reader A) → after bytes p (drop at s) ≡ p (drop to s)
    after_is p = rw exact_here.0

    pub number_after : (p : Reader ℕ) (r : Result (ℕ × ℕ) Stop) → NumberIs p s to r → NumberIs (after bytes p) s at r
    number_after p = number_on p (after bytes p) s at to to_later (after_is p)

    pub link_after : (stands : List ℕ → ℕ → List ℕ) (p : Reader (List ℕ)) (before : ℕ) (r : Result ℕ Stop)
        → LinkIs stands p before s to r → LinkIs stands (after bytes p) (length bytes + before) s at r
    link_after stands p before (Ok digest) v =
        record { whole = reads_on to_later (after_is p) v.whole; head = omega (arith, v.head, exact_here.1) }
    link_after stands p before (Err stop) v = after_is p ∙ v

    pub gap_after : (p : Reader (Option (List ℕ))) (r : Result (ℕ × ℕ) Stop) → GapIs p s to r → GapIs (after bytes p) s at r
    gap_after p (Ok (digest, end)) v = record { whole = reads_on to_later (after_is p) v.whole; last = v.last }
    gap_after p (Err stop) v = after_is p ∙ v

    -- so many bytes are left behind them
    module _ (left : ℕ) (el : left ≡ length s - to) where
      pub digest_ends : left < 32 → after bytes (any_bytes 32) (drop at s) ≡ ends_early
      digest_ends h = after_is (any_bytes 32) ∙ bytes_end s to 32 left el h

      pub digest_there : 32 ≤ left → LinkIs digest_in (after bytes (any_bytes 32)) (length bytes) s at (Ok to)
      digest_there h = record {
        whole = record { reads = after_is (any_bytes 32) ∙ bytes_there s to 32 left el h; ahead = omega (arith, to_later); within = omega arith };
        head = omega (arith, exact_here.1);
      }

-- ---- links
pub digest_within : (stands : List ℕ → ℕ → List ℕ) (p : Reader (List ℕ)) (before : ℕ) (s : List ℕ) (at digest : ℕ) (m : Result ℕ Stop)
    → LinkIs stands p before s at m → m ≡ Ok digest → digest + 32 ≤ length s
digest_within stands p before s at digest m w e = (subst (LinkIs stands p before s at) e w).whole.within

-- ---- values, from the codec on
pub codec_none : (s : List ℕ) (at : ℕ) → length s ≤ at → value_end (drop at s) ≡ ends_early
unfolding value_end codec
codec_none s at h = rw (drop_of_length-le s h)

module _ (s : List ℕ) (at : ℕ) (h : at < length s) (r : Bool) (e : r ≡ is_codec (get_or s at 0)) where
  pub codec_departs : r ≡ false → value_end (drop at s) ≡ departs
  unfolding value_end codec
  codec_departs q = rw (drop-cons s at 0 h, sym e, q)

  module _ (q : r ≡ true) where
    pub codec_passed : value_end (drop at s) ≡ and_then (after after_codec (any_bytes 32) (drop (at + 1) s)) (λ d t. read (get_or s at 0 ∷ d) t)
    unfolding value_end codec
    codec_passed =
        rw (byte_at s at (get_or s at 0) h refl, sym e, q)
        (then_assoc (exactly after_codec (drop (at + 1) s)) (λ _ t. any_bytes 32 t) (λ d t. read (get_or s at 0 ∷ d) t))

    pub value_end_lem : (m : Result ℕ Stop) → LinkIs digest_in (after after_codec (any_bytes 32)) 2 s (at + 1) m → LinkIs value_in value_end 3 s at m
    value_end_lem (Ok digest) w =
        let n : digest - 3 ≡ at = omega (arith, w.head) in
        record {
          whole = record { reads = codec_passed ∙ rw (w.whole.reads, n); ahead = omega (arith, w.whole.ahead); within = w.whole.within };
          head = omega (arith, w.head);
        }
    value_end_lem (Err stop) w = codec_passed ∙ then_stops _ stop w

-- ---- values
module _ (s : List ℕ) (at : ℕ) (m : Result ℕ Stop) (w : ExactIs before_codec s at m) where
  pub value_stops : (stop : Stop) → m ≡ Err stop → value (drop at s) ≡ read_stop stop
  unfolding value value_end
  value_stops = stop_after before_codec s at m w value_end

  pub value_from_codec : (to : ℕ) → m ≡ Ok to → (r : Result ℕ Stop) → LinkIs value_in value_end 3 s to r → LinkIs value_in value 9 s at r
  unfolding value value_end
  value_from_codec to e = link_after before_codec s at m w to e value_in value_end 3

-- ---- gaps
some_link : (s : List ℕ) (digest : ℕ) → 0 < digest → some (take 32 (drop digest s)) ≡ link_at s digest
unfolding link_at
some_link s zero z = absurd (omega arith)
some_link s (suc before) z = refl

pub gap_none : (s : List ℕ) (at : ℕ) → length s ≤ at → gap (drop at s) ≡ ends_early
unfolding gap
gap_none s at h = rw (drop_of_length-le s h)

module _ (s : List ℕ) (at : ℕ) (h : at < length s) where
  pub gap_null : get_or s at 0 ≡ null → GapIs gap s at (Ok (0, at + 1))
  unfolding gap link_at
  gap_null e = record {
    whole = record { reads = rw (drop-cons s at 0 h, eq-eqb (get_or s at 0) null e, add-one at); ahead = omega arith; within = omega arith };
    last = λ z. absurd (omega arith);
  }

  module _ (f : get_or s at 0 ≡ null → ⊥) where
    pub link_follows : gap (drop at s) ≡ and_then (link (drop at s)) (λ d t. read (some d) t)
    unfolding gap
    link_follows = rw (drop-cons s at 0 h, ne_eqb (get_or s at 0) null f)

    module _ (m : Result ℕ Stop) (w : LinkIs digest_in link 9 s at m) where
      pub gap_stops : (stop : Stop) → m ≡ Err stop → gap (drop at s) ≡ read_stop stop
      gap_stops stop e = link_follows ∙ then_stops (λ d t. read (some d) t) stop (subst (LinkIs digest_in link 9 s at) e w)

      pub gap_there : (digest : ℕ) → m ≡ Ok digest → GapIs gap s at (Ok (digest, digest + 32))
      gap_there digest e =
          let v : LinkIs digest_in link 9 s at (Ok digest) = subst (LinkIs digest_in link 9 s at) e w in
          record {
            whole = record {
              reads = link_follows ∙ rw v.whole.reads (ap (λ (g : Option (List ℕ)). read g (drop (digest + 32) s)) (some_link s digest (omega (arith, v.head))));
              ahead = v.whole.ahead;
              within = v.whole.within;
            };
            last = λ _. refl;
          }
