-- What is written goes on with each page that is taken.
use Rattle.std.specs.Prelude.{Option, Some, None}
use Prim.Native.Nat.{ℕ, ◌+◌, ◌≤◌, ◌<◌}
use mathlib.Core.Path.{◌≡◌, refl, sym, ap, subst, ◌∙◌}
use mathlib.Core.Bool.{Bool, true, false}
use mathlib.Core.Logic.{◌⊎◌, inl, inr}
use mathlib.Core.List.{List, [], ◌∷◌, ◌++◌}
use native.Mathlib.Omega.{arith}
use lib.ListN.{length, take, drop, get_or, length-append}
use lib.Seq.{take_at, drop_at, drop-drop}
use lib.Dec.{eqb}
use borrow.Author.Tests.{eqb-true, eqb-false}
use borrow.Table.Steps.{cases}
use Rattle.bytestring.specs.Bytes.{front}
use Rattle.fips180.specs.Hash.{sha256}
use Rattle.key.specs.Key.{less}
use Rattle.key.proofs.Laws.{less_asymmetric, less_same}
use Rattle.page.specs.Reading.{concat}
use Rattle.page.specs.Page.{RawPage}
use Rattle.promises.specs.Promises.{Among}
use Rattle.promises.proofs.DifferenceLaws.{among_left, among_right}
use Rattle.states.proofs.Filing.{among-split}
use Rattle.filing.specs.Filed.{bytes_at}
use Rattle.staging.specs.Pages.{page_named}
use Rattle.keeping.specs.declared.PagePart.{PagePart}
use Rattle.keeping.specs.declared.Progress.{Progress}
use Rattle.keeping.specs.Kept.{LabelledPages, ToKeep}
use Rattle.keeping.specs.Inner.{string_of, part_of, InString, PartStands, PageBegins, PastPage, PutBehind, AddSays, TakenFrom, NextIs, LastWritten, KeptSoFar, InRows, DigestShared, progress_after, PassedOver, StepSays}
use Rattle.std.proofs.lemmas.Option.{none-some, same_Some}
use Rattle.keeping.proofs.Members.{rising_snoc, concat_snoc}
use Rattle.keeping.proofs.Parts.{in_register, in_sequence, part_length}
use Rattle.keeping.proofs.Places.{following_begins}
use Rattle.keeping.proofs.Turns.{NotBefore, not_before_rises, rises_before, before_unless_same, page_rises, word_stays}

-- ---- bytes behind bytes
front_behind : (o p b : List ℕ) → front (p ++ b) (front p o) ≡ front (p ++ b) o
front_behind o p b =
    ap (λ (l : List ℕ). (p ++ b) ++ l)
    (ap (λ (k : ℕ). drop k (front p o)) (length-append p b)
    ∙ sym (drop-drop (length b) (length p) (front p o))
    ∙ ap (drop (length b)) (drop_at p (drop (length p) o) (length p) refl)
    ∙ drop-drop (length b) (length p) o
    ∙ ap (λ (k : ℕ). drop k o) (sym (length-append p b)))

module _ {s p labels marks : List ℕ} {n : ℕ} {raws : List RawPage} (f : LabelledPages s p labels n raws)
    {root register : List ℕ} {rootEnd : ℕ} {chains words : List ℕ} {m : ℕ} (k : ToKeep s p labels marks n root register rootEnd chains words m) where
  abbrev TakenBefore : ℕ → ℕ → List ℕ → Type 0
  TakenBefore i j b = TakenFrom raws marks register rootEnd chains words i j b

  widen : (i j i' j' : ℕ) → i ≤ i' → j ≤ j' → (b : List ℕ) → TakenBefore i j b → TakenBefore i' j' b
  widen i j i' j' h l b (inl x) = inl (x.0, omega (arith, x.1), x.2, x.3)
  widen i j i' j' h l b (inr x) = inr (x.0, omega (arith, x.1), x.2)

  page_more : (i j : ℕ) (b : List ℕ) → TakenBefore (i + 1) j b → TakenBefore i j b ⊎ ((get_or marks i 0 ≡ 1) × (b ≡ bytes_at raws i))
  page_more i j b (inl x) =
      cases (eqb x.0 i)
      (λ e. let q = eqb-true x.0 i e in inr (rw (← q) x.2, sym x.3 ∙ ap (bytes_at raws) q))
      (λ e. inl (inl (x.0, omega (arith, x.1, eqb-false x.0 i e), x.2, x.3)))
  page_more i j b (inr x) = inl (inr x)

  word_more : (i j : ℕ) (b : List ℕ) → TakenBefore i (j + 1) b → TakenBefore i j b ⊎ (b ≡ page_named register rootEnd chains (get_or words j 0))
  word_more i j b (inl x) = inl (inl x)
  word_more i j b (inr x) =
      cases (eqb x.0 j)
      (λ e. let q = eqb-true x.0 j e in inr (sym x.2 ∙ ap (λ (l : ℕ). page_named register rootEnd chains (get_or words l 0)) q))
      (λ e. inl (inr (x.0, omega (arith, x.1, eqb-false x.0 j e), x.2)))

  -- ---- a page that is taken, from one row or from the other
  record Turn (i j : ℕ) (t : PagePart) (b : List ℕ) (i' j' at : ℕ) : Type 0 where
    stands : PartStands (string_of p register t) t b
    in_pages : i' ≤ n
    in_words : j' ≤ m
    begins : PageBegins p i' at
    count : i' + j' ≡ i + j + 1
    fewer : (i ≤ i') × (j ≤ j')
    new : TakenBefore i' j' b
    only : (c : List ℕ) → TakenBefore i' j' c → TakenBefore i j c ⊎ (c ≡ b)
    ahead : (d : List ℕ) → (i < n → NotBefore (sha256 (bytes_at raws i)) d)
        → (j < m → NotBefore (sha256 (page_named register rootEnd chains (get_or words j 0))) d) → NotBefore (sha256 b) d
    page_ahead : i' < n → NotBefore (sha256 (bytes_at raws i')) (sha256 b)
    word_ahead : j' < m → NotBefore (sha256 (page_named register rootEnd chains (get_or words j' 0))) (sha256 b)

  module _ (i j : ℕ) (t : PagePart) (in_pages : i ≤ n) (in_words : j ≤ m) where
    page_turn : t.saved ≡ false → (i < n → get_or marks i 0 ≡ 1) → NextIs raws n p register rootEnd chains words m i j t false
        → Turn i j t (bytes_at raws i) (i + 1) j t.to
    page_turn e mark (h, w, b, l) =
        record {
          stands = subst (λ (x : List ℕ). PartStands x t (bytes_at raws i)) (sym (in_sequence p register t e)) w;
          in_pages = omega arith;
          in_words = in_words;
          begins = b;
          count = omega arith;
          fewer = (omega arith, omega arith);
          new = inl (i, omega arith, mark h, refl);
          only = λ c x. drop_mark (page_more i j c x);
          ahead = λ d x y. x h;
          page_ahead = λ q. less_asymmetric (sha256 (bytes_at raws i)) (sha256 (bytes_at raws (i + 1))) (page_rises f k i q);
          word_ahead = λ q. rw w.digest at (l q);
        }
      where
        drop_mark : {c : List ℕ} → TakenBefore i j c ⊎ ((get_or marks i 0 ≡ 1) × (c ≡ bytes_at raws i))
            → TakenBefore i j c ⊎ (c ≡ bytes_at raws i)
        drop_mark (inl x) = inl x
        drop_mark (inr x) = inr x.1

    word_turn : t.saved ≡ true → (at : ℕ) → PageBegins p i at → NextIs raws n p register rootEnd chains words m i j t true
        → Turn i j t (page_named register rootEnd chains (get_or words j 0)) i (j + 1) at
    word_turn e at b (h, w, l) =
        record {
          stands = subst (λ (x : List ℕ). PartStands x t (page_named register rootEnd chains (get_or words j 0))) (sym (in_register p register t e)) w;
          in_pages = in_pages;
          in_words = omega arith;
          begins = b;
          count = omega arith;
          fewer = (omega arith, omega arith);
          new = inr (j, omega arith, refl);
          only = word_more i j;
          ahead = λ d x y. y h;
          page_ahead = λ q. rw w.digest at (l q);
          word_ahead = λ q. word_stays f k j q;
        }

  -- ---- what is written so far goes on
  abbrev turned : ℕ → ℕ → ℕ → ℕ → PagePart → Progress
  turned i j at length t = record { i = i; j = j; place = at; length = length; last = Some t }

  module _ (old : List ℕ) (g : Progress) (out : List ℕ) (u : KeptSoFar raws p marks n register rootEnd chains words m old g out)
      (t : PagePart) (b : List ℕ) (i' j' at : ℕ) (w : Turn g.i g.j t b i' j' at) where
    wider : (c : List ℕ) → TakenBefore g.i g.j c → TakenBefore i' j' c
    wider = widen g.i g.j i' j' w.fewer.0 w.fewer.1

    -- the last page has the same bytes
    repeats : (l : PagePart) → g.last ≡ Some l → part_of (string_of p register t) t ≡ part_of (string_of p register l) l
        → KeptSoFar raws p marks n register rootEnd chains words m old (turned i' j' at g.length t) out
    repeats l a e =
        let v = u.last l a in
        let q : v.bytes ≡ b = sym v.stands.part ∙ sym e ∙ w.stands.part in
        record {
          written = u.written;
          rise = u.rise;
          no_other = λ c x. wider c (u.no_other c x);
          all = λ c x. old_or_last c q v.there (w.only c x);
          none = λ z. absurd (none-some t (sym z));
          last = λ l x. subst (λ (y : PagePart). LastWritten raws n p register rootEnd chains words m u.written (turned i' j' at g.length t) y) (same_Some t l x) (record {
            bytes = b;
            stands = w.stands;
            there = rw q at v.there;
            greatest = rw q at v.greatest;
            page_ahead = w.page_ahead;
            word_ahead = w.word_ahead;
          });
          size = u.size;
          output = u.output;
        }
      where
        old_or_last : (c : List ℕ) {l : List ℕ} → l ≡ b → Among l u.written → TakenBefore g.i g.j c ⊎ (c ≡ b) → Among c u.written
        old_or_last c q x (inl y) = u.all c y
        old_or_last c q x (inr y) = subst (λ (z : List ℕ). Among z u.written) (q ∙ sym y) x

    -- the last page, if there is one, has another digest
    module _ (other : (l : PagePart) → g.last ≡ Some l → t.digest ≡ l.digest → ⊥) where
      greater : (c : List ℕ) → Among c u.written → less (sha256 c) (sha256 b) ≡ true
      greater c x = by_last g.last refl
        where
          by_last : (o : Option PagePart) → g.last ≡ o → less (sha256 c) (sha256 b) ≡ true
          by_last None q = absurd (subst (Among c) (u.none q) x)
          by_last (Some l) q =
              let v = u.last l q in
              rises_before (sha256 c) (sha256 v.bytes) (sha256 b) (v.greatest c x)
              (before_unless_same (sha256 v.bytes) (sha256 b) (w.ahead (sha256 v.bytes) v.page_ahead v.word_ahead)
              (λ e. other l q (w.stands.digest ∙ e ∙ sym v.stands.digest)))

      abbrev more : List (List ℕ)
      more = u.written ++ (b ∷ [])

      among_new : Among b more
      among_new = among_right u.written (b ∷ []) b (inl refl)

      taken_more : (c : List ℕ) → Among c more → TakenBefore i' j' c
      taken_more c x =
          among-split u.written (b ∷ []) c x (λ y. wider c (u.no_other c y)) only_new
        where
          only_new : Among c (b ∷ []) → TakenBefore i' j' c
          only_new (inl e) = rw e w.new
          only_new (inr y) = absurd y

      all_more : (c : List ℕ) → TakenBefore g.i g.j c ⊎ (c ≡ b) → Among c more
      all_more c (inl y) = among_left u.written (b ∷ []) c (u.all c y)
      all_more c (inr y) = subst (λ (z : List ℕ). Among z more) (sym y) among_new

      greatest_more : (c : List ℕ) → Among c more → NotBefore (sha256 b) (sha256 c)
      greatest_more c x =
          among-split u.written (b ∷ []) c x (λ y. less_asymmetric (sha256 c) (sha256 b) (greater c y)) only_new
        where
          only_new : Among c (b ∷ []) → NotBefore (sha256 b) (sha256 c)
          only_new (inl e) = less_same (sha256 b) (sha256 c) (ap sha256 (sym e))
          only_new (inr y) = absurd y

      length_more : length (concat (λ c. c) more) ≡ length (concat (λ c. c) u.written) + length b
      length_more = ap length (concat_snoc u.written b) ∙ length-append (concat (λ c. c) u.written) b

      adds_new : (out' : List ℕ) (r : ℕ) → length out ≡ length old → PutBehind (part_of (string_of p register t) t) out g.length out' r
          → KeptSoFar raws p marks n register rootEnd chains words m old (turned i' j' at r t) out'
      adds_new out' r same put =
          record {
            written = more;
            rise = rising_snoc u.written b u.rise greater;
            no_other = taken_more;
            all = λ c x. all_more c (w.only c x);
            none = λ z. absurd (none-some t (sym z));
            last = λ l x. subst (λ (y : PagePart). LastWritten raws n p register rootEnd chains words m more (turned i' j' at r t) y) (same_Some t l x) (record {
              bytes = b;
              stands = w.stands;
              there = among_new;
              greatest = greatest_more;
              page_ahead = w.page_ahead;
              word_ahead = w.word_ahead;
            });
            size = omega (arith, put.end, u.size, length_more, ap length w.stands.part);
            output = λ h.
                let before : out ≡ front (concat (λ c. c) u.written) old = u.output (omega (arith, length_more)) in
                let room : g.length + length (part_of (string_of p register t) t) ≤ length out =
                omega (arith, u.size, length_more, ap length w.stands.part) in
                let taken : take g.length out ≡ concat (λ c. c) u.written =
                rw before (take_at (concat (λ c. c) u.written) (drop (length (concat (λ c. c) u.written)) old) g.length (sym u.size)) in
                put.put room ∙ rw (taken, w.stands.part, before, concat_snoc u.written b) (front_behind old (concat (λ c. c) u.written) b);
          }

    adds : (out' : List ℕ) (r : ℕ) → length out ≡ length old → AddSays p register g.last t out g.length (Some r) out'
        → KeptSoFar raws p marks n register rootEnd chains words m old (turned i' j' at r t) out'
    adds out' r same (inl (l, a, e, q, o)) = rw (q, o) (repeats l a e)
    adds out' r same (inr (x, put)) = adds_new x out' r same put

    unequal_share : (out' : List ℕ) → AddSays p register g.last t out g.length None out'
        → DigestShared raws marks n register rootEnd chains words m
    unequal_share out' (l, a, d, x) =
        let v = u.last l a in
        record {
          one = b;
          other = v.bytes;
          one_taken = widen i' j' n m w.in_pages w.in_words b w.new;
          other_taken = widen i' j' n m w.in_pages w.in_words v.bytes (wider v.bytes (u.no_other v.bytes v.there));
          same = sym w.stands.digest ∙ d ∙ v.stands.digest;
          unequal = λ e. x (w.stands.part ∙ e ∙ sym v.stands.part);
        }

  -- the bound of the length grows with the rows
  stays_low : (g : Progress) → InRows p n m g → (t : PagePart) (b : List ℕ) (i' j' at : ℕ)
      → Turn g.i g.j t b i' j' at → (out out' : List ℕ) (r : ℕ)
      → AddSays p register g.last t out g.length (Some r) out' → InRows p n m (turned i' j' at r t)
  stays_low g rows t b i' j' at w out out' r (inl (l, a, e, q, o)) =
      record { pages = w.in_pages; words = w.in_words; begins = w.begins; low = omega (arith, rows.low, w.count) }
  stays_low g rows t b i' j' at w out out' r (inr (x, put)) =
      record {
        pages = w.in_pages;
        words = w.in_words;
        begins = w.begins;
        low = omega (arith, rows.low, w.count, put.end, part_length (string_of p register t) t w.stands.places, w.stands.places.low);
      }

  -- a page that is not kept is passed over
  passed_over : (old : List ℕ) (g : Progress) (out : List ℕ) → KeptSoFar raws p marks n register rootEnd chains words m old g out
      → g.i < n → (get_or marks g.i 0 ≡ 1 → ⊥) → (at : ℕ)
      → KeptSoFar raws p marks n register rootEnd chains words m old
      (record { i = g.i + 1; j = g.j; place = at; length = g.length; last = g.last }) out
  passed_over old g out u h mark at =
      record {
        written = u.written;
        rise = u.rise;
        no_other = λ c x. widen g.i g.j (g.i + 1) g.j (omega arith) (omega arith) c (u.no_other c x);
        all = λ c x. kept_before c (page_more g.i g.j c x);
        none = u.none;
        last = λ l a.
            let v = u.last l a in
            record {
              bytes = v.bytes;
              stands = v.stands;
              there = v.there;
              greatest = v.greatest;
              page_ahead = λ q.
                  not_before_rises (sha256 (bytes_at raws g.i)) (sha256 (bytes_at raws (g.i + 1))) (sha256 v.bytes) (v.page_ahead h) (page_rises f k g.i q);
              word_ahead = v.word_ahead;
            };
        size = u.size;
        output = u.output;
      }
    where
      kept_before : (c : List ℕ) → TakenBefore g.i g.j c ⊎ ((get_or marks g.i 0 ≡ 1) × (c ≡ bytes_at raws g.i))
          → Among c u.written
      kept_before c (inl x) = u.all c x
      kept_before c (inr x) = absurd (mark x.0)

-- ---- what a step says
module _ {s p labels marks : List ℕ} {n : ℕ} {root register : List ℕ} {rootEnd : ℕ} {chains words : List ℕ} {m : ℕ}
    (k : ToKeep s p labels marks n root register rootEnd chains words m) (g : Progress) (rows : InRows p n m g) (out : List ℕ) where
  pub step_passes : PassedOver marks n g.i true → (at : ℕ) → PastPage p g.place at
      → StepSays s p labels marks n register rootEnd chains words m g out
      (Some (record { i = g.i + 1; j = g.j; place = at; length = g.length; last = g.last })) out
  step_passes (h, mark) at past = (
    record { pages = omega arith; words = rows.words; begins = following_begins k.filed.1 h rows.begins past; low = omega (arith, rows.low) },
    omega arith,
    λ raws old f same u. passed_over f k old g out u h mark at,
  )

  module _ (t : PagePart) (kept : PassedOver marks n g.i false)
      (next : (raws : List RawPage) → LabelledPages s p labels n raws → NextIs raws n p register rootEnd chains words m g.i g.j t t.saved)
      (out' : List ℕ) where
    abbrev Next : Bool → Type 0
    Next b = (raws : List RawPage) → LabelledPages s p labels n raws → NextIs raws n p register rootEnd chains words m g.i g.j t b

    goes_on_by : (b : Bool) → t.saved ≡ b → Next b → (r : ℕ) → AddSays p register g.last t out g.length (Some r) out'
        → (g' : Progress) → g' ≡ progress_after g.i g.j g.place t r b
        → StepSays s p labels marks n register rootEnd chains words m g out (Some g') out'
    goes_on_by true e x r a g' q =
        subst (λ (y : Progress). StepSays s p labels marks n register rootEnd chains words m g out (Some y) out') (sym q) (
          (let f = k.filed.1 in
              stays_low f k g rows t _ _ _ _
              (word_turn f k g.i g.j t rows.pages rows.words e g.place rows.begins (x _ f)) out out' r a),
          omega arith,
          λ raws old f same u. adds f k old g out u t _ _ _ _
              (word_turn f k g.i g.j t rows.pages rows.words e g.place rows.begins (x raws f)) out' r same a,
        )
    goes_on_by false e x r a g' q =
        subst (λ (y : Progress). StepSays s p labels marks n register rootEnd chains words m g out (Some y) out') (sym q) (
          (let f = k.filed.1 in
              stays_low f k g rows t _ _ _ _
              (page_turn f k g.i g.j t rows.pages rows.words e kept (x _ f)) out out' r a),
          omega arith,
          λ raws old f same u. adds f k old g out u t _ _ _ _
              (page_turn f k g.i g.j t rows.pages rows.words e kept (x raws f)) out' r same a,
        )

    pub step_goes_on : (a : Option ℕ) → AddSays p register g.last t out g.length a out' → (r : ℕ) → a ≡ Some r
        → (g' : Progress) → g' ≡ progress_after g.i g.j g.place t r t.saved
        → StepSays s p labels marks n register rootEnd chains words m g out (Some g') out'
    step_goes_on a says r e =
        goes_on_by t.saved refl next r (subst (λ (x : Option ℕ). AddSays p register g.last t out g.length x out') e says)

    shares_by : (b : Bool) → t.saved ≡ b → Next b → AddSays p register g.last t out g.length None out'
        → (raws : List RawPage) (old : List ℕ) → LabelledPages s p labels n raws → KeptSoFar raws p marks n register rootEnd chains words m old g out
        → DigestShared raws marks n register rootEnd chains words m
    shares_by true e x a raws old f u =
        unequal_share f k old g out u t _ _ _ _
        (word_turn f k g.i g.j t rows.pages rows.words e g.place rows.begins (x raws f)) out' a
    shares_by false e x a raws old f u =
        unequal_share f k old g out u t _ _ _ _
        (page_turn f k g.i g.j t rows.pages rows.words e kept (x raws f)) out' a

    pub step_shares : (a : Option ℕ) → AddSays p register g.last t out g.length a out' → a ≡ None
        → StepSays s p labels marks n register rootEnd chains words m g out None out'
    step_shares a says e =
        shares_by t.saved refl next (subst (λ (x : Option ℕ). AddSays p register g.last t out g.length x out') e says)

    places_by : (b : Bool) → t.saved ≡ b → Next b → InString (string_of p register t) t
    places_by true e x = subst (λ (y : List ℕ). InString y t) (sym (in_register p register t e)) (x _ k.filed.1).1.places
    places_by false e x = subst (λ (y : List ℕ). InString y t) (sym (in_sequence p register t e)) (x _ k.filed.1).1.places

    pub next_places : InString (string_of p register t) t
    next_places = places_by t.saved refl next
