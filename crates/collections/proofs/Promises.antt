-- The promises on the screens of a register.
use Prim.Native.Nat.{ℕ}
use mathlib.Core.Path.{◌≡◌, sym, ◌∙◌}
use mathlib.Core.Bool.{true, false, false≢true}
use mathlib.Core.List.Sublistᴰ
use mathlib.Core.List.{List, [], ◌∷◌, Sublistᴰ}
use native.Mathlib.Omega.{arith}
use lib.Dec.{ltb, leb}
use lib.ListN.{length}
use borrow.Author.Tests.{le-ltb, lt-ltb, le-leb, leb-true}
use borrow.Table.Steps.{cases}
use Rattle.limits.specs.Limits.{longest}
use Rattle.bytestring.specs.Bytes.{ByteString}
use Rattle.bytestring.proofs.Tools.{and_inv}
use Rattle.bytestring.proofs.Equal.{equal_refl, equal-cases}
use Rattle.answer.specs.Answer.{number_of}
use Rattle.answer.specs.Inner.{FirstFits}
use Rattle.answer.specs.declared.Refusal.{Refusal}
use Rattle.answer.specs.declared.Refusal.TheVariants.{UnlawfulKey, NoSuchScreen}
use Rattle.answer.proofs.Laws.{two_come_apart}
use Rattle.key.specs.Key.{collection}
use Rattle.tree.specs.Record.{Record, records}
use Rattle.tree.specs.Table.{table_of}
use Rattle.tree.specs.Judge.{Test, due, Verdict, refused, accepted, judge}
use Rattle.tree.proofs.Laws.{fitting_fits, due_none, table_at_most}
use Rattle.promises.specs.Outcome.{room_test}
use Rattle.promises.specs.Counted.{settle_counted, counted_answer, counted_output}
use Rattle.promises.specs.Register.{RegisterOf}
use Rattle.promises.specs.Order.{Refuses}
use Rattle.promises.proofs.MapLaws.{sorted_rising, Proper}
use Rattle.promises.proofs.Parts.{sorted_part, proper_part, whose_part, find_whose, part_none}
use Rattle.promises.proofs.Orders.{accepted_proper, register_of, check, measured, counted_by, counted_refuses, counted_writes}
use Rattle.promises.proofs.Promises.{settled_short}
use Rattle.collections.specs.Screen.{is_collection_name, is_in, of_collection, screens, on_screen, screen_tests, screen_verdict, screen_outcome}
use Rattle.collections.specs.Order.{CollectionName, screen_reply}
use Rattle.collections.specs.Promises.{ScreenReplies, ScreenComesApart, CollectionFinds, EachRecordOnce, NoOtherRecord, ScreensAccepted, EveryScreenIsShown}
use Rattle.collections.proofs.Names.{short_passes, passes_short, name_short, collection_names}
use Rattle.collections.proofs.Screens.{screen_part, screen_few, on_one_screen}

-- ---- the records of an accepted register
register_proper : (s : ByteString) (rs : List Record) → RegisterOf s.list rs → Proper rs
register_proper s rs r = rw (← r.spells) (accepted_proper s r.tree r.judged)

module _ (c : List ℕ) (n : ℕ) (rs : List Record) where
  abbrev shown : List Record
  shown = on_screen n (of_collection c rs)

  shown_part : Sublistᴰ shown rs
  shown_part = Sublistᴰ.trans (screen_part n (of_collection c rs)) (whose_part (is_in c) rs)

-- ---- the order of checks
module _ (s c : List ℕ) (n room : ℕ) where
  screen_refuses : (r : Refusal) → judge s ≡ refused r → Refuses (screen_reply s c n room) (number_of r)
  unfolding screen_outcome screen_verdict counted_answer counted_output
  screen_refuses r j = record { answer = rw j; outputs = (rw j, tt); head = tt }

-- a name passes exactly where some lawful key has it
name_fails : (c : List ℕ) → (CollectionName c → ⊥) → is_collection_name c ≡ false
name_fails c h = cases (is_collection_name c) (λ e. absurd (h ((collection_names c).1 (passes_short c e)))) (λ e. e)

name_passes : (c : List ℕ) → ((CollectionName c → ⊥) → ⊥) → is_collection_name c ≡ true
name_passes c h = cases (is_collection_name c) (λ e. e) (λ e. absurd (h (λ n. false≢true (sym e ∙ short_passes c (name_short c n)))))

pub screen_replies : ScreenReplies
unfolding screen_outcome screen_verdict
screen_replies s name n room =
    let c = name.list in
    let whole = screen_reply s.list c n room in
    record {
      refuses = λ r j. screen_refuses s.list c n room r j;
      accepts = λ t j.
          let cs : List Record = of_collection c (records t) in
          let on : List Record = on_screen n cs in
          let count : ℕ = screens (length cs) in
          let p : Proper on = proper_part (shown_part c n (records t)) (accepted_proper s t j) in
          let reply = counted_by on count room in
          check whole reply (counted_refuses on count room) UnlawfulKey (is_collection_name c) (screen_tests n cs room)
          (name_fails c) (name_passes c) (rw j)
          (λ _ e₁. check whole reply (counted_refuses on count room) NoSuchScreen (ltb n count) (room_test on room ∷ [])
          (le-ltb n count) (λ h. lt-ltb n count (omega (arith, h))) e₁
          (λ _ e₂. measured whole reply (counted_refuses on count room) on room (count ∷ []) p (omega (arith, screen_few n cs))
          (counted_writes on count room).0 (counted_writes on count room).1 tt e₂));
    }

-- ---- the answer as one number
screen_first : (v : Verdict) (c : List ℕ) (n room : ℕ) → FirstFits (counted_answer (screen_verdict v c n room))
unfolding screen_verdict counted_answer
screen_first (refused r) c n room = tt
screen_first (accepted t) c n room =
    let cs : List Record = of_collection c (records t) in
    let size : ℕ = length (table_of (on_screen n cs)) in
    let tests : List Test = (UnlawfulKey, is_collection_name c) ∷ screen_tests n cs room in
    settled_short (due tests) (on_screen n cs) (screens (length cs))
    (λ e. leb-true size longest (and_inv (leb size room) (due_none tests e).1.1.0).1)

pub screen_short : (s c : List ℕ) (n room : ℕ) → FirstFits (counted_answer (screen_outcome s c n room))
unfolding screen_outcome
screen_short s c n room = screen_first (judge s) c n room

pub screen_comes_apart : ScreenComesApart
screen_comes_apart s c n room = two_come_apart (counted_answer (screen_outcome s.list c.list n room)) (screen_short s.list c.list n room)

-- ---- the records of a collection, and those on a screen
pub collection_finds : CollectionFinds
collection_finds s rs r c =
    let p = register_proper s rs r in
    (sorted_rising (of_collection c rs) (sorted_part (whose_part (is_in c) rs) p.order), λ key. find_whose (is_in c) key rs p.order)

pub each_record_once : EachRecordOnce
each_record_once s rs r key val e =
    let p = register_proper s rs r in
    let c = collection key in
    on_one_screen key val (of_collection c rs) (sorted_part (whose_part (is_in c) rs) p.order)
    (find_whose (is_in c) key rs p.order ∙ rw (equal_refl c) e)

pub no_other_record : NoOtherRecord
no_other_record s rs r c key n =
    let p = register_proper s rs r in
    let sorted = sorted_part (whose_part (is_in c) rs) p.order in
    let screen = screen_part n (of_collection c rs) in (
      λ e. part_none key (shown_part c n rs) p.order e,
      λ h. part_none key screen sorted
          (find_whose (is_in c) key rs p.order ∙ equal-cases (collection key) c (λ e q. absurd (h q)) (λ e q. rw e)),
    )

-- ---- a screen is short, so that it is accepted as the register of its records
pub screens_accepted : ScreensAccepted
screens_accepted s rs r c n =
    let on : List Record = shown c n rs in
    let p : Proper on = proper_part (shown_part c n rs) (register_proper s rs r) in
    let few = screen_few n (of_collection c rs) in
    let size = table_at_most on p.keys p.values in (
      register_of on (fitting_fits on (record {
        count = omega (arith, few);
        order = sorted_rising on p.order;
        keys = p.keys;
        values = p.values;
        size = omega (arith, size, few);
      })),
      omega (arith, size, few),
    )

pub every_screen_is_shown : EveryScreenIsShown
unfolding screen_outcome screen_verdict due settle_counted
every_screen_is_shown s rs r c name n exists room enough =
    let size : ℕ = length (table_of (shown c n rs)) in
    let short = (screens_accepted s rs r c n).1 in
    rw (
      r.judged,
      r.spells,
      short_passes c (name_short c name),
      lt-ltb n (screens (length (of_collection c rs))) exists,
      le-leb size room (omega (arith, short)),
      le-leb size longest (omega (arith, short)),
    )
