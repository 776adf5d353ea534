-- Save and forget that are not refused: what they have tested and written, and that the map they result in fits again.
use Prim.Native.Nat.{ℕ, ◌≤◌}
use mathlib.Core.Path.{◌≡◌, refl, ap}
use mathlib.Core.Bool.{true, false≢true}
use mathlib.Core.Option.{Option, none, some}
use mathlib.Core.List.{List, [], ◌∷◌, ◌++◌}
use native.Mathlib.Omega.{arith}
use lib.ListN.{length, drop, length-append, length-replicate}
use lib.Dec.{leb}
use borrow.Author.Tests.{leb-true}
use Rattle.answer.specs.declared.Refusal.{Refusal}
use Rattle.bytestring.specs.Bytes.{Bytes}
use Rattle.bytestring.proofs.Tools.{and_inv, All, all_split, all_weaken}
use Rattle.limits.specs.Limits.{longest, most}
use Rattle.key.specs.Key.{collection, lawful}
use Rattle.tree.specs.Record.{Record}
use Rattle.tree.specs.Judge.{Test, due, Verdict, refused, accepted, judge}
use Rattle.tree.proofs.Laws.{AllTests, due_none}
use Rattle.promises.specs.Map.{find, put, remove}
use Rattle.promises.proofs.MapLaws.{sorted_rising, rising_sorted, all_insert, sorted_put, find_put_same, all_remove, sorted_remove}
use Rattle.promises.proofs.DifferenceLaws.{Within, among_left, among_right}
use Rattle.states.specs.Pages.{pages_in}
use Rattle.states.specs.States.{state_collection, state_key, state_register, state_pages, page_sequence, Buffers, buffers_of, is_accepted, Saved, unsaved, saved, StatePlan, has_room, buffer_sizes, settle_saved, carry_out_plan, save_plan, forget_plan, states_output, pages_output}
use Rattle.states.specs.Promises.{StateOf, AllStates, StatesFit}
use Rattle.states.proofs.Filing.{among-split, apart_unshared}

-- ---- the keys of states
pub key_ours : (name : List ℕ) → collection (state_key name) ≡ state_collection
unfolding collection
key_ours name = refl

pub key_injective : (a b : List ℕ) → state_key a ≡ state_key b → a ≡ b
key_injective a b e = ap (λ (l : List ℕ). drop 6 l) e

-- ---- a call that is not refused
pub record CarriedPlan (p : StatePlan) (states pages : ℕ) (b : Buffers) : Type 0 where
  pub asked : AllTests p.asks
  pub count : length p.result ≤ most
  pub register : length (state_register p.result) ≤ longest
  pub sequence : length (page_sequence p.result) ≤ longest
  pub rooms : (length (state_register p.result) ≤ states) × (length (page_sequence p.result) ≤ pages)
  pub written : b ≡ buffers_of p.result

settled_saved : (o : Option Refusal) (m : List Record) (b : Buffers) → settle_saved o m ≡ saved b → (o ≡ none) × (b ≡ buffers_of m)
unfolding settle_saved
settled_saved none m b h = (refl, cc)
settled_saved (some r) m b h = let z : ◌≡◌ {A = ℕ} 0 1 = cc in absurd (omega arith)

pub carried_plan : (p : StatePlan) (states pages : ℕ) (b : Buffers) → carry_out_plan p states pages ≡ saved b → CarriedPlan p states pages b
unfolding carry_out_plan buffer_sizes
carried_plan p states pages b h =
    let s = settled_saved (due (p.asks ++ buffer_sizes p.result states pages)) p.result b h in
    let k = all_split (λ (q : Test). q.1 ≡ true) p.asks (buffer_sizes p.result states pages) (due_none _ s.0) in
    let room = and_inv (has_room (state_register p.result) states) k.1.1.0 in
    let first = and_inv (leb (length (state_register p.result)) states) room.0 in
    let second = and_inv (leb (length (page_sequence p.result)) pages) room.1 in
    record {
      asked = k.0;
      count = leb-true (length p.result) most k.1.0;
      register = leb-true (length (state_register p.result)) longest first.1;
      sequence = leb-true (length (page_sequence p.result)) longest second.1;
      rooms = (leb-true (length (state_register p.result)) states first.0, leb-true (length (page_sequence p.result)) pages second.0);
      written = s.1;
    }

-- ---- states, one by one
pub states_all : (m : List Record) → AllStates m → All StateOf m
states_all [] a = tt
states_all (r ∷ m) a = (a.0, states_all m a.1)

pub all_states_lem : (m : List Record) → All StateOf m → AllStates m
all_states_lem [] a = tt
all_states_lem (r ∷ m) a = (a.0, all_states_lem m a.1)

-- ---- after a save
put_states : (r : Record) → StateOf r → (m : List Record) → AllStates m → AllStates (put r m)
unfolding put
put_states r s m a = all_states_lem (put r m) (all_insert (λ old new. new) r StateOf s (λ x q. replaced x q) m (states_all m a))
  where
    replaced : (x : Record) → StateOf x → StateOf (record { key = x.key; val = r.val })
    replaced x q = record { key = q.key; ours = q.ours; bytes = s.bytes; register = s.register }

pub save_fits : (m : List Record) → StatesFit m → (s name : List ℕ) → Bytes s → (v : Verdict) → judge s ≡ v → (states pages : ℕ) (b : Buffers)
    → carry_out_plan (save_plan v s name m) states pages ≡ saved b
    → StatesFit (save_plan v s name m).result × (lawful (state_key name) ≡ true) × (find (state_key name) (save_plan v s name m).result ≡ some s)
unfolding save_plan is_accepted
save_fits m f s name small (refused r) j states pages b h = absurd (false≢true (carried_plan _ states pages b h).asked.0)
save_fits m f s name small (accepted t) j states pages b h =
    let c = carried_plan (save_plan (accepted t) s name m) states pages b h in
    let r : Record = record { key = state_key name; val = s } in (
      record {
        count = c.count;
        order = sorted_rising (put r m) (sorted_put r m (rising_sorted m f.order));
        each = put_states r (record { key = c.asked.0; ours = key_ours name; bytes = small; register = rw j }) m f.each;
        unshared = apart_unshared (state_pages (put r m)) c.asked.1.0;
        register = c.register;
        pages = c.sequence;
      },
      c.asked.0,
      find_put_same r m,
    )

-- ---- after a forget
-- the pages of some states of a map are pages of the map
abbrev pub PagesWithin : List (List ℕ) → Record → Type 0
PagesWithin ps r = Within (pages_in r.val) ps

pub pages_within : (m : List Record) (ps : List (List ℕ)) → All (PagesWithin ps) m → Within (state_pages m) ps
unfolding state_pages
pages_within [] ps a p i = absurd i
pages_within (r ∷ m) ps a p i = among-split (pages_in r.val) (state_pages m) p i (a.0 p) (pages_within m ps a.1 p)

pub own_pages : (m : List Record) → All (PagesWithin (state_pages m)) m
unfolding state_pages
own_pages [] = tt
own_pages (r ∷ m) = (
  among_left (pages_in r.val) (state_pages m),
  all_weaken (PagesWithin (state_pages m)) (PagesWithin (pages_in r.val ++ state_pages m))
      (λ x w p i. among_right (pages_in r.val) (state_pages m) p (w p i)) m (own_pages m),
)

pub forget_fits : (m : List Record) → StatesFit m → (name : List ℕ) (states pages : ℕ) (b : Buffers)
    → carry_out_plan (forget_plan name m) states pages ≡ saved b → StatesFit (forget_plan name m).result
unfolding forget_plan
forget_fits m f name states pages b h =
    let c = carried_plan (forget_plan name m) states pages b h in
    let k = state_key name in
    let w = pages_within (remove k m) (state_pages m) (all_remove k (PagesWithin (state_pages m)) m (own_pages m)) in
    record {
      count = c.count;
      order = sorted_rising (remove k m) (sorted_remove k m (rising_sorted m f.order));
      each = all_states_lem (remove k m) (all_remove k StateOf m (states_all m f.each));
      unshared = λ p q i j. f.unshared p q (w p i) (w q j);
      register = c.register;
      pages = c.sequence;
    }

-- ---- the outputs keep their lengths
pub output_lengths : (o : Saved) (states pages : ℕ) → ((b : Buffers) → o ≡ saved b → (length b.states ≤ states) × (length b.pages ≤ pages))
    → (length (states_output o states) ≡ states) × (length (pages_output o pages) ≡ pages)
unfolding states_output pages_output
output_lengths (unsaved r) states pages f = (length-replicate states 0, length-replicate pages 0)
output_lengths (saved b) states pages f =
    (simp (length-append, length-replicate) (omega (arith, (f b refl).0)), simp (length-append, length-replicate) (omega (arith, (f b refl).1)))
