-- What the walk and the passes over its rows settle is what the byte string is judged to be.
use Rattle.std.specs.Prelude.{Result, Ok, Err}
use Prim.Native.Nat.{ℕ, ◌-◌, ◌*◌, ◌≤◌, ◌<◌}
use mathlib.Core.Path.{◌≡◌, refl, sym, ap, subst, ◌∙◌}
use mathlib.Core.Bool.{Bool, true, false, not, ◌&&◌}
use mathlib.Core.List.{List, []}
use native.Mathlib.Omega.{arith}
use lib.ListN.{length, take, drop, length-drop, drop_of_length-le}
use lib.Seq.{drop-cons, take_all}
use lib.Dec.{leb}
use borrow.Author.Tests.{le-leb, lt-leb, not-true, not-false}
use Rattle.limits.specs.Limits.{longest, deepest, most}
use Rattle.bytestring.proofs.Tools.{and_inv}
use Rattle.bytestring.specs.Bytes.{Bytes}
use Rattle.page_reader.specs.Place.{read_stop, refusal_of}
use Rattle.page_reader.specs.declared.Stop.{Stop}
use Rattle.page_reader.specs.declared.Stop.TheVariants.{EndsEarly, Departs}
use Rattle.answer.specs.declared.Refusal.TheVariants.{TooLong, BytesFollow, TooManyRecords, WrongPrefix, UnlawfulKey, KeysNotRising, WrongTree, WrongDigest}
use Rattle.answer.specs.declared.Refusal.{Refusal}
use Rattle.tree.specs.Record.{records}
use Rattle.tree.specs.Table.{SpeltTree, read_tree}
use Rattle.tree.specs.Judge.{due, is_none, prefixes_right, all_lawful, rising, right_tree, digests_right, tests, refused, judge, judge_read}
use Rattle.tree.specs.Judge as tree
use Rattle.tree.proofs.Sizes.{read_length}
use Rattle.index.specs.Slot.{slots, lawful_slots, level_slots, filled}
use Rattle.index.specs.Chain.{chains, labels_right, chains_right}
use Rattle.index.specs.Walk.{holding, Walks, WalkSays}
use Rattle.index.specs.declared.walk.WalkState.{WalkState}
use Rattle.index.proofs.SlotLaws.{slots_lawful, slots_rising, slots_length, slots_items}
use Rattle.index.proofs.ChainRows.{few_chains_lem}
use Rattle.index.proofs.Standing.{slot_stands}
use Rattle.row.proofs.Rows.{lawful_slot}
use Rattle.judge.specs.Layers.{Depths, top_of, LayersSay}
use Rattle.digests.specs.Digests.{ChainsNoted, DigestsSay}
use Rattle.judge.specs.Prefixes.{RowPrefixes}
use Rattle.judge.specs.Verdict.{PrefixesSay, RoomFor, RegisterSays}
use Rattle.digests.proofs.ChainReads.{front_chained, back_chained}
use Rattle.judge.proofs.RightTree.{right_tests}
use Rattle.judge.proofs.RightChains.{right_chains, prefixes_split, prefix_chains}

-- ---- numbers 1 to 3
pub too_long : (s : List ℕ) → longest < length s → judge s ≡ refused TooLong
unfolding judge
too_long s h = rw (lt-leb (length s) longest h)

read_stopped : (stop : Stop) → judge_read (read_stop stop) ≡ refused (refusal_of stop)
unfolding judge_read
read_stopped EndsEarly = refl
read_stopped Departs = refl

module _ (s index row : List ℕ) (w : Result WalkState Stop) (stop : Stop) (size : length s ≤ longest) (says : WalkSays s w index row) (e : w ≡ Err stop) where
  stops : read_tree deepest s ≡ read_stop stop
  stops = subst (λ v. WalkSays s v index row) e says

  pub walk_stopped : (r : Refusal) → r ≡ refusal_of stop → judge s ≡ refused r
  unfolding judge
  walk_stopped r q = rw (q, le-leb (length s) longest size, stops) (read_stopped stop)

pub walked_whole : (s index row : List ℕ) (w : Result WalkState Stop) (st : WalkState) → WalkSays s w index row → w ≡ Ok st → Walks s index row st
walked_whole s index row w st says e = subst (λ v. WalkSays s v index row) e says

-- ---- bytes left
none_left : (s : List ℕ) (at : ℕ) → length s ≤ at → is_none (drop at s) ≡ true
unfolding is_none
none_left s at h = rw (drop_of_length-le s {i = at} h)

some_left : (s : List ℕ) (at : ℕ) → at < length s → is_none (drop at s) ≡ false
unfolding is_none
some_left s at h = rw (drop-cons s at 0 h)

-- no label leads to the root
root_labels : (t : SpeltTree) → labels_right [] t ≡ true
unfolding labels_right
root_labels t = refl

-- ---- numbers 4 to 10
module _ {s index row : List ℕ} {st : WalkState} (w : Walks s index row st) where
  -- each chain has a record
  pub chains_few : st.chains ≤ st.count
  chains_few = omega (arith, w.chain_count, w.count, few_chains_lem 0 0 [] w.root, slots_items 0 0 w.root)

  pub row_chained : 2 * st.chains ≤ length row → st.count ≤ most → ChainsNoted s row st.chains
  row_chained room few = record { chains = chains 0 0 [] w.root; number = sym w.chain_count; room = room; words = w.chained few }

-- ---- room for what the walk noted
module _ {s index row : List ℕ} {st : WalkState} (bytes : Bytes s) (w : Walks s index row st) (few : st.count ≤ most) where
  long_enough : 53 * st.count ≤ length s
  long_enough = omega (arith, read_length deepest s (drop st.next s) w.root bytes w.reads, w.count, slots_length 0 0 w.root)

  pub index_room : RoomFor s 1 (length index) → st.count ≤ length index
  index_room room = omega (arith, room st.count few long_enough)

  pub row_room : RoomFor s 2 (length row) → 2 * st.chains ≤ length row
  row_room room = omega (arith, chains_few w, room st.count few long_enough)

pub prefixes_walked : (s row : List ℕ) (st : WalkState) → st.prefixes ≡ true → PrefixesSay s row st true
unfolding PrefixesSay
prefixes_walked s row st e index w few = sym (w.prefixes e)

module _ (s row : List ℕ) (st : WalkState) (room : 2 * st.chains ≤ length row) (half : ℕ) (part : half ≤ st.chains)
    (front : Bool) (says : RowPrefixes s (take (2 * half) row) half front) where
  module _ {index : List ℕ} (w : Walks s index row st) (few : st.count ≤ most) where
    abbrev whole : ChainsNoted s row st.chains
    whole = row_chained w room few

    both_halves : (back : Bool) → RowPrefixes s (drop (2 * half) row) (st.chains - half) back → prefixes_right w.root ≡ (front && back)
    unfolding row_chained front_chained back_chained
    both_halves back later =
        sym (prefix_chains 0 0 [] w.root) ∙ prefixes_split half (chains 0 0 [] w.root)
        ∙ rw (← says (front_chained whole half part), ← later (back_chained whole half part))

    front_half : front ≡ false → prefixes_right w.root ≡ false
    unfolding row_chained front_chained
    front_half e =
        sym (prefix_chains 0 0 [] w.root) ∙ prefixes_split half (chains 0 0 [] w.root)
        ∙ rw (← says (front_chained whole half part), e)

  pub front_wrong : not front ≡ true → PrefixesSay s row st false
  unfolding PrefixesSay
  front_wrong f index w few = sym (front_half w few (not-true front f))

  pub back_decides : not front ≡ false → (back : Bool) → RowPrefixes s (take (length row - 2 * half) (drop (2 * half) row)) (st.chains - half) back → PrefixesSay s row st back
  unfolding PrefixesSay
  back_decides f back later index w few =
      let all : take (length row - 2 * half) (drop (2 * half) row) ≡ drop (2 * half) row = take_all (length row - 2 * half) (drop (2 * half) row) (omega (arith, length-drop (2 * half) row)) in
      sym (both_halves w few back (subst (λ (l : List ℕ). RowPrefixes s l (st.chains - half) back) all later) ∙ rw (not-false front f))

module _ (s index row : List ℕ) (st : WalkState) (bytes : Bytes s) (size : length s ≤ longest) (w : Walks s index row st) where
  judged : judge s ≡ tree.settled (due (tests w.root (drop st.next s))) w.root
  unfolding judge judge_read
  judged = rw (le-leb (length s) longest size, w.reads)

  five : length (records w.root) ≡ st.count
  five = sym (w.count ∙ slots_length 0 0 w.root)

  seven : all_lawful (records w.root) ≡ st.lawful
  seven = sym (w.lawful ∙ slots_lawful 0 0 w.root)

  pub bytes_follow : st.next < length s → judge s ≡ refused BytesFollow
  unfolding tests due tree.settled
  bytes_follow h = judged ∙ rw (some_left s st.next h)

  module _ (ended : length s ≤ st.next) where
    e₄ : is_none (drop st.next s) ≡ true
    e₄ = none_left s st.next ended

    pub too_many_records : most < st.count → judge s ≡ refused TooManyRecords
    unfolding tests due tree.settled
    too_many_records h = judged ∙ rw (e₄, five, lt-leb st.count most h)

    module _ (few : st.count ≤ most) (fits : Bool) (prefixes : PrefixesSay s row st fits) where
      e₅ : leb st.count most ≡ true
      e₅ = le-leb st.count most few

      six : prefixes_right w.root ≡ fits
      unfolding PrefixesSay
      six = sym (prefixes index w few)

      pub wrong_prefix : not fits ≡ true → judge s ≡ refused WrongPrefix
      unfolding tests due tree.settled
      wrong_prefix h = judged ∙ rw (e₄, five, e₅, six, not-true fits h)

      module _ (f : not fits ≡ false) where
        e₆ : fits ≡ true
        e₆ = not-false fits f

        pub unlawful_key : not st.lawful ≡ true → judge s ≡ refused UnlawfulKey
        unfolding tests due tree.settled
        unlawful_key h = judged ∙ rw (e₄, five, e₅, six, e₆, seven, not-true st.lawful h)

        module _ (k : not st.lawful ≡ false) where
          e₇ : st.lawful ≡ true
          e₇ = not-false st.lawful k

          all_slots : lawful_slots (slots 0 0 w.root) ≡ true
          all_slots = sym w.lawful ∙ e₇

          eight : rising (records w.root) ≡ st.rising
          eight = sym (w.rising all_slots ∙ slots_rising 0 0 w.root all_slots)

          pub not_rising : not st.rising ≡ true → judge s ≡ refused KeysNotRising
          unfolding tests due tree.settled
          not_rising h = judged ∙ rw (e₄, five, e₅, six, e₆, seven, e₇, eight, not-true st.rising h)

          module _ (o : not st.rising ≡ false) where
            e₈ : st.rising ≡ true
            e₈ = not-false st.rising o

            nine : right_tree w.root ≡ (st.filled && level_slots (top_of (slots 0 0 w.root)) (slots 0 0 w.root))
            nine = rw w.fill (sym (right_tests w.root))

            pub not_filled : not st.filled ≡ true → judge s ≡ refused WrongTree
            unfolding tests due tree.settled
            not_filled h = judged ∙ rw (e₄, five, e₅, six, e₆, seven, e₇, eight, e₈, nine, not-true st.filled h)

            module _ (p : not st.filled ≡ false) where
              e₉ : st.filled ≡ true
              e₉ = not-false st.filled p

              pub walked_depths : RoomFor s 1 (length index) → Depths s index st.count
              walked_depths room = record {
                slots = slots 0 0 w.root;
                number = sym w.count;
                room = index_room bytes w few room;
                short = omega arith;
                there = λ i h. slot_stands s (drop st.next s) w.root bytes w.reads i (omega (arith, w.count));
                keys = λ i h. lawful_slot (slots 0 0 w.root) all_slots i (omega (arith, w.count));
                words = w.indexed;
              }

              module _ (room : RoomFor s 1 (length index)) (level : Bool) (index' : List ℕ) (layers : LayersSay s index st.count level index') where
                layer_test : level ≡ level_slots (top_of (slots 0 0 w.root)) (slots 0 0 w.root)
                unfolding walked_depths
                layer_test = (layers (walked_depths room)).0

                pub not_level : not level ≡ true → judge s ≡ refused WrongTree
                unfolding tests due tree.settled
                not_level h = judged ∙ rw (e₄, five, e₅, six, e₆, seven, e₇, eight, e₈, nine, e₉, ← layer_test, not-true level h)

                module _ (l : not level ≡ false) (rows : RoomFor s 2 (length row)) (right : Bool) (digests : DigestsSay s row st.chains right) where
                  f₉ : level ≡ true
                  f₉ = not-false level l

                  filled_root : (holding 0 w.root ≡ true) × (filled w.root ≡ true)
                  filled_root = and_inv (holding 0 w.root) (sym w.fill ∙ e₉)

                  chains_tested : right ≡ chains_right (chains 0 0 [] w.root)
                  unfolding row_chained
                  chains_tested = digests (row_chained w (row_room bytes w few rows) few)

                  ten : digests_right w.root ≡ right
                  ten =
                      sym (chains_tested
                      ∙ right_chains 0 0 [] w.root filled_root.1 (λ _. refl)
                      ∙ ap (λ (b : Bool). b && digests_right w.root) (root_labels w.root))

                  pub wrong_digest : not right ≡ true → judge s ≡ refused WrongDigest
                  unfolding tests due tree.settled
                  wrong_digest h = judged ∙ rw (e₄, five, e₅, six, e₆, seven, e₇, eight, e₈, nine, e₉, ← layer_test, f₉, ten, not-true right h)

                  pub accepted_all : length index' ≡ length index → not right ≡ false → RegisterSays s (Ok (st.count, st.chains)) index' row
                  unfolding tests due tree.settled walked_depths
                  accepted_all kept h =
                      let all : judge s ≡ tree.accepted w.root =
                      judged ∙ rw (e₄, five, e₅, six, e₆, seven, e₇, eight, e₈, nine, e₉, ← layer_test, f₉, ten, not-false right h) in (
                        record { tree = w.root; judged = all; size = sym five; room = omega (arith, index_room bytes w few room); indexed = (layers (walked_depths room)).1 f₉ },
                        record {
                          tree = w.root;
                          judged = all;
                          size = w.chain_count;
                          few = omega (arith, chains_few w);
                          room = row_room bytes w few rows;
                          stands = w.chained few;
                          right = sym chains_tested ∙ not-false right h;
                        },
                      )
