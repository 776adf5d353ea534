-- Small examples of states and of their numbers: antt computes them from the definitions.
use Prim.Native.Nat.{ℕ}
use mathlib.Core.Path.{◌≡◌, refl}
use mathlib.Core.Bool.{true, false}
use mathlib.Core.List.{List, [], ◌∷◌, ◌++◌, map}
use lib.ListN.{replicate}
use Rattle.answer.specs.declared.Refusal.TheVariants.{EndsEarly, Departs, UnlawfulKey, KeyAbsent, NoRoom, WrongStates}
use Rattle.bytestring.specs.Bytes.{equal}
use Rattle.fips180.specs.Hash.{K, pad, schedule, W, round, rounds, plus, compress, after_blocks, hash, sha256}
use Rattle.value.specs.Value.{raw, dag_cbor, is_codec, is_value}
use Rattle.key.specs.Key.{ordinary, collection, name, all_ordinary, lawful, less, shared}
use Rattle.key.specs.Layer.{bits, bits_of, leading_zero_bits, layer_of_digest, layer_of}
use Rattle.page.specs.Reading.{exactly, any_bytes, times}
use Rattle.page.specs.Number.{number_bytes, one_byte, two_bytes, number}
use Rattle.page.specs.Page.{link_bytes, link, gap_bytes, gap, value_bytes, codec, value as value_reader, entry_bytes, entry as entry_at, page_bytes, page as page_at}
use Rattle.tree.specs.Tree.{items, map as map_tree, top_layer, part, entries_of, page_of, gap_of, build, tree_of}
use Rattle.tree.specs.Record.{Record, keyed, spelt}
use Rattle.tree.specs.Table.{link_of, raw_entries, raw_page, bytes_of_page, table, digest_of, tree_of_set, table_of, read_under, read_from, read_tree}
use Rattle.tree.specs.Judge.{due, is_none, prefixes_right, all_lawful, rising, same, right_tree, digests_right, tests, settled, judge_read, judge}
use Rattle.promises.specs.Map.{find, is_there, insert, put, remove}
use Rattle.promises.specs.Outcome.{stopped, wrote}
use Rattle.states.specs.Pages.{read_pages, sequence, bytes_of_each, pages_in, by_digest, filed, apart, all_apart, among, all_among, link_list, links_after, links_of_read, together, gather_all, gather_page, gather}
use Rattle.states.specs.States.{state_key, first_digest, state_value, state_records, state_register, state_pages, page_sequence, Buffers, buffers_of, all_states, bytes_or, gathered_states, is_accepted, all_accepted, state_tests, refused_states, accepted_states, settle_states, judge_sequence, judge_with_pages, judge_states, unsaved, saved, buffer_sizes, settle_saved, carry_out_plan, save_plan, forget_plan, on_states, save_outcome, forget_outcome, restore_tests, settle_restore, restore_from, restore_outcome}

-- whoever unfolds this unfolds all of these
all : Unit {0}
unfolding K pad schedule W round rounds plus compress after_blocks hash sha256 ordinary collection name all_ordinary lawful less shared bits bits_of leading_zero_bits layer_of_digest layer_of exactly any_bytes times number_bytes one_byte two_bytes number link_bytes link gap_bytes gap is_codec is_value value_bytes codec value_reader entry_bytes entry_at page_bytes page_at items map_tree top_layer part entries_of page_of gap_of build tree_of keyed spelt link_of raw_entries raw_page bytes_of_page table digest_of tree_of_set table_of read_under read_from read_tree due is_none equal prefixes_right all_lawful rising same right_tree digests_right tests settled judge_read judge find is_there insert put remove read_pages sequence bytes_of_each pages_in filed apart all_apart among all_among link_list links_after links_of_read together gather_all gather_page gather first_digest state_value state_records state_register state_pages page_sequence all_states bytes_or gathered_states is_accepted all_accepted state_tests settle_states judge_sequence judge_with_pages judge_states buffer_sizes settle_saved carry_out_plan save_plan forget_plan on_states save_outcome forget_outcome restore_tests settle_restore restore_from restore_outcome
all = tt

-- ---- registers and names
-- the empty register
abbrev nothing : List ℕ
nothing = 0xA2 ∷ 0x61 ∷ 0x65 ∷ 0x80 ∷ 0x61 ∷ 0x6C ∷ 0xF6 ∷ []

-- a page with one entry: its key, and as its value codec 71 and 32 digest bytes 02
abbrev twos : List ℕ
twos = replicate 32 0x02

abbrev one_page : List ℕ → List ℕ
one_page key =
    (0xA2 ∷ 0x61 ∷ 0x65 ∷ 0x81 ∷ 0xA4 ∷ 0x61 ∷ 0x6B ∷ []) ++ (key
    ++ ((0x61 ∷ 0x70 ∷ 0x00 ∷ 0x61 ∷ 0x74 ∷ 0xF6 ∷ 0x61 ∷ 0x76 ∷ 0xD8 ∷ 0x2A ∷ 0x58 ∷ 0x25 ∷ 0x00 ∷ 0x01 ∷ 0x71 ∷ 0x12 ∷ 0x20 ∷ [])
    ++ (twos ++ (0x61 ∷ 0x6C ∷ 0xF6 ∷ []))))

-- one record under a/b
abbrev one : List ℕ
one = one_page (0x43 ∷ 0x61 ∷ 0x2F ∷ 0x62 ∷ [])

-- it is the register of that record
one_register : table_of (record { key = 0x61 ∷ 0x2F ∷ 0x62 ∷ []; val = dag_cbor ∷ twos } ∷ []) ≡ one
unfolding all
one_register = refl

-- the names a and b
abbrev a : List ℕ
a = 0x61 ∷ []

abbrev b : List ℕ
b = 0x62 ∷ []

abbrev state : List ℕ → List ℕ → Record
state name s = record { key = state_key name; val = s }

-- a state register of one record whose value has the digest of the empty register's page
abbrev pointer : List ℕ → ℕ → List ℕ
pointer key c = table_of (record { key = key; val = c ∷ sha256 nothing } ∷ [])

abbrev lent : List ℕ → List ℕ → Buffers
lent states pages = record { states = states; pages = pages }

-- ---- the empty register under a
-- from no states: 67 and 7 bytes
abbrev one_state : List Record
one_state = state a nothing ∷ []

saved_state :
    map (λ (room : ℕ). save_outcome (buffers_of []) nothing a room 7) (66 ∷ 67 ∷ [])
    ≡ unsaved NoRoom ∷ saved (lent (state_register one_state) nothing) ∷ []
unfolding all
saved_state = refl

-- the same register under both names is one page
twice : page_sequence (state a nothing ∷ state b nothing ∷ []) ≡ nothing
unfolding all
twice = refl

-- restore a, restore b, a name without bytes, which breaks the key rule, and an output that is too short
answered :
    restore_from (accepted_states one_state) a 7
    ∷ restore_from (accepted_states one_state) b 7
    ∷ restore_from (accepted_states one_state) [] 7
    ∷ restore_from (accepted_states one_state) a 6
    ∷ []
    ≡ wrote nothing ∷ stopped KeyAbsent ∷ stopped UnlawfulKey ∷ stopped NoRoom ∷ []
unfolding all
answered = refl

forgotten : forget_outcome (buffers_of one_state) a 7 0 ≡ saved (buffers_of [])
unfolding all
forgotten = refl

-- ---- two states, whose pages stand in ascending order of digest
two : page_sequence (state a nothing ∷ state b one ∷ []) ≡ one ++ nothing
unfolding all
two = refl

-- ---- the numbers of the pages
-- no state: with no pages, a page broken off, a byte that departs, and a page that no state reaches
numbers :
    map (λ (pages : List ℕ). judge_states (lent nothing pages)) ([] ∷ (0xA2 ∷ 0x61 ∷ []) ∷ (0xA3 ∷ []) ∷ nothing ∷ [])
    ≡ accepted_states [] ∷ refused_states EndsEarly ∷ refused_states Departs ∷ refused_states WrongStates ∷ []
unfolding all
numbers = refl

-- a page that is missing, and one that stands twice
missing : judge_states (lent (state_register one_state) []) ≡ refused_states WrongStates
unfolding all
missing = refl

doubled : judge_states (lent (state_register one_state) (nothing ++ nothing)) ≡ refused_states WrongStates
unfolding all
doubled = refl

-- pages in another order
disordered : map (λ (s : List ℕ). rising (map by_digest (pages_in s))) ((nothing ++ one) ∷ (one ++ nothing) ∷ []) ≡ false ∷ true ∷ []
unfolding all
disordered = refl

-- the record of a state, one of another collection, and one of another codec
right_record : pointer (state_key a) dag_cbor ≡ state_register one_state
unfolding all
right_record = refl

other_collection : judge_states (lent (pointer (0x73 ∷ 0x2F ∷ 0x61 ∷ []) dag_cbor) nothing) ≡ refused_states WrongStates
unfolding all
other_collection = refl

other_codec : judge_states (lent (pointer (state_key a) raw) nothing) ≡ refused_states WrongStates
unfolding all
other_codec = refl

-- a page that gathers into a register which 7 refuses: its key ab has no slash
abbrev unlawful : List ℕ
unlawful = one_page (0x42 ∷ 0x61 ∷ 0x62 ∷ [])

not_accepted : judge_states (lent (state_register (state a unlawful ∷ [])) unlawful) ≡ refused_states WrongStates
unfolding all
not_accepted = refl
