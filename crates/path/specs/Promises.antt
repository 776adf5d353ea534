-- What is promised of paths. Each promise is a statement; its proof has the same name in proofs/.
use Rattle.std.specs.Prelude.{ℕ, zero, suc, ◌≤◌, ◌≡◌, true, List, [], ◌∷◌, ◌++◌, length}
use Rattle.std.proofs.Math.Option.{Option, none, some}
use Rattle.limits.specs.Limits.{deepest}
use Rattle.bytestring.specs.Bytes.{ByteString}
use Rattle.answer.specs.Answer.{refused_with, done_with, encoded_of_two, said_of_two, taken_apart_in_two}
use Rattle.answer.specs.declared.Refusal.{Refusal}
use Rattle.fips180.specs.Hash.{sha256}
use Rattle.value.specs.Value.{digest_in, codec_in, value_in}
use Rattle.key.specs.Key.{lawful}
use Rattle.page.specs.Reading.{Read, read, ends_early, departs}
use Rattle.page.specs.Page.{RawPage, page_bytes, page}
use Rattle.tree.specs.Record.{records}
use Rattle.tree.specs.Table.{SpeltTree, bytes_of_page}
use Rattle.tree.specs.Judge.{accepted, judge}
use Rattle.promises.specs.Map.{find}
use Rattle.promises.specs.Pages.{pages_of}
use Rattle.promises.specs.Outcome.{wrote}
use Rattle.promises.specs.Reply.{lookup_reply}
use Rattle.promises.specs.Promises.{DigestsApart}
use Rattle.path.specs.Path.{path_of, path_outcome}
use Rattle.path.specs.Verify.{PathVerdict, stopped, absent, present, verify_verdict, verify_answer}
use Rattle.path.specs.Order.{path_reply, verify_reply, PathOrder, VerifyOrder}

-- The calls are refused in the order of checks: when each number is given, and what is answered and written otherwise.
abbrev pub PathReplies : Type 0
PathReplies = (s k : ByteString) (room : ℕ) → PathOrder s.list k.list room (path_reply s.list k.list room)

abbrev pub VerifyReplies : Type 0
VerifyReplies =
    (path k root : ByteString) → VerifyOrder path.list k.list root.list (verify_reply path.list k.list root.list)

-- Verify's answer as one number comes apart into its two values, or the number of its refusal.
abbrev pub VerifyComesApart : Type 0
VerifyComesApart =
    (path k root : ByteString)
    → taken_apart_in_two (encoded_of_two (verify_answer path.list (verify_verdict path.list k.list root.list)))
    ≡ said_of_two (verify_answer path.list (verify_verdict path.list k.list root.list))

-- A register's root digest is that of its root page.
abbrev pub root_digest : SpeltTree → List ℕ
root_digest t = sha256 (bytes_of_page t)

-- The pages of a path: those that its bytes spell, one after the other.
unfoldable pub pages_read : Read RawPage → (List ℕ → List (List ℕ)) → List (List ℕ)
pages_read ends_early later = []
pages_read departs later = []
pages_read (read p rest) later = page_bytes p ∷ later rest

unfoldable pub pages_of_path : ℕ → List ℕ → List (List ℕ)
pages_of_path zero s = []
pages_of_path (suc depth) s = pages_read (page s) (pages_of_path depth)

-- A verdict agrees with lookup: absent where lookup says so, and present with the codec and the digest that lookup finds.
abbrev pub Agrees : PathVerdict → List ℕ → List ℕ → List ℕ → Type 0
Agrees (stopped r) path s k = Unit {0}
Agrees absent path s k = (lookup_reply s k).answer ≡ refused_with 12
Agrees (present place) path s k =
    (there : ℕ) × ((lookup_reply s k).answer ≡ done_with (there ∷ codec_in path place ∷ [])) × (digest_in s there ≡ digest_in path place)

-- A verdict agrees with lookup in every register of that root digest, provided no two unequal pages of path and register share a digest.
abbrev pub VerdictAgrees : Type 0
VerdictAgrees =
    (path k s : ByteString) (t : SpeltTree) → judge s.list ≡ accepted t
    → DigestsApart (pages_of_path deepest path.list ++ pages_of t)
    → Agrees (verify_verdict path.list k.list (root_digest t)) path.list s.list k.list

-- With the same provision, a path that is not refused is the path of the key in that register, byte for byte.
abbrev pub OnePath : Type 0
OnePath =
    (path k s : ByteString) (t : SpeltTree) → judge s.list ≡ accepted t
    → DigestsApart (pages_of_path deepest path.list ++ pages_of t)
    → ((r : Refusal) → verify_verdict path.list k.list (root_digest t) ≡ stopped r → ⊥)
    → path.list ≡ path_of k.list t

-- With its key and its register's root digest, every path that is written is accepted: absent where the key is not there, and present with its
-- value where it is.
abbrev pub SaysWhatIsThere : Option (List ℕ) → List ℕ → PathVerdict → Type 0
SaysWhatIsThere none path v = v ≡ absent
SaysWhatIsThere (some val) path v = (place : ℕ) × (v ≡ present place) × (value_in path place ≡ val)

abbrev pub PathsAccepted : Type 0
PathsAccepted =
    (s k : ByteString) (t : SpeltTree) → judge s.list ≡ accepted t → (room : ℕ) (path : List ℕ)
    → path_outcome s.list k.list room ≡ wrote path
    → SaysWhatIsThere (find k.list (records t)) path (verify_verdict path k.list (root_digest t))

-- A path is no longer than its register, so that in an output as long as the register the path of every lawful key is written.
abbrev pub EveryPathIsWritten : Type 0
EveryPathIsWritten =
    (s k : ByteString) (t : SpeltTree) → judge s.list ≡ accepted t → lawful k.list ≡ true → (room : ℕ) → length s.list ≤ room
    → path_outcome s.list k.list room ≡ wrote (path_of k.list t)
