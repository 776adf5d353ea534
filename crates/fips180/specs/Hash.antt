-- FIPS 180-4, sections 4.2.2, 5 and 6.2: SHA-256 of a string of bytes.
use Rattle.std.specs.Prelude.{ℕ, zero, suc, ◌+◌, ◌-◌, ◌*◌, ◌/◌, ◌%◌, ◌^◌, cond, List, [], ◌∷◌, ◌++◌, length, get_or, take, drop, ltb}
use Rattle.bytestring.specs.Bytes.{zeros}
use Rattle.fips180.specs.Words.{◌⊞◌, Ch, Maj, Σ0, Σ1, σ0, σ1}
use Rattle.fips180.specs.declared.State.{State}

-- 4.2.2: the constants of the 64 rounds.
unfoldable pub K : List ℕ
K =
    0x428a_2f98 ∷ 0x7137_4491 ∷ 0xb5c0_fbcf ∷ 0xe9b5_dba5 ∷ 0x3956_c25b ∷ 0x59f1_11f1 ∷ 0x923f_82a4 ∷ 0xab1c_5ed5 ∷
    0xd807_aa98 ∷ 0x1283_5b01 ∷ 0x2431_85be ∷ 0x550c_7dc3 ∷ 0x72be_5d74 ∷ 0x80de_b1fe ∷ 0x9bdc_06a7 ∷ 0xc19b_f174 ∷
    0xe49b_69c1 ∷ 0xefbe_4786 ∷ 0x0fc1_9dc6 ∷ 0x240c_a1cc ∷ 0x2de9_2c6f ∷ 0x4a74_84aa ∷ 0x5cb0_a9dc ∷ 0x76f9_88da ∷
    0x983e_5152 ∷ 0xa831_c66d ∷ 0xb003_27c8 ∷ 0xbf59_7fc7 ∷ 0xc6e0_0bf3 ∷ 0xd5a7_9147 ∷ 0x06ca_6351 ∷ 0x1429_2967 ∷
    0x27b7_0a85 ∷ 0x2e1b_2138 ∷ 0x4d2c_6dfc ∷ 0x5338_0d13 ∷ 0x650a_7354 ∷ 0x766a_0abb ∷ 0x81c2_c92e ∷ 0x9272_2c85 ∷
    0xa2bf_e8a1 ∷ 0xa81a_664b ∷ 0xc24b_8b70 ∷ 0xc76c_51a3 ∷ 0xd192_e819 ∷ 0xd699_0624 ∷ 0xf40e_3585 ∷ 0x106a_a070 ∷
    0x19a4_c116 ∷ 0x1e37_6c08 ∷ 0x2748_774c ∷ 0x34b0_bcb5 ∷ 0x391c_0cb3 ∷ 0x4ed8_aa4a ∷ 0x5b9c_ca4f ∷ 0x682e_6ff3 ∷
    0x748f_82ee ∷ 0x78a5_636f ∷ 0x84c8_7814 ∷ 0x8cc7_0208 ∷ 0x90be_fffa ∷ 0xa450_6ceb ∷ 0xbef9_a3f7 ∷ 0xc671_78f2 ∷ []

-- 5.3.3: the initial hash value.
abbrev pub H0 : State
H0 = record { a = 0x6a09_e667; b = 0xbb67_ae85; c = 0x3c6e_f372; d = 0xa54f_f53a; e = 0x510e_527f; f = 0x9b05_688c; g = 0x1f83_d9ab; h = 0x5be0_cd19 }

-- 3.1: numbers as big-endian bytes.
abbrev pub bytes32 : ℕ → List ℕ
bytes32 x = x / 2 ^ 24 % 256 ∷ x / 2 ^ 16 % 256 ∷ x / 2 ^ 8 % 256 ∷ x % 256 ∷ []

abbrev pub bytes64 : ℕ → List ℕ
bytes64 x = bytes32 (x / 2 ^ 32) ++ bytes32 x

-- 5.1.1: the message m of n bytes, a bit 1 and seven bits 0, then k bytes 0, then n in bits as a number of 64 bits.
abbrev pub ending : List ℕ → ℕ → ℕ → List ℕ
ending m k n = m ++ (0x80 ∷ zeros k ++ bytes64 (8 * n))

-- The least k that fills the last block of 64 bytes.
unfoldable pub pad : List ℕ → List ℕ
pad m = ending m ((119 - length m % 64) % 64) (length m)

-- 6.2.2, step 1: the message schedule. The big-endian word at byte i of a block.
abbrev pub word : List ℕ → ℕ → ℕ
word m i = get_or m i 0 * 2 ^ 24 + get_or m (i + 1) 0 * 2 ^ 16 + get_or m (i + 2) 0 * 2 ^ 8 + get_or m (i + 3) 0

-- From the sixteenth on, a word is made of those 2, 7, 15 and 16 places before it.
abbrev pub next : ℕ → ℕ → ℕ → ℕ → ℕ
next w2 w7 w15 w16 = σ1 w2 ⊞ w7 ⊞ σ0 w15 ⊞ w16

-- The word t, from the block m and the words w before t.
unfoldable pub W : List ℕ → List ℕ → ℕ → ℕ
W m w t =
    cond (ltb t 16) (word m (4 * t))
    (next (get_or w (t - 2) 0) (get_or w (t - 7) 0) (get_or w (t - 15) 0) (get_or w (t - 16) 0))

-- The first t words of the schedule.
unfoldable pub schedule : ℕ → List ℕ → List ℕ
schedule zero m = []
schedule (suc t) m = schedule t m ++ (W m (schedule t m) t ∷ [])

-- 6.2.2, step 3: one round, with its constant and its word.
unfoldable pub round : State → ℕ → ℕ → State
round s k w =
    let t1 : ℕ = s.h ⊞ Σ1 s.e ⊞ Ch s.e s.f s.g ⊞ k ⊞ w in
    let t2 : ℕ = Σ0 s.a ⊞ Maj s.a s.b s.c in
    record { a = t1 ⊞ t2; b = s.a; c = s.b; d = s.c; e = s.d ⊞ t1; f = s.e; g = s.f; h = s.g }

-- The first t rounds, by the words w.
unfoldable pub rounds : ℕ → List ℕ → State → State
rounds zero w s = s
rounds (suc t) w s = round (rounds t w s) (get_or K t 0) (get_or w t 0)

-- 6.2.2, step 4: the sum of two hash values, word by word.
unfoldable pub plus : State → State → State
plus s t =
    record { a = s.a ⊞ t.a; b = s.b ⊞ t.b; c = s.c ⊞ t.c; d = s.d ⊞ t.d; e = s.e ⊞ t.e; f = s.f ⊞ t.f; g = s.g ⊞ t.g; h = s.h ⊞ t.h }

-- The hash value after one more block.
unfoldable pub compress : State → List ℕ → State
compress s m = plus (rounds 64 (schedule 64 m) s) s

-- The hash value s after the first k blocks of a padded message.
unfoldable pub after_blocks : ℕ → State → List ℕ → State
after_blocks zero s m = s
after_blocks (suc k) s m = compress (after_blocks k s m) (take 64 (drop (64 * k) m))

-- The eight words of the message's digest.
unfoldable pub hash : List ℕ → State
hash m = after_blocks (length (pad m) / 64) H0 (pad m)

abbrev pub words : State → List ℕ
words s = s.a ∷ s.b ∷ s.c ∷ s.d ∷ s.e ∷ s.f ∷ s.g ∷ s.h ∷ []

-- Words as bytes, one after the other.
abbrev pub bytes_of : List ℕ → List ℕ
bytes_of [] = []
bytes_of (w ∷ ws) = bytes32 w ++ bytes_of ws

-- SHA-256: the message's digest, 32 bytes.
unfoldable pub sha256 : List ℕ → List ℕ
sha256 m = bytes_of (words (hash m))
