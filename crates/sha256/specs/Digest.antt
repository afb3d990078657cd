-- SHA-256 of a message: FIPS 180-4, sections 5.1.1, 5.2.1 and 6.2.
use Rattle.std.specs.Prelude.{ℕ, zero, suc, ◌-◌, ◌*◌, ◌/◌, ◌%◌, List, [], ◌∷◌, ◌++◌, length, take, drop, replicate, slice_index}
use Rattle.octets.specs.BigEndian.{big_endian, big_endian_bytes}
use Rattle.sha256.specs.declared.State.{State}
use Rattle.sha256.specs.Functions.{plus, ch, maj, big_sigma0, big_sigma1, small_sigma0, small_sigma1}
use Rattle.sha256.specs.Constants.{round_constants, initial_hash}

-- ---- 5.1.1, padding the message

-- "k zero bits, where k is the smallest, non-negative solution to the equation l + 1 + k ≡ 448 mod 512": in bytes, since
-- the bit 1 and the first seven of the zero bits are a byte, and 448 bits are 56 bytes of a block of 64
abbrev pub zero_bytes : ℕ → ℕ
zero_bytes n = (119 - n % 64) % 64

-- "Append the bit 1 to the end of the message, followed by k zero bits .. Then append the 64-bit block that is equal to
-- the number l expressed using a binary representation." The standard's messages have less than 2^64 bits; of a longer
-- one the last 64 bits of l are taken
unfoldable pub padding : ℕ → List ℕ
padding n = 128 ∷ (replicate (zero_bytes n) 0 ++ big_endian_bytes 8 (8 * n))

unfoldable pub padded_message : List ℕ → List ℕ
padded_message m = m ++ padding (length m)

-- ---- 6.2.2, a block's part of the hash

-- step 1, for t below 16, with 5.2.1: a block of 64 bytes is sixteen words, the highest byte first
unfoldable pub block_words : ℕ → List ℕ → List ℕ
block_words zero block = []
block_words (suc n) block = big_endian (take 4 block) ∷ block_words n (drop 4 block)

-- step 1, for t from 16 on: "W_t = σ1(W_t-2) + W_t-7 + σ0(W_t-15) + W_t-16"
unfoldable pub schedule_word : ℕ → ℕ → ℕ → ℕ → ℕ
schedule_word a b c d = plus (plus (plus (small_sigma1 a) b) (small_sigma0 c)) d

-- W_t, of the t words before it
unfoldable pub next_word : List ℕ → ℕ
next_word w = let t = length w in schedule_word (slice_index w (t - 2)) (slice_index w (t - 7)) (slice_index w (t - 15)) (slice_index w (t - 16))

-- the words, and n more
unfoldable pub extended : ℕ → List ℕ → List ℕ
extended zero w = w
extended (suc n) w = extended n (w ++ next_word w ∷ [])

-- the message schedule of a block: 64 words
unfoldable pub schedule : List ℕ → List ℕ
schedule block = extended 48 (block_words 16 block)

-- step 3: "T1 = h + Σ1(e) + Ch(e, f, g) + K_t + W_t"
unfoldable pub first_sum : State → ℕ → ℕ → ℕ
first_sum s k w = plus (plus (plus (plus s.h (big_sigma1 s.e)) (ch s.e s.f s.g)) k) w

-- "T2 = Σ0(a) + Maj(a, b, c)"
unfoldable pub second_sum : State → ℕ
second_sum s = plus (big_sigma0 s.a) (maj s.a s.b s.c)

-- "h = g, g = f, f = e, e = d + T1, d = c, c = b, b = a, a = T1 + T2"
unfoldable pub round : State → ℕ → ℕ → State
round s k w = record {
  a = plus (first_sum s k w) (second_sum s);
  b = s.a;
  c = s.b;
  d = s.c;
  e = plus s.d (first_sum s k w);
  f = s.e;
  g = s.f;
  h = s.g;
}

-- the rounds, one for each constant and word
unfoldable pub rounds : State → List ℕ → List ℕ → State
rounds s [] ws = s
rounds s (k ∷ ks) [] = s
rounds s (k ∷ ks) (w ∷ ws) = rounds (round s k w) ks ws

-- step 4: the working variables are added to the hash value so far
unfoldable pub added : State → State → State
added s t = record {
  a = plus s.a t.a;
  b = plus s.b t.b;
  c = plus s.c t.c;
  d = plus s.d t.d;
  e = plus s.e t.e;
  f = plus s.f t.f;
  g = plus s.g t.g;
  h = plus s.h t.h;
}

-- the hash value after a block
unfoldable pub compressed : State → List ℕ → State
compressed s block = added s (rounds s round_constants (schedule block))

-- ---- 6.2, the blocks in order, and the digest

-- the hash value after the first n blocks
unfoldable pub hashed : ℕ → State → List ℕ → State
hashed zero s m = s
hashed (suc n) s m = hashed n (compressed s (take 64 m)) (drop 64 m)

-- the hash value after all blocks
abbrev pub hashed_all : State → List ℕ → State
hashed_all s m = hashed (length m / 64) s m

-- words as bytes, the highest byte of each first
unfoldable pub words_bytes : List ℕ → List ℕ
words_bytes [] = []
words_bytes (w ∷ ws) = big_endian_bytes 4 w ++ words_bytes ws

-- "H_0 ‖ H_1 ‖ .. ‖ H_7"
abbrev pub state_words : State → List ℕ
state_words s = s.a ∷ s.b ∷ s.c ∷ s.d ∷ s.e ∷ s.f ∷ s.g ∷ s.h ∷ []

unfoldable pub state_bytes : State → List ℕ
state_bytes s = words_bytes (state_words s)

-- the digest of a message: 32 bytes
unfoldable pub digest : List ℕ → List ℕ
digest m = state_bytes (hashed_all initial_hash (padded_message m))
