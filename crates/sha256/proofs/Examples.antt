-- Published digests, computed from the definitions in one test. More of them are run by `worked_examples`, and by the host tests
-- against a second program.
use Rattle.std.proofs.Common.{◌≡◌, ℕ, Bool, true, eqb, List, [], ◌∷◌, refl}
use Prim.Native.String.{String}
use Rattle.octets.specs.Text.{bytes}
use Rattle.octets.specs.Lists.{every}
use Rattle.octets.specs.BigEndian.{big_endian, big_endian_bytes, big_endian_from}
use Rattle.sha256.specs.Functions.{rotr, ch, maj, big_sigma, small_sigma}
use Rattle.sha256.specs.Constants.{round_constants, initial_hash}
use Rattle.sha256.specs.Digest.{padding, padded_message, block_words, schedule_word, next_word, extended, schedule, first_sum, second_sum, round, rounds, added, compressed, hashed, words_bytes, state_bytes, digest}

-- a message, and its digest as a number
record Row : Type 0 where
  message : String
  number : ℕ

abbrev row : String → ℕ → Row
row message number = record { message = message; number = number }

abbrev is_right : Row → Bool
is_right r = eqb (big_endian (digest (bytes r.message))) r.number

abbrev published : List Row
published =
    -- 24 bits, one block
    row "abc" 0xba7816bf_8f01cfea_414140de_5dae2223_b00361a3_96177a9c_b410ff61_f20015ad ∷
    -- 448 bits, two blocks
    row "abcdbcdecdefdefgefghfghighijhijkijkljklmklmnlmnomnopnopq" 0x248d6a61_d20638b8_e5c02693_0c3e6039_a33ce459_64ff2167_f6ecedd4_19db06c1 ∷
    -- RFC 7636, Appendix B: the code verifier
    row "dBjftJeZ4CVP-mB92K27uhbUJU1p1r_wW1gFWFOEjXk" 0x13d31e96_1a1ad8ec_2f16b10c_4c982e08_76a878ad_6df14456_6ee1894a_cb70f9c3 ∷
    []

all_right : every is_right published ≡ true
unfolding every big_endian_bytes big_endian_from rotr ch maj big_sigma small_sigma round_constants initial_hash padding padded_message block_words schedule_word next_word extended schedule first_sum second_sum round rounds added compressed hashed words_bytes state_bytes digest
all_right = refl
