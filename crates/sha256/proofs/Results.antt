-- A digest is a list of bytes, whatever the message.
-- Assumes nothing.
use Rattle.std.proofs.Common.{◌≡◌, ℕ, zero, suc, ◌/◌, ◌%◌, Bool, true, ltb, List, [], ◌∷◌, refl, ◌∙◌, arith, ltb-true, lt-ltb}
use Rattle.octets.specs.Lists.{Bytes, every}
use Rattle.octets.specs.BigEndian.{big_endian_bytes}
use Rattle.octets.proofs.Lists.{every_append, class-bytes}
use Rattle.sha256.specs.Digest.{words_bytes, state_words, state_bytes, digest}

abbrev is_byte : ℕ → Bool
is_byte b = ltb b 256

be-small : (n x : ℕ) → every is_byte (big_endian_bytes n x) ≡ true
unfolding big_endian_bytes every
be-small zero x = refl
be-small (suc n) x =
    every_append is_byte (big_endian_bytes n (x / 256)) ((x % 256) ∷ []) ∙ rw (be-small n (x / 256), lt-ltb (x % 256) 256 (omega arith))

words_small : (ws : List ℕ) → every is_byte (words_bytes ws) ≡ true
unfolding words_bytes every
words_small [] = refl
words_small (w ∷ ws) = every_append is_byte (big_endian_bytes 4 w) (words_bytes ws) ∙ rw (be-small 4 w, words_small ws)

pub digest-small : (m : List ℕ) → Bytes (digest m)
unfolding digest state_bytes
digest-small m = class-bytes is_byte (λ b e. ltb-true b 256 e) _ (words_small (state_words _))
