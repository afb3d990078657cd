-- Laws of the padding: its length, its stores one behind the other, and that a padded message is whole blocks.
-- Assumes nothing.
use Rattle.std.proofs.Common.{◌≡◌, ℕ, zero, suc, ◌+◌, ◌*◌, ◌/◌, ◌%◌, ◌^◌, ◌≤◌, List, [], ◌∷◌, ◌++◌, length, take, drop, set, replicate, sym, ap, ◌∙◌, ap₂, append_assoc, suc-add, zero-add, add-one, arith, length-append, length-drop, take-append-drop, length-take-le}
use lib.ListN.{length-replicate}
use lib.Seq.{sets, take-append-le, drop-append-le}
use native.Mathlib.Nat.{mul_comm, add-zero}
use Rattle.std.specs.Int.{w64, to_be_bytes}
use Rattle.octets.specs.BigEndian.{big_endian_bytes}
use Rattle.octets.proofs.BigEndian.{length-be-bytes, be-low-eight}
use Rattle.octets.specs.Writing.{Appended}
use Rattle.octets.proofs.Writing.{append-both, append-length, append-front}
use Rattle.octets.proofs.Stores.{sets-append, part-sets-same}
use Rattle.sha256.specs.Digest.{zero_bytes, padding, padded_message, compressed, hashed, hashed_all, state_bytes, digest}
use Rattle.sha256.specs.Constants.{initial_hash}
use Rattle.sha256.specs.declared.State.{State}

-- the byte 128, the zero bytes, and eight bytes for the number of bits
pub length-padding : (n : ℕ) → length (padding n) ≡ zero_bytes n + 9
unfolding padding
length-padding n =
    let zeros : List ℕ = replicate (zero_bytes n) 0 in
    let size = length-append zeros (big_endian_bytes 8 (8 * n)) in
    let some : length zeros ≡ zero_bytes n = length-replicate (zero_bytes n) 0 in
    omega (arith, size, some, length-be-bytes 8 (8 * n))

-- the three stores of the padding are one; `bits` are the bytes of the number of bits, of which eight bytes hold the last 64
pub padding-stores : (l : List ℕ) (at n : ℕ) (bits : List ℕ) → bits ≡ to_be_bytes w64 (n * 8 % 2 ^ 64)
    → sets (sets (set l at 128) (at + 1) (replicate (zero_bytes n) 0)) (at + 1 + zero_bytes n) bits ≡ sets l at (padding n)
unfolding padding
padding-stores l at n bits e =
    let zeros : List ℕ = replicate (zero_bytes n) 0 in
    let some : length zeros ≡ zero_bytes n = length-replicate (zero_bytes n) 0 in
    let all : bits ≡ big_endian_bytes 8 (8 * n) = e ∙ be-low-eight (n * 8) ∙ ap (big_endian_bytes 8) (mul_comm n 8) in
    let both = sets-append (set l at 128) (at + 1) zeros bits in
    rw some at both ∙ rw (all, add-one)

-- ---- a padded message is whole blocks

-- blocks one behind the other
hash-append : (a b : ℕ) (s : State) (x y : List ℕ) → length x ≡ 64 * a → hashed (a + b) s (x ++ y) ≡ hashed b (hashed a s x) y
unfolding hashed
hash-append zero b s [] y e = rw (zero-add b)
hash-append zero b s (c ∷ x) y e = absurd (omega arith)
hash-append (suc a) b s x y e =
    let rest : length (drop 64 x) ≡ 64 * a = length-drop 64 x ∙ omega arith in
    ap (λ (k : ℕ). hashed k s (x ++ y)) (suc-add a b)
    ∙ ap₂ (λ (block t : List ℕ). hashed (a + b) (compressed s block) t) (take-append-le 64 x y (omega arith)) (drop-append-le 64 x y (omega arith))
    ∙ hash-append a b (compressed s (take 64 x)) (drop 64 x) y rest

hash-both : (s : State) (x y : List ℕ) → length x % 64 ≡ 0 → hashed_all (hashed_all s x) y ≡ hashed_all s (x ++ y)
hash-both s x y e =
    let size = length-append x y in
    let blocks : length x / 64 + length y / 64 ≡ length (x ++ y) / 64 = rw size (omega arith) in
    sym (hash-append (length x / 64) (length y / 64) s x y (omega arith)) ∙ ap (λ (k : ℕ). hashed k s (x ++ y)) blocks

-- the rest of a message with the padding is one block or two
pub length_rest : (n : ℕ) (rest : List ℕ) → length rest ≡ n % 64 → length (rest ++ padding n) ≡ n % 64 + (zero_bytes n + 9)
length_rest n rest e = length-append rest (padding n) ∙ rw (length-padding n) (omega arith)

-- the whole blocks of a message come first, then its rest with the padding
whole-blocks : (s : State) (m : List ℕ) → hashed_all s (take (length m / 64 * 64) m) ≡ hashed_all s m
unfolding hashed
whole-blocks s m =
    let n = length m / 64 in
    let front : length (take (n * 64) m) ≡ n * 64 = length-take-le (n * 64) m (omega arith) in
    let count : length (take (n * 64) m) / 64 ≡ n = omega arith in
    rw count (sym (hash-append n 0 s (take (n * 64) m) (drop (n * 64) m) (omega arith)) ∙ rw (add-zero, take-append-drop))

pub digest-parts : (m : List ℕ) →
    state_bytes (hashed_all (hashed_all initial_hash m) (drop (length m / 64 * 64) m ++ padding (length m))) ≡ digest m
unfolding digest padded_message
digest-parts m =
    let whole = length m / 64 * 64 in
    let p = padding (length m) in
    let front : length (take whole m) ≡ whole = length-take-le whole m (omega arith) in
    let cut : take whole m ++ (drop whole m ++ p) ≡ m ++ p =
    sym (append_assoc (take whole m) (drop whole m) p) ∙ ap (λ (t : List ℕ). t ++ p) (take-append-drop whole m) in
    ap state_bytes
    (ap (λ (s : State). hashed_all s (drop whole m ++ p)) (sym (whole-blocks initial_hash m))
    ∙ hash-both initial_hash (take whole m) (drop whole m ++ p) (omega (arith, front))
    ∙ ap (hashed_all initial_hash) cut)

-- the rest and the padding, one behind the other at the front of two blocks
pub padded-front : (rest mid out : List ℕ) (n end size : ℕ) → length rest ≡ n % 64
    → Appended (replicate 128 0) 0 rest mid end → Appended mid end (padding n) out size → (size ≤ length out) × (take size out ≡ rest ++ padding n)
padded-front rest mid out n end size e a b =
    let all = append-both a b in
    let long = length_rest n rest e in
    let fits : length (rest ++ padding n) ≤ 128 = omega (arith, long) in (
      rw (append-front all, append-length all) fits,
      rw (append-front all, all.bytes) (part-sets-same (replicate 128 0) 0 (rest ++ padding n) (omega (arith, fits))),
    )
