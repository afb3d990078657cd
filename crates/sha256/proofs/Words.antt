-- Laws of words: a word turned, as std turns it.
-- Assumes nothing.
use Rattle.std.proofs.Common.{◌≡◌, ℕ, ◌-◌, ◌%◌, arith}
use Rattle.std.specs.Int.{w32, rotate_right}
use Rattle.sha256.specs.Functions.{IsTurn, rotr}

pub turned : (x n : ℕ) → IsTurn n → rotate_right w32 x n ≡ rotr n x
unfolding rotr
turned x n h =
    let right : n % 32 ≡ n = omega arith in
    let left : (32 - n) % 32 ≡ 32 - n = omega arith in
    rw (right, left)
