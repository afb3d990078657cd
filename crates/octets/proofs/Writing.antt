-- Laws of `Appended`: texts written one behind the other are one text.
--
-- In order: bytes stored one by one; nothing written, and two texts, one behind the other; the length of what is written to;
-- a text at the front; a writer's loop, which keeps what is left to write.
--
-- Not here: runs of stores alone (`Stores`).
-- Assumes nothing.
use Prim.Native.Nat.{ℕ, ◌+◌}
use mathlib.Core.Path.{◌≡◌, refl, sym, ◌∙◌, ap}
use mathlib.Core.List.{List, [], ◌∷◌, ◌++◌}
use native.Mathlib.Nat.{add-zero, zero-add}
use native.Mathlib.Numerals.{add-one, towards_suc}
use native.Mathlib.Omega.{arith}
use lib.ListN.{length, set, length-append}
use lib.Seq.{sets, length-sets}
use Rattle.octets.specs.Writing.{Appended}
use Rattle.octets.proofs.Stores.{sets-append}

-- ---- bytes stored one behind the other

module _ (b : List ℕ) (at x : ℕ) where
  pub store-one : Appended b at (x ∷ []) (set b at x) (at + 1)
  store-one = record { bytes = refl; end = refl }

  pub store_two : (y : ℕ) → Appended b at (x ∷ y ∷ []) (set (set b at x) (at + 1) y) (at + 2)
  store_two y = record { bytes = rw (add-one at); end = refl }

  pub store-three : (y z : ℕ) → Appended b at (x ∷ y ∷ z ∷ []) (set (set (set b at x) (at + 1) y) (at + 2) z) (at + 3)
  store-three y z = record { bytes = simp towards_suc; end = refl }

-- ---- no text, and two texts

pub append-nothing : (b : List ℕ) (at : ℕ) → Appended b at [] b at
append-nothing b at = record { bytes = refl; end = sym (add-zero at) }

pub append-both : {b x m y a : List ℕ} {at n k : ℕ} → Appended b at x m n → Appended m n y a k → Appended b at (x ++ y) a k
append-both {b} {x} {m} {y} {a} {at} f s =
    record {
      bytes = s.bytes ∙ rw (f.bytes, f.end) (sets-append b at x y);
      end = omega (arith, f.end, s.end, length-append x y);
    }

-- ---- what is written to keeps its length

pub append-length : {b x a : List ℕ} {at n : ℕ} → Appended b at x a n → length a ≡ length b
append-length {b} {x} {a} {at} f = ap length f.bytes ∙ length-sets b at x

-- ---- a text at the front: its end is its length

pub append-front : {b x a : List ℕ} {n : ℕ} → Appended b 0 x a n → n ≡ length x
append-front {b} {x} f = f.end ∙ zero-add (length x)

-- ---- a writer's loop: to write the rest from `next` on gives the whole text

pub record Unwritten (before : List ℕ) (at : ℕ) (text after : List ℕ) (next : ℕ) (rest : List ℕ) : Type 0 where
  pub bytes : sets after next rest ≡ sets before at text
  pub end : next + length rest ≡ at + length text

pub write-start : (b : List ℕ) (at : ℕ) (x : List ℕ) → Unwritten b at x b at x
write-start b at x = record { bytes = refl; end = refl }

module _ {b x m : List ℕ} {at n : ℕ} where
  -- one text of the rest is written, and the others are left
  pub write-more : {p y a : List ℕ} {k : ℕ} → Unwritten b at x m n (p ++ y) → Appended m n p a k → Unwritten b at x a k y
  write-more {p} {y} u f =
      record {
        bytes = rw (f.bytes, f.end) (sets-append m n p y) ∙ u.bytes;
        end = omega (arith, f.end, u.end, length-append p y);
      }

  pub write-end : Unwritten b at x m n [] → Appended b at x m n
  write-end u = record { bytes = u.bytes; end = omega (arith, u.end) }
