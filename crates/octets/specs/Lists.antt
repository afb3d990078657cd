-- Lists of bytes: parts, tests of every element, equality, and the pieces between separators.
use Rattle.std.specs.Prelude.{ℕ, suc, ◌<◌, Bool, true, false, cond, not, ◌&&◌, List, [], ◌∷◌, take, drop, get_or, leb, eqb}

-- the n elements from index at on
abbrev pub part : List ℕ → ℕ → ℕ → List ℕ
part l at n = take n (drop at l)

-- each element is a byte
abbrev pub Bytes : List ℕ → Type 0
Bytes l = (k : ℕ) → get_or l k 0 < 256

-- every element passes the test
unfoldable pub every : {A : Type 0} → (A → Bool) → List A → Bool
every p [] = true
every p (x ∷ xs) = p x && every p xs

-- the byte is zero
abbrev pub is_zero : ℕ → Bool
is_zero b = eqb b 0

-- the byte is within low and high, both included, and is not `except`
abbrev pub in_class : ℕ → ℕ → ℕ → ℕ → Bool
in_class low high except b = leb low b && leb b high && not (eqb b except)

-- two lists are equal
unfoldable pub same : List ℕ → List ℕ → Bool
same [] [] = true
same [] (y ∷ ys) = false
same (x ∷ xs) [] = false
same (x ∷ xs) (y ∷ ys) = eqb x y && same xs ys

-- how many elements stand before the first x: all of them where there is none
unfoldable pub index_of : ℕ → List ℕ → ℕ
index_of x [] = 0
index_of x (c ∷ t) = cond (eqb c x) 0 (suc (index_of x t))

-- the pieces, with c in front of the first
unfoldable pub grow : ℕ → List (List ℕ) → List (List ℕ)
grow c [] = []
grow c (p ∷ ps) = (c ∷ p) ∷ ps

-- the pieces of a list between its separators x: one more than it has separators
unfoldable pub split_on : ℕ → List ℕ → List (List ℕ)
split_on x [] = [] ∷ []
split_on x (c ∷ t) = let r = split_on x t in cond (eqb c x) ([] ∷ r) (grow c r)
