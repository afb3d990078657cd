-- Lists searched and counted: how many elements pass a test, the first that passes and its place, and lists with
-- other elements in the places of those that pass.
use Rattle.std.specs.Prelude.{ℕ, suc, ◌+◌, Bool, true, false, cond, ◌||◌, List, [], ◌∷◌}

-- a test as a number
abbrev pub bit : Bool → ℕ
bit true = 1
bit false = 0

module _ {A : Type 0} where
  -- how many pass
  unfoldable pub count : (A → Bool) → List A → ℕ
  count p [] = 0
  count p (x ∷ xs) = bit (p x) + count p xs

  -- one passes
  unfoldable pub any : (A → Bool) → List A → Bool
  any p [] = false
  any p (x ∷ xs) = p x || any p xs

  -- how many stand before the first that passes: all of them where none does
  unfoldable pub index_where : (A → Bool) → List A → ℕ
  index_where p [] = 0
  index_where p (x ∷ xs) = cond (p x) 0 (suc (index_where p xs))

  -- the first that passes, or d
  unfoldable pub first_or : A → (A → Bool) → List A → A
  first_or d p [] = d
  first_or d p (x ∷ xs) = cond (p x) x (first_or d p xs)

  -- y in place of the first that passes
  unfoldable pub replace_first : (A → Bool) → A → List A → List A
  replace_first p y [] = []
  replace_first p y (x ∷ xs) = cond (p x) (y ∷ xs) (x ∷ replace_first p y xs)

  -- y in place of all that pass
  unfoldable pub replace_all : A → (A → Bool) → List A → List A
  replace_all y p [] = []
  replace_all y p (x ∷ xs) = cond (p x) y x ∷ replace_all y p xs

  -- those that pass
  unfoldable pub keep : (A → Bool) → List A → List A
  keep p [] = []
  keep p (x ∷ xs) = let r = keep p xs in cond (p x) (x ∷ r) r
