-- For contracts inside; the exports' contracts do not cite it.
--
-- Writing texts one behind the other, which every writer's contract says in the same words.
use Rattle.std.specs.Prelude.{ℕ, ◌+◌, ◌≡◌, List, length}
use Rattle.std.proofs.lemmas.List.Edits.{sets}

-- the text stands from `at` on, every other byte is as it was before, and `next` is the place behind the text
pub record Appended (before : List ℕ) (at : ℕ) (text after : List ℕ) (next : ℕ) : Type 0 where
  pub bytes : after ≡ sets before at text
  pub end : next ≡ at + length text
