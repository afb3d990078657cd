-- Laws of a search of a store's slots, from the lowest on: `find`, `vacant`, `has_room`, `clashes` and `fit` are such searches.
--
-- In order: what std's searches of the slots' bytes answer, as what the search of the slots does; what an answer says of the slots.
--
-- Not here: searches of any list (octets' `Searches`), counts (octets' `Counting`).
-- Assumes nothing.
use mathlib.Core.Path.{◌≡◌, refl, sym, ap, ap₂, ◌∙◌}
use mathlib.Core.Bool.{Bool, true, false, cond, ◌&&◌, ◌||◌}
use mathlib.Core.List.{List, [], ◌∷◌, map}
use Prim.Native.Nat.{ℕ, ◌+◌, ◌≤◌, ◌<◌, min}
use native.Mathlib.Decide.{dec_lt}
use native.Mathlib.Omega.{arith}
use Rattle.std.specs.Prelude.{Some, None}
use Rattle.std.proofs.Common.{length-take}
use Rattle.std.specs.List.{position_or_len, list_any, list_all, filter, count_by}
use Rattle.std.proofs.lemmas.List.Recursion.{is_position_or_len, is_count_by}
use Rattle.std.proofs.lemmas.List.Sums.{length-filter}
use borrow.Author.Tests.{lt-ltb, le-ltb, ltb-true, ltb-false, eq-eqb, ne_eqb, le-leb, lt-leb}
use lib.Dec.{eqb, leb, ltb}
use lib.ListN.{length, take, get_or, set, get_or-eq_default}
use lib.Seq.{set_out}
use Rattle.octets.specs.Lists.{every}
use Rattle.octets.specs.Search.{bit, count, any, first_or, index_where, replace_first}
use Rattle.octets.proofs.Searches.{index_at, first_or-index, replace_first-index, any-index}
use Rattle.token_store.specs.Layout.{slot_count}
use Rattle.token_store.specs.Store.{decode_slot, decode, free_slot, found_at}
use Rattle.token_store.specs.declared.Slot.{Slot}
use Rattle.token_store.proofs.Codec.{length-slots, length-pieces}

-- the place of the first slot that passes
abbrev pub place_of : (Slot → Bool) → List ℕ → ℕ
place_of p b = index_where p (decode b).slots

-- ---- a search of the slots' bytes

-- a test of a slot, as one of its bytes
abbrev pub read_by : (Slot → Bool) → List ℕ → Bool
read_by p l = p (decode_slot l)

module _ (p : Slot → Bool) where
  place-in : (pieces : List (List ℕ)) → index_where p (map decode_slot pieces) ≡ position_or_len (read_by p) pieces
  unfolding index_where
  place-in = is_position_or_len (λ ls. index_where p (map decode_slot ls)) (read_by p) refl (λ l ls. ap (λ (n : ℕ). cond (read_by p l) 0 n) (omega arith))

  count-in : (pieces : List (List ℕ)) → count p (map decode_slot pieces) ≡ count_by (read_by p) pieces
  unfolding count
  count-in = is_count_by (λ ls. count p (map decode_slot ls)) (read_by p) refl (λ l ls. one (read_by p l) (count p (map decode_slot ls)))
    where
      one : (q : Bool) (n : ℕ) → bit q + n ≡ cond q (1 + n) n
      one true n = refl
      one false n = omega arith

  any-in : (pieces : List (List ℕ)) → list_any (read_by p) pieces ≡ any p (map decode_slot pieces)
  unfolding any
  any-in [] = refl
  any-in (l ∷ ls) = ap (λ r. read_by p l || r) (any-in ls)

  every-in : (pieces : List (List ℕ)) → list_all (read_by p) pieces ≡ every p (map decode_slot pieces)
  unfolding every
  every-in [] = refl
  every-in (l ∷ ls) = ap (λ r. read_by p l && r) (every-in ls)

  module _ (b : List ℕ) (pieces : List (List ℕ)) (said : map decode_slot pieces ≡ (decode b).slots) where
    -- the first that passes
    pub first-slot : let i = position_or_len (read_by p) pieces in cond (ltb i (length pieces)) (Some i) None ≡ found_at (place_of p b)
    first-slot =
        ap₂ (λ (i n : ℕ). cond (ltb i n) (Some i) None) (sym (place-in pieces) ∙ ap (index_where p) said) (length-pieces b pieces said)

    -- whether one does, and whether all do
    pub any-slot : list_any (read_by p) pieces ≡ any p (decode b).slots
    any-slot = any-in pieces ∙ ap (any p) said

    pub every-slot : list_all (read_by p) pieces ≡ every p (decode b).slots
    every-slot = every-in pieces ∙ ap (every p) said

    -- whether n do
    pub slots-enough : (n : ℕ) → eqb (length (take n (filter (read_by p) pieces))) n ≡ leb n (count p (decode b).slots)
    slots-enough n = rw (length-take, length-filter, ← count-in pieces, said) (by (count p (decode b).slots) (dec_lt (count p (decode b).slots) n))
      where
        by : (m : ℕ) → Dec (m < n) → eqb (min n m) n ≡ leb n m
        by m (yes l) = ne_eqb (min n m) n (λ z. omega arith) ∙ sym (lt-leb n m l)
        by m (no l) = eq-eqb (min n m) n (omega arith) ∙ sym (le-leb n m (omega arith))

-- ---- what an answer says

-- slot i is the first that passes
pub record First (p : Slot → Bool) (slots : List Slot) (i : ℕ) : Type 0 where
  pub below : i < slot_count
  pub passes : p (get_or slots i free_slot) ≡ true
  pub some : any p slots ≡ true
  pub taken : first_or free_slot p slots ≡ get_or slots i free_slot
  pub replaced : (s : Slot) → replace_first p s slots ≡ set slots i s

-- no slot passes
pub record NoSlot (p : Slot → Bool) (slots : List Slot) : Type 0 where
  pub none : any p slots ≡ false
  pub taken : first_or free_slot p slots ≡ free_slot
  pub kept : (s : Slot) → replace_first p s slots ≡ slots

module _ (p : Slot → Bool) (b : List ℕ) where
  first : (i : ℕ) → place_of p b < slot_count → place_of p b ≡ i → First p (decode b).slots i
  first i h e =
      let slots = (decode b).slots in
      let n : length slots ≡ slot_count = length-slots b in
      record {
        below = omega arith;
        passes = rw (← e) (index_at p free_slot slots (omega arith));
        some = any-index p slots ∙ lt-ltb (place_of p b) (length slots) (omega arith);
        taken = rw (← e) (first_or-index p free_slot slots);
        replaced = λ s. rw (← e) (replace_first-index p s slots);
      }

  nowhere : slot_count ≤ place_of p b → NoSlot p (decode b).slots
  nowhere h =
      let slots = (decode b).slots in
      let past : length slots ≤ place_of p b = omega (arith, length-slots b) in
      record {
        none = any-index p slots ∙ le-ltb (place_of p b) (length slots) past;
        taken = first_or-index p free_slot slots ∙ get_or-eq_default slots free_slot past;
        kept = λ s. replace_first-index p s slots ∙ set_out slots (place_of p b) s past;
      }

  pub found_first : (i : ℕ) → found_at (place_of p b) ≡ Some i → First p (decode b).slots i
  found_first i e = by (ltb (place_of p b) slot_count) refl e
    where
      by : (q : Bool) → ltb (place_of p b) slot_count ≡ q → cond q (Some (place_of p b)) None ≡ Some i → First p (decode b).slots i
      by true t e = first i (ltb-true (place_of p b) slot_count t) (cc)
      by false t e = absurd (cc)

  pub found_none : found_at (place_of p b) ≡ None → NoSlot p (decode b).slots
  found_none e = by (ltb (place_of p b) slot_count) refl e
    where
      by : (q : Bool) → ltb (place_of p b) slot_count ≡ q → cond q (Some (place_of p b)) None ≡ None → NoSlot p (decode b).slots
      by true t e = absurd (cc)
      by false t e = nowhere (ltb-false (place_of p b) slot_count t)
