-- Laws of scope values, as a whole: what is read of a text, and what is written of a set.
--
-- In order: a set that was read, its bounds and its names; two values of the same names; the length of what is
-- written, and that it is read as it was meant.
--
-- Not here: one step of the reader or of the writer (`Steps`); the number of one name (`Names`); sets alone (`Set`).
-- Assumes nothing.
use Prim.Native.Nat.{ℕ, suc, ◌+◌, ◌-◌, ◌≤◌, ◌<◌}
use mathlib.Core.Path.{◌≡◌, refl, sym, ◌∙◌, ap, ap₂}
use mathlib.Core.Bool.{Bool, true, false, ◌||◌, false≢true, or-true}
use mathlib.Core.List.{List, [], ◌∷◌}
use native.Mathlib.Omega.{arith}
use borrow.Author.Tests.{eqb-true, eqb-false, ne_eqb, not-true}
use lib.Bits.{bit_or, or_lt, or_add_and, and_le_r}
use lib.Dec.{T, eqb}
use lib.ListN.{length, replicate, length-append}
use Rattle.octets.specs.Lists.{every, same, split_on, grow}
use Rattle.octets.proofs.Pieces.{split-first}
use Rattle.octets.proofs.Booleans.{by-test, and_left, and_right, both_ways, cond_of, of_T}
use Rattle.octets.proofs.Lists.{same_refl, same-eq}
use Rattle.octets.proofs.Table.{every_from, at}
use Rattle.scope.specs.Set.{names, name_at, has, of_byte}
use Rattle.scope.specs.Value.{bit_from, bit_of, is_name, is_among, union, read_scope, chosen, spaced, scope_text}
use Rattle.scope.specs.declared.Scope.{Scope}
use Rattle.std.specs.Prelude.{Option, Some, None}
use Rattle.scope.proofs.Set.{has_join, has-empty, same-members}
use Rattle.scope.proofs.Names.{bit-bound, has-bit}

-- ---- what was read

-- a set was read of names alone, and is theirs
pub read_told : (v : List ℕ) (s : Scope) → read_scope v ≡ Some s → (every is_name (split_on 32 v) ≡ true) × (s.bits ≡ union (split_on 32 v))
unfolding read_scope
read_told v s e =
    let ns = split_on 32 v in
    by-test (every is_name ns)
    (λ f. let g : Some (of_byte (union ns)) ≡ Some s = rw f at e in let w : s ≡ of_byte (union ns) = cc in (f, ap (λ (x : Scope). x.bits) w))
    (λ f. let g : None ≡ Some s = rw f at e in let z : ◌≡◌ {A = ℕ} 0 1 = cc in absurd (omega arith))

union-bound : (ns : List (List ℕ)) → union ns < 256
unfolding union
union-bound [] = omega arith
union-bound (n ∷ ns) = or_lt 8 (bit_of n) (union ns) (bit-bound n) (union-bound ns)

union-some : (ts : List (List ℕ)) (n : List ℕ) (ns : List (List ℕ)) → ts ≡ n ∷ ns → every is_name ts ≡ true → union ts ≡ 0 → ⊥
unfolding union every
union-some ts n ns f e z =
    let i : is_name n ≡ true = and_left (is_name n) (every is_name ns) (rw f at e) in
    let o : bit_or (bit_of n) (union ns) ≡ 0 = sym (ap union f) ∙ z in
    eqb-false (bit_of n) 0 (not-true (eqb (bit_of n) 0) i) (omega (arith, or_add_and (bit_of n) (union ns), and_le_r (bit_of n) (union ns)))

-- it is not empty
pub read-bound : (v : List ℕ) (s : Scope) → read_scope v ≡ Some s → (s.bits < 256) × (s.bits ≡ 0 → ⊥)
read-bound v s e =
    let t = read_told v s e in
    (rw t.1 (union-bound (split_on 32 v)), λ z. union-some (split_on 32 v) _ _ (split-first 32 v) t.0 (sym t.1 ∙ z))

-- the names of a set that was read are those that stand in the text, in whatever order and however often
has-union : (ns : List (List ℕ)) (k : ℕ) → k < 8 → has (union ns) k ≡ is_among (name_at k) ns
unfolding union is_among
has-union [] k h = has-empty k
has-union (n ∷ ns) k h = has_join (bit_of n) (union ns) k ∙ ap₂ ◌||◌ (has-bit n k h) (has-union ns k h)

pub read-order : (v : List ℕ) (s : Scope) (k : ℕ) → read_scope v ≡ Some s → k < 8 → has s.bits k ≡ is_among (name_at k) (split_on 32 v)
read-order v s k e h = ap (λ (b : ℕ). has b k) (read_told v s e).1 ∙ has-union (split_on 32 v) k h

-- ---- two values that have the same texts between their spaces say the same

every-among : (p : List ℕ → Bool) (n : List ℕ) (ts : List (List ℕ)) → every p ts ≡ true → is_among n ts ≡ true → p n ≡ true
unfolding every is_among
every-among p n [] e i = absurd (false≢true i)
every-among p n (t ∷ ts) e i =
    by-test (same t n) (λ s. ap p (sym (same-eq t n s)) ∙ and_left (p t) (every p ts) e)
    (λ s. every-among p n ts (and_right (p t) (every p ts) e) (rw s at i))

among-every : (p : List ℕ → Bool) (ts : List (List ℕ)) → ((n : List ℕ) → is_among n ts ≡ true → p n ≡ true) → every p ts ≡ true
unfolding every is_among
among-every p [] h = refl
among-every p (t ∷ ts) h =
    rw (h t (rw (same_refl t)), among-every p ts (λ n i. h n (rw i (or-true (same t n)))))

module _ (ps qs : List (List ℕ)) (h : (n : List ℕ) → is_among n ps ≡ is_among n qs) where
  every-same : (p : List ℕ → Bool) → every p ps ≡ every p qs
  every-same p =
      both_ways (every p ps) (every p qs)
      (λ t. among-every p qs (λ n i. every-among p n ps t (h n ∙ i)))
      (λ t. among-every p ps (λ n i. every-among p n qs t (sym (h n) ∙ i)))

  union-same : union ps ≡ union qs
  union-same =
      same-members 8 (union ps) (union qs) (union-bound ps) (union-bound qs)
      (λ k l. has-union ps k l ∙ h (name_at k) ∙ sym (has-union qs k l))

pub read-members : (v w : List ℕ) → ((n : List ℕ) → is_among n (split_on 32 v) ≡ is_among n (split_on 32 w)) → read_scope v ≡ read_scope w
unfolding read_scope
read-members v w h = rw (every-same (split_on 32 v) (split_on 32 w) h is_name, union-same (split_on 32 v) (split_on 32 w) h)

-- ---- the length of what is written

-- what texts take with a space behind each
total : List (List ℕ) → ℕ
total [] = 0
total (n ∷ ns) = length n + 1 + total ns

spaced-length : (ns : List (List ℕ)) → length (spaced ns) ≤ total ns - 1
unfolding spaced total
spaced-length [] = omega arith
spaced-length (n ∷ []) = omega arith
spaced-length (n ∷ m ∷ ms) = omega (arith, length-append n (32 ∷ spaced (m ∷ ms)), spaced-length (m ∷ ms))

chosen-total : (set k : ℕ) (ns : List (List ℕ)) → total (chosen set k ns) ≤ total ns
unfolding chosen total
chosen-total set k [] = omega arith
chosen-total set k (n ∷ ns) =
    let rest = chosen-total set (suc k) ns in
    cond_of (λ l. total l ≤ length n + 1 + total ns) (has set k) (n ∷ chosen set (suc k) ns) (chosen set (suc k) ns)
    (λ e. omega (arith, rest)) (λ e. omega (arith, rest))

all-names : total names ≡ 49
unfolding total names
all-names = refl

-- all eight names take 48
pub text-length : (set : ℕ) → length (scope_text set) ≤ 48
unfolding scope_text
text-length set = omega (arith, spaced-length (chosen set 0 names), chosen-total set 0 names, all-names)

-- ---- what is written of a set that is not empty says that set

-- a value says the set
says : ℕ → Option Scope → Bool
says set (Some s) = eqb s.bits set
says set None = false

says-set : (set : ℕ) (v : Option Scope) → says set v ≡ true → v ≡ Some (of_byte set)
unfolding says
says-set set (Some s) e = ap (λ (b : ℕ). Some (of_byte b)) (eqb-true s.bits set e)
says-set set None e = absurd (false≢true e)

sound : ℕ → Bool
sound set = eqb set 0 || says set (read_scope (scope_text set))

tested : T (every_from {A = ℕ} (λ set _. sound set) 0 (replicate 256 0))
unfolding sound says scope_text chosen names spaced read_scope every union bit_of bit_from same split_on grow
tested = tt

sound-all : (set : ℕ) → set < 256 → sound set ≡ true
sound-all set h = of_T (sound set) (at {A = ℕ} (λ k _. sound k) 0 (replicate 256 0) tested set h)

pub read-written : (set : ℕ) → 0 < set → set < 256 → read_scope (scope_text set) ≡ Some (record { bits = set })
unfolding sound
read-written set p h =
    says-set set (read_scope (scope_text set)) (rw (ne_eqb set 0 (λ z. omega arith)) at (sound-all set h))
