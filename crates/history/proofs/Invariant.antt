-- What holds between the slots of the store and what stands by the calls: the live slots and the live issues are one bag.
--
-- That is said by all tests at once: as many live slots pass a test as live issues do. So a look-up, the room that is left, and
-- what a slot holds are each that law at one test; time passes by putting the later liveness into the test; and a change of one
-- slot is arithmetic on counts.
--
-- In order: a look-up; the invariant; a code that is spent; what keeps the invariant (time, more random bytes, an issue, what is withdrawn, what is
-- spent), and the room that is left; what it says of a look-up by a handle that came once, and of a code that is shown again.
-- Assumes nothing.
use mathlib.Core.Path.{◌≡◌, refl, sym, ap, ap₂, ◌∙◌}
use mathlib.Core.Bool.{Bool, true, false, cond, not, ◌&&◌, false≢true, and_assoc, and-true, and-false}
use mathlib.Core.List.{List, [], ◌∷◌, map, Memᴰ}
use Prim.Native.Nat.{ℕ, ◌+◌, ◌≤◌}
use Rattle.std.specs.Prelude.{None, Option, unwrap_or, Some}
use native.Mathlib.Nat.{zero-add}
use native.Mathlib.Omega.{arith}
use borrow.Author.Tests.{ltb-true, lt-ltb, le-ltb, not-true}
use lib.Dec.{eqb, ltb}
use lib.ListN.{length, replicate, length-replicate, length-map}
use Rattle.octets.specs.Lists.{same}
use Rattle.octets.proofs.Booleans.{by-test, and-swap, and_left, and_right}
use Rattle.token_store.specs.Layout.{slot_count}
use Rattle.octets.specs.Search.{bit, count, any, first_or, replace_all, keep}
use Rattle.token_store.specs.Store.{issue, is_used, is_live, is_vacant, is_sought, holds, shows, sought_key, free_slot, kind_spent, spent_code}
use Rattle.token_store.specs.declared.Slot.{Slot}
use Rattle.token_store.specs.declared.Sought.{Sought}
use Rattle.token_store.specs.declared.Sought.TheVariants.{Code, Spent}
use Rattle.token_store.proofs.Slots.{free-dead, sought-used, code-fails, key-holds}
use Rattle.protocol.specs.Granting.{shown_slot, with_spent, room, is_own, is_shown_again}
use Rattle.history.specs.Contents.{NeverTwice}
use Rattle.octets.proofs.Counting.{bit-some, bit-implies, count-ext, count-le, count-and, count-not, count-replicate, count-member, count-keep, any-count, any_some, first_or-passes, first_or-none, count-first_or, length-replace_first, count-replace_first, length-replace_all, count-replace_all, replace_first-map, count_map, count-apart}
use Rattle.history.proofs.HeldIssues.{Held, as_slot, spent_held, spent-slot, none_held, tests-tell}

-- ---- a look-up

-- where no handle is presented no slot is shown
pub none-shown : (q : Sought) (slots : List Slot) → shown_slot q None slots ≡ free_slot
unfolding first_or
none-shown q [] = refl
none-shown q (s ∷ slots) = rw (and-false (is_sought q s)) (none-shown q slots)

-- the handle that is presented, and no bytes where none is
abbrev bytes_of : Option (List ℕ) → List ℕ
bytes_of p = unwrap_or p []

-- a slot that is shown has that handle
shown-holds : (q : Sought) (p : Option (List ℕ)) (s : Slot) → sought_key q p s ≡ true → holds (bytes_of p) s ≡ true
shown-holds q (Some h) s e = key-holds q h s e
shown-holds q None s e = absurd (false≢true (sym (and-false (is_sought q s)) ∙ e))

-- what is found live was sought
pub shown-key : (t : ℕ) (slots : List Slot) (q : Sought) (p : Option (List ℕ)) → is_live t (shown_slot q p slots) ≡ true
    → sought_key q p (shown_slot q p slots) ≡ true
shown-key t slots q p live = by (any (sought_key q p) slots) refl
  where
    by : (b : Bool) → any (sought_key q p) slots ≡ b → sought_key q p (shown_slot q p slots) ≡ true
    by true e = first_or-passes (sought_key q p) free_slot slots e
    by false e = absurd (false≢true (sym (free-dead t) ∙ ap (is_live t) (sym (first_or-none (sought_key q p) free_slot slots e)) ∙ live))

-- the thing issued that is presented, among those that stand
abbrev pub origin_held : Sought → Option (List ℕ) → List Held → Held
origin_held q p standing = first_or none_held (λ e. sought_key q p (as_slot e)) standing

-- ---- the invariant

-- the slots at the time t, the issues that stand, and the random bytes of the calls seen
pub record Invariant (t : ℕ) (slots : List Slot) (standing : List Held) (seen : List (List ℕ)) : Type 0 where
  pub size : length slots ≡ slot_count
  -- the live slots and the live issues are one bag
  pub bag : (p : Slot → Bool) → count (λ s. is_live t s && p s) slots ≡ count (λ e. is_live t (as_slot e) && p (as_slot e)) standing
  -- a handle is in no more slots, and in no more issues, than it came by calls
  pub in_slots : (h : List ℕ) → count (holds h) slots ≤ count (same h) seen
  pub in_issues : (h : List ℕ) → count (λ e. holds h (as_slot e)) standing ≤ count (same h) seen

pub invariant-fresh : Invariant 0 (replicate slot_count free_slot) [] []
unfolding count free_slot
invariant-fresh = record {
  size = length-replicate slot_count free_slot;
  bag = λ p. count-replicate (λ s. is_live 0 s && p s) free_slot slot_count refl;
  in_slots = λ h. omega (arith, count-replicate (holds h) free_slot slot_count refl);
  in_issues = λ h. omega arith;
}

-- what is live at u is live at an earlier t
live-later : (t u x : ℕ) (c : Bool) → t ≤ u → (ltb u x && c) ≡ (ltb t x && (ltb u x && c))
live-later t u x c h = by (ltb u x) refl
  where
    by : (b : Bool) → ltb u x ≡ b → (b && c) ≡ (ltb t x && (b && c))
    by true e = rw (lt-ltb t x (omega (arith, ltb-true u x e)))
    by false e = sym (and-false (ltb t x))

-- ---- a code that is presented is spent

module _ (p : Option (List ℕ)) where
  abbrev pub spend_slot : Slot → Slot
  spend_slot s = cond (sought_key Code p s) (spent_code s) s

  abbrev pub spend_held : Held → Held
  spend_held e = cond (sought_key Code p (as_slot e)) (spent_held e) e

  -- it stays in use until its old expiry, with its handle
  spend-used : (s : Slot) → is_used (spend_slot s) ≡ is_used s
  spend-used s =
      by-test (sought_key Code p s) (λ k. rw k (sym (sought-used Code s (and_left (is_sought Code s) (shows p s) k)))) (λ k. rw k)

  spend-live : (t : ℕ) (s : Slot) → is_live t (spend_slot s) ≡ is_live t s
  spend-live t s = ap₂ ◌&&◌ (spend-used s) (by (sought_key Code p s))
    where
      by : (k : Bool) → ltb t (cond k (spent_code s) s).expiry ≡ ltb t s.expiry
      by true = refl
      by false = refl

  spend-holds : (h : List ℕ) (s : Slot) → holds h (spend_slot s) ≡ holds h s
  spend-holds h s = ap₂ ◌&&◌ (spend-used s) (by (sought_key Code p s))
    where
      by : (k : Bool) → same h (cond k (spent_code s) s).handle ≡ same h s.handle
      by true = refl
      by false = refl

  spend-slot : (e : Held) → as_slot (spend_held e) ≡ spend_slot (as_slot e)
  spend-slot e =
      by-test (sought_key Code p (as_slot e)) (λ k. rw k (spent-slot e (and_left (is_sought Code (as_slot e)) (shows p (as_slot e)) k))) (λ k. rw k)

module _ {t : ℕ} {slots : List Slot} {standing : List Held} {seen : List (List ℕ)} (v : Invariant t slots standing seen) where
  -- ---- time goes on

  pub invariant-later : (u : ℕ) → t ≤ u → Invariant u slots standing seen
  invariant-later u h = record {
    size = v.size;
    bag = λ p.
        count-ext (λ s. is_live u s && p s) (λ s. is_live t s && (is_live u s && p s)) slots (λ s. by (is_used s) s.expiry (p s))
        ∙ v.bag (λ s. is_live u s && p s)
        ∙ count-ext (λ e. is_live t (as_slot e) && (is_live u (as_slot e) && p (as_slot e))) (λ e. is_live u (as_slot e) && p (as_slot e)) standing
        (λ e. sym (by (is_used (as_slot e)) e.expiry (p (as_slot e))));
    in_slots = v.in_slots;
    in_issues = v.in_issues;
  }
    where
      by : (used : Bool) (x : ℕ) (c : Bool) → (used && ltb u x && c) ≡ (used && ltb t x && (used && ltb u x && c))
      by true x c = live-later t u x c h
      by false x c = refl

  -- ---- more random bytes came

  pub invariant-seen : (more : List (List ℕ)) → ((h : List ℕ) → count (same h) seen ≤ count (same h) more) → Invariant t slots standing more
  invariant-seen more f = record {
    size = v.size;
    bag = v.bag;
    in_slots = λ h. omega (arith, v.in_slots h, f h);
    in_issues = λ h. omega (arith, v.in_issues h, f h);
  }

  -- ---- one issue more, in a vacant slot

  pub invariant-issue : (x : Held) → 1 ≤ room t slots → Invariant t (issue t (as_slot x) slots) (x ∷ standing) (x.handle.octets ∷ seen)
  unfolding count
  invariant-issue x h = record {
    size = length-replace_first (is_vacant t) (as_slot x) slots ∙ v.size;
    bag = λ p. omega (arith, put (λ s. is_live t s && p s), gone p, v.bag p);
    in_slots = λ k. omega (arith, put (holds k), new k, v.in_slots k);
    in_issues = λ k. omega (arith, new k, v.in_issues k);
  }
    where
      old : Slot
      old = first_or free_slot (is_vacant t) slots

      some : any (is_vacant t) slots ≡ true
      some = any_some (is_vacant t) slots h

      put : (q : Slot → Bool) → count q (issue t (as_slot x) slots) + bit (q old) ≡ count q slots + bit (q (as_slot x))
      put q = rw some at (count-replace_first q (is_vacant t) (as_slot x) free_slot slots)

      gone : (p : Slot → Bool) → bit (is_live t old && p old) ≡ 0
      gone p = rw (not-true (is_live t old) (first_or-passes (is_vacant t) free_slot slots some))

      new : (k : List ℕ) → bit (holds k (as_slot x)) ≤ bit (same k x.handle.octets)
      new k = bit-implies (holds k (as_slot x)) (same k x.handle.octets) (and_right (is_used (as_slot x)) (same k x.handle.octets))

  -- ---- those that pass k are withdrawn

  pub invariant-withdraw : (k : Slot → Bool) → Invariant t (replace_all free_slot k slots) (keep (λ e. not (k (as_slot e))) standing) seen
  unfolding free_slot
  invariant-withdraw k = record {
    size = length-replace_all free_slot k slots ∙ v.size;
    bag = λ p.
        let left : Held → Bool = λ e. not (k (as_slot e)) in
        rw (count-replace_all (λ s. is_live t s && p s) k free_slot slots refl, count-keep (λ e. is_live t (as_slot e) && p (as_slot e)) left standing)
        (simp and_assoc (simp and_assoc at (v.bag (λ s. p s && not (k s)))));
    in_slots = λ h. omega (arith, count-replace_all (holds h) k free_slot slots refl, count-and (holds h) (λ s. not (k s)) slots, v.in_slots h);
    in_issues = λ h.
        let here : Held → Bool = λ e. holds h (as_slot e) in
        let left : Held → Bool = λ e. not (k (as_slot e)) in
        omega (arith, count-keep here left standing, count-and here left standing, v.in_issues h);
  }

  -- ---- the codes that are presented are spent

  invariant-spend : (p : Option (List ℕ)) → Invariant t (map (spend_slot p) slots) (map (spend_held p) standing) seen
  invariant-spend p = record {
    size = length-map slots (spend_slot p) ∙ v.size;
    bag = λ q.
        count_map (spend_slot p) (λ s. is_live t s && q s) slots
        ∙ count-ext (λ s. is_live t (spend_slot p s) && q (spend_slot p s)) (λ s. is_live t s && q (spend_slot p s)) slots
        (λ s. ap (λ (b : Bool). b && q (spend_slot p s)) (spend-live p t s))
        ∙ v.bag (λ s. q (spend_slot p s))
        ∙ count-ext (λ e. is_live t (as_slot e) && q (spend_slot p (as_slot e))) (λ e. is_live t (as_slot (spend_held p e)) && q (as_slot (spend_held p e))) standing
        (λ e. ap₂ (λ (b : Bool) (s : Slot). b && q s) (sym (ap (is_live t) (spend-slot p e) ∙ spend-live p t (as_slot e))) (sym (spend-slot p e)))
        ∙ sym (count_map (spend_held p) (λ e. is_live t (as_slot e) && q (as_slot e)) standing);
    in_slots = λ h.
        omega (
          arith,
          count_map (spend_slot p) (holds h) slots,
          count-ext (λ s. holds h (spend_slot p s)) (holds h) slots (spend-holds p h),
          v.in_slots h,
        );
    in_issues = λ h.
        omega (
          arith,
          count_map (spend_held p) (λ e. holds h (as_slot e)) standing,
          count-ext (λ e. holds h (as_slot (spend_held p e))) (λ e. holds h (as_slot e)) standing
              (λ e. ap (holds h) (spend-slot p e) ∙ spend-holds p h (as_slot e)),
          v.in_issues h,
        );
  }

  -- ---- the room that is left

  pub room-left : room t slots + count (λ e. is_live t (as_slot e)) standing ≡ slot_count
  room-left = omega (arith, count-not (is_live t) slots, v.size, simp and-true at (v.bag (λ s. true)))

  -- ---- a look-up, where no random bytes came twice

  module _ (once : NeverTwice seen) (q : Sought) (p : Option (List ℕ)) where
    abbrev key : Slot → Bool
    key = sought_key q p

    abbrev slot : Slot
    slot = shown_slot q p slots

    taken : (s : Slot) → bit (key s) ≤ bit (holds (bytes_of p) s)
    taken s = bit-implies (key s) (holds (bytes_of p) s) (shown-holds q p s)

    pub one-slot : count key slots ≤ 1
    one-slot = omega (arith, count-le key (holds (bytes_of p)) slots taken, v.in_slots (bytes_of p), once (bytes_of p))

    one-issue : count (λ e. key (as_slot e)) standing ≤ 1
    one-issue =
        omega (
          arith,
          count-le (λ e. key (as_slot e)) (λ e. holds (bytes_of p) (as_slot e)) standing (λ e. taken (as_slot e)),
          v.in_issues (bytes_of p),
          once (bytes_of p),
        )

    -- the live issues that it takes are counted by the slot that it finds
    counted : (g : Slot → Bool) → count (λ e. is_live t (as_slot e) && (key (as_slot e) && g (as_slot e))) standing ≡ bit (is_live t slot && g slot)
    unfolding free_slot
    counted g =
        sym (v.bag (λ s. key s && g s))
        ∙ count-ext (λ s. is_live t s && (key s && g s)) (λ s. key s && (is_live t s && g s)) slots (λ s. and-swap (is_live t s) (key s) (g s))
        ∙ count-first_or key (λ s. is_live t s && g s) free_slot slots one-slot refl

    -- something live of this handle with g stands exactly when the slot found is live and has g
    pub contained : (g : Slot → Bool) → any (λ e. is_live t (as_slot e) && (key (as_slot e) && g (as_slot e))) standing ≡ (is_live t slot && g slot)
    contained g = any-count (λ e. is_live t (as_slot e) && (key (as_slot e) && g (as_slot e))) (is_live t slot && g slot) standing (counted g)

    passes : (g : Slot → Bool) → 1 ≤ count (λ e. is_live t (as_slot e) && (key (as_slot e) && g (as_slot e))) standing → g slot ≡ true
    passes g h = and_right (is_live t slot) (g slot) (bit-some (is_live t slot && g slot) (omega (arith, counted g)))

    -- a live issue of this handle is what the slot found holds
    pub found : (e : Held) → Memᴰ e standing → is_live t (as_slot e) ≡ true → key (as_slot e) ≡ true → slot ≡ as_slot e
    found e m live here =
        sym (tests-tell (as_slot e) slot
        (λ g h. passes g (count-member (λ x. is_live t (as_slot x) && (key (as_slot x) && g (as_slot x))) e m (rw (live, here) h))))

    -- where the slot found is live, it holds the issue found
    pub origin : is_live t slot ≡ true → as_slot (origin_held q p standing) ≡ slot
    unfolding none_held
    origin live = sym (tests-tell slot (as_slot o) shown)
      where
        o : Held
        o = first_or none_held (λ e. key (as_slot e)) standing

        tested : (g : Slot → Bool) → count (λ e. is_live t (as_slot e) && (key (as_slot e) && g (as_slot e))) standing ≡ bit (is_live t (as_slot o) && g (as_slot o))
        tested g =
            count-ext (λ e. is_live t (as_slot e) && (key (as_slot e) && g (as_slot e))) (λ e. key (as_slot e) && (is_live t (as_slot e) && g (as_slot e))) standing
            (λ e. and-swap (is_live t (as_slot e)) (key (as_slot e)) (g (as_slot e)))
            ∙ count-first_or (λ e. key (as_slot e)) (λ e. is_live t (as_slot e) && g (as_slot e)) none_held standing one-issue (rw (le-ltb t 0 (omega arith)))

        shown : (g : Slot → Bool) → g slot ≡ true → g (as_slot o) ≡ true
        shown g h =
            let one : bit (is_live t slot && g slot) ≡ 1 = rw (live, h) in
            and_right (is_live t (as_slot o)) (g (as_slot o)) (bit-some (is_live t (as_slot o) && g (as_slot o)) (omega (arith, tested g, counted g)))

  -- ---- the code that is presented is spent, or was

  module _ (once : NeverTwice seen) (p : Option (List ℕ)) where
    -- the one code that is found is spent
    each : with_spent p slots ≡ map (spend_slot p) slots
    each = replace_first-map spent_code (sought_key Code p) free_slot slots (one-slot once Code p)

    pub spent-kept : Invariant t (with_spent p slots) (map (spend_held p) standing) seen
    spent-kept = rw each (invariant-spend p)

    -- which makes no room and takes none
    pub room-spent : room t (with_spent p slots) ≡ room t slots
    room-spent =
        ap (room t) each
        ∙ count_map (spend_slot p) (is_vacant t) slots
        ∙ count-ext (λ s. is_vacant t (spend_slot p s)) (is_vacant t) slots (λ s. ap not (spend-live p t s))

    -- a spent code of the client's is shown again exactly when it is found live: then no unspent one has its handle
    module _ (client : ℕ) where
      abbrev own : Slot → Bool
      own s = eqb s.client client

      abbrev live : Slot → Bool
      live s = is_live t s && (sought_key Spent p s && own s)

      apart : (s : Slot) → bit (sought_key Code p s) + bit (live s) ≤ bit (holds (bytes_of p) s)
      apart s = by-test (sought_key Code p s) unspent-one other
        where
          unspent-one : sought_key Code p s ≡ true → bit (sought_key Code p s) + bit (live s) ≤ bit (holds (bytes_of p) s)
          unspent-one k =
              let none = code-fails (λ kind. eqb kind kind_spent) refl refl refl refl s (and_left (is_sought Code s) (shows p s) k) in
              rw (k, shown-holds Code p s k, none, and-false (is_live t s)) (omega arith)

          other : sought_key Code p s ≡ false → bit (sought_key Code p s) + bit (live s) ≤ bit (holds (bytes_of p) s)
          other k =
              simp (zero-add, k)
              (bit-implies (live s) (holds (bytes_of p) s)
              (λ l. shown-holds Spent p s (and_left (sought_key Spent p s) (own s) (and_right (is_live t s) (sought_key Spent p s && own s) l))))

      pub shown-again : is_shown_again t client p slots ≡ any (λ e. live (as_slot e)) standing
      shown-again = by (is_own t client (shown_slot Spent p slots)) refl ∙ sym (contained once Spent p own)
        where
          by : (o : Bool) → is_own t client (shown_slot Spent p slots) ≡ o → (not (any (sought_key Code p) slots) && o) ≡ o
          by false e = and-false (not (any (sought_key Code p) slots))
          by true e =
              let one = v.bag (λ s. sought_key Spent p s && own s) ∙ counted once Spent p own ∙ ap bit e in
              let few = count-apart (sought_key Code p) live (holds (bytes_of p)) slots apart in
              let none = any-count (sought_key Code p) false slots (omega (arith, one, few, v.in_slots (bytes_of p), once (bytes_of p))) in
              rw none
