-- The sample registry is fit, and what comes of calls over it computes; random bytes that are tested never come twice.
--
-- In order: the registry; what comes of a call over it on a sound store; random bytes.
-- Assumes nothing.
use mathlib.Core.Path.{◌≡◌, refl, ap, subst}
use mathlib.Core.Bool.{Bool, true, false}
use mathlib.Core.List.{List, [], ◌∷◌}
use Prim.Native.Nat.{ℕ, ◌+◌, ◌≤◌}
use native.Mathlib.Omega.{arith}
use borrow.Author.Tests.{ltb-true, not-true}
use lib.Dec.{ltb}
use lib.ListN.{length}
use Rattle.octets.specs.Lists.{Bytes, every, same}
use Rattle.octets.specs.Search.{bit, count, keep}
use Rattle.octets.proofs.Lists.{same-eq, class-bytes}
use Rattle.octets.proofs.Booleans.{and_left, and_right}
use Rattle.client_registry.specs.Registry.{Client, sound_text, sound_id, sound_redirect, sound_secret, sound_field, sound_common, sound_public, sound_confidential, sound_record, record_size, records_behind, sound_records, clients_of, differ, distinct, fit_registry}
use Rattle.client_registry.specs.Sample.{record_of, registry_of, sample_confidential, sample_public, sample_clients, sample_registry}
use Rattle.token_store.specs.Store.{Store, encode}
use Rattle.history.specs.Calls.{Call, WellTyped, AllWellTyped}
use Rattle.history.specs.Contents.{NeverTwice}
use Rattle.history.specs.Server.{outcome_of, result_of, ours}
use Rattle.history.proofs.SoundStores.{Sound}
use Rattle.history.proofs.AnyCall.{outcome_on, left_by}
use Rattle.history.proofs.CallsOnRecords.{result_on, left_by_all, is_fitting, replay, fitting-served}

-- ---- the registry

pub sample-fit : fit_registry sample_registry ≡ true
unfolding fit_registry distinct sound_records records_behind record_size sound_record sound_confidential sound_public sound_common sound_field sound_secret sound_redirect sound_id sound_text every same sample_registry sample_clients sample_public sample_confidential registry_of record_of
sample-fit = refl

pub sample-clients : clients_of sample_registry ≡ sample_clients
unfolding records_behind record_size sample_registry sample_clients sample_public sample_confidential registry_of record_of
sample-clients = refl

pub tested-bytes : (b : List ℕ) → every (λ x. ltb x 256) b ≡ true → Bytes b
tested-bytes b e = class-bytes (λ x. ltb x 256) (λ x. ltb-true x 256) b e

all-bytes : every (λ b. ltb b 256) sample_registry ≡ true
unfolding every sample_registry sample_clients sample_public sample_confidential registry_of record_of
all-bytes = refl

pub sample-bytes : Bytes sample_registry
sample-bytes = tested-bytes sample_registry all-bytes

-- ---- what comes of a call over it, by records

-- sound for the sample's clients
abbrev pub SoundSample : Store → Type 0
SoundSample g = Sound (length sample_clients) g

pub sample-served : (g : Store) → SoundSample g → (c : Call) → is_fitting c ≡ true
    → ours sample_registry (encode g) c ≡ result_on sample_clients g c
sample-served g w c e =
    ap result_of
    (subst (λ (clients : List Client). Sound (length clients) g → outcome_of sample_registry (encode g) c ≡ outcome_on clients g c) sample-clients
    (λ s. fitting-served sample_registry sample-bytes sample-fit g s c e) w)

pub sample-left : (g : Store) → SoundSample g → (c : Call) → WellTyped c → is_fitting c ≡ true → SoundSample (left_by sample_clients g c)
unfolding left_by_all AllWellTyped keep
sample-left g w c typed e =
    subst (λ (clients : List Client). Sound (length clients) g → Sound (length clients) (left_by clients g c)) sample-clients
    (λ s. rw e at (replay sample_registry sample-bytes sample-fit g s (c ∷ []) (typed, tt)).sound) w

-- ---- random bytes of which no two are equal never come twice

differ-none : (x : List ℕ) (xs : List (List ℕ)) → every (differ x) xs ≡ true → count (same x) xs ≡ 0
unfolding every count
differ-none x [] e = refl
differ-none x (y ∷ ys) e =
    let d = not-true (same x y) (and_left (differ x y) (every (differ x) ys) e) in
    omega (arith, ap bit d, differ-none x ys (and_right (differ x y) (every (differ x) ys) e))

pub distinct-never : (xs : List (List ℕ)) → distinct xs ≡ true → NeverTwice xs
unfolding distinct count
distinct-never [] e h = omega arith
distinct-never (x ∷ xs) e h = by (same h x) refl (distinct-never xs (and_right (every (differ x) xs) (distinct xs) e) h)
  where
    by : (b : Bool) → same h x ≡ b → count (same h) xs ≤ 1 → bit b + count (same h) xs ≤ 1
    by true q r =
        let z = differ-none x xs (and_left (every (differ x) xs) (distinct xs) e) in
        omega (arith, ap (λ (y : List ℕ). count (same y) xs) (same-eq h x q))
    by false q r = omega arith
