-- Laws of fitness: what a fit registry gives of its records.
--
-- Not here: what its clients are like (`Clients`); how the code goes over the records (`EachRecord` in src/).
-- Assumes nothing.
use mathlib.Core.Path.{◌≡◌}
use mathlib.Core.Bool.{true}
use mathlib.Core.List.{List}
use Prim.Native.Nat.{ℕ, ◌≤◌}
use borrow.Author.Tests.{leb-true}
use lib.Dec.{leb}
use lib.ListN.{length}
use Rattle.octets.specs.Lists.{every}
use Rattle.octets.proofs.Booleans.{and_left, and-three}
use Rattle.client_registry.specs.Layout.{max_clients}
use Rattle.client_registry.specs.Registry.{sound_record, records, sound_records, ids_of, distinct, fit_registry}

pub record Sound (b : List ℕ) : Type 0 where
  pub least : 1 ≤ length (records b)
  pub most : length (records b) ≤ max_clients
  pub each : every sound_record (records b) ≡ true

pub sound-records : (b : List ℕ) → sound_records b ≡ true → Sound b
unfolding sound_records
sound-records b e =
    let h = and-three (leb 1 (length (records b))) (leb (length (records b)) max_clients) (every sound_record (records b)) e in
    record { least = leb-true 1 (length (records b)) h.0; most = leb-true (length (records b)) max_clients h.1; each = h.2 }

pub fit-records : (b : List ℕ) → fit_registry b ≡ true → Sound b
unfolding fit_registry
fit-records b fit = sound-records b (and_left (sound_records b) (distinct (ids_of b)) fit)
