-- A store of fewer slots with zero bytes behind it, and what the store had: its time, its slots, whether it was fit. So a store from
-- the time when there were fewer slots is taken over by making it longer: `LongerStores` has the laws.
use mathlib.Core.Bool.{Bool, ◌&&◌}
use mathlib.Core.List.{List, ◌++◌}
use Prim.Native.Nat.{ℕ, ◌*◌, ◌-◌}
use lib.Dec.{leb}
use lib.ListN.{replicate}
use Rattle.octets.specs.Lists.{part, every}
use Rattle.octets.specs.BigEndian.{big_endian}
use Rattle.token_store.specs.Layout.{time_size, latest_time, slot_count, slot_size}
use Rattle.token_store.specs.Store.{tabulate, decode_slot, slot_bytes}
use Rattle.token_store.specs.Fit.{fit_slot}
use Rattle.token_store.specs.declared.Slot.{Slot}

module _ (b : List ℕ) (count : ℕ) where
  abbrev pub missing : ℕ
  missing = slot_count - count

  -- zero bytes in the place of the slots that are missing
  abbrev pub longer : List ℕ
  longer = b ++ replicate (missing * slot_size) 0

  -- the time and the slots that it had
  abbrev pub time_before : ℕ
  time_before = big_endian (part b 0 time_size)

  abbrev pub slots_before : List Slot
  slots_before = tabulate count (λ i. decode_slot (slot_bytes b i))

  -- whether it was fit, but for its length
  abbrev pub was_fit : ℕ → Bool
  was_fit clients = leb time_before latest_time && every (fit_slot clients) slots_before
