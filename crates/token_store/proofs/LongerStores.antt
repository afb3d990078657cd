-- A store of fewer slots with zero bytes behind it (`Longer`): what was there is there, and all else is free.
--
-- In order: its length, its time and its slots; it is fit exactly when it was; a search finds what it found.
-- Assumes nothing.
use mathlib.Core.Path.{◌≡◌, sym, ap, ◌∙◌, subst}
use mathlib.Core.Bool.{Bool, ◌&&◌, and-true}
use mathlib.Core.List.{List, ◌++◌}
use Prim.Native.Nat.{ℕ, ◌+◌, ◌*◌, ◌-◌, ◌≤◌, ◌<◌}
use native.Mathlib.Decide.{dec_lt}
use native.Mathlib.Omega.{arith}
use borrow.Author.Tests.{eq-eqb}
use lib.Dec.{leb}
use lib.ListN.{length, take, drop, get_or, replicate, length-append, length-replicate, get_or-replicate, get_or-append}
use lib.Seq.{drop-append-add, get_or-append-add}
use Rattle.octets.specs.BigEndian.{big_endian}
use Rattle.octets.specs.Search.{first_or}
use Rattle.octets.proofs.Lists.{every_append, every-replicate, part-append}
use Rattle.octets.proofs.Counting.{first_or-behind}
use Rattle.token_store.specs.Layout.{time_size, latest_time, slot_count, slot_size, store_size, slot_start}
use Rattle.token_store.specs.Store.{decode_slot, slot_bytes, decode, free_slot}
use Rattle.token_store.specs.Fit.{fit_slot, fit_store}
use Rattle.token_store.specs.declared.Slot.{Slot}
use Rattle.token_store.proofs.Tables.{length-tabulate, get_d_tabulate, tabulate-list, part-replicate}
use Rattle.token_store.proofs.Slots.{free-read}
use Rattle.token_store.proofs.Fits.{fit_free}
use Rattle.token_store.proofs.Longer.{missing, longer, time_before, slots_before, was_fit}

module _ (b : List ℕ) (count : ℕ) (size : length b ≡ slot_start count) (fewer : count ≤ slot_count) where
  pub longer-size : length (longer b count) ≡ store_size
  longer-size = length-append b _ ∙ omega (arith, size, length-replicate {A = ℕ} ((missing b count) * slot_size) 0)

  pub longer-time : (decode (longer b count)).time ≡ (time_before b count)
  unfolding decode
  longer-time = ap big_endian (part-append b _ 0 time_size (omega arith))

  slot_kept : (i : ℕ) → i < count → slot_bytes (longer b count) i ≡ slot_bytes b i
  slot_kept i below = part-append b _ (slot_start i) slot_size (omega arith)

  slot-free : (j : ℕ) → j < (missing b count) → slot_bytes (longer b count) (count + j) ≡ replicate slot_size 0
  slot-free j below =
      let at : length b + j * slot_size ≡ slot_start (count + j) = omega arith in
      ap (λ (l : List ℕ). take slot_size l)
      (subst (λ (k : ℕ). drop k (longer b count) ≡ drop (j * slot_size) (replicate ((missing b count) * slot_size) 0)) at (drop-append-add b _ (j * slot_size)))
      ∙ part-replicate 0 ((missing b count) * slot_size) (j * slot_size) slot_size (omega arith)

  pub longer-slots : (decode (longer b count)).slots ≡ (slots_before b count) ++ replicate (missing b count) free_slot
  unfolding decode
  longer-slots =
      tabulate-list (λ i. decode_slot (slot_bytes (longer b count) i)) free_slot slot_count ((slots_before b count) ++ replicate (missing b count) free_slot)
      (length-append (slots_before b count) _ ∙ omega (arith, length-tabulate (λ i. decode_slot (slot_bytes b i)) count, length-replicate (missing b count) free_slot))
      (λ i below. at i below (dec_lt i count))
    where
      at : (i : ℕ) → i < slot_count → Dec (i < count) → decode_slot (slot_bytes (longer b count) i) ≡ get_or ((slots_before b count) ++ replicate (missing b count) free_slot) i free_slot
      at i below (yes l) =
          ap decode_slot (slot_kept i l)
          ∙ sym (get_or-append (slots_before b count) _ free_slot i (rw length-tabulate l) ∙ get_d_tabulate (λ k. decode_slot (slot_bytes b k)) count i free_slot l)
      at i below (no n) =
          let j : ℕ = i - count in
          let here : count + j ≡ i = omega arith in
          let free : slot_bytes (longer b count) i ≡ replicate slot_size 0 =
          subst (λ (k : ℕ). slot_bytes (longer b count) k ≡ replicate slot_size 0) here (slot-free j (omega arith))
          in
          let there : get_or ((slots_before b count) ++ replicate (missing b count) free_slot) i free_slot ≡ free_slot =
          subst (λ (k : ℕ). get_or ((slots_before b count) ++ replicate (missing b count) free_slot) k free_slot ≡ free_slot) (ap (λ (k : ℕ). k + j) (length-tabulate _ count) ∙ here)
          (get_or-append-add (slots_before b count) (replicate (missing b count) free_slot) j free_slot ∙ get_or-replicate (missing b count) j free_slot free_slot (omega arith))
          in
          ap decode_slot free ∙ free-read ∙ sym there

  pub longer-fit : (clients : ℕ) → fit_store clients (longer b count) ≡ was_fit b count clients
  unfolding fit_store
  longer-fit clients =
      rw (eq-eqb (length (longer b count)) store_size longer-size, longer-time, longer-slots)
      (ap (λ (r : Bool). leb (time_before b count) latest_time && r)
      (every_append (fit_slot clients) (slots_before b count) _ ∙ rw (every-replicate (fit_slot clients) (missing b count) free_slot (fit_free clients)) (and-true _)))

  -- a search finds what it found
  pub longer-finds : (p : Slot → Bool) → first_or free_slot p (decode (longer b count)).slots ≡ first_or free_slot p (slots_before b count)
  longer-finds p = ap (first_or free_slot p) longer-slots ∙ first_or-behind p free_slot (slots_before b count) (missing b count)
