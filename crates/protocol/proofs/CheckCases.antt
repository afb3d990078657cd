-- The access token check, case by case: which texts name a token, when it is live, and what is said of it.
use Prim.Native.Nat.{ℕ, ◌-◌, ◌^◌}
use Prim.Native.String.{String}
use mathlib.Core.Path.{refl}
use mathlib.Core.List.{List, [], ◌∷◌}
use Rattle.octets.specs.Text.{bytes}
use Rattle.client_registry.specs.Sample.{sample_registry}
use Rattle.token_store.specs.Store.{free_slot}
use Rattle.token_store.specs.declared.Slot.{Slot}
use Rattle.protocol.specs.Refusals.{first_of}
use Rattle.protocol.proofs.Computing.{text_definitions, registry_definitions, slot_definitions, check_definitions}
use Rattle.protocol.proofs.Cases.{check, ShortStore, holding, lastly, slot, from, count_up, Case, Row, row}

-- ---- calls

-- the token abac..be, by its slot's expiry, and a text that names it
abbrev handle : List ℕ
handle = count_up 20 171

abbrev access : ℕ → Slot
access expiry = from (count_up 20 7) (slot 3 handle 1 (2 ^ 32 - 1) 9 expiry)

abbrev named : String
named = "abacadaeafb0b1b2b3b4b5b6b7b8b9babbbcbdbe"

abbrev checks : String → ℕ → ShortStore → List ℕ → ShortStore → Case
checks presented clock before numbers after = record {
  call = check (bytes presented);
  registry = sample_registry;
  store = before;
  clock = clock;
  random = [];
  room = 0;
  numbers = numbers;
  text = [];
  after = after;
}

-- live, of client 1 and its farm and set 9, with so many seconds left; of a store whose time is below the clock
abbrev live : ℕ → ℕ → List Slot → Case
live clock left slots = checks named clock (holding 0 slots) (0 ∷ 1 ∷ 1 ∷ (2 ^ 32 - 1) ∷ 9 ∷ left ∷ []) (holding clock slots)

abbrev not_live : String → ℕ → List Slot → Case
not_live presented clock slots = checks presented clock (holding 0 slots) (0 ∷ 0 ∷ 0 ∷ 0 ∷ 0 ∷ 0 ∷ []) (holding clock slots)

-- ---- the table

pub checked : List Row
unfolding text_definitions registry_definitions slot_definitions check_definitions first_of
checked =
    -- live while T is below the expiry, with the seconds from T to it
    row (live 4999 1 (access 5000 ∷ [])) refl
    ∷ row (live 0 5000 (access 5000 ∷ [])) refl
    ∷ row (not_live named 5000 (access 5000 ∷ [])) refl
    ∷ row (not_live named 5001 (access 5000 ∷ [])) refl
    -- T is the larger of clock and mark, and is stored whatever is said
    ∷ row (checks named 100 (holding 4999 (access 5000 ∷ [])) (0 ∷ 1 ∷ 1 ∷ (2 ^ 32 - 1) ∷ 9 ∷ 1 ∷ []) (holding 4999 (access 5000 ∷ []))) refl
    ∷ row (checks named 100 (holding 5000 (access 5000 ∷ [])) (0 ∷ 0 ∷ 0 ∷ 0 ∷ 0 ∷ 0 ∷ []) (holding 5000 (access 5000 ∷ []))) refl
    -- what the slot holds, for another client
    ∷ row (checks named 1000 (holding 0 (slot 3 handle 0 0 255 (2 ^ 64 - 1) ∷ [])) (0 ∷ 1 ∷ 0 ∷ 0 ∷ 255 ∷ (2 ^ 64 - 1001) ∷ [])
    (holding 1000 (slot 3 handle 0 0 255 (2 ^ 64 - 1) ∷ []))) refl
    -- the handle of a slot of another kind is no access token
    ∷ row (not_live named 1000 (slot 1 handle 1 7 9 5000 ∷ [])) refl
    ∷ row (not_live named 1000 (slot 2 handle 1 7 9 5000 ∷ [])) refl
    ∷ row (not_live named 1000 (slot 4 handle 1 7 9 5000 ∷ [])) refl
    ∷ row (not_live named 1000 (slot 5 handle 1 7 9 5000 ∷ [])) refl
    ∷ row (not_live "0000000000000000000000000000000000000000" 1000 []) refl
    -- nor is the origin of one
    ∷ row (not_live named 1000 (from handle (slot 3 (count_up 20 7) 1 7 9 5000) ∷ [])) refl
    -- it is found behind slots of other kinds and handles, and at the last place
    ∷ row (live 1000 4000 (slot 4 handle 1 7 9 9000 ∷ slot 3 (count_up 20 172) 0 7 9 9000 ∷ access 5000 ∷ [])) refl
    ∷ row (checks named 1000 (lastly 0 [] free_slot (access 5000))
    (0 ∷ 1 ∷ 1 ∷ (2 ^ 32 - 1) ∷ 9 ∷ 4000 ∷ []) (lastly 1000 [] free_slot (access 5000))) refl
    -- of two with the same handle the lowest counts, even if it has run out
    ∷ row (live 1000 4000 (access 5000 ∷ slot 3 handle 0 7 11 9000 ∷ [])) refl
    ∷ row (not_live named 1000 (access 1000 ∷ slot 3 handle 0 7 11 9000 ∷ [])) refl
    ∷ row (not_live named 1000 (access 0 ∷ slot 3 handle 0 7 11 9000 ∷ [])) refl
    -- 40 lower-case hex digits, no others: the handle is another, upper case, 39 and 41 digits, none, no digit, its bytes
    ∷ row (not_live "abacadaeafb0b1b2b3b4b5b6b7b8b9babbbcbdbf" 1000 (access 5000 ∷ [])) refl
    ∷ row (not_live "bbacadaeafb0b1b2b3b4b5b6b7b8b9babbbcbdbe" 1000 (access 5000 ∷ [])) refl
    ∷ row (not_live "ABACADAEAFB0B1B2B3B4B5B6B7B8B9BABBBCBDBE" 1000 (access 5000 ∷ [])) refl
    ∷ row (not_live "abacadaeafb0b1b2b3b4b5b6b7b8b9babbbcbdbE" 1000 (access 5000 ∷ [])) refl
    ∷ row (not_live "abacadaeafb0b1b2b3b4b5b6b7b8b9babbbcbdb" 1000 (access 5000 ∷ [])) refl
    ∷ row (not_live "abacadaeafb0b1b2b3b4b5b6b7b8b9babbbcbdbe0" 1000 (access 5000 ∷ [])) refl
    ∷ row (not_live "" 1000 (access 5000 ∷ [])) refl
    ∷ row (not_live "gbacadaeafb0b1b2b3b4b5b6b7b8b9babbbcbdbe" 1000 (access 5000 ∷ [])) refl
    ∷ row (not_live " bacadaeafb0b1b2b3b4b5b6b7b8b9babbbcbdbe" 1000 (access 5000 ∷ [])) refl
    ∷ []
