-- Where everything lies in a store. No other file of specs/ or proofs/ names one of these numbers.
--
-- "First the mark, 8 bytes, big-endian, at most 2^40"; then the slots: "kind, handle 20, client number 1, farm 4, scope set 1,
-- expiry 8 (farm and expiry big-endian)"; then the link: a token's origin, or a code's challenge, "its 32 bytes in the place
-- where tokens hold their origin"; "every slot becomes 67 bytes, zero-filled".
use Rattle.std.specs.Prelude.{ℕ, ◌+◌, ◌*◌, ◌^◌, ◌≡◌, refl, List, [], ◌∷◌}

-- the bytes of the latest time seen, which stands first
abbrev pub time_size : ℕ
time_size = 8

-- no clock and no store shows a later time
abbrev pub latest_time : ℕ
latest_time = 2 ^ 40

-- "In August 512 slots ran out and apps got 503. Raise it to 900"
abbrev pub slot_count : ℕ
slot_count = 900

-- the widths of a slot's fields that are wider than a byte
abbrev pub handle_size : ℕ
handle_size = 20

abbrev pub farm_size : ℕ
farm_size = 4

abbrev pub expiry_size : ℕ
expiry_size = 8

abbrev pub link_size : ℕ
link_size = 32

-- kind, handle, client, farm, scope, expiry, link
abbrev pub field_sizes : List ℕ
field_sizes = 1 ∷ handle_size ∷ 1 ∷ farm_size ∷ 1 ∷ expiry_size ∷ link_size ∷ []

-- where each field starts in a slot; the kind stands first
abbrev pub at_handle : ℕ
at_handle = 1

abbrev pub at_client : ℕ
at_client = at_handle + handle_size

abbrev pub at_farm : ℕ
at_farm = at_client + 1

abbrev pub at_scope : ℕ
at_scope = at_farm + farm_size

abbrev pub at_expiry : ℕ
at_expiry = at_scope + 1

abbrev pub at_link : ℕ
at_link = at_expiry + expiry_size

abbrev pub slot_size : ℕ
slot_size = at_link + link_size

abbrev pub store_size : ℕ
store_size = time_size + slot_count * slot_size

-- "the ledger to 60,308 bytes"
store-size : store_size ≡ 60308
store-size = refl

-- where slot i starts in the store
abbrev pub slot_start : ℕ → ℕ
slot_start i = time_size + i * slot_size
