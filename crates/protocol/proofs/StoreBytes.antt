-- The bytes of a store, by computation: "First the mark, 8 bytes, big-endian"; then the slots: "kind, handle 20, client number 1, farm 4,
-- scope set 1, expiry 8 (farm and expiry big-endian)." Then a token's origin, or a challenge, "its 32 bytes in the place where tokens
-- hold their origin"; "every slot becomes 67 bytes, zero-filled". The cases write a store as a record; by this they speak of the
-- paper's bytes.
-- Assumes nothing.
use mathlib.Core.Path.{◌≡◌, refl}
use mathlib.Core.List.{[], ◌∷◌, ◌++◌}
use Prim.Native.Nat.{◌-◌, ◌*◌}
use lib.ListN.{replicate}
use Rattle.octets.specs.BigEndian.{big_endian_bytes}
use Rattle.token_store.specs.Layout.{slot_count, slot_size}
use Rattle.token_store.specs.Store.{free_slot, concat, encode_slot, encode}
use Rattle.token_store.specs.declared.Slot.{Slot}
use Rattle.protocol.proofs.Cases.{holding, slot, linked, from, spent, count_up, store_of}

-- a bound code of client 3 with a challenge, each byte of its numbers another; the same once it is exchanged; a refresh token that it brought
bound : Slot
bound = linked (count_up 32 200) (slot 7 (count_up 20 100) 3 0x04050607 8 0x090A0B0C0D0E0F10)

refresh : Slot
refresh = from (count_up 20 100) (slot 4 (count_up 20 150) 3 0x04050607 8 0x1112131415161718)

-- the store with these slots first, at a time
store_bytes : encode (store_of (holding 0x1112131415 (bound ∷ spent bound ∷ refresh ∷ [])))
    ≡ 0 ∷ 0 ∷ 0 ∷ 0x11 ∷ 0x12 ∷ 0x13 ∷ 0x14 ∷ 0x15
    ∷ 7
    ∷ count_up 20 100
    ++ 3
    ∷ 4 ∷ 5 ∷ 6 ∷ 7
    ∷ 8
    ∷ 9 ∷ 10 ∷ 11 ∷ 12 ∷ 13 ∷ 14 ∷ 15 ∷ 16
    ∷ count_up 32 200
    ++ 5
    ∷ count_up 20 100
    ++ 3
    ∷ 4 ∷ 5 ∷ 6 ∷ 7
    ∷ 8
    ∷ 9 ∷ 10 ∷ 11 ∷ 12 ∷ 13 ∷ 14 ∷ 15 ∷ 16
    ∷ replicate 32 0
    ++ 4
    ∷ count_up 20 150
    ++ 3
    ∷ 4 ∷ 5 ∷ 6 ∷ 7
    ∷ 8
    ∷ 17 ∷ 18 ∷ 19 ∷ 20 ∷ 21 ∷ 22 ∷ 23 ∷ 24
    ∷ count_up 20 100
    ++ replicate 12 0
    ++ replicate ((slot_count - 3) * slot_size) 0
unfolding bound refresh free_slot concat encode_slot encode big_endian_bytes
store_bytes = refl
