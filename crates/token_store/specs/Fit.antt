-- Which bytes are a store: every call is refused on any others.
use Rattle.std.specs.Prelude.{ℕ, Bool, cond, not, ◌&&◌, ◌||◌, List, eqb, leb, ltb, length, drop}
use Rattle.octets.specs.Lists.{every, is_zero}
use Rattle.token_store.specs.Layout.{store_size, latest_time, handle_size}
use Rattle.token_store.specs.Store.{kind_last, is_used, is_token, is_challenged, encode_slot, decode}
use Rattle.token_store.specs.declared.Slot.{Slot}

-- "every slot becomes 67 bytes, zero-filled (else refusal 3)": of a token's link all but the origin is zero; a challenge is any
-- 32 bytes; any other link is zero
unfoldable pub fit_link : Slot → Bool
fit_link s = cond (is_token s) (every is_zero (drop handle_size s.link)) (is_challenged s || every is_zero s.link)

-- "Kind 0 is free, body all zero"; "A slot in use has a client number in the register and a scope set that is not
-- empty." Nothing else is looked at: handles may repeat, farm and expiry are any numbers, and a token's origin any bytes.
unfoldable pub fit_slot : ℕ → Slot → Bool
fit_slot clients s =
    cond (is_used s)
    (leb s.kind kind_last && ltb s.client clients && not (eqb s.scope 0) && fit_link s)
    (every is_zero (encode_slot s))

-- "the mark, 8 bytes, big-endian, at most 2^40"
unfoldable pub fit_store : ℕ → List ℕ → Bool
fit_store clients b = eqb (length b) store_size && leb (decode b).time latest_time && every (fit_slot clients) (decode b).slots
