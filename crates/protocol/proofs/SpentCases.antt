-- The cases of codes that are spent (RFC 6749, section 4.1.2): one on each side of every sentence of document 02's third request that decides
-- something at the token endpoint.
--
-- Clients, slots, answers and calls are those of `TokenCases`: `code` is client 0's, bound, live until 1600; `new_access` and `new_refresh` are
-- what its exchange at 1599 brings. Where a test is about one reason to withdraw nothing, everything else is right, so that a definition
-- without it withdraws. What the authorization endpoint and the check make of spent codes and of origins is in `AuthorizationStores` and
-- `CheckCases`, which spent codes a store may have in `UnfitCases`, and a run of calls in `Visit`.
--
-- In order: slots and stores; calls; what an exchange keeps, and origins; room; clashes; a second showing: which tokens are cleared, what is
-- not looked at, the client, the time, unspent codes of the same handle, more than one spent, the handle of zero bytes, other texts; calls
-- that are refused earlier, and other grants; what is left.
-- Assumes nothing.
use Prim.Native.Nat.{ℕ, ◌-◌, ◌^◌}
use Prim.Native.String.{String}
use mathlib.Core.Path.{refl}
use mathlib.Core.List.{List, [], ◌∷◌, ◌++◌}
use lib.ListN.{replicate}
use Rattle.octets.specs.Text.{bytes}
use Rattle.client_registry.specs.Sample.{sample_confidential, sample_public}
use Rattle.token_store.specs.Store.{free_slot}
use Rattle.token_store.specs.declared.Slot.{Slot}
use Rattle.protocol.proofs.Computing.{text_definitions, slot_definitions, decision_definitions, client_definitions, token_definitions, credentials_definitions, check_definitions}
use Rattle.protocol.proofs.Cases.{ShortStore, lastly, slot, from, spent, count_up, Row}
use Rattle.protocol.proofs.TokenCases.{handle, code, unbound_code, bound_code, refresh_token, access_token, run_out, until, twin, refresh_twin, access_twin, access, refresh, renewed, some, crowded, at, Said, invalid_request, invalid_client, challenged, invalid_grant, unsupported, no_room, clash, both_tokens_of, access_alone_of, both_tokens, access_alone, two_handles, next_handles, Visit, row, call, refused, basic, exchange, addressless, barn, refreshing, padded, new_access, new_refresh, exchanges_in}
use Rattle.protocol.proofs.CredentialsCases.{for_itself, wrong_secret, mill_basic, own_token_of, own_token, checked}

-- ---- slots and stores

-- a spent code with the handle of the visit's, for another farm and set
abbrev spent_twin : ℕ → ℕ → Slot
spent_twin client expiry = spent (twin client expiry)

-- a code of client 1 that is spent and runs out at a time
abbrev spent_until : ℕ → Slot
spent_until expiry = spent (slot 1 (handle 120) 1 8 1 expiry)

-- a token of the visit's code: of a kind and a client, until a time
abbrev came : ℕ → ℕ → ℕ → Slot
came kind client expiry = from (handle 0) (slot kind (handle 40) client 9 2 expiry)

-- what the visit's exchange leaves where nothing else was issued, and what is left of it once its tokens are withdrawn
abbrev leaked : ShortStore
leaked = some (spent code ∷ new_access ∷ new_refresh ∷ [])

abbrev withdrawn : ShortStore
withdrawn = some (spent code ∷ [])

-- a code of which all bytes of the handle are zero
abbrev zero_code : Slot
zero_code = slot 1 (replicate 20 0) 0 7 11 1600

-- ---- calls

-- a code by its text
abbrev showing : String → List ℕ
showing text = bytes "grant_type=authorization_code&code=" ++ bytes text

-- the same by barnapp, a public client
abbrev barn_showing : String → List ℕ
barn_showing text = showing text ++ bytes "&client_id=barnapp"

-- a code alone in its store is exchanged: what is kept of it, and its tokens
abbrev exchanges_at : ℕ → List ℕ → List ℕ → String → Slot → List Slot → Visit
exchanges_at clock header body scope before after =
    call (some (before ∷ [])) clock two_handles header body (both_tokens scope) (at clock (some after))

-- a refresh token alone in its store: the access token that it brings
abbrev renews : List ℕ → String → Slot → Slot → Visit
renews asked scope before new =
    call (some (before ∷ [])) 1599 two_handles basic (refreshing ++ asked) (access_alone scope) (at 1599 (some (before ∷ new ∷ [])))

-- the visit's code is shown again: its tokens are withdrawn; and they stay, for the answer
abbrev withdraws : List ℕ → List ℕ → Visit
withdraws header body = call leaked 1599 next_handles header body invalid_grant (at 1599 withdrawn)

abbrev leaves : List ℕ → List ℕ → Said → Visit
leaves header body paper = refused leaked 1599 next_handles header body paper

-- the same from slots to slots
abbrev withdraws_in : List Slot → List Slot → Visit
withdraws_in before after = call (some before) 1599 next_handles basic exchange invalid_grant (at 1599 (some after))

abbrev leaves_in : List Slot → Visit
leaves_in slots = withdraws_in slots slots

-- what stands before the spent code and behind it is cleared; and stays, while a token is cleared
abbrev clears : Slot → Visit
clears s = withdraws_in (s ∷ spent code ∷ s ∷ []) (free_slot ∷ spent code ∷ free_slot ∷ [])

abbrev keeps : Slot → Visit
keeps s = withdraws_in (s ∷ spent code ∷ new_access ∷ s ∷ []) (s ∷ spent code ∷ free_slot ∷ s ∷ [])

-- what an exchange of barnapp's code leaves, and a call of barnapp's that changes none of it
abbrev barn_family : ShortStore
barn_family = some (access unbound_code 1599 (handle 32) ∷ spent unbound_code ∷ refresh unbound_code 1599 (handle 52) ∷ [])

abbrev barn_leaves : List ℕ → Said → Visit
barn_leaves body paper = refused barn_family 1599 next_handles [] body paper

-- a refresh with the visit's refresh token
abbrev renewing : List ℕ
renewing = bytes "grant_type=refresh_token&refresh_token=3435363738393a3b3c3d3e3f4041424344454647"

-- a single token is issued, B4 to C7 hex, and all that the exchange left stays
abbrev one_token : Said
one_token = access_alone_of "b4b5b6b7b8b9babbbcbdbebfc0c1c2c3c4c5c6c7" "power peak bill"

abbrev issues_one : List ℕ → Slot → Visit
issues_one body new =
    call leaked 1599 next_handles basic body one_token (at 1599 (some (spent code ∷ new_access ∷ new_refresh ∷ new ∷ [])))

-- ---- the table

pub spent_cases : List Row
unfolding text_definitions slot_definitions decision_definitions client_definitions token_definitions credentials_definitions check_definitions sample_confidential sample_public
spent_cases =
    -- ---- "Keep an exchanged code as kind 5, spent, until its old expiry.": in its place, with its handle, client, farm, scope and expiry.
    -- "Each access and refresh token records the handle of the code it came from". A bound code; one that is not, of another client, farm and
    -- set; one that has more than its client's set, and lives for long
    row
    (exchanges_at 1599 basic exchange "power peak bill" (slot 2 (handle 0) 0 7 11 1600)
    (slot 5 (handle 0) 0 7 11 1600
    ∷ from (handle 0) (slot 3 (handle 32) 0 7 11 5199)
    ∷ from (handle 0) (slot 4 (handle 52) 0 7 11 2593599)
    ∷ [])) refl
    ∷ row
    (exchanges_at 1000 [] barn "power" (slot 1 (handle 60) 1 4294967295 1 1600)
    (slot 5 (handle 60) 1 4294967295 1 1600
    ∷ from (handle 60) (slot 3 (handle 32) 1 4294967295 1 4600)
    ∷ from (handle 60) (slot 4 (handle 52) 1 4294967295 1 2593000)
    ∷ [])) refl
    ∷ row
    (exchanges_at 1599 basic addressless "tariff" (slot 1 (handle 0) 0 16909060 4 (2 ^ 64 - 1))
    (slot 5 (handle 0) 0 16909060 4 (2 ^ 64 - 1)
    ∷ from (handle 0) (slot 3 (handle 32) 0 16909060 4 5199)
    ∷ from (handle 0) (slot 4 (handle 52) 0 16909060 4 2593599)
    ∷ [])) refl
    -- a refresh: the access token has the origin of the refresh token and not its handle, for less scope too; whatever that origin is
    ∷ row
    (renews [] "power peak bill" (from (handle 0) (slot 4 (handle 80) 0 7 11 2593000)) (from (handle 0) (slot 3 (handle 32) 0 7 11 5199))) refl
    ∷ row
    (renews (bytes "&scope=peak") "peak" (from (handle 0) (slot 4 (handle 80) 0 7 11 2593000))
    (from (handle 0) (slot 3 (handle 32) 0 7 2 5199))) refl
    ∷ row
    (renews [] "power peak bill" (from (replicate 20 0) (slot 4 (handle 80) 0 7 11 2593000))
    (from (replicate 20 0) (slot 3 (handle 32) 0 7 11 5199))) refl
    ∷ row
    (renews [] "power peak bill" (from (handle 80) (slot 4 (handle 80) 0 7 11 2593000)) (from (handle 80) (slot 3 (handle 32) 0 7 11 5199))) refl
    -- "tokens of Wish 1 record their own"
    ∷ row
    (call (some []) 1599 two_handles basic for_itself (access_alone "power peak bill")
    (at 1599 (some (from (handle 32) (slot 3 (handle 32) 0 0 11 5199) ∷ [])))) refl
    -- ---- room: "spent codes count as taken". One that is live is no room, one that has run out is, and its slot is used again
    ∷ row (refused (crowded (code ∷ free_slot ∷ spent_until 1600 ∷ [])) 1599 two_handles basic exchange no_room) refl
    ∷ row (exchanges_in (code ∷ free_slot ∷ spent_until 1599 ∷ []) (spent code ∷ new_access ∷ new_refresh ∷ [])) refl
    ∷ row (exchanges_in (spent_until 1599 ∷ spent_until 1 ∷ code ∷ []) (new_access ∷ new_refresh ∷ spent code ∷ [])) refl
    ∷ row (refused (crowded (refresh_token ∷ spent_until 1600 ∷ [])) 1599 two_handles basic refreshing no_room) refl
    ∷ row
    (call (crowded (refresh_token ∷ spent_until 1599 ∷ [])) 1599 two_handles basic refreshing (access_alone "power peak bill")
    (at 1599 (crowded (refresh_token ∷ renewed refresh_token 1599 (handle 32) 11 ∷ [])))) refl
    ∷ row (refused (crowded (spent_until 1600 ∷ [])) 1599 two_handles basic for_itself no_room) refl
    ∷ row
    (call (crowded (spent_until 1599 ∷ [])) 1599 two_handles basic for_itself (access_alone "power peak bill")
    (at 1599 (crowded (own_token 0 1599 11 ∷ [])))) refl
    -- three slots are vacant: the first of two exchanges leaves one, since its code keeps its slot, and the second needs two
    ∷ row
    (exchanges_in (code ∷ unbound_code ∷ free_slot ∷ free_slot ∷ free_slot ∷ [])
    (spent code ∷ unbound_code ∷ new_access ∷ new_refresh ∷ free_slot ∷ [])) refl
    ∷ row
    (refused (at 1599 (crowded (spent code ∷ unbound_code ∷ new_access ∷ new_refresh ∷ free_slot ∷ []))) 1599 next_handles [] barn no_room) refl
    -- ---- clashes: the handle of a spent code, live or run out, is that of a slot in use. By the first and by the second handle
    ∷ row (refused (some (code ∷ spent_until 1600 ∷ [])) 1599 (handle 120 ++ handle 52) basic exchange clash) refl
    ∷ row (refused (some (code ∷ spent_until 1599 ∷ [])) 1599 (handle 120 ++ handle 52) basic exchange clash) refl
    ∷ row (refused (some (code ∷ spent_until 1600 ∷ [])) 1599 (handle 32 ++ handle 120) basic exchange clash) refl
    ∷ row (refused (some (code ∷ spent_until 1 ∷ [])) 1599 (handle 32 ++ handle 120) basic exchange clash) refl
    ∷ row (refused (some (refresh_token ∷ spent_until 1600 ∷ [])) 1599 (handle 120 ++ handle 52) basic refreshing clash) refl
    ∷ row (refused (some (spent_until 1599 ∷ [])) 1599 (handle 120 ++ handle 52) basic for_itself clash) refl
    -- an origin is none: 200 and 220 are those of tokens; nor is the handle of a code that has gone, while a token of it is live
    ∷ row
    (call (some (code ∷ access_token ∷ until 1600 ∷ [])) 1599 (handle 200 ++ handle 220) basic exchange
    (both_tokens_of "c8c9cacbcccdcecfd0d1d2d3d4d5d6d7d8d9dadb" "dcdddedfe0e1e2e3e4e5e6e7e8e9eaebecedeeef" "power peak bill")
    (at 1599 (some (spent code ∷ access_token ∷ until 1600 ∷ access code 1599 (handle 200) ∷ refresh code 1599 (handle 220) ∷ [])))) refl
    ∷ row
    (call (some (refresh_token ∷ [])) 1599 (handle 200 ++ handle 52) basic refreshing
    (access_alone_of "c8c9cacbcccdcecfd0d1d2d3d4d5d6d7d8d9dadb" "power peak bill")
    (at 1599 (some (refresh_token ∷ renewed refresh_token 1599 (handle 200) 11 ∷ [])))) refl
    ∷ row
    (call (some (new_refresh ∷ [])) 1599 (handle 0 ++ handle 52) basic for_itself
    (access_alone_of "000102030405060708090a0b0c0d0e0f10111213" "power peak bill")
    (at 1599 (some (new_refresh ∷ own_token_of (handle 0) 0 1599 11 ∷ [])))) refl
    -- ---- a second showing: "the answer is still `invalid_grant` .. and every token with that origin is cleared", the spent code is not
    ∷ row (withdraws basic exchange) refl
    -- an access token and a refresh token, live and run out, of this client and of others, wherever they stand
    ∷ row (clears (came 3 0 1600)) refl
    ∷ row (clears (came 3 0 1599)) refl
    ∷ row (clears (came 4 0 1600)) refl
    ∷ row (clears (came 4 0 1599)) refl
    ∷ row (clears (came 3 1 (2 ^ 64 - 1))) refl
    ∷ row (clears (came 3 1 0)) refl
    ∷ row (clears (came 4 1 1600)) refl
    ∷ row (clears (came 4 2 1)) refl
    -- one that has the code's handle for its own too; the token of a refresh; the last slot of all, and every slot
    ∷ row (clears (from (handle 0) access_twin)) refl
    ∷ row (clears (renewed new_refresh 1599 (handle 80) 2)) refl
    ∷ row
    (call (lastly 1000 (spent code ∷ []) free_slot new_refresh) 1599 next_handles basic exchange invalid_grant
    (at 1599 withdrawn)) refl
    ∷ row
    (call (record { time = 1000; first = spent code ∷ []; rest = new_access }) 1599 next_handles basic exchange invalid_grant
    (at 1599 withdrawn)) refl
    -- tokens of another origin stay, live and run out; the first or the last byte of the origin is another; it is none
    ∷ row (keeps access_token) refl
    ∷ row (keeps refresh_token) refl
    ∷ row (keeps run_out) refl
    ∷ row (keeps (from (1 ∷ count_up 19 1) new_access)) refl
    ∷ row (keeps (from (count_up 19 0 ++ 20 ∷ []) new_refresh)) refl
    ∷ row (keeps (from (replicate 20 0) new_refresh)) refl
    -- the code's handle is a token's own, and not its origin; a client's token for itself
    ∷ row (keeps access_twin) refl
    ∷ row (keeps refresh_twin) refl
    ∷ row (keeps (own_token 0 1599 11)) refl
    -- unspent codes, live and run out, and other spent codes
    ∷ row (keeps unbound_code) refl
    ∷ row (keeps (slot 2 (handle 120) 0 7 11 1)) refl
    ∷ row (keeps (spent unbound_code)) refl
    ∷ row (keeps (spent_until 1)) refl
    -- all of them at once
    ∷ row
    (withdraws_in
    (came 4 1 1 ∷ unbound_code ∷ new_access ∷ access_token ∷ spent code ∷ refresh_token ∷ new_refresh ∷ spent bound_code ∷ came 3 0 1 ∷ run_out ∷ [])
    (free_slot ∷ unbound_code ∷ free_slot ∷ access_token ∷ spent code ∷ refresh_token ∷ free_slot ∷ spent bound_code ∷ free_slot ∷ run_out ∷ [])) refl
    -- no token is left to clear
    ∷ row (refused withdrawn 1599 next_handles basic exchange invalid_grant) refl
    -- ---- "redirect not looked at": missing, another, another client's; nor is the scope, or a refresh token beside it
    ∷ row (withdraws basic addressless) refl
    ∷ row (withdraws basic (addressless ++ bytes "&redirect_uri=https%3A%2F%2Fevil.example%2F")) refl
    ∷ row (withdraws basic (addressless ++ bytes "&redirect_uri=https%3A%2F%2Fbarn.example%2Fr%3Fx%3D1")) refl
    ∷ row (withdraws basic (exchange ++ bytes "&scope=solar++x&refresh_token=3435363738393a3b3c3d3e3f4041424344454647")) refl
    -- room and clashes are not looked at either: no slot is vacant, one is; the random bytes are handles in use, or twice the same
    ∷ row
    (call (crowded (spent code ∷ new_access ∷ new_refresh ∷ [])) 1599 next_handles basic exchange invalid_grant
    (at 1599 (crowded (spent code ∷ free_slot ∷ free_slot ∷ [])))) refl
    ∷ row
    (call (crowded (spent code ∷ new_access ∷ free_slot ∷ [])) 1599 next_handles basic exchange invalid_grant
    (at 1599 (crowded (spent code ∷ free_slot ∷ free_slot ∷ [])))) refl
    ∷ row (call leaked 1599 two_handles basic exchange invalid_grant (at 1599 withdrawn)) refl
    ∷ row (call leaked 1599 (handle 0 ++ handle 0) basic exchange invalid_grant (at 1599 withdrawn)) refl
    -- ---- "the same client, authenticated": in the header (above) and in the body; a public client
    ∷ row (withdraws [] (exchange ++ bytes "&client_id=s6BhdRkqt3&client_secret=gX1fBat3bV")) refl
    ∷ row (call barn_family 1599 next_handles [] barn invalid_grant (at 1599 (some (free_slot ∷ spent unbound_code ∷ [])))) refl
    -- "Another client's try clears nothing.", though the tokens be its own: a client of a higher number, of a lower one
    ∷ row (leaves [] (exchange ++ bytes "&client_id=barnapp") invalid_grant) refl
    ∷ row (leaves mill_basic exchange invalid_grant) refl
    ∷ row (leaves_in (spent_twin 1 1600 ∷ came 3 0 1600 ∷ came 4 0 1600 ∷ [])) refl
    ∷ row (refused (some (spent code ∷ came 3 1 1600 ∷ [])) 1599 next_handles [] (exchange ++ bytes "&client_id=barnapp") invalid_grant) refl
    -- ---- live "until its old expiry": a second before it (above), and at it; by the time that the store has seen, whatever the clock says
    ∷ row (refused leaked 1600 next_handles basic exchange invalid_grant) refl
    ∷ row (refused leaked 5000 next_handles basic exchange invalid_grant) refl
    ∷ row (call (at 1600 leaked) 1100 next_handles basic exchange invalid_grant (at 1600 leaked)) refl
    ∷ row (call (at 1599 leaked) 1100 next_handles basic exchange invalid_grant (at 1599 withdrawn)) refl
    -- the time is stored: the clock where it is later, and else the store's own
    ∷ row (call (at 1100 leaked) 1200 next_handles basic exchange invalid_grant (at 1200 withdrawn)) refl
    ∷ row (call (at 1200 leaked) 0 next_handles basic exchange invalid_grant (at 1200 withdrawn)) refl
    -- ---- "sought only where no unspent code has its handle": one that is live, before the spent code and behind it, is exchanged; what came
    -- from the other stays
    ∷ row
    (call (some (twin 0 1600 ∷ spent code ∷ came 3 0 1600 ∷ [])) 1599 two_handles basic addressless (both_tokens "peak")
    (at 1599
    (some
    (spent_twin 0 1600
    ∷ spent code
    ∷ came 3 0 1600
    ∷ access (twin 0 1600) 1599 (handle 32)
    ∷ refresh (twin 0 1600) 1599 (handle 52)
    ∷ [])))) refl
    ∷ row
    (call (some (spent_twin 0 1600 ∷ came 3 0 1600 ∷ code ∷ [])) 1599 two_handles basic exchange (both_tokens "power peak bill")
    (at 1599 (some (spent_twin 0 1600 ∷ came 3 0 1600 ∷ spent code ∷ new_access ∷ new_refresh ∷ [])))) refl
    -- it has run out, or is another client's
    ∷ row (leaves_in (twin 0 1599 ∷ spent code ∷ new_access ∷ new_refresh ∷ [])) refl
    ∷ row (leaves_in (spent code ∷ new_access ∷ new_refresh ∷ twin 0 1599 ∷ [])) refl
    ∷ row (leaves_in (twin 1 1600 ∷ spent code ∷ new_access ∷ new_refresh ∷ [])) refl
    ∷ row (leaves_in (spent code ∷ new_access ∷ new_refresh ∷ twin 1 1600 ∷ [])) refl
    ∷ row (leaves_in (spent code ∷ new_access ∷ new_refresh ∷ twin 2 1 ∷ [])) refl
    ∷ row (leaves_in (spent code ∷ new_access ∷ new_refresh ∷ slot 2 (handle 0) 0 7 11 1599 ∷ [])) refl
    -- it is refused for its redirect_uri, for want of room, for a clash
    ∷ row (refused (some (spent_twin 0 1600 ∷ came 3 0 1600 ∷ code ∷ [])) 1599 next_handles basic addressless invalid_grant) refl
    ∷ row (refused (crowded (spent_twin 0 1600 ∷ came 3 0 1600 ∷ code ∷ [])) 1599 next_handles basic exchange no_room) refl
    ∷ row (refused (some (spent_twin 0 1600 ∷ came 3 0 1600 ∷ code ∷ [])) 1599 (handle 40 ++ handle 52) basic exchange clash) refl
    -- it stands in the last slot of all
    ∷ row
    (refused (lastly 1000 (spent code ∷ new_access ∷ []) free_slot (twin 0 1599)) 1599 next_handles basic
    exchange invalid_grant) refl
    -- an unspent code of another handle, and tokens with this handle, stop nothing
    ∷ row
    (withdraws_in (unbound_code ∷ access_twin ∷ refresh_twin ∷ spent code ∷ new_access ∷ [])
    (unbound_code ∷ access_twin ∷ refresh_twin ∷ spent code ∷ free_slot ∷ [])) refl
    -- ---- two spent codes of one handle: the lowest counts. It has run out, or is another client's; it is live and the client's own
    ∷ row (leaves_in (spent_twin 0 1599 ∷ spent code ∷ new_access ∷ new_refresh ∷ [])) refl
    ∷ row (leaves_in (spent_twin 1 1600 ∷ spent code ∷ new_access ∷ new_refresh ∷ [])) refl
    ∷ row
    (withdraws_in (spent code ∷ new_access ∷ spent_twin 0 1599 ∷ new_refresh ∷ []) (spent code ∷ free_slot ∷ spent_twin 0 1599 ∷ free_slot ∷ [])) refl
    ∷ row
    (withdraws_in (spent code ∷ new_access ∷ spent_twin 1 1600 ∷ new_refresh ∷ []) (spent code ∷ free_slot ∷ spent_twin 1 1600 ∷ free_slot ∷ [])) refl
    -- ---- the handle of twenty zero bytes: codes without a challenge hold zero in the place of an origin, and none of them is
    -- cleared, nor a spent one
    ∷ row
    (call
    (some (unbound_code ∷ code ∷ spent zero_code ∷ spent bound_code ∷ from (replicate 20 0) new_access ∷ access_token ∷ from (replicate 20 0) run_out ∷ []))
    1599 next_handles basic (showing "0000000000000000000000000000000000000000") invalid_grant
    (at 1599 (some (unbound_code ∷ code ∷ spent zero_code ∷ spent bound_code ∷ free_slot ∷ access_token ∷ [])))) refl
    -- the zeros of a free slot are no spent code
    ∷ row
    (refused (some (free_slot ∷ unbound_code ∷ from (replicate 20 0) new_access ∷ [])) 1599 next_handles basic
    (showing "0000000000000000000000000000000000000000") invalid_grant) refl
    -- ---- "A presented handle is 40 lower-case hex digits; any other text matches no slot.": 39 of them, 41, all in upper case, the last
    -- one, a byte that is none; and no handle at all where a spent code has that of zero bytes
    ∷ row (barn_leaves (barn_showing "3c3d3e3f404142434445464748494a4b4c4d4e4") invalid_grant) refl
    ∷ row (barn_leaves (barn_showing "3c3d3e3f404142434445464748494a4b4c4d4e4f0") invalid_grant) refl
    ∷ row (barn_leaves (barn_showing "3C3D3E3F404142434445464748494A4B4C4D4E4F") invalid_grant) refl
    ∷ row (barn_leaves (barn_showing "3c3d3e3f404142434445464748494a4b4c4d4e4F") invalid_grant) refl
    ∷ row (barn_leaves (barn_showing "3c3d3e3f404142434445464748494a4b4c4d4e4g") invalid_grant) refl
    ∷ row
    (refused (some (spent zero_code ∷ from (replicate 20 0) new_access ∷ [])) 1599 next_handles basic (showing "x") invalid_grant) refl
    -- another code, of which the first or the last byte is another; the handle of a token is no spent code's, though tokens have it as origin
    ∷ row (leaves basic (showing "010102030405060708090a0b0c0d0e0f10111213") invalid_grant) refl
    ∷ row (leaves basic (showing "000102030405060708090a0b0c0d0e0f10111214") invalid_grant) refl
    ∷ row (refused (some (own_token 0 1599 11 ∷ [])) 1599 next_handles basic (showing "202122232425262728292a2b2c2d2e2f30313233") invalid_grant) refl
    ∷ row
    (refused (some (new_refresh ∷ from (handle 52) new_access ∷ [])) 1599 next_handles basic
    (showing "3435363738393a3b3c3d3e3f4041424344454647") invalid_grant) refl
    -- ---- a call that is refused earlier withdraws nothing: `invalid_request`, and with that mended
    ∷ row (leaves basic (padded 4097 exchange) invalid_request) refl
    ∷ row (withdraws basic (padded 4096 exchange)) refl
    ∷ row (leaves basic (exchange ++ bytes "&a=%4") invalid_request) refl
    ∷ row (leaves basic (exchange ++ bytes "&code=000102030405060708090a0b0c0d0e0f10111213") invalid_request) refl
    ∷ row (leaves basic (exchange ++ bytes "&scope=power&scope=power") invalid_request) refl
    ∷ row (leaves basic (bytes "code=000102030405060708090a0b0c0d0e0f10111213") invalid_request) refl
    ∷ row (leaves basic (exchange ++ bytes "&client_secret=gX1fBat3bV") invalid_request) refl
    -- `invalid_client`: a wrong secret, none, an unknown client, ids that differ
    ∷ row (leaves wrong_secret exchange challenged) refl
    ∷ row (leaves [] (exchange ++ bytes "&client_id=s6BhdRkqt3") invalid_client) refl
    ∷ row (leaves [] (exchange ++ bytes "&client_id=other") invalid_client) refl
    ∷ row (leaves basic (exchange ++ bytes "&client_id=barnapp") challenged) refl
    -- `unsupported_grant_type`, and a code that is missing or has no value
    ∷ row (leaves basic (bytes "grant_type=password&code=000102030405060708090a0b0c0d0e0f10111213") unsupported) refl
    ∷ row (leaves basic (bytes "grant_type=authorization_code&refresh_token=000102030405060708090a0b0c0d0e0f10111213") invalid_request) refl
    ∷ row (leaves basic (showing "&redirect_uri=https%3A%2F%2Fclient.example.com%2Fcb") invalid_request) refl
    -- ---- the other grants withdraw nothing: the spent code as a refresh token; beside a refresh token, whose token then has the origin; beside a
    -- client's request for itself
    ∷ row (leaves basic (bytes "grant_type=refresh_token&refresh_token=000102030405060708090a0b0c0d0e0f10111213") invalid_grant) refl
    ∷ row
    (issues_one (renewing ++ bytes "&code=000102030405060708090a0b0c0d0e0f10111213") (renewed new_refresh 1599 (handle 180) 11)) refl
    ∷ row (issues_one (for_itself ++ bytes "&code=000102030405060708090a0b0c0d0e0f10111213") (own_token_of (handle 180) 0 1599 11)) refl
    -- ---- what is left: the access token is live before and not after, and the refresh token good before and not after
    ∷ checked (at 1100 leaked) 1599 (1 ∷ 0 ∷ 7 ∷ 11 ∷ 3600 ∷ []) refl
    ∷ checked (at 1599 withdrawn) 1599 (0 ∷ 0 ∷ 0 ∷ 0 ∷ 0 ∷ []) refl
    ∷ row (issues_one renewing (renewed new_refresh 1599 (handle 180) 11)) refl
    ∷ row (refused (at 1599 withdrawn) 1599 next_handles basic renewing invalid_grant) refl
    -- the spent code itself is no access token, and hides none
    ∷ checked (some (spent (slot 1 (handle 32) 0 7 11 1600) ∷ [])) 1599 (0 ∷ 0 ∷ 0 ∷ 0 ∷ 0 ∷ []) refl
    ∷ checked (some (spent (slot 1 (handle 32) 0 7 11 1600) ∷ new_access ∷ [])) 1599 (1 ∷ 0 ∷ 7 ∷ 11 ∷ 3600 ∷ []) refl
    -- the slots that were cleared are room, that of the spent code is not, until it has run out
    ∷ row (refused (crowded (spent code ∷ new_access ∷ new_refresh ∷ [])) 1599 next_handles basic for_itself no_room) refl
    ∷ row
    (call (crowded (spent code ∷ free_slot ∷ free_slot ∷ [])) 1599 next_handles basic for_itself one_token
    (at 1599 (crowded (spent code ∷ own_token_of (handle 180) 0 1599 11 ∷ free_slot ∷ [])))) refl
    ∷ row
    (call (crowded (spent code ∷ free_slot ∷ free_slot ∷ [])) 1600 next_handles basic for_itself one_token
    (at 1600 (crowded (own_token_of (handle 180) 0 1600 11 ∷ free_slot ∷ free_slot ∷ [])))) refl
    ∷ []
