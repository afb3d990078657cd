-- The cases of the client_credentials grant (RFC 6749, section 4.4): one on each side of every sentence of document 02's first request that
-- decides something at the token endpoint.
--
-- Clients, stores, answers and calls are those of `TokenCases`: client 0 is confidential with the set 11, client 1 public, client 2
-- confidential with every name. Most calls come at 1599, when of the store's slots the seventh has run out.
--
-- In order: calls; the cases, by the order of refusals; what such a token is good for; slots for farm 0 that lie in a store already.
-- Assumes nothing.
use Prim.Native.Nat.{ℕ, ◌+◌, ◌^◌}
use Prim.Native.String.{String}
use mathlib.Core.Path.{◌≡◌, refl}
use mathlib.Core.Bool.{true}
use mathlib.Core.List.{List, [], ◌∷◌, ◌++◌}
use lib.ListN.{replicate}
use Rattle.octets.specs.Text.{bytes}
use Rattle.scope.specs.Set.{names}
use Rattle.client_registry.specs.Sample.{sample_confidential, sample_public}
use Rattle.token_store.specs.Store.{free_slot}
use Rattle.token_store.specs.declared.Slot.{Slot}
use Rattle.protocol.proofs.Computing.{text_definitions, slot_definitions, decision_definitions, client_definitions, token_definitions, credentials_definitions, check_definitions}
use Rattle.protocol.proofs.Cases.{check, ShortStore, holding, slot, linked, from, spent, count_up, Case, Row}
use Rattle.protocol.proofs.TokenRows.{agrees_on, row_on}
use Rattle.protocol.proofs.TokenCases.{clients, registry, registry-fit, registry-clients, handle, code, unbound_code, refresh_token, access_token, until, twin, refresh_twin, access, refresh, renewed, some, crowded, at, held, held_beside, last_used, Said, said, invalid_request, invalid_client, challenged, invalid_grant, invalid_scope, unsupported, no_room, clash, both_tokens, access_alone_of, access_alone, two_handles, next_handles, Visit, row, call, refused, refuses, basic, exchange, barn, refreshing, new_access, new_refresh}

-- ---- calls

-- the request of the RFC's section 4.4.2; the same for a scope; barnapp's, which is a public client
abbrev pub for_itself : List ℕ
for_itself = bytes "grant_type=client_credentials"

abbrev asking : String → List ℕ
asking scope = for_itself ++ bytes "&scope=" ++ bytes scope

abbrev barn_asks : List ℕ
barn_asks = for_itself ++ bytes "&client_id=barnapp"

-- headers: client 0's with a wrong secret (`gX1fBat3bW`), and client 2's (`mill%202:a%2Bb:%2541`)
abbrev pub wrong_secret : List ℕ
wrong_secret = bytes "Basic czZCaGRSa3F0MzpnWDFmQmF0M2JX"

abbrev pub mill_basic : List ℕ
mill_basic = bytes "Basic bWlsbCUyMDI6YSUyQmI6JTI1NDE="

abbrev unauthorized : Said
unauthorized = said 400 10 0 (bytes "{\"error\":\"unauthorized_client\"}")

-- "Such tokens carry farm 0" and "record their own" handle as the origin: the client's token with a handle, issued at a time; the same with
-- the random bytes 20 to 33 hex
abbrev pub own_token_of : List ℕ → ℕ → ℕ → ℕ → Slot
own_token_of new client t scope = from new (slot 3 new client 0 scope (t + 3600))

abbrev pub own_token : ℕ → ℕ → ℕ → Slot
own_token client t scope = own_token_of (handle 32) client t scope

-- a client is granted the scope with these names: client 0, its whole set, client 2
abbrev pub grants_to : ℕ → List ℕ → List ℕ → String → ℕ → Visit
grants_to client header body names scope =
    call held 1599 two_handles header body (access_alone names) (at 1599 (held_beside (own_token client 1599 scope)))

abbrev grants : List ℕ → List ℕ → String → ℕ → Visit
grants header body names scope = grants_to 0 header body names scope

abbrev grants_all : List ℕ → List ℕ → Visit
grants_all header body = grants header body "power peak bill" 11

abbrev mill_grants : List ℕ → String → ℕ → Visit
mill_grants body names scope = grants_to 2 mill_basic body names scope

-- in a crowded store, from slots to slots
abbrev grants_in : List Slot → List Slot → Visit
grants_in before after = call (crowded before) 1599 two_handles basic for_itself (access_alone "power peak bill") (at 1599 (crowded after))

abbrev new : Slot
new = own_token 0 1599 11

-- with these last 20 random bytes
abbrev ignoring : List ℕ → Visit
ignoring second =
    call held 1599 (handle 32 ++ second) basic for_itself (access_alone "power peak bill") (at 1599 (held_beside new))

-- the check of the token 20 to 33 hex: live or not, client, farm, scope and seconds left
abbrev check_at : ShortStore → ℕ → List ℕ → Case
check_at store clock numbers = record {
  call = check (bytes "202122232425262728292a2b2c2d2e2f30313233");
  registry = registry;
  store = store;
  clock = clock;
  random = [];
  room = 0;
  numbers = 0 ∷ numbers;
  text = [];
  after = at clock store;
}

abbrev pub checked : (store : ShortStore) (clock : ℕ) (numbers : List ℕ) → agrees_on clients (check_at store clock numbers) ≡ true → Row
checked store clock numbers agreed = row_on (check_at store clock numbers) registry-fit clients registry-clients agreed

-- the same slot, for farm 0
abbrev farmless : Slot → Slot
farmless s = linked s.link (slot s.kind s.handle s.client 0 s.scope s.expiry)

-- ---- the table

pub credentials_cases : List Row
unfolding text_definitions slot_definitions decision_definitions client_definitions token_definitions credentials_definitions check_definitions sample_confidential sample_public
credentials_cases =
    -- ---- success, status 200: "confidential clients only .. no refresh token, one slot". The RFC's example, at a fresh store
    row
    (call (holding 0 []) 1000 two_handles basic for_itself (access_alone "power peak bill")
    (holding 1000 (from (handle 32) (slot 3 (handle 32) 0 0 11 4600) ∷ []))) refl
    -- at a store in use; authenticated in the body; with the client_id beside the header; another client, of another number and set
    ∷ row (grants_all basic for_itself) refl
    ∷ row (grants_all [] (for_itself ++ bytes "&client_id=s6BhdRkqt3&client_secret=gX1fBat3bV")) refl
    ∷ row (grants_all basic (bytes "client_id=s6BhdRkqt3&" ++ for_itself)) refl
    ∷ row (mill_grants for_itself "power peak tariff bill milking drying pump solar" 255) refl
    -- identical requests are never merged: what the first one left, and other random bytes
    ∷ row
    (call (holding 1599 (new ∷ [])) 1599 (count_up 40 100) basic for_itself
    (access_alone_of "6465666768696a6b6c6d6e6f7071727374757677" "power peak bill")
    (holding 1599 (new ∷ own_token_of (handle 100) 0 1599 11 ∷ []))) refl
    -- ---- the other known names are ignored. A live code of the client, and a refresh token, each for farm 9 and the set 2: neither is spent,
    -- and neither farm nor scope is taken from it
    ∷ row
    (call (some (twin 0 1600 ∷ refresh_twin ∷ [])) 1599 two_handles basic
    (for_itself ++ bytes "&code=000102030405060708090a0b0c0d0e0f10111213") (access_alone "power peak bill")
    (at 1599 (some (twin 0 1600 ∷ refresh_twin ∷ new ∷ [])))) refl
    ∷ row
    (call (some (twin 0 1600 ∷ refresh_twin ∷ [])) 1599 two_handles basic
    (for_itself ++ bytes "&refresh_token=000102030405060708090a0b0c0d0e0f10111213") (access_alone "power peak bill")
    (at 1599 (some (twin 0 1600 ∷ refresh_twin ∷ new ∷ [])))) refl
    -- all that an exchange of the visit's code says; values that are no handle and no address; with no value
    ∷ row
    (grants_all basic
    (for_itself ++ bytes "&code=000102030405060708090a0b0c0d0e0f10111213&redirect_uri=https%3A%2F%2Fclient.example.com%2Fcb")) refl
    ∷ row (grants_all basic (for_itself ++ bytes "&code=x&redirect_uri=y&refresh_token=z&state=1&state=2")) refl
    ∷ row (grants_all basic (for_itself ++ bytes "&code=&code=x&redirect_uri=&refresh_token")) refl
    -- ---- `invalid_request`: "a known name repeated", also one that is ignored
    ∷ row (refuses basic (for_itself ++ bytes "&code=x&code=x") invalid_request) refl
    ∷ row (refuses basic (for_itself ++ bytes "&redirect_uri=y&redirect_uri=y") invalid_request) refl
    ∷ row (refuses basic (for_itself ++ bytes "&refresh_token=z&refresh_token=z") invalid_request) refl
    ∷ row (refuses basic (asking "power&scope=power") invalid_request) refl
    ∷ row (refuses basic (for_itself ++ bytes "&" ++ for_itself) invalid_request) refl
    -- before `invalid_client` and `unauthorized_client`
    ∷ row (refuses wrong_secret (for_itself ++ bytes "&code=x&code=x") invalid_request) refl
    ∷ row (refuses [] (barn_asks ++ bytes "&code=x&code=x") invalid_request) refl
    -- ---- `invalid_client`: a wrong secret, in the header and in the body; none; no client at all
    ∷ row (refuses wrong_secret for_itself challenged) refl
    ∷ row (refuses [] (for_itself ++ bytes "&client_id=s6BhdRkqt3&client_secret=gX1fBat3bW") invalid_client) refl
    ∷ row (refuses [] (for_itself ++ bytes "&client_id=s6BhdRkqt3") invalid_client) refl
    ∷ row (refuses [] for_itself invalid_client) refl
    -- before `unauthorized_client`: public with a header (`barnapp:`) or a secret; and before `invalid_scope`
    ∷ row (refuses (bytes "Basic YmFybmFwcDo=") for_itself challenged) refl
    ∷ row (refuses [] (barn_asks ++ bytes "&client_secret=a") invalid_client) refl
    ∷ row (refuses wrong_secret (asking "cows") challenged) refl
    -- ---- `unsupported_grant_type`: a byte less, a byte more, another case, another sign; with an escape it is the name itself
    ∷ row (refuses basic (bytes "grant_type=client_credential") unsupported) refl
    ∷ row (refuses basic (bytes "grant_type=client_credentials+") unsupported) refl
    ∷ row (refuses basic (bytes "grant_type=CLIENT_CREDENTIALS") unsupported) refl
    ∷ row (refuses basic (bytes "grant_type=client-credentials") unsupported) refl
    ∷ row (grants_all basic (bytes "grant_type=client%5Fcredentials")) refl
    -- before `unauthorized_client` and `invalid_scope`
    ∷ row (refuses [] (bytes "grant_type=client_credential&client_id=barnapp") unsupported) refl
    ∷ row (refuses basic (bytes "grant_type=client_credential&scope=cows") unsupported) refl
    -- ---- `unauthorized_client`: "confidential clients only, a public one gets `unauthorized_client`", whatever it asks and presents
    ∷ row (refuses [] barn_asks unauthorized) refl
    ∷ row (refuses [] (barn_asks ++ bytes "&scope=power") unauthorized) refl
    ∷ row (refuses [] (barn_asks ++ bytes "&code=3c3d3e3f404142434445464748494a4b4c4d4e4f") unauthorized) refl
    -- before `invalid_scope`, 503 and 500: both apply; a confidential client, to which the second alone does, is below
    ∷ row (refuses [] (barn_asks ++ bytes "&scope=cows") unauthorized) refl
    ∷ row (refuses [] (barn_asks ++ bytes "&scope=power+peak") unauthorized) refl
    ∷ row (refused (crowded []) 1599 two_handles [] barn_asks unauthorized) refl
    ∷ row (refused held 1599 (handle 100 ++ handle 52) [] barn_asks unauthorized) refl
    -- ---- `invalid_scope`: "Scope is as at the authorization counter": "bad form, unknown name, or beyond the client's set"
    -- none (above), and one with no value: the whole set; the same in another order, less, a name twice
    ∷ row (grants_all basic (asking "")) refl
    ∷ row (grants_all basic (asking "bill+power%20peak")) refl
    ∷ row (grants basic (asking "bill+power") "power bill" 9) refl
    ∷ row (grants basic (asking "peak+peak") "peak" 2) refl
    -- two spaces, one at the start or the end, a comma; unknown, a part of a name, another case
    ∷ row (refuses basic (asking "power++bill") invalid_scope) refl
    ∷ row (refuses basic (asking "+power") invalid_scope) refl
    ∷ row (refuses basic (asking "power+") invalid_scope) refl
    ∷ row (refuses basic (asking "power,bill") invalid_scope) refl
    ∷ row (refuses basic (asking "power+cows") invalid_scope) refl
    ∷ row (refuses basic (asking "pow") invalid_scope) refl
    ∷ row (refuses basic (asking "Power") invalid_scope) refl
    -- beyond the client's set by every name or by one; within that of a client that has them
    ∷ row (refuses basic (asking "pump") invalid_scope) refl
    ∷ row (refuses basic (asking "power+peak+bill+pump") invalid_scope) refl
    ∷ row (mill_grants (asking "pump") "pump" 64) refl
    -- before 503 and 500: both apply, and the first is mended
    ∷ row (refused (crowded []) 1599 two_handles basic (asking "pump") invalid_scope) refl
    ∷ row (refused (crowded []) 1599 two_handles basic (asking "peak") no_room) refl
    ∷ row (refused held 1599 (handle 100 ++ handle 52) basic (asking "pump") invalid_scope) refl
    ∷ row (refused held 1599 (handle 100 ++ handle 52) basic (asking "peak") clash) refl
    -- ---- status 503: no slot is free or has run out; "one slot" is enough, and the lowest is taken
    ∷ row (refused (crowded []) 1599 two_handles basic for_itself no_room) refl
    ∷ row (refused (crowded (until 1600 ∷ [])) 1599 two_handles basic for_itself no_room) refl
    ∷ row (grants_in (until 1599 ∷ []) (new ∷ [])) refl
    ∷ row (grants_in (access_token ∷ free_slot ∷ []) (access_token ∷ new ∷ [])) refl
    ∷ row (grants_in (access_token ∷ free_slot ∷ until 1599 ∷ []) (access_token ∷ new ∷ until 1599 ∷ [])) refl
    ∷ row (grants_in (until 1599 ∷ access_token ∷ free_slot ∷ []) (new ∷ access_token ∷ free_slot ∷ [])) refl
    -- a live code of the client is no room, though it is presented
    ∷ row
    (refused (crowded (twin 0 1600 ∷ [])) 1599 two_handles basic (for_itself ++ bytes "&code=000102030405060708090a0b0c0d0e0f10111213")
    no_room) refl
    -- before 500: both apply, and the first is mended
    ∷ row (refused (crowded []) 1599 (handle 100 ++ handle 52) basic for_itself no_room) refl
    ∷ row (refused (crowded (free_slot ∷ [])) 1599 (handle 100 ++ handle 52) basic for_itself clash) refl
    -- ---- status 500: the first 20 random bytes are the handle of a slot in use, of any kind: live, run out and elsewhere, the very slot that
    -- would be overwritten
    ∷ row (refused held 1599 (handle 100 ++ handle 52) basic for_itself clash) refl
    ∷ row (refused held 1599 (handle 0 ++ handle 52) basic for_itself clash) refl
    ∷ row (refused held 1599 (handle 80 ++ handle 52) basic for_itself clash) refl
    ∷ row (refused last_used 1599 (handle 180 ++ handle 52) basic for_itself clash) refl
    ∷ row (refused held 1599 (handle 160 ++ handle 52) basic for_itself clash) refl
    -- "A call that issues a single token takes the first 20 random bytes and ignores the last 20.": equal to the first, to a handle that is live,
    -- to one that has run out
    ∷ row (ignoring (handle 32)) refl
    ∷ row (ignoring (handle 100)) refl
    ∷ row (ignoring (handle 160)) refl
    -- the zero bytes of a free slot are no handle
    ∷ row
    (call (some []) 1599 (replicate 40 0) basic for_itself
    (access_alone_of "0000000000000000000000000000000000000000" "power peak bill")
    (at 1599 (some (own_token_of (replicate 20 0) 0 1599 11 ∷ [])))) refl
    -- ---- the time: T is the larger of clock and mark, expiry is T plus 3,600, and slots run out by T; a refusal stores it too
    ∷ row (call (holding 1600 []) 1100 two_handles basic for_itself (access_alone "power peak bill") (holding 1600 (own_token 0 1600 11 ∷ []))) refl
    ∷ row
    (call (holding 1600 []) (2 ^ 40) two_handles basic for_itself (access_alone "power peak bill")
    (holding (2 ^ 40) (own_token 0 (2 ^ 40) 11 ∷ []))) refl
    ∷ row
    (call (at 1600 (crowded (until 1600 ∷ []))) 1100 two_handles basic for_itself (access_alone "power peak bill")
    (at 1600 (crowded (own_token 0 1600 11 ∷ [])))) refl
    ∷ row
    (call (at 1600 (crowded (until 1601 ∷ []))) 1100 two_handles basic for_itself no_room (at 1600 (crowded (until 1601 ∷ [])))) refl
    ∷ row (call (at 1600 held) 1100 two_handles [] barn_asks unauthorized (at 1600 held)) refl
    ∷ row (call (at 1600 held) 1700 two_handles basic (asking "pump") invalid_scope (at 1700 held)) refl
    -- ---- what the token is good for. It is live for its client, farm 0 and its scope until its expiry
    ∷ checked (at 1599 (held_beside new)) 1599 (1 ∷ 0 ∷ 0 ∷ 11 ∷ 3600 ∷ []) refl
    ∷ checked (at 1599 (held_beside (own_token 0 1599 9))) 5198 (1 ∷ 0 ∷ 0 ∷ 9 ∷ 1 ∷ []) refl
    ∷ checked (at 1599 (held_beside (own_token 2 1599 255))) 5198 (1 ∷ 2 ∷ 0 ∷ 255 ∷ 1 ∷ []) refl
    ∷ checked (at 1599 (held_beside new)) 5199 (0 ∷ 0 ∷ 0 ∷ 0 ∷ 0 ∷ []) refl
    -- "no refresh token": neither it nor the last 20 random bytes are one
    ∷ row
    (refused (at 1599 (held_beside new)) 1599 next_handles basic
    (bytes "grant_type=refresh_token&refresh_token=202122232425262728292a2b2c2d2e2f30313233") invalid_grant) refl
    ∷ row
    (refused (at 1599 (held_beside new)) 1599 next_handles basic
    (bytes "grant_type=refresh_token&refresh_token=3435363738393a3b3c3d3e3f4041424344454647") invalid_grant) refl
    -- ---- slots for farm 0 that lie in a store already: a bound code, one that is not, a refresh token. They are good, and so are their tokens
    ∷ row
    (call (some (farmless code ∷ [])) 1599 two_handles basic exchange (both_tokens "power peak bill")
    (at 1599 (some (spent (farmless code) ∷ farmless new_access ∷ farmless new_refresh ∷ [])))) refl
    ∷ row
    (call (some (farmless unbound_code ∷ [])) 1599 two_handles [] barn (both_tokens "power")
    (at 1599
    (some
    (spent (farmless unbound_code)
    ∷ farmless (access unbound_code 1599 (handle 32))
    ∷ farmless (refresh unbound_code 1599 (handle 52))
    ∷ [])))) refl
    ∷ row
    (call (some (farmless refresh_token ∷ [])) 1599 two_handles basic refreshing (access_alone "power peak bill")
    (at 1599 (some (farmless refresh_token ∷ farmless (renewed refresh_token 1599 (handle 32) 11) ∷ [])))) refl
    ∷ []
