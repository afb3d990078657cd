-- The cases of the token endpoint: one on each side of every sentence of document 01 that decides something there.
--
-- Each case is a call from raw bytes and what the paper has for it: status, error number, challenge, the whole reply, and the
-- store after (`Cases`). Where a test is about one clause, everything else about the call is right, so that a definition without
-- the clause grants it; where two reasons apply, the case that comes next has the first of them mended. The cases of the
-- client_credentials grant are in `CredentialsCases`, those of a header's two halves in `HeaderCases`, those of codes that are spent in
-- `SpentCases`, and those of codes with a challenge in `ChallengeCases`.
--
-- In order: clients, slots and stores; answers; calls; the cases, by the paper's order of refusals; two limits that no call shows.
-- Assumes nothing.
use Prim.Native.Nat.{ℕ, ◌+◌, ◌-◌}
use Prim.Native.String.{String}
use mathlib.Core.Path.{◌≡◌, refl}
use mathlib.Core.Bool.{true, false}
use mathlib.Core.List.{List, [], ◌∷◌, ◌++◌, map}
use lib.ListN.{length, replicate}
use Rattle.octets.specs.Text.{bytes}
use Rattle.octets.specs.Lists.{every, same}
use Rattle.scope.specs.Set.{names}
use Rattle.client_registry.specs.Registry.{Client, record_size, records_behind, fit_registry, clients_of}
use Rattle.client_registry.specs.Sample.{record_of, registry_of, sample_confidential, sample_public}
use Rattle.token_store.specs.Store.{free_slot}
use Rattle.token_store.specs.declared.Slot.{Slot}
use Rattle.protocol.specs.ClientForms.{lower_case, same_any_case, credentials, is_bad_header}
use Rattle.protocol.proofs.Computing.{text_definitions, registry_definitions, slot_definitions, decision_definitions, client_definitions, token_definitions}
use Rattle.protocol.proofs.TokenRows.{agrees_on, row_on}
use Rattle.protocol.proofs.Cases.{Call, token, ShortStore, holding, lastly, slot, linked, from, spent, count_up, Case, Row}

-- ---- clients, slots and stores

-- besides the visit's clients: an id with a space, a secret with a colon, a plus sign and what looks like an escape
abbrev mill : Client
mill = record { confidential = true; id = bytes "mill 2"; redirect = bytes "https://mill.example/cb"; scope = 255; secret = bytes "a+b:%41" }

abbrev pub clients : List Client
clients = sample_confidential ∷ sample_public ∷ mill ∷ []

pub registry : List ℕ
registry = registry_of clients

pub registry-fit : fit_registry registry ≡ true
unfolding registry_definitions registry every same
registry-fit = refl

pub registry-clients : clients_of registry ≡ clients
unfolding registry records_behind record_size sample_public sample_confidential registry_of record_of
registry-clients = refl

abbrev pub handle : ℕ → List ℕ
handle k = count_up 20 k

-- the code of the visit, bound to its redirect address
abbrev pub code : Slot
code = slot 2 (handle 0) 0 7 11 1600

-- barnapp's codes, without and with a bound redirect address
abbrev pub unbound_code : Slot
unbound_code = slot 1 (handle 60) 1 4294967295 1 1600

abbrev pub bound_code : Slot
bound_code = slot 2 (handle 120) 1 8 1 1600

-- tokens, each of an origin that is the handle of no slot
abbrev pub refresh_token : Slot
refresh_token = from (handle 200) (slot 4 (handle 80) 0 16909060 11 2593000)

-- granted more than its client's set has: what a token was granted counts
abbrev barn_refresh : Slot
barn_refresh = from (handle 220) (slot 4 (handle 140) 1 8 255 2593000)

abbrev pub access_token : Slot
access_token = from (handle 200) (slot 3 (handle 100) 0 7 11 4600)

abbrev pub run_out : Slot
run_out = from (handle 220) (slot 3 (handle 160) 1 8 1 1599)

-- an access token with another expiry
abbrev pub until : ℕ → Slot
until expiry = from (handle 220) (slot 3 (handle 180) 1 8 1 expiry)

-- slots with the handle of the visit's code: another code, a refresh and an access token
abbrev pub twin : ℕ → ℕ → Slot
twin client expiry = slot 1 (handle 0) client 9 2 expiry

abbrev pub refresh_twin : Slot
refresh_twin = from (handle 220) (slot 4 (handle 0) 0 9 2 2593000)

abbrev pub access_twin : Slot
access_twin = from (handle 220) (slot 3 (handle 0) 0 9 2 4600)

-- the tokens that an exchange issues on its code: "Each access and refresh token records the handle of the code it came from"
abbrev pub access : Slot → ℕ → List ℕ → Slot
access code t new = from code.handle (slot 3 new code.client code.farm code.scope (t + 3600))

abbrev pub refresh : Slot → ℕ → List ℕ → Slot
refresh code t new = from code.handle (slot 4 new code.client code.farm code.scope (t + 2592000))

-- the access token for a scope that a refresh issues: its origin is that of the refresh token
abbrev pub renewed : Slot → ℕ → List ℕ → ℕ → Slot
renewed shown t new scope = linked shown.link (slot 3 new shown.client shown.farm scope (t + 3600))

-- a store with these slots, the others free, or in use and live
abbrev pub some : List Slot → ShortStore
some first = holding 1000 first

abbrev pub crowded : List Slot → ShortStore
crowded first = record { time = 1000; first = first; rest = access_token }

-- the same at another time
abbrev pub at : ℕ → ShortStore → ShortStore
at time l = record { time = time; first = l.first; rest = l.rest }

-- the store of most calls, by the slots that a grant changes: 0, 1, 4, 6 and 7
abbrev held_with : Slot → Slot → Slot → Slot → Slot → ShortStore
held_with a b c d e = some (a ∷ b ∷ refresh_token ∷ access_token ∷ c ∷ barn_refresh ∷ d ∷ e ∷ [])

abbrev pub held : ShortStore
held = held_with code unbound_code bound_code run_out free_slot

-- one whose last slot alone is in use, and has run out
abbrev pub last_used : ShortStore
last_used = lastly 1000 (code ∷ []) free_slot (until 1000)

-- ---- answers

pub record Said : Type 0 where
  numbers : List ℕ
  text : List ℕ

-- status, error number, challenge, reply
abbrev pub said : ℕ → ℕ → ℕ → List ℕ → Said
said status error challenge text = record { numbers = 0 ∷ status ∷ error ∷ challenge ∷ []; text = text }

abbrev pub invalid_request : Said
invalid_request = said 400 1 0 (bytes "{\"error\":\"invalid_request\"}")

-- without a challenge, and with one
abbrev pub invalid_client : Said
invalid_client = said 401 2 0 (bytes "{\"error\":\"invalid_client\"}")

abbrev pub challenged : Said
challenged = said 401 2 1 (bytes "{\"error\":\"invalid_client\"}")

abbrev pub invalid_grant : Said
invalid_grant = said 400 3 0 (bytes "{\"error\":\"invalid_grant\"}")

abbrev pub invalid_scope : Said
invalid_scope = said 400 4 0 (bytes "{\"error\":\"invalid_scope\"}")

-- says that the client was let in, and no more
abbrev pub unsupported : Said
unsupported = said 400 5 0 (bytes "{\"error\":\"unsupported_grant_type\"}")

abbrev pub no_room : Said
no_room = said 503 0 0 []

abbrev pub clash : Said
clash = said 500 0 0 []

-- the replies to an exchange and to a refresh, by the tokens and the scope names
abbrev pub both_tokens_of : String → String → String → Said
both_tokens_of access refresh scope =
    said 200 0 0
    (bytes "{\"access_token\":\"" ++ bytes access ++ bytes "\",\"token_type\":\"Bearer\",\"expires_in\":3600,\"refresh_token\":\"" ++ bytes refresh
    ++ bytes "\",\"scope\":\"" ++ bytes scope ++ bytes "\"}")

abbrev pub access_alone_of : String → String → Said
access_alone_of access scope =
    said 200 0 0
    (bytes "{\"access_token\":\"" ++ bytes access ++ bytes "\",\"token_type\":\"Bearer\",\"expires_in\":3600,\"scope\":\"" ++ bytes scope
    ++ bytes "\"}")

-- those of the tokens 20 to 33 and 34 to 47 hex
abbrev pub both_tokens : String → Said
both_tokens scope = both_tokens_of "202122232425262728292a2b2c2d2e2f30313233" "3435363738393a3b3c3d3e3f4041424344454647" scope

abbrev pub access_alone : String → Said
access_alone scope = access_alone_of "202122232425262728292a2b2c2d2e2f30313233" scope

-- ---- calls

-- "random 20 to 47 hex", and others, B4 to DB hex
abbrev pub two_handles : List ℕ
two_handles = count_up 40 32

abbrev pub next_handles : List ℕ
next_handles = count_up 40 180

-- a call on a store, what it is answered, and the store after
pub record Visit : Type 0 where
  store : ShortStore
  clock : ℕ
  random : List ℕ
  header : List ℕ
  body : List ℕ
  said : Said
  after : ShortStore

-- the same as a case of a table over a registry, at an endpoint whose clients authenticate; at the token endpoint
abbrev pub case_at : (List ℕ → List ℕ → Call) → List ℕ → Visit → Case
case_at endpoint registry v = record {
  call = endpoint v.header v.body;
  registry = registry;
  store = v.store;
  clock = v.clock;
  random = v.random;
  room = 1024;
  numbers = v.said.numbers;
  text = v.said.text;
  after = v.after;
}

abbrev pub case_on : List ℕ → Visit → Case
case_on registry v = case_at token registry v

abbrev pub row : (v : Visit) → agrees_on clients (case_on registry v) ≡ true → Row
row v agreed = row_on (case_on registry v) registry-fit clients registry-clients agreed

abbrev pub call : ShortStore → ℕ → List ℕ → List ℕ → List ℕ → Said → ShortStore → Visit
call store clock random header body paper after =
    record { store = store; clock = clock; random = random; header = header; body = body; said = paper; after = after }

-- one that is refused: no slot changes, and the time is stored
abbrev pub refused : ShortStore → ℕ → List ℕ → List ℕ → List ℕ → Said → Visit
refused store clock random header body paper = call store clock random header body paper (at clock store)

-- the same a second before the codes run out
abbrev pub refuses : List ℕ → List ℕ → Said → Visit
refuses header body paper = refused held 1599 two_handles header body paper

-- ---- headers and bodies

abbrev pub basic : List ℕ
basic = bytes "Basic czZCaGRSa3F0MzpnWDFmQmF0M2JW"

abbrev pub exchange : List ℕ
exchange =
    bytes "grant_type=authorization_code&code=000102030405060708090a0b0c0d0e0f10111213&redirect_uri=https%3A%2F%2Fclient.example.com%2Fcb"

-- the same without its redirect_uri
abbrev pub addressless : List ℕ
addressless = bytes "grant_type=authorization_code&code=000102030405060708090a0b0c0d0e0f10111213"

abbrev pub barn : List ℕ
barn = bytes "grant_type=authorization_code&client_id=barnapp&code=3c3d3e3f404142434445464748494a4b4c4d4e4f"

abbrev pub refreshing : List ℕ
refreshing = bytes "grant_type=refresh_token&refresh_token=505152535455565758595a5b5c5d5e5f60616263"

-- so long a body
abbrev pub padded : ℕ → List ℕ → List ℕ
padded size body = body ++ bytes "&x=" ++ replicate (size - length body - 3) 97

-- a body that says whether its client was let in, and no more
abbrev pub ask : List ℕ
ask = bytes "grant_type=x"

-- a header that decodes to zeros and three colons
abbrev padding : ℕ → List ℕ
padding zeros = bytes "Basic " ++ replicate zeros 65 ++ bytes "Ojo6"

-- ---- calls that are granted at 1599

abbrev pub new_access : Slot
new_access = access code 1599 (handle 32)

abbrev pub new_refresh : Slot
new_refresh = refresh code 1599 (handle 52)

-- the visit's exchange: its code is kept as spent, slot 6 has run out and slot 7 is free
abbrev exchanged : ShortStore
exchanged = held_with (spent code) unbound_code bound_code new_access new_refresh

abbrev pub exchanges : List ℕ → List ℕ → Visit
exchanges header body = call held 1599 two_handles header body (both_tokens "power peak bill") (at 1599 exchanged)

-- barnapp's, of its code that is not bound
abbrev barn_exchanges : List ℕ → Visit
barn_exchanges body =
    call held 1599 two_handles [] body (both_tokens "power")
    (at 1599 (held_with code (spent unbound_code) bound_code (access unbound_code 1599 (handle 32)) (refresh unbound_code 1599 (handle 52))))

-- the store of most calls once a single token was issued, in the slot that has run out
abbrev pub held_beside : Slot → ShortStore
held_beside issued = held_with code unbound_code bound_code issued free_slot

-- a refresh for a scope
abbrev refreshes : List ℕ → String → ℕ → Visit
refreshes body names scope =
    call held 1599 two_handles basic body (access_alone names) (at 1599 (held_beside (renewed refresh_token 1599 (handle 32) scope)))

abbrev new_token : Slot
new_token = renewed refresh_token 1599 (handle 32) 11

-- a refresh with these last 20 random bytes
abbrev ignoring : List ℕ → Visit
ignoring second =
    call held 1599 (handle 32 ++ second) basic refreshing (access_alone "power peak bill") (at 1599 (held_beside new_token))

-- barnapp's refresh, for all eight names
abbrev all_eight : List ℕ → Visit
all_eight asked =
    call held 1599 two_handles []
    (bytes "grant_type=refresh_token&client_id=barnapp&refresh_token=8c8d8e8f909192939495969798999a9b9c9d9e9f" ++ asked)
    (access_alone "power peak tariff bill milking drying pump solar") (at 1599 (held_beside (renewed barn_refresh 1599 (handle 32) 255)))

-- in a crowded store, from slots to slots
abbrev pub exchanges_in : List Slot → List Slot → Visit
exchanges_in before after = call (crowded before) 1599 two_handles basic exchange (both_tokens "power peak bill") (at 1599 (crowded after))

abbrev refreshes_in : List Slot → List Slot → Visit
refreshes_in before after = call (crowded before) 1599 two_handles basic refreshing (access_alone "power peak bill") (at 1599 (crowded after))

-- ---- the table

pub token_cases : List Row
unfolding text_definitions slot_definitions decision_definitions client_definitions token_definitions sample_confidential sample_public
token_cases =
    -- ---- success, status 200: an exchange of a bound code, of one that is not, and a refresh
    row (exchanges basic exchange) refl
    ∷ row (barn_exchanges barn) refl
    ∷ row (refreshes refreshing "power peak bill" 11) refl
    -- ---- `invalid_request`: "body over 4,096 or malformed; a known name repeated; grant_type missing; both header and client_secret"
    -- 4,096 bytes are read, 4,097 are not
    ∷ row (exchanges basic (padded 4096 exchange)) refl
    ∷ row (refuses basic (padded 4097 exchange) invalid_request) refl
    -- malformed in any piece: in the value or name of one that is known or not, or of one with no value; escapes of either case are not
    ∷ row (refuses basic (exchange ++ bytes "&scope=%4") invalid_request) refl
    ∷ row (refuses basic (exchange ++ bytes "&a=%zz") invalid_request) refl
    ∷ row (refuses basic (exchange ++ bytes "&a%=b") invalid_request) refl
    ∷ row (refuses basic (bytes "%&" ++ exchange) invalid_request) refl
    ∷ row (exchanges basic (exchange ++ bytes "&%4a=%4A")) refl
    -- each known name repeated; code_verifier in `ChallengeCases`
    ∷ row (refuses basic (exchange ++ bytes "&client_id=s6BhdRkqt3&client_id=s6BhdRkqt3") invalid_request) refl
    ∷ row (refuses [] (exchange ++ bytes "&client_id=s6BhdRkqt3&client_secret=gX1fBat3bV&client_secret=gX1fBat3bV") invalid_request) refl
    ∷ row (refuses basic (exchange ++ bytes "&grant_type=authorization_code") invalid_request) refl
    ∷ row (refuses basic (exchange ++ bytes "&code=000102030405060708090a0b0c0d0e0f10111213") invalid_request) refl
    ∷ row (refuses basic (exchange ++ bytes "&redirect_uri=https%3A%2F%2Fclient.example.com%2Fcb") invalid_request) refl
    ∷ row (refuses basic (exchange ++ bytes "&refresh_token=a&refresh_token=b") invalid_request) refl
    ∷ row (refuses basic (exchange ++ bytes "&scope=power&scope=power") invalid_request) refl
    ∷ row (refuses basic (refreshing ++ bytes "&scope=power&scope=power") invalid_request) refl
    -- three times is repeated too; pieces with an empty value are dropped before repeats are counted
    ∷ row (refuses basic (exchange ++ bytes "&scope=a&scope=b&scope=c") invalid_request) refl
    ∷ row (exchanges basic (bytes "code=&code&" ++ exchange ++ bytes "&grant_type=")) refl
    -- unknown names are ignored, repeated or not; a name in another case is unknown
    ∷ row (exchanges basic (exchange ++ bytes "&a=1&b=2&a=3")) refl
    ∷ row (exchanges basic (exchange ++ bytes "&Code=1&code_challenge=2&code_challenge=2&response_type=3&response_type=4")) refl
    -- empty pieces are skipped; names and values are decoded, after the pieces are parted and at the first `=`
    ∷ row (exchanges basic (bytes "&&" ++ exchange ++ bytes "&&")) refl
    ∷ row
    (exchanges basic
    (bytes "grant%5ftype=authorization%5Fcode&c%6fde=%30%3001%302030405060708090a0b0c0d0e0f10111213"
    ++ bytes "&redirect_uri=https://client.example.com/cb")) refl
    ∷ row
    (refuses basic
    (bytes "grant_type=authorization_code&code=000102030405060708090a0b0c0d0e0f10111213"
    ++ bytes "%26redirect_uri=https%3A%2F%2Fclient.example.com%2Fcb") invalid_grant) refl
    ∷ row (refuses basic (bytes "grant_type%3Dauthorization_code&x=1") invalid_request) refl
    -- grant_type missing, and with no value
    ∷ row (refuses basic (bytes "code=000102030405060708090a0b0c0d0e0f10111213&redirect_uri=https://client.example.com/cb") invalid_request) refl
    ∷ row (refuses basic (bytes "grant_type=&code=000102030405060708090a0b0c0d0e0f10111213") invalid_request) refl
    ∷ row (refuses basic [] invalid_request) refl
    -- both header and client_secret, right or not; one of them alone, or a client_secret with no value, is not both
    ∷ row (refuses basic (exchange ++ bytes "&client_secret=gX1fBat3bV") invalid_request) refl
    ∷ row (refuses (bytes "Basic") (exchange ++ bytes "&client_secret=x") invalid_request) refl
    ∷ row (exchanges [] (exchange ++ bytes "&client_id=s6BhdRkqt3&client_secret=gX1fBat3bV")) refl
    ∷ row (exchanges basic (exchange ++ bytes "&client_secret=")) refl
    -- before `invalid_client`: both apply, and the first is mended
    ∷ row (refuses (bytes "Bearer a") (padded 4097 exchange) invalid_request) refl
    ∷ row (refuses (bytes "Bearer a") (padded 4096 exchange) challenged) refl
    ∷ row (refuses [] (bytes "client_id=other") invalid_request) refl
    ∷ row (refuses [] (bytes "client_id=other&grant_type=x") invalid_client) refl
    -- ---- `invalid_client`: "header over 512 bytes or not `Basic`, any case, one space, padded base64 with zero spare bits; no colon inside; no
    -- client_id at all; header and body ids differ; unknown client; confidential with a wrong or no secret; public with a header or
    -- secret". A call that is let in is refused for its grant_type
    -- `Basic` in any case and one space; another scheme, no space, two, another byte in its place
    ∷ row (refuses basic ask unsupported) refl
    ∷ row (refuses (bytes "bASIc czZCaGRSa3F0MzpnWDFmQmF0M2JW") ask unsupported) refl
    ∷ row (refuses (bytes "Bearer czZCaGRSa3F0MzpnWDFmQmF0M2JW") ask challenged) refl
    ∷ row (refuses (bytes "Basik czZCaGRSa3F0MzpnWDFmQmF0M2JW") ask challenged) refl
    ∷ row (refuses (bytes "BasicczZCaGRSa3F0MzpnWDFmQmF0M2JW") ask challenged) refl
    ∷ row (refuses (bytes "Basic  czZCaGRSa3F0MzpnWDFmQmF0M2JW") ask challenged) refl
    ∷ row (refuses (bytes "Basic,czZCaGRSa3F0MzpnWDFmQmF0M2JW") ask challenged) refl
    ∷ row (refuses (bytes " Basic czZCaGRSa3F0MzpnWDFmQmF0M2JW") ask challenged) refl
    ∷ row (refuses (bytes "czZCaGRSa3F0MzpnWDFmQmF0M2JW") ask challenged) refl
    ∷ row (refuses (bytes "Basic ") ask challenged) refl
    ∷ row (refuses (bytes "B") ask challenged) refl
    -- padded base64 with zero spare bits (`mill%202:a%2Bb:%2541`); unpadded, with spare bits, with a foreign byte, with a byte more
    ∷ row (refuses (bytes "Basic bWlsbCUyMDI6YSUyQmI6JTI1NDE=") ask unsupported) refl
    ∷ row (refuses (bytes "Basic bWlsbCUyMDI6YSUyQmI6JTI1NDE") ask challenged) refl
    ∷ row (refuses (bytes "Basic bWlsbCUyMDI6YSUyQmI6JTI1NDF=") ask challenged) refl
    ∷ row (refuses (bytes "Basic bWlsbCUyMDI6YSUyQmI6JTI1ND-=") ask challenged) refl
    ∷ row (refuses (bytes "Basic czZCaGRSa3F0MzpnWDFmQmF0M2JW ") ask challenged) refl
    -- 512 bytes and 513: a known client's header is never so long (`bad-headers`)
    ∷ row (refuses (bytes "Basic " ++ replicate 506 65) ask challenged) refl
    ∷ row (refuses (bytes "Basic " ++ replicate 507 65) ask challenged) refl
    -- no colon inside (`s6BhdRkqt3`); split at the first (above), and no half ends at another (`mill%202:a%2Bb`)
    ∷ row (refuses (bytes "Basic czZCaGRSa3F0Mw==") ask challenged) refl
    ∷ row (refuses (bytes "Basic bWlsbCUyMDI6YSUyQmI=") ask challenged) refl
    -- each half is decoded (more in `HeaderCases`): the id and the secret as they stand, `mill 2:a+b:%41`
    ∷ row (refuses (bytes "Basic bWlsbCAyOmErYjolNDE=") ask challenged) refl
    -- no client_id at all, and one with no value
    ∷ row (refuses [] ask invalid_client) refl
    ∷ row (refuses [] (bytes "grant_type=x&client_id=") invalid_client) refl
    ∷ row (refuses [] (bytes "grant_type=x&client_secret=gX1fBat3bV") invalid_client) refl
    -- header and body ids agree, and differ: another client's, a part of it, one more byte
    ∷ row (refuses basic (bytes "grant_type=x&client_id=s6BhdRkqt3") unsupported) refl
    ∷ row (refuses basic (bytes "grant_type=x&client_id=barnapp") challenged) refl
    ∷ row (refuses basic (bytes "grant_type=x&client_id=s6BhdRkqt") challenged) refl
    ∷ row (refuses basic (bytes "grant_type=x&client_id=s6BhdRkqt33") challenged) refl
    ∷ row (refuses basic (bytes "grant_type=x&client_id=mill+2") challenged) refl
    -- unknown client: in the header (`other`, `S6BhdRkqt3`, no id), and in the body
    ∷ row (refuses (bytes "Basic b3RoZXI6Z1gxZkJhdDNiVg==") ask challenged) refl
    ∷ row (refuses (bytes "Basic UzZCaGRSa3F0MzpnWDFmQmF0M2JW") ask challenged) refl
    ∷ row (refuses (bytes "Basic OmdYMWZCYXQzYlY=") ask challenged) refl
    ∷ row (refuses [] (bytes "grant_type=x&client_id=other") invalid_client) refl
    ∷ row (refuses [] (bytes "grant_type=x&client_id=barnap") invalid_client) refl
    ∷ row (refuses [] (bytes "grant_type=x&client_id=barnapps") invalid_client) refl
    ∷ row (refuses [] (bytes "grant_type=x&client_id=Barnapp") invalid_client) refl
    ∷ row (refuses [] (bytes "grant_type=x&client_id=other&client_secret=gX1fBat3bV") invalid_client) refl
    -- confidential with a wrong secret in the header: the last byte, a byte less, a byte more, none, another client's
    ∷ row (refuses (bytes "Basic czZCaGRSa3F0MzpnWDFmQmF0M2JX") ask challenged) refl
    ∷ row (refuses (bytes "Basic czZCaGRSa3F0MzpnWDFmQmF0M2I=") ask challenged) refl
    ∷ row (refuses (bytes "Basic czZCaGRSa3F0MzpnWDFmQmF0M2JWVg==") ask challenged) refl
    ∷ row (refuses (bytes "Basic czZCaGRSa3F0Mzo=") ask challenged) refl
    ∷ row (refuses (bytes "Basic czZCaGRSa3F0MzphJTJCYjolMjU0MQ==") ask challenged) refl
    -- and in the body
    ∷ row (refuses [] (bytes "grant_type=x&client_id=s6BhdRkqt3&client_secret=gX1fBat3bV") unsupported) refl
    ∷ row (refuses [] (bytes "grant_type=x&client_id=mill+2&client_secret=a%2Bb%3A%2541") unsupported) refl
    ∷ row (refuses [] (bytes "grant_type=x&client_id=mill+2&client_secret=a+b%3A%2541") invalid_client) refl
    ∷ row (refuses [] (bytes "grant_type=x&client_id=s6BhdRkqt3&client_secret=gX1fBat3bW") invalid_client) refl
    ∷ row (refuses [] (bytes "grant_type=x&client_id=s6BhdRkqt3&client_secret=gX1fBat3b") invalid_client) refl
    ∷ row (refuses [] (bytes "grant_type=x&client_id=s6BhdRkqt3&client_secret=gX1fBat3bVV") invalid_client) refl
    ∷ row (refuses [] (bytes "grant_type=x&client_id=s6BhdRkqt3&client_secret=") invalid_client) refl
    ∷ row (refuses [] (bytes "grant_type=x&client_id=s6BhdRkqt3") invalid_client) refl
    -- public with a header (`barnapp:`), with a secret, with neither, with a secret that has no value
    ∷ row (refuses (bytes "Basic YmFybmFwcDo=") ask challenged) refl
    ∷ row (refuses (bytes "Basic YmFybmFwcDo=") (bytes "grant_type=x&client_id=barnapp") challenged) refl
    ∷ row (refuses [] (bytes "grant_type=x&client_id=barnapp&client_secret=a") invalid_client) refl
    ∷ row (refuses [] (bytes "grant_type=x&client_id=barnapp") unsupported) refl
    ∷ row (refuses [] (bytes "grant_type=x&client_id=barnapp&client_secret=") unsupported) refl
    -- before `unsupported_grant_type`, whose cases with the first mended are above, and before what is looked up
    ∷ row (refuses [] (bytes "grant_type=authorization_code&client_id=barnapp&client_secret=a") invalid_client) refl
    ∷ row (refuses [] (exchange ++ bytes "&client_id=s6BhdRkqt3") invalid_client) refl
    -- ---- `unsupported_grant_type`, then `invalid_request` ("code or refresh_token missing")
    ∷ row (refuses basic (bytes "grant_type=password") unsupported) refl
    ∷ row (refuses basic (bytes "grant_type=Authorization_code") unsupported) refl
    ∷ row (refuses basic (bytes "grant_type=REFRESH_TOKEN") unsupported) refl
    ∷ row (refuses basic (bytes "grant_type=authorization_code+") unsupported) refl
    ∷ row (refuses basic (bytes "grant_type=refresh_toke&refresh_token=505152535455565758595a5b5c5d5e5f60616263") unsupported) refl
    -- both apply, and the first is mended
    ∷ row (refuses basic (bytes "grant_type=code") unsupported) refl
    ∷ row (refuses basic (bytes "grant_type=authorization_code") invalid_request) refl
    ∷ row (refuses basic (bytes "grant_type=refresh_token") invalid_request) refl
    -- the other's handle is none, nor is one with no value
    ∷ row (refuses basic (bytes "grant_type=authorization_code&refresh_token=505152535455565758595a5b5c5d5e5f60616263") invalid_request) refl
    ∷ row (refuses basic (bytes "grant_type=refresh_token&code=000102030405060708090a0b0c0d0e0f10111213") invalid_request) refl
    ∷ row (refuses basic (bytes "grant_type=authorization_code&code=&redirect_uri=https%3A%2F%2Fclient.example.com%2Fcb") invalid_request) refl
    ∷ row (refuses basic (bytes "grant_type=refresh_token&refresh_token=") invalid_request) refl
    -- before `invalid_grant` and `invalid_scope`
    ∷ row (refuses basic (bytes "grant_type=authorization_code&code=x") invalid_grant) refl
    ∷ row (refuses basic (bytes "grant_type=refresh_token&scope=x") invalid_request) refl
    ∷ row (refuses basic (bytes "grant_type=refresh_token&refresh_token=x&scope=x") invalid_grant) refl
    -- ---- `invalid_grant`: "not found, run out, other client; for kind 2, redirect_uri missing or not equal to the registered one"
    -- not found: another handle, 39 digits, 41, a byte that is none, upper case, the zeros of a free slot
    ∷ row (refuses basic (bytes "grant_type=authorization_code&code=000102030405060708090a0b0c0d0e0f10111214") invalid_grant) refl
    ∷ row (refuses [] (bytes "grant_type=authorization_code&client_id=barnapp&code=3c3d3e3f404142434445464748494a4b4c4d4e4") invalid_grant) refl
    ∷ row (refuses [] (bytes "grant_type=authorization_code&client_id=barnapp&code=3c3d3e3f404142434445464748494a4b4c4d4e4f0") invalid_grant) refl
    ∷ row (refuses [] (bytes "grant_type=authorization_code&client_id=barnapp&code=3c3d3e3f404142434445464748494a4b4c4d4e4g") invalid_grant) refl
    ∷ row (refuses [] (bytes "grant_type=authorization_code&client_id=barnapp&code=3C3D3E3F404142434445464748494A4B4C4D4E4F") invalid_grant) refl
    ∷ row (refuses basic (bytes "grant_type=refresh_token&refresh_token=505152535455565758595A5b5c5d5e5f60616263") invalid_grant) refl
    ∷ row (refuses basic (bytes "grant_type=authorization_code&code=0000000000000000000000000000000000000000") invalid_grant) refl
    ∷ row (refuses basic (bytes "grant_type=refresh_token&refresh_token=0000000000000000000000000000000000000000") invalid_grant) refl
    -- run out at its expiry, not a second before (above)
    ∷ row (refused held 1600 two_handles basic exchange invalid_grant) refl
    ∷ row (refused held 1600 two_handles [] barn invalid_grant) refl
    ∷ row (refused held 2593000 two_handles basic refreshing invalid_grant) refl
    ∷ row
    (call held 2592999 two_handles basic refreshing (access_alone "power peak bill")
    (at 2592999 (held_with (renewed refresh_token 2592999 (handle 32) 11) unbound_code bound_code run_out free_slot))) refl
    -- another client's, with its own redirect address and with the one that the code is bound to
    ∷ row (refuses basic (bytes "grant_type=authorization_code&code=3c3d3e3f404142434445464748494a4b4c4d4e4f") invalid_grant) refl
    ∷ row (refuses [] (exchange ++ bytes "&client_id=barnapp") invalid_grant) refl
    ∷ row (refuses [] (addressless ++ bytes "&client_id=barnapp&redirect_uri=https%3A%2F%2Fbarn.example%2Fr%3Fx%3D1") invalid_grant) refl
    ∷ row (refuses [] (refreshing ++ bytes "&client_id=barnapp") invalid_grant) refl
    -- a bound code: redirect_uri missing, empty, cut short, longer, in another case, another client's; and equal, a `=` as it stands
    ∷ row (refuses basic addressless invalid_grant) refl
    ∷ row (refuses basic (addressless ++ bytes "&redirect_uri=") invalid_grant) refl
    ∷ row (refuses basic (addressless ++ bytes "&redirect_uri=https%3A%2F%2Fclient.example.com%2Fc") invalid_grant) refl
    ∷ row (refuses basic (addressless ++ bytes "&redirect_uri=https%3A%2F%2Fclient.example.com%2Fcb%2F") invalid_grant) refl
    ∷ row (refuses basic (addressless ++ bytes "&redirect_uri=https%3A%2F%2FClient.example.com%2Fcb") invalid_grant) refl
    ∷ row (refuses basic (addressless ++ bytes "&redirect_uri=https%3A%2F%2Fbarn.example%2Fr%3Fx%3D1") invalid_grant) refl
    ∷ row
    (call held 1599 two_handles []
    (bytes "grant_type=authorization_code&client_id=barnapp&code=78797a7b7c7d7e7f808182838485868788898a8b"
    ++ bytes "&redirect_uri=https://barn.example/r?x=1")
    (both_tokens "power")
    (at 1599 (held_with code unbound_code (spent bound_code) (access bound_code 1599 (handle 32)) (refresh bound_code 1599 (handle 52))))) refl
    -- one that is not bound: redirect_uri is ignored
    ∷ row (barn_exchanges (barn ++ bytes "&redirect_uri=https%3A%2F%2Fevil.example%2F")) refl
    ∷ row (barn_exchanges (barn ++ bytes "&redirect_uri=https%3A%2F%2Fbarn.example%2Fr%3Fx%3D1")) refl
    -- a refresh token as a code, a code as a refresh token, an access token as either
    ∷ row (refuses basic (bytes "grant_type=authorization_code&code=505152535455565758595a5b5c5d5e5f60616263") invalid_grant) refl
    ∷ row (refuses basic (bytes "grant_type=refresh_token&refresh_token=000102030405060708090a0b0c0d0e0f10111213") invalid_grant) refl
    ∷ row (refuses [] (bytes "grant_type=refresh_token&client_id=barnapp&refresh_token=3c3d3e3f404142434445464748494a4b4c4d4e4f") invalid_grant) refl
    ∷ row (refuses basic (bytes "grant_type=authorization_code&code=6465666768696a6b6c6d6e6f7071727374757677") invalid_grant) refl
    ∷ row (refuses basic (bytes "grant_type=refresh_token&refresh_token=6465666768696a6b6c6d6e6f7071727374757677") invalid_grant) refl
    -- the lowest slot of the right kind: what stands behind it does not help, and is not touched
    ∷ row
    (call (some (code ∷ twin 0 1600 ∷ [])) 1599 two_handles basic exchange (both_tokens "power peak bill")
    (at 1599 (some (spent code ∷ twin 0 1600 ∷ new_access ∷ new_refresh ∷ [])))) refl
    ∷ row
    (call (some (twin 0 1600 ∷ code ∷ [])) 1599 two_handles basic addressless (both_tokens "peak")
    (at 1599
    (some (spent (twin 0 1600) ∷ code ∷ access (twin 0 1600) 1599 (handle 32) ∷ refresh (twin 0 1600) 1599 (handle 52) ∷ [])))) refl
    ∷ row (refused (some (twin 0 1599 ∷ code ∷ [])) 1599 two_handles basic exchange invalid_grant) refl
    ∷ row (refused (some (twin 1 1600 ∷ code ∷ [])) 1599 two_handles basic exchange invalid_grant) refl
    ∷ row
    (call (some (refresh_twin ∷ access_twin ∷ code ∷ [])) 1599 two_handles basic exchange (both_tokens "power peak bill")
    (at 1599 (some (refresh_twin ∷ access_twin ∷ spent code ∷ new_access ∷ new_refresh ∷ [])))) refl
    ∷ row
    (call (some (access_twin ∷ code ∷ refresh_twin ∷ [])) 1599 two_handles basic
    (bytes "grant_type=refresh_token&refresh_token=000102030405060708090a0b0c0d0e0f10111213") (access_alone "peak")
    (at 1599 (some (access_twin ∷ code ∷ refresh_twin ∷ renewed refresh_twin 1599 (handle 32) 2 ∷ [])))) refl
    ∷ row (refused (some (slot 4 (handle 80) 0 9 2 1599 ∷ refresh_token ∷ [])) 1599 two_handles basic refreshing invalid_grant) refl
    -- a code works once: in what the exchange leaves it is not found, and what came from it is withdrawn (more in `SpentCases`)
    ∷ row
    (call (at 1599 exchanged) 1599 next_handles basic exchange invalid_grant
    (at 1599 (held_with (spent code) unbound_code bound_code free_slot free_slot))) refl
    -- time never goes back: run out at the time that the store has seen, whatever the clock says; and live until then
    ∷ row (call (at 1600 held) 1100 two_handles basic exchange invalid_grant (at 1600 held)) refl
    ∷ row (call (at 1600 held) 1100 two_handles basic [] invalid_request (at 1600 held)) refl
    ∷ row (call (at 1599 held) 0 two_handles basic exchange (both_tokens "power peak bill") (at 1599 exchanged)) refl
    -- before `invalid_scope` and 503; for a code the scope is ignored
    ∷ row (refuses basic (bytes "grant_type=refresh_token&refresh_token=505152535455565758595a5b5c5d5e5f60616200&scope=pow") invalid_grant) refl
    ∷ row (refuses basic (refreshing ++ bytes "&scope=pow") invalid_scope) refl
    ∷ row (refused (crowded (unbound_code ∷ [])) 1599 two_handles [] (barn ++ bytes "0") invalid_grant) refl
    ∷ row (refused (crowded (unbound_code ∷ [])) 1599 two_handles [] barn no_room) refl
    ∷ row (refused (crowded (code ∷ [])) 1599 two_handles basic addressless invalid_grant) refl
    ∷ row (refused (crowded (code ∷ [])) 1599 two_handles basic exchange no_room) refl
    ∷ row (exchanges basic (exchange ++ bytes "&scope=solar++x")) refl
    ∷ row (exchanges basic (exchange ++ bytes "&scope=power")) refl
    -- what belongs to the other grant is ignored
    ∷ row (exchanges basic (exchange ++ bytes "&refresh_token=505152535455565758595a5b5c5d5e5f60616263")) refl
    ∷ row (refreshes (refreshing ++ bytes "&code=000102030405060708090a0b0c0d0e0f10111213&redirect_uri=x") "power peak bill" 11) refl
    -- ---- `invalid_scope`: "refresh: bad form, unknown name, or beyond the granted set"
    -- none (above), and one with no value: the granted set; the same in another order, and less
    ∷ row (refreshes (refreshing ++ bytes "&scope=") "power peak bill" 11) refl
    ∷ row (refreshes (refreshing ++ bytes "&scope=bill+power%20peak") "power peak bill" 11) refl
    ∷ row (refreshes (refreshing ++ bytes "&scope=bill+power") "power bill" 9) refl
    ∷ row (refreshes (refreshing ++ bytes "&scope=peak+peak") "peak" 2) refl
    -- two spaces, one at the start or the end, a comma; unknown, a part of a name, one more byte, another case
    ∷ row (refuses basic (refreshing ++ bytes "&scope=power++bill") invalid_scope) refl
    ∷ row (refuses basic (refreshing ++ bytes "&scope=+power") invalid_scope) refl
    ∷ row (refuses basic (refreshing ++ bytes "&scope=power+") invalid_scope) refl
    ∷ row (refuses basic (refreshing ++ bytes "&scope=power,bill") invalid_scope) refl
    ∷ row (refuses basic (refreshing ++ bytes "&scope=wind") invalid_scope) refl
    ∷ row (refuses basic (refreshing ++ bytes "&scope=power+wind") invalid_scope) refl
    ∷ row (refuses basic (refreshing ++ bytes "&scope=pow") invalid_scope) refl
    ∷ row (refuses basic (refreshing ++ bytes "&scope=powers") invalid_scope) refl
    ∷ row (refuses basic (refreshing ++ bytes "&scope=Power") invalid_scope) refl
    -- beyond the granted set, by every name or by one
    ∷ row (refuses basic (refreshing ++ bytes "&scope=tariff") invalid_scope) refl
    ∷ row (refuses basic (refreshing ++ bytes "&scope=power+peak+bill+milking") invalid_scope) refl
    -- before 503: both apply, and the first is mended
    ∷ row (refused (crowded (refresh_token ∷ [])) 1599 two_handles basic (refreshing ++ bytes "&scope=solar") invalid_scope) refl
    ∷ row (refused (crowded (refresh_token ∷ [])) 1599 two_handles basic (refreshing ++ bytes "&scope=peak") no_room) refl
    -- all eight names, in the order of the table; the token's set counts, not the client's
    ∷ row (all_eight []) refl
    ∷ row (all_eight (bytes "&scope=solar+pump+drying+milking+bill+tariff+peak+power")) refl
    -- ---- status 503: "fewer slots free or run out than needed"; an exchange needs two, and "an exchange's own slot is no longer free"
    -- an exchange: none besides its own; one, which is free or has run out just then; one, and another that runs out a second later
    ∷ row (refused (crowded (code ∷ [])) 1599 two_handles basic exchange no_room) refl
    ∷ row (refused (crowded (code ∷ free_slot ∷ [])) 1599 two_handles basic exchange no_room) refl
    ∷ row (refused (crowded (until 1599 ∷ code ∷ [])) 1599 two_handles basic exchange no_room) refl
    ∷ row (refused (crowded (code ∷ free_slot ∷ until 1600 ∷ [])) 1599 two_handles basic exchange no_room) refl
    -- two; the lowest are taken, access first
    ∷ row (exchanges_in (code ∷ free_slot ∷ free_slot ∷ []) (spent code ∷ new_access ∷ new_refresh ∷ [])) refl
    ∷ row (exchanges_in (code ∷ free_slot ∷ until 1599 ∷ []) (spent code ∷ new_access ∷ new_refresh ∷ [])) refl
    ∷ row (exchanges_in (free_slot ∷ access_token ∷ code ∷ free_slot ∷ []) (new_access ∷ access_token ∷ spent code ∷ new_refresh ∷ [])) refl
    ∷ row (exchanges_in (free_slot ∷ until 1599 ∷ code ∷ free_slot ∷ []) (new_access ∷ new_refresh ∷ spent code ∷ free_slot ∷ [])) refl
    -- the last slot of all
    ∷ row
    (call (lastly 1000 (code ∷ free_slot ∷ []) access_token free_slot) 1599 two_handles basic exchange (both_tokens "power peak bill")
    (lastly 1599 (spent code ∷ new_access ∷ []) access_token new_refresh)) refl
    -- a refresh: none, for its own slot stays; one
    ∷ row (refused (crowded (refresh_token ∷ [])) 1599 two_handles basic refreshing no_room) refl
    ∷ row (refused (crowded (refresh_token ∷ until 1600 ∷ [])) 1599 two_handles basic refreshing no_room) refl
    ∷ row (refreshes_in (refresh_token ∷ free_slot ∷ []) (refresh_token ∷ new_token ∷ [])) refl
    ∷ row (refreshes_in (until 1599 ∷ refresh_token ∷ free_slot ∷ []) (new_token ∷ refresh_token ∷ free_slot ∷ [])) refl
    -- before 500: both apply, and the first is mended
    ∷ row (refused (crowded (code ∷ [])) 1599 (handle 100 ++ handle 52) basic exchange no_room) refl
    ∷ row (refused (crowded (code ∷ free_slot ∷ free_slot ∷ [])) 1599 (handle 100 ++ handle 52) basic exchange clash) refl
    ∷ row (refused (crowded (refresh_token ∷ [])) 1599 (handle 100 ++ handle 52) basic refreshing no_room) refl
    ∷ row (refused (crowded (refresh_token ∷ free_slot ∷ [])) 1599 (handle 100 ++ handle 52) basic refreshing clash) refl
    -- ---- status 500: "a handle to be issued equals that of any slot in use, or two to be issued are equal"
    -- the first: a live slot's, one's that has run out, the code's own, the lowest and the highest
    ∷ row (refused held 1599 (handle 100 ++ handle 52) basic exchange clash) refl
    ∷ row (refused held 1599 (handle 160 ++ handle 52) basic exchange clash) refl
    ∷ row (refused held 1599 (handle 0 ++ handle 52) basic exchange clash) refl
    ∷ row (refused last_used 1599 (handle 180 ++ handle 52) basic exchange clash) refl
    -- the second
    ∷ row (refused held 1599 (handle 32 ++ handle 100) basic exchange clash) refl
    ∷ row (refused held 1599 (handle 32 ++ handle 160) basic exchange clash) refl
    ∷ row (refused held 1599 (handle 32 ++ handle 0) basic exchange clash) refl
    ∷ row (refused last_used 1599 (handle 32 ++ handle 180) basic exchange clash) refl
    -- both
    ∷ row (refused held 1599 (handle 32 ++ handle 32) basic exchange clash) refl
    -- a refresh, whose last 20 random bytes are ignored
    ∷ row (refused held 1599 (handle 100 ++ handle 52) basic refreshing clash) refl
    ∷ row (refused held 1599 (handle 160 ++ handle 52) basic refreshing clash) refl
    ∷ row (refused held 1599 (handle 80 ++ handle 52) basic refreshing clash) refl
    ∷ row (ignoring (handle 100)) refl
    ∷ row (ignoring (handle 80)) refl
    ∷ row (ignoring (handle 32)) refl
    -- the zero bytes of a free slot are no handle
    ∷ row
    (call (some (code ∷ [])) 1599 (replicate 20 0 ++ handle 52) basic exchange
    (both_tokens_of "0000000000000000000000000000000000000000" "3435363738393a3b3c3d3e3f4041424344454647" "power peak bill")
    (at 1599 (some (spent code ∷ access code 1599 (replicate 20 0) ∷ new_refresh ∷ [])))) refl
    ∷ []

-- a header over 512 bytes, and one that decodes to no colon, are bad in themselves: no call shows it, since no client of a registry
-- has an id and a secret so long, nor an empty secret. Of 510 bytes, of 514, with no colon
bad-headers : map is_bad_header (padding 500 ∷ padding 504 ∷ bytes "Basic czZCaGRSa3F0Mw==" ∷ []) ≡ false ∷ true ∷ true ∷ []
unfolding text_definitions is_bad_header credentials same_any_case lower_case
bad-headers = refl
