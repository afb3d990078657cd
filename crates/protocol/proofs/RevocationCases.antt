-- The cases of the revocation endpoint (RFC 7009): one on each side of every sentence of document 02's seventh request that decides
-- something there.
--
-- Clients, slots, answers and calls are those of `TokenCases`: client 0 is confidential, client 1 public, client 2 confidential. Most
-- calls come at 1599 and show a token of client 0: `access_token`, 64 to 77 hex, or `refresh_token`, 50 to 63 hex, both of one origin.
-- Where a test is about one reason to revoke nothing, everything else is right, so that a definition without it revokes. A reply
-- that is empty leaves the whole output as it was (`Cases`). Refusals 1 to 4 are in `UnfitCases`, and a run of calls in `Visit`.
--
-- In order: slots; calls; success; the refusals, in their order; names of the token endpoint; unknown tokens; run-out tokens; other
-- clients' tokens; what is cleared, and what stays; more than one slot of a handle; hints; the time; the last slot.
-- Assumes nothing.
use Prim.Native.Nat.{ℕ, ◌^◌}
use Prim.Native.String.{String}
use mathlib.Core.Path.{◌≡◌, refl}
use mathlib.Core.Bool.{true}
use mathlib.Core.List.{List, [], ◌∷◌, ◌++◌}
use lib.ListN.{replicate}
use Rattle.octets.specs.Text.{bytes}
use Rattle.client_registry.specs.Sample.{sample_confidential, sample_public}
use Rattle.token_store.specs.Store.{free_slot}
use Rattle.token_store.specs.declared.Slot.{Slot}
use Rattle.protocol.proofs.Computing.{text_definitions, slot_definitions, decision_definitions, client_definitions, revocation_definitions}
use Rattle.protocol.proofs.Cases.{revocation, ShortStore, lastly, slot, linked, from, spent, challenge, count_up, Row}
use Rattle.protocol.proofs.TokenRows.{agrees_on, row_on}
use Rattle.protocol.proofs.TokenCases.{clients, registry, registry-fit, registry-clients, handle, unbound_code, refresh_token, access_token, run_out, until, some, at, Said, said, invalid_request, invalid_client, challenged, invalid_grant, Visit, case_at, call, refused, basic, padded}
use Rattle.protocol.proofs.CredentialsCases.{wrong_secret, mill_basic, own_token_of}

-- ---- slots

-- a token of the same origin: of a kind and a client, until a time
abbrev came : ℕ → ℕ → ℕ → Slot
came kind client expiry = from (handle 200) (slot kind (handle 40) client 9 2 expiry)

-- slots with the handle of the access token, and with that of the refresh token: tokens of another origin, of a kind and a client, until
-- a time
abbrev access_twin : ℕ → ℕ → ℕ → Slot
access_twin kind client expiry = from (handle 220) (slot kind (handle 100) client 9 2 expiry)

abbrev refresh_twin : ℕ → ℕ → ℕ → Slot
refresh_twin kind client expiry = from (handle 220) (slot kind (handle 80) client 9 2 expiry)

-- a code with the handle of the access token, of a kind and a client
abbrev code_twin : ℕ → ℕ → Slot
code_twin kind client = slot kind (handle 100) client 9 2 1600

-- ---- calls

abbrev row : (v : Visit) → agrees_on clients (case_at revocation registry v) ≡ true → Row
row v agreed = row_on (case_at revocation registry v) registry-fit clients registry-clients agreed

-- "status 200, empty"
abbrev done : Said
done = said 200 0 0 []

-- a token by its text; the access token and the refresh token
abbrev showing : String → List ℕ
showing text = bytes "token=" ++ bytes text

abbrev access_shown : List ℕ
access_shown = showing "6465666768696a6b6c6d6e6f7071727374757677"

abbrev refresh_shown : List ℕ
refresh_shown = showing "505152535455565758595a5b5c5d5e5f60616263"

-- barnapp's calls with them
abbrev barn_access : List ℕ
barn_access = access_shown ++ bytes "&client_id=barnapp"

abbrev barn_refresh : List ℕ
barn_refresh = refresh_shown ++ bytes "&client_id=barnapp"

-- both tokens, and a call, which is handed no random bytes
abbrev pair : ShortStore
pair = some (access_token ∷ refresh_token ∷ [])

abbrev asks : ShortStore → ℕ → List ℕ → List ℕ → Said → ShortStore → Visit
asks before clock header body paper after = call before clock [] header body paper after

-- the access token is revoked; both are; nothing is, for the answer
abbrev revokes : List ℕ → List ℕ → Visit
revokes header body = asks pair 1599 header body done (at 1599 (some (free_slot ∷ refresh_token ∷ [])))

abbrev revokes_both : List ℕ → List ℕ → Visit
revokes_both header body = asks pair 1599 header body done (at 1599 (some []))

abbrev leaves : List ℕ → List ℕ → Said → Visit
leaves header body paper = refused pair 1599 [] header body paper

-- client 0's call, from slots to slots; one that changes no slot
abbrev revokes_in : List ℕ → List Slot → List Slot → Visit
revokes_in body before after = asks (some before) 1599 basic body done (at 1599 (some after))

abbrev leaves_in : List ℕ → List Slot → Said → Visit
leaves_in body slots paper = refused (some slots) 1599 [] basic body paper

-- what stands before the refresh token and behind it goes with it; and stays, while an access token goes
abbrev clears : Slot → Visit
clears s = revokes_in refresh_shown (s ∷ refresh_token ∷ s ∷ []) []

abbrev keeps : Slot → Visit
keeps s = revokes_in refresh_shown (s ∷ refresh_token ∷ access_token ∷ s ∷ []) (s ∷ free_slot ∷ free_slot ∷ s ∷ [])

-- ---- the table

pub revocation_cases : List Row
unfolding text_definitions slot_definitions decision_definitions client_definitions revocation_definitions sample_confidential sample_public
revocation_cases =
    -- ---- success, status 200, empty: an access token, and a refresh token with the access token of its origin
    row (revokes basic access_shown) refl
    ∷ row (revokes_both basic refresh_shown) refl
    -- the request of the RFC's section 2.1, whose token is unknown here
    ∷ row (leaves basic (bytes "token=45ghiukldjahdnhzdauz&token_type_hint=refresh_token") done) refl
    -- "It authenticates clients as the token counter does": in the body; with the client_id beside the header; another
    -- client, by its header and, a public one, by its client_id alone
    ∷ row (revokes [] (access_shown ++ bytes "&client_id=s6BhdRkqt3&client_secret=gX1fBat3bV")) refl
    ∷ row (revokes basic (bytes "client_id=s6BhdRkqt3&" ++ access_shown)) refl
    ∷ row (asks (some (access_twin 3 2 1600 ∷ [])) 1599 mill_basic access_shown done (at 1599 (some []))) refl
    ∷ row (asks (some (access_twin 3 1 1600 ∷ [])) 1599 [] barn_access done (at 1599 (some []))) refl
    ∷ row (asks (some (came 3 0 1600 ∷ refresh_twin 4 1 1600 ∷ until 1600 ∷ [])) 1599 [] barn_refresh done (at 1599 (some (came 3 0 1600 ∷ [])))) refl
    -- ---- `invalid_request`: "body over 4,096 or malformed; a known name repeated", "a missing token in place of a missing grant_type", "both
    -- header and client_secret". 4,096 bytes are read, 4,097 are not
    ∷ row (revokes basic (padded 4096 access_shown)) refl
    ∷ row (leaves basic (padded 4097 access_shown) invalid_request) refl
    -- malformed in any piece: of an unknown name, of the hint; names and values are decoded
    ∷ row (leaves basic (access_shown ++ bytes "&a=%4") invalid_request) refl
    ∷ row (leaves basic (access_shown ++ bytes "&token_type_hint=%zz") invalid_request) refl
    ∷ row (revokes basic (bytes "t%6Fken=%364%365666768696a6b6c6d6e6f7071727374757677")) refl
    -- each known name repeated; a piece with no value is dropped before
    ∷ row (leaves basic (access_shown ++ bytes "&" ++ access_shown) invalid_request) refl
    ∷ row (leaves basic (access_shown ++ bytes "&token_type_hint=a&token_type_hint=a") invalid_request) refl
    ∷ row (leaves basic (access_shown ++ bytes "&client_id=s6BhdRkqt3&client_id=s6BhdRkqt3") invalid_request) refl
    ∷ row (leaves [] (access_shown ++ bytes "&client_id=s6BhdRkqt3&client_secret=gX1fBat3bV&client_secret=gX1fBat3bV") invalid_request) refl
    ∷ row (revokes basic (bytes "token=&token&token_type_hint=&" ++ access_shown ++ bytes "&token_type_hint=a")) refl
    -- the token is missing, or has no value; refresh_token is not it
    ∷ row (leaves basic [] invalid_request) refl
    ∷ row (leaves basic (bytes "token=&token_type_hint=access_token") invalid_request) refl
    ∷ row (leaves basic (bytes "refresh_token=505152535455565758595a5b5c5d5e5f60616263") invalid_request) refl
    -- both header and client_secret, right or not; a client_secret with no value is none
    ∷ row (leaves basic (access_shown ++ bytes "&client_secret=gX1fBat3bV") invalid_request) refl
    ∷ row (leaves (bytes "Basic") (access_shown ++ bytes "&client_secret=x") invalid_request) refl
    ∷ row (revokes basic (access_shown ++ bytes "&client_secret=")) refl
    -- each of them before `invalid_client`; with that mended, the wrong secret is below
    ∷ row (leaves wrong_secret (padded 4097 access_shown) invalid_request) refl
    ∷ row (leaves wrong_secret (access_shown ++ bytes "&a=%4") invalid_request) refl
    ∷ row (leaves wrong_secret (access_shown ++ bytes "&" ++ access_shown) invalid_request) refl
    ∷ row (leaves wrong_secret (access_shown ++ bytes "&client_secret=gX1fBat3bV") invalid_request) refl
    -- ---- `invalid_client`, status 401, each cause where the token is missing too, and then alone; the challenge comes with a header. They come
    -- before the look-up: the token is a live one of client 0, which is `invalid_grant` for any other client
    -- a header that is not `Basic`, one with a malformed half (`s6BhdRkqt3:%`)
    ∷ row (leaves (bytes "Bearer a") [] invalid_request) refl
    ∷ row (leaves (bytes "Bearer a") access_shown challenged) refl
    ∷ row (leaves (bytes "Basic czZCaGRSa3F0Mzol") access_shown challenged) refl
    -- no client_id at all; ids that differ
    ∷ row (leaves [] (bytes "token=") invalid_request) refl
    ∷ row (leaves [] access_shown invalid_client) refl
    ∷ row (leaves basic (bytes "client_id=barnapp") invalid_request) refl
    ∷ row (leaves basic barn_access challenged) refl
    -- an unknown client, in the header (`other`) and in the body
    ∷ row (leaves (bytes "Basic b3RoZXI6Z1gxZkJhdDNiVg==") access_shown challenged) refl
    ∷ row (leaves [] (bytes "client_id=other") invalid_request) refl
    ∷ row (leaves [] (access_shown ++ bytes "&client_id=other") invalid_client) refl
    -- confidential with a wrong secret, in the header and in the body; with none
    ∷ row (leaves wrong_secret [] invalid_request) refl
    ∷ row (leaves wrong_secret access_shown challenged) refl
    ∷ row (leaves [] (access_shown ++ bytes "&client_id=s6BhdRkqt3&client_secret=gX1fBat3bW") invalid_client) refl
    ∷ row (leaves [] (bytes "client_id=s6BhdRkqt3") invalid_request) refl
    ∷ row (leaves [] (access_shown ++ bytes "&client_id=s6BhdRkqt3") invalid_client) refl
    -- public with a header (`barnapp:`) or a secret
    ∷ row (leaves (bytes "Basic YmFybmFwcDo=") [] invalid_request) refl
    ∷ row (leaves (bytes "Basic YmFybmFwcDo=") access_shown challenged) refl
    ∷ row (leaves [] (bytes "client_id=barnapp&client_secret=a") invalid_request) refl
    ∷ row (leaves [] (barn_access ++ bytes "&client_secret=a") invalid_client) refl
    -- before what is unknown, which is no refusal
    ∷ row (leaves wrong_secret (showing "x") challenged) refl
    -- ---- "known names token, token_type_hint, client_id, client_secret": those of the token endpoint are unknown, and ignored, repeated or not
    ∷ row (revokes basic (access_shown ++ bytes "&grant_type=x&grant_type=x")) refl
    ∷ row (revokes basic (access_shown ++ bytes "&code=x&code=x")) refl
    ∷ row (revokes basic (access_shown ++ bytes "&redirect_uri=x&redirect_uri=x")) refl
    ∷ row (revokes basic (access_shown ++ bytes "&refresh_token=x&refresh_token=505152535455565758595a5b5c5d5e5f60616263")) refl
    ∷ row (revokes basic (access_shown ++ bytes "&scope=x&scope=x")) refl
    ∷ row (revokes basic (access_shown ++ bytes "&code_verifier=x&code_verifier=x")) refl
    -- ---- "An unknown .. token .. is status 200, empty; .. change only the mark": another handle, upper case, 39 digits, 41, its origin,
    -- the zeros of a free slot
    ∷ row (leaves basic (showing "6465666768696a6b6c6d6e6f7071727374757678") done) refl
    ∷ row (leaves basic (showing "6465666768696A6B6C6D6E6F7071727374757677") done) refl
    ∷ row (leaves basic (showing "6465666768696a6b6c6d6e6f707172737475767") done) refl
    ∷ row (leaves basic (showing "6465666768696a6b6c6d6e6f70717273747576770") done) refl
    ∷ row (leaves basic (showing "c8c9cacbcccdcecfd0d1d2d3d4d5d6d7d8d9dadb") done) refl
    ∷ row (leaves basic (showing "0000000000000000000000000000000000000000") done) refl
    -- no handle at all, where a token has that of zero bytes
    ∷ row (leaves_in (showing "x") (slot 3 (replicate 20 0) 0 7 11 4600 ∷ []) done) refl
    -- a code of any kind, and a spent one; another client's
    ∷ row (leaves_in access_shown (code_twin 1 0 ∷ []) done) refl
    ∷ row (leaves_in access_shown (code_twin 2 0 ∷ []) done) refl
    ∷ row (leaves_in access_shown (linked challenge (code_twin 6 0) ∷ []) done) refl
    ∷ row (leaves_in access_shown (linked challenge (code_twin 7 0) ∷ []) done) refl
    ∷ row (leaves_in access_shown (code_twin 5 0 ∷ from (handle 100) (came 3 0 4600) ∷ []) done) refl
    ∷ row (leaves_in access_shown (code_twin 1 1 ∷ []) done) refl
    -- ---- "run-out": at its expiry, and live a second before; another client's token too is refused no more once it has run out
    ∷ row (refused pair 4600 [] basic access_shown done) refl
    ∷ row (asks pair 4599 basic access_shown done (at 4599 (some (free_slot ∷ refresh_token ∷ [])))) refl
    ∷ row (refused pair 4600 [] [] barn_access done) refl
    ∷ row (refused pair 4599 [] [] barn_access invalid_grant) refl
    ∷ row (refused pair 2593000 [] basic refresh_shown done) refl
    ∷ row (asks pair 2592999 basic refresh_shown done (at 2592999 (some []))) refl
    ∷ row (refused pair 2593000 [] [] barn_refresh done) refl
    ∷ row (refused pair 2592999 [] [] barn_refresh invalid_grant) refl
    -- a refresh token that has run out leaves live access tokens of its origin
    ∷ row (leaves_in refresh_shown (from (handle 200) (refresh_twin 4 0 1599) ∷ access_token ∷ []) done) refl
    -- ---- "a live token of another client is `invalid_grant`": of a client of a lower number (above), of a higher one; for a confidential client
    ∷ row (leaves mill_basic access_shown invalid_grant) refl
    ∷ row (leaves_in access_shown (access_twin 3 1 1600 ∷ []) invalid_grant) refl
    ∷ row (leaves_in refresh_shown (from (handle 200) (refresh_twin 4 2 1600) ∷ access_token ∷ []) invalid_grant) refl
    -- ---- "an access token is cleared": alone, though others have its origin, or its handle for their origin; a client's token for itself
    ∷ row
    (revokes_in access_shown (came 3 0 4600 ∷ access_token ∷ refresh_token ∷ from (handle 100) run_out ∷ [])
    (came 3 0 4600 ∷ free_slot ∷ refresh_token ∷ from (handle 100) run_out ∷ [])) refl
    ∷ row
    (revokes_in access_shown (own_token_of (handle 100) 0 1599 11 ∷ from (handle 100) (came 3 0 4600) ∷ [])
    (free_slot ∷ from (handle 100) (came 3 0 4600) ∷ [])) refl
    -- ---- "or a refresh token together with all access tokens of its origin": live (above) and run out, of this client and
    -- of another, in every slot
    ∷ row (clears (came 3 0 1599)) refl
    ∷ row (clears (came 3 1 4600)) refl
    ∷ row (asks (record { time = 1000; first = refresh_token ∷ []; rest = access_token }) 1599 basic refresh_shown done (at 1599 (some []))) refl
    -- another refresh token of that origin stays, live or run out, of this client or another
    ∷ row (keeps (came 4 0 2593000)) refl
    ∷ row (keeps (came 4 1 1599)) refl
    -- tokens of other origins: another code's; the first or the last byte of it is another; the refresh token's handle, or the origin as
    -- their own handle
    ∷ row (keeps (until 4600)) refl
    ∷ row (keeps (from (0 ∷ count_up 19 201) (came 3 0 4600))) refl
    ∷ row (keeps (from (count_up 19 200 ++ 0 ∷ []) (came 3 0 4600))) refl
    ∷ row (keeps (from (handle 80) (came 3 0 4600))) refl
    ∷ row (keeps (from (handle 220) (slot 3 (handle 200) 0 9 2 4600))) refl
    -- codes: the spent one with the origin's handle; those whose challenge begins with the origin, or is all of its link
    ∷ row (keeps (spent (slot 2 (handle 200) 0 7 11 1600))) refl
    ∷ row (keeps (linked (count_up 32 200) (slot 6 (handle 40) 0 7 11 1600))) refl
    ∷ row (keeps (from (handle 200) (slot 7 (handle 40) 0 7 11 1600))) refl
    -- an origin of zero bytes: codes hold zero in its place
    ∷ row
    (revokes_in refresh_shown (unbound_code ∷ from (replicate 20 0) refresh_token ∷ code_twin 5 0 ∷ from (replicate 20 0) access_token ∷ [])
    (unbound_code ∷ free_slot ∷ code_twin 5 0 ∷ [])) refl
    -- ---- "kinds 3 and 4 looked up together": of two slots of one handle the lowest counts, and it alone is cleared
    ∷ row (revokes_in refresh_shown (refresh_twin 3 0 1600 ∷ refresh_token ∷ access_token ∷ []) (free_slot ∷ refresh_token ∷ access_token ∷ [])) refl
    ∷ row
    (revokes_in refresh_shown (refresh_token ∷ refresh_twin 3 0 1600 ∷ access_token ∷ []) (free_slot ∷ refresh_twin 3 0 1600 ∷ [])) refl
    ∷ row (revokes_in access_shown (access_token ∷ access_token ∷ []) (free_slot ∷ access_token ∷ [])) refl
    -- the lowest has run out, or is another client's, and hides a live one; it is the client's own before another's
    ∷ row (leaves_in refresh_shown (refresh_twin 3 0 1599 ∷ refresh_token ∷ access_token ∷ []) done) refl
    ∷ row (leaves_in access_shown (access_twin 4 0 1599 ∷ access_token ∷ []) done) refl
    ∷ row (leaves_in refresh_shown (refresh_twin 3 1 1600 ∷ refresh_token ∷ []) invalid_grant) refl
    ∷ row (leaves_in access_shown (access_twin 4 1 1600 ∷ access_token ∷ []) invalid_grant) refl
    ∷ row (leaves_in access_shown (access_twin 4 1 1599 ∷ access_token ∷ []) done) refl
    ∷ row (revokes_in access_shown (access_token ∷ access_twin 4 1 1600 ∷ []) (free_slot ∷ access_twin 4 1 1600 ∷ [])) refl
    -- codes of that handle hide nothing
    ∷ row (revokes_in access_shown (code_twin 1 0 ∷ code_twin 5 1 ∷ access_token ∷ []) (code_twin 1 0 ∷ code_twin 5 1 ∷ [])) refl
    -- ---- "token_type_hint's value is ignored": the other kind, nonsense, where both kinds have the handle
    ∷ row (revokes_both basic (refresh_shown ++ bytes "&token_type_hint=access_token")) refl
    ∷ row (revokes basic (access_shown ++ bytes "&token_type_hint=refresh_token")) refl
    ∷ row (revokes basic (bytes "token_type_hint=%00cows&" ++ access_shown)) refl
    ∷ row
    (revokes_in (access_shown ++ bytes "&token_type_hint=access_token") (access_twin 4 0 1600 ∷ access_token ∷ []) (free_slot ∷ access_token ∷ [])) refl
    ∷ row
    (revokes_in (access_shown ++ bytes "&token_type_hint=refresh_token") (access_token ∷ access_twin 4 0 1600 ∷ [])
    (free_slot ∷ access_twin 4 0 1600 ∷ [])) refl
    -- ---- the time: T is the larger of clock and mark, by it tokens run out, and every answer stores it
    ∷ row (asks (at 4599 pair) 0 basic access_shown done (at 4599 (some (free_slot ∷ refresh_token ∷ [])))) refl
    ∷ row (asks (at 4600 pair) 1100 basic access_shown done (at 4600 pair)) refl
    ∷ row (asks (at 1600 pair) 1100 [] barn_access invalid_grant (at 1600 pair)) refl
    ∷ row (asks (at 1600 pair) 1100 basic [] invalid_request (at 1600 pair)) refl
    ∷ row (asks (at 1600 pair) (2 ^ 40) wrong_secret access_shown challenged (at (2 ^ 40) pair)) refl
    -- ---- the last slot of all: the token shown, and an access token of its origin
    ∷ row (asks (lastly 1000 (run_out ∷ []) free_slot access_token) 1599 basic access_shown done (at 1599 (some (run_out ∷ [])))) refl
    ∷ row (asks (lastly 1000 (refresh_token ∷ []) free_slot access_token) 1599 basic refresh_shown done (at 1599 (some []))) refl
    ∷ []
