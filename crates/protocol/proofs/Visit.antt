-- Document 01's "A visit, written out" as three runs of calls, each call at the store as the one before it left it: the night after a code
-- has run out, a visit from the code to a refreshed token, and tries that must not spend the code. A fourth is of document 02's third request:
-- a code is shown again, and its tokens are withdrawn. A fifth is of its seventh: a refresh token is revoked.
use Prim.Native.Nat.{ℕ, ◌+◌}
use Prim.Native.String.{String}
use mathlib.Core.Path.{refl}
use mathlib.Core.List.{List, [], ◌∷◌, ◌++◌}
use Rattle.octets.specs.Text.{bytes}
use Rattle.client_registry.specs.Sample.{sample_registry}
use Rattle.token_store.specs.declared.Slot.{Slot}
use Rattle.protocol.proofs.Computing.{text_definitions, registry_definitions, slot_definitions, decision_definitions, authorization_definitions, client_definitions, token_definitions, revocation_definitions, check_definitions}
use Rattle.protocol.proofs.Cases.{authorization, token, revocation, check, ShortStore, holding, slot, from, spent, count_up, Case, Row, row}
use Rattle.protocol.proofs.Starred.{rfc_query}

-- ---- the calls of client 0, its code being for farm 7

-- "response_type=code&.. (document 003)", with the random bytes from k on
abbrev authorized : ℕ → ℕ → String → ShortStore → ShortStore → Case
authorized clock k code before after = record {
  call = authorization rfc_query 1 7;
  registry = sample_registry;
  store = before;
  clock = clock;
  random = count_up 20 k;
  room = 1024;
  numbers = 0 ∷ 0 ∷ [];
  text = bytes "https://client.example.com/cb?code=" ++ bytes code ++ bytes "&state=xyz";
  after = after;
}

-- a request for tokens with the header, and with the random bytes from k on
abbrev requested : String → String → ℕ → ℕ → ℕ → ℕ → List ℕ → ShortStore → ShortStore → Case
requested header body clock k status error text before after = record {
  call = token (bytes header) (bytes body);
  registry = sample_registry;
  store = before;
  clock = clock;
  random = count_up 40 k;
  room = 1024;
  numbers = 0 ∷ status ∷ error ∷ 0 ∷ [];
  text = text;
  after = after;
}

abbrev basic : String
basic = "Basic czZCaGRSa3F0MzpnWDFmQmF0M2JW"

-- "Exchange of that code .., its redirect_uri repeated"; the same for the code 64 to 77 hex
abbrev first_code : String
first_code =
    "grant_type=authorization_code&code=000102030405060708090a0b0c0d0e0f10111213&redirect_uri=https%3A%2F%2Fclient.example.com%2Fcb"

abbrev second_code : String
second_code =
    "grant_type=authorization_code&code=6465666768696a6b6c6d6e6f7071727374757677&redirect_uri=https%3A%2F%2Fclient.example.com%2Fcb"

-- "random 20 to 47 hex, the whole reply"
abbrev reply : List ℕ
reply =
    bytes "{\"access_token\":\"202122232425262728292a2b2c2d2e2f30313233\",\"token_type\":\"Bearer\",\"expires_in\":3600,"
    ++ bytes "\"refresh_token\":\"3435363738393a3b3c3d3e3f4041424344454647\",\"scope\":\"power peak bill\"}"

abbrev granted : String → ℕ → ShortStore → ShortStore → Case
granted body clock before after = requested basic body clock 32 200 0 reply before after

abbrev invalid_grant : String → String → ℕ → ShortStore → ShortStore → Case
invalid_grant header body clock before after = requested header body clock 32 400 3 (bytes "{\"error\":\"invalid_grant\"}") before after

abbrev checked : String → ℕ → List ℕ → ShortStore → ShortStore → Case
checked presented clock numbers before after = record {
  call = check (bytes presented);
  registry = sample_registry;
  store = before;
  clock = clock;
  random = [];
  room = 0;
  numbers = 0 ∷ numbers;
  text = [];
  after = after;
}

-- a revocation, which is handed no random bytes; the body that shows the refresh token
abbrev revoked : String → List ℕ → ℕ → ℕ → ℕ → List ℕ → ShortStore → ShortStore → Case
revoked header body clock status error text before after = record {
  call = revocation (bytes header) body;
  registry = sample_registry;
  store = before;
  clock = clock;
  random = [];
  room = 1024;
  numbers = 0 ∷ status ∷ error ∷ 0 ∷ [];
  text = text;
  after = after;
}

abbrev refresh_shown : List ℕ
refresh_shown = bytes "token=3435363738393a3b3c3d3e3f4041424344454647"

-- barnapp's request with the code of client 0
abbrev barn_shows : String
barn_shows =
    "client_id=barnapp&grant_type=authorization_code&code=000102030405060708090a0b0c0d0e0f10111213&redirect_uri=https://barn.example/r?x=1"

-- the refresh for less
abbrev refreshing : String
refreshing = "grant_type=refresh_token&refresh_token=3435363738393a3b3c3d3e3f4041424344454647&scope=peak+power"

abbrev refreshed_at : ℕ → ShortStore → ShortStore → Case
refreshed_at clock before after =
    requested basic refreshing clock 80 200 0
    (bytes "{\"access_token\":\"505152535455565758595a5b5c5d5e5f60616263\",\"token_type\":\"Bearer\",\"expires_in\":3600,\"scope\":\"power peak\"}")
    before after

-- the access token of an exchange, and that of the refresh
abbrev access_text : String
access_text = "202122232425262728292a2b2c2d2e2f30313233"

abbrev lesser_text : String
lesser_text = "505152535455565758595a5b5c5d5e5f60616263"

abbrev not_live : List ℕ
not_live = 0 ∷ 0 ∷ 0 ∷ 0 ∷ 0 ∷ []

-- ---- the slots

-- the code with the random bytes from k on, issued at a time
abbrev code_from : ℕ → ℕ → Slot
code_from k t = slot 2 (count_up 20 k) 0 7 11 (t + 600)

-- the tokens for it, which record its handle
abbrev access : ℕ → ℕ → Slot
access k t = from (count_up 20 k) (slot 3 (count_up 20 32) 0 7 11 (t + 3600))

abbrev refresh : ℕ → ℕ → Slot
refresh k t = from (count_up 20 k) (slot 4 (count_up 20 52) 0 7 11 (t + 2592000))

-- an access token with less scope, on the refresh token of the first code
abbrev lesser : ℕ → Slot
lesser t = from (count_up 20 0) (slot 3 (count_up 20 80) 0 7 3 (t + 3600))

-- ---- the stores of the second run: two codes, the first exchanged at 1599, and a refresh at 1700, by when both codes have run out

abbrev two_codes : ℕ → ShortStore
two_codes time = holding time (code_from 0 1000 ∷ code_from 100 1000 ∷ [])

abbrev exchanged : ℕ → ShortStore
exchanged time = holding time (spent (code_from 0 1000) ∷ code_from 100 1000 ∷ access 0 1599 ∷ refresh 0 1599 ∷ [])

abbrev refreshed : ℕ → ShortStore
refreshed time = holding time (lesser 1700 ∷ code_from 100 1000 ∷ access 0 1599 ∷ refresh 0 1599 ∷ [])

-- those of the fourth and the fifth: the code is exchanged at 1100, its refresh token used at 1200, and all three tokens withdrawn or revoked

abbrev pair : ℕ → ShortStore
pair time = holding time (spent (code_from 0 1000) ∷ access 0 1100 ∷ refresh 0 1100 ∷ [])

abbrev family : ℕ → ShortStore
family time = holding time (spent (code_from 0 1000) ∷ access 0 1100 ∷ refresh 0 1100 ∷ lesser 1200 ∷ [])

abbrev withdrawn : ℕ → ShortStore
withdrawn time = holding time (spent (code_from 0 1000) ∷ [])

-- ---- the runs

-- "A call at 1600, then exchange with clock 1100: `invalid_grant`. A code issued next with clock 1100 expires at 2200."
pub night : List Row
unfolding text_definitions registry_definitions slot_definitions decision_definitions authorization_definitions client_definitions token_definitions check_definitions rfc_query
night =
    row (authorized 1000 0 "000102030405060708090a0b0c0d0e0f10111213" (holding 0 []) (holding 1000 (code_from 0 1000 ∷ []))) refl
    ∷ row (checked "" 1600 not_live (holding 1000 (code_from 0 1000 ∷ [])) (holding 1600 (code_from 0 1000 ∷ []))) refl
    ∷ row (invalid_grant basic first_code 1100 (holding 1600 (code_from 0 1000 ∷ [])) (holding 1600 (code_from 0 1000 ∷ []))) refl
    ∷ row
    (authorized 1100 100 "6465666768696a6b6c6d6e6f7071727374757677" (holding 1600 (code_from 0 1000 ∷ []))
    (holding 1600 (code_from 100 1600 ∷ []))) refl
    ∷ row (granted second_code 2199 (holding 1600 (code_from 100 1600 ∷ []))
    (holding 2199 (spent (code_from 100 1600) ∷ access 100 2199 ∷ refresh 100 2199 ∷ []))) refl
    -- the last once more, a second later
    ∷ row (invalid_grant basic second_code 2200 (holding 1600 (code_from 100 1600 ∷ [])) (holding 2200 (code_from 100 1600 ∷ []))) refl
    ∷ []

-- two codes and their tokens, a refresh for less, and the check of each token
pub day : List Row
unfolding text_definitions registry_definitions slot_definitions decision_definitions authorization_definitions client_definitions token_definitions check_definitions rfc_query
day =
    row (authorized 1000 100 "6465666768696a6b6c6d6e6f7071727374757677" (holding 1000 (code_from 0 1000 ∷ [])) (two_codes 1000)) refl
    ∷ row (granted first_code 1599 (two_codes 1000) (exchanged 1599)) refl
    -- a code works once; by now it has run out, and nothing is withdrawn
    ∷ row (invalid_grant basic first_code 1600 (exchanged 1599) (exchanged 1600)) refl
    ∷ row (refreshed_at 1700 (exchanged 1600) (refreshed 1700)) refl
    -- client 0, farm 7 and the set, with the seconds left; a refresh token is no access token
    ∷ row (checked access_text 1700 (1 ∷ 0 ∷ 7 ∷ 11 ∷ 3499 ∷ []) (refreshed 1700) (refreshed 1700)) refl
    ∷ row (checked "3435363738393a3b3c3d3e3f4041424344454647" 1700 not_live (refreshed 1700) (refreshed 1700)) refl
    ∷ row (checked access_text 5199 not_live (refreshed 1700) (refreshed 5199)) refl
    ∷ row (checked lesser_text 5299 (1 ∷ 0 ∷ 7 ∷ 3 ∷ 1 ∷ []) (refreshed 5199) (refreshed 5299)) refl
    ∷ []

-- "Spending a code when the wrong client, or the right one without its redirect, tries it."
pub tries : List Row
unfolding text_definitions registry_definitions slot_definitions decision_definitions authorization_definitions client_definitions token_definitions check_definitions rfc_query
tries =
    row
    (invalid_grant "" barn_shows 1100 (holding 1000 (code_from 0 1000 ∷ [])) (holding 1100 (code_from 0 1000 ∷ []))) refl
    ∷ row
    (invalid_grant basic "grant_type=authorization_code&code=000102030405060708090a0b0c0d0e0f10111213" 1200
    (holding 1100 (code_from 0 1000 ∷ [])) (holding 1200 (code_from 0 1000 ∷ []))) refl
    ∷ row (granted first_code 1300 (holding 1200 (code_from 0 1000 ∷ []))
    (holding 1300 (spent (code_from 0 1000) ∷ access 0 1300 ∷ refresh 0 1300 ∷ []))) refl
    ∷ []

-- "A code shown twice is a leak.": by another client it withdraws nothing, by its own all that came from it, the token of a refresh too
pub leak : List Row
unfolding text_definitions registry_definitions slot_definitions decision_definitions authorization_definitions client_definitions token_definitions check_definitions rfc_query
leak =
    row (granted first_code 1100 (holding 1000 (code_from 0 1000 ∷ [])) (pair 1100)) refl
    ∷ row (refreshed_at 1200 (pair 1100) (family 1200)) refl
    ∷ row (invalid_grant "" barn_shows 1300 (family 1200) (family 1300)) refl
    ∷ row (checked access_text 1300 (1 ∷ 0 ∷ 7 ∷ 11 ∷ 3400 ∷ []) (family 1300) (family 1300)) refl
    ∷ row (checked lesser_text 1300 (1 ∷ 0 ∷ 7 ∷ 3 ∷ 3500 ∷ []) (family 1300) (family 1300)) refl
    ∷ row (invalid_grant basic first_code 1400 (family 1300) (withdrawn 1400)) refl
    ∷ row (checked access_text 1400 not_live (withdrawn 1400) (withdrawn 1400)) refl
    ∷ row (checked lesser_text 1400 not_live (withdrawn 1400) (withdrawn 1400)) refl
    ∷ row (invalid_grant basic refreshing 1400 (withdrawn 1400) (withdrawn 1400)) refl
    -- shown a third time; once it has run out its slot is used again
    ∷ row (invalid_grant basic first_code 1599 (withdrawn 1400) (withdrawn 1599)) refl
    ∷ row (authorized 1600 100 "6465666768696a6b6c6d6e6f7071727374757677" (withdrawn 1599) (holding 1600 (code_from 100 1600 ∷ []))) refl
    ∷ []

-- "The farmer changes his mind.": a second before the first access token runs out its client revokes the refresh token, which another client
-- could not. Both access tokens are live before and not after, nor is the refresh token good, with a clock set back by 3,600 either
pub farewell : List Row
unfolding text_definitions registry_definitions slot_definitions decision_definitions authorization_definitions client_definitions token_definitions revocation_definitions check_definitions rfc_query
farewell =
    row (authorized 1000 0 "000102030405060708090a0b0c0d0e0f10111213" (holding 0 []) (holding 1000 (code_from 0 1000 ∷ []))) refl
    ∷ row (granted first_code 1100 (holding 1000 (code_from 0 1000 ∷ [])) (pair 1100)) refl
    ∷ row (refreshed_at 1200 (pair 1100) (family 1200)) refl
    ∷ row (revoked "" (refresh_shown ++ bytes "&client_id=barnapp") 4699 400 3 (bytes "{\"error\":\"invalid_grant\"}") (family 1200) (family 4699)) refl
    ∷ row (checked access_text 4699 (1 ∷ 0 ∷ 7 ∷ 11 ∷ 1 ∷ []) (family 4699) (family 4699)) refl
    ∷ row (checked lesser_text 4699 (1 ∷ 0 ∷ 7 ∷ 3 ∷ 101 ∷ []) (family 4699) (family 4699)) refl
    ∷ row (revoked basic refresh_shown 4699 200 0 [] (family 4699) (withdrawn 4699)) refl
    ∷ row (checked access_text 4699 not_live (withdrawn 4699) (withdrawn 4699)) refl
    ∷ row (checked lesser_text 4699 not_live (withdrawn 4699) (withdrawn 4699)) refl
    ∷ row (invalid_grant basic refreshing 4699 (withdrawn 4699) (withdrawn 4699)) refl
    ∷ row (checked access_text 1099 not_live (withdrawn 4699) (withdrawn 4699)) refl
    ∷ row (checked lesser_text 1099 not_live (withdrawn 4699) (withdrawn 4699)) refl
    ∷ row (invalid_grant basic refreshing 1099 (withdrawn 4699) (withdrawn 4699)) refl
    -- revoked once more, it is unknown
    ∷ row (revoked basic refresh_shown 4700 200 0 [] (withdrawn 4699) (withdrawn 4700)) refl
    ∷ []
