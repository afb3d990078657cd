-- The authorization endpoint, case by case: each sentence of document 01, and of document 02's first request, that decides something there,
-- on both sides.
--
-- In order: queries that are answered with a page (refusals 5 to 7), each redirect with an error word, and codes. Reasons stand in the
-- order in which they count, and between two neighbours a query to which both apply, and the same with the first mended. The faults of a
-- challenge are in `ChallengeCases`.
use Prim.Native.Nat.{ℕ, ◌-◌, ◌^◌}
use Prim.Native.String.{String}
use mathlib.Core.Path.{refl}
use mathlib.Core.List.{List, [], ◌∷◌, ◌++◌}
use lib.ListN.{length, replicate}
use Rattle.octets.specs.Text.{bytes}
use Rattle.client_registry.specs.Sample.{sample_registry}
use Rattle.token_store.specs.declared.Slot.{Slot}
use Rattle.protocol.proofs.Computing.{text_definitions, registry_definitions, slot_definitions, decision_definitions, authorization_definitions}
use Rattle.protocol.proofs.Cases.{authorization, holding, slot, linked, challenge, challenging, count_up, Case, Row, row}

-- ---- the usual call: at clock 1000 and a fresh store, random bytes 00 to 13 hex, an output of 1,024 bytes, a farm, which mostly is 7

abbrev decides_for : ℕ → List ℕ → ℕ → List ℕ → List ℕ → List Slot → Case
decides_for farm query decision numbers text slots = record {
  call = authorization query decision farm;
  registry = sample_registry;
  store = holding 0 [];
  clock = 1000;
  random = count_up 20 0;
  room = 1024;
  numbers = numbers;
  text = text;
  after = holding 1000 slots;
}

abbrev decides : List ℕ → ℕ → List ℕ → List ℕ → List Slot → Case
decides query decision numbers text slots = decides_for 7 query decision numbers text slots

-- an allowed query that is answered with a page
abbrev page_on : List ℕ → ℕ → Case
page_on query number = decides query 1 (number ∷ 0 ∷ []) [] []

abbrev page : String → ℕ → Case
page query number = page_on (bytes query) number

-- one that is sent back to client 0 with an error word, which has a number over C; `state` is what stands behind the word
abbrev error_for : ℕ → List ℕ → ℕ → ℕ → String → String → Case
error_for farm query decision number word state =
    decides_for farm query decision (0 ∷ number ∷ []) (bytes "https://client.example.com/cb?error=" ++ bytes word ++ bytes state) []

abbrev error_on : List ℕ → ℕ → ℕ → String → String → Case
error_on query decision number word state = error_for 7 query decision number word state

abbrev invalid_request : String → String → Case
invalid_request query state = error_on (bytes query) 1 1 "invalid_request" state

abbrev unsupported_response_type : String → String → Case
unsupported_response_type query state = error_on (bytes query) 1 6 "unsupported_response_type" state

abbrev invalid_scope : String → String → Case
invalid_scope query state = error_on (bytes query) 1 4 "invalid_scope" state

abbrev denied : String → ℕ → String → Case
denied query decision state = error_on (bytes query) decision 7 "access_denied" state

-- one for farm 0, by the owner's decision
abbrev farmless : String → ℕ → ℕ → String → String → Case
farmless query decision number word state = error_for 0 (bytes query) decision number word state

-- a code of client 0, by its kind and scope, and what stands behind it in the location; and one of client 1
abbrev code_on : List ℕ → ℕ → ℕ → List ℕ → Case
code_on query kind scope state =
    decides query 1 (0 ∷ 0 ∷ []) (bytes "https://client.example.com/cb?code=000102030405060708090a0b0c0d0e0f10111213" ++ state)
    (slot kind (count_up 20 0) 0 7 scope 1600 ∷ [])

abbrev code : String → ℕ → ℕ → String → Case
code query kind scope state = code_on (bytes query) kind scope (bytes state)

abbrev barn_code : List ℕ → String → Case
barn_code query state =
    decides query 1 (0 ∷ 0 ∷ []) (bytes "https://barn.example/r?x=1&code=000102030405060708090a0b0c0d0e0f10111213" ++ bytes state)
    (linked challenge (slot 6 (count_up 20 0) 1 7 1 1600) ∷ [])

-- a query of client 1, n bytes in all
abbrev long_query : ℕ → List ℕ
long_query n = let start = bytes "response_type=code&client_id=barnapp" ++ challenging ++ bytes "&x=" in start ++ replicate (n - length start) 97

-- ---- pages

pub pages : List Row
unfolding text_definitions registry_definitions slot_definitions decision_definitions authorization_definitions
pages =
    -- 5: over 4,096 bytes
    row (page_on (long_query 4097) 5) refl
    -- malformed: in a value, in a name, in a piece that has no value or an unknown name; cut short, or no hex digit
    ∷ row (page "response_type=code&client_id=s6BhdRkqt3&state=a%4" 5) refl
    ∷ row (page "response_type=code&client_id=s6BhdRkqt3&state=%" 5) refl
    ∷ row (page "response_type=code&client_id=s6BhdRkqt3&state=%4g" 5) refl
    ∷ row (page "response_type=code&client_id=s6BhdRkqt3&a=%g4" 5) refl
    ∷ row (page "%zz&response_type=code&client_id=s6BhdRkqt3" 5) refl
    ∷ row (page "response_type=code&client_id=s6BhdRkqt3&b%=" 5) refl
    -- both 5 and 6, and 6 alone
    ∷ row (page "response_type=code&client_id=other&a=%4" 5) refl
    ∷ row (page "response_type=code&client_id=other&a=%41" 6) refl
    -- 6: client_id missing, empty, repeated, unknown
    ∷ row (page "" 6) refl
    ∷ row (page "response_type=code" 6) refl
    ∷ row (page "response_type=code&client_id=" 6) refl
    ∷ row (page "response_type=code&client_id" 6) refl
    ∷ row (page "response_type=code&client_id=s6BhdRkqt3&client_id=s6BhdRkqt3" 6) refl
    ∷ row (page "response_type=code&client_id=s6BhdRkqt3&client_id=barnapp" 6) refl
    ∷ row (page "response_type=code&client_id=S6BhdRkqt3" 6) refl
    ∷ row (page "response_type=code&client_id=barnap" 6) refl
    ∷ row (page "response_type=code&client_id=barnappx" 6) refl
    -- redirect_uri repeated, each the registered one
    ∷ row (page "response_type=code&client_id=barnapp&redirect_uri=https://barn.example/r?x=1&redirect_uri=https://barn.example/r?x=1" 6) refl
    -- both 6 and 7, and 7 alone
    ∷ row (page "response_type=code&client_id=s6BhdRkqt3&redirect_uri=https://a.example/&redirect_uri=https://a.example/" 6) refl
    ∷ row (page "response_type=code&client_id=s6BhdRkqt3&redirect_uri=https://a.example/" 7) refl
    -- 7: not byte-equal: shorter, longer, in another case, that of another client
    ∷ row (page "response_type=code&client_id=s6BhdRkqt3&redirect_uri=https://client.example.com/c" 7) refl
    ∷ row (page "response_type=code&client_id=s6BhdRkqt3&redirect_uri=https://client.example.com/cb/" 7) refl
    ∷ row (page "response_type=code&client_id=s6BhdRkqt3&redirect_uri=https://client.example.com/CB" 7) refl
    ∷ row (page "response_type=code&client_id=barnapp&redirect_uri=https://client.example.com/cb" 7) refl
    -- both 7 and `invalid_request`, and the second alone
    ∷ row (page "client_id=s6BhdRkqt3&redirect_uri=https://a.example/&state=xyz" 7) refl
    ∷ row (invalid_request "client_id=s6BhdRkqt3&redirect_uri=https://client.example.com/cb&state=xyz" "&state=xyz") refl
    ∷ []

-- ---- redirects with an error word

-- what a code computes by is unfolded too, so that a definition that grants one computes to another answer
pub errors : List Row
unfolding text_definitions registry_definitions slot_definitions decision_definitions authorization_definitions
errors =
    -- `invalid_request`: response_type missing, empty, repeated
    row (invalid_request "client_id=s6BhdRkqt3" "") refl
    ∷ row (invalid_request "client_id=s6BhdRkqt3&response_type=&state=xyz" "&state=xyz") refl
    ∷ row (invalid_request "response_type=code&client_id=s6BhdRkqt3&state=xyz&response_type=code" "&state=xyz") refl
    -- scope or state repeated: a state that came twice is not sent back
    ∷ row (invalid_request "response_type=code&client_id=s6BhdRkqt3&scope=power&state=xyz&scope=power" "&state=xyz") refl
    ∷ row (invalid_request "response_type=code&client_id=s6BhdRkqt3&state=xyz&state=xyz" "") refl
    -- a state of 201 bytes, or with a byte below 20 hex or above 7E: it is not sent back
    ∷ row (error_on (bytes "response_type=code&client_id=s6BhdRkqt3&state=" ++ replicate 201 120) 1 1 "invalid_request" "") refl
    ∷ row (invalid_request "response_type=code&client_id=s6BhdRkqt3&state=xy%1Fz" "") refl
    ∷ row (invalid_request "response_type=code&client_id=s6BhdRkqt3&state=%7F" "") refl
    ∷ row (invalid_request "response_type=code&client_id=s6BhdRkqt3&state=%C2%A3" "") refl
    -- both `invalid_request` and `unsupported_response_type`, and the second alone
    ∷ row (invalid_request "response_type=token&client_id=s6BhdRkqt3&scope=power&scope=power" "") refl
    ∷ row (unsupported_response_type "response_type=token&client_id=s6BhdRkqt3&scope=power" "") refl
    -- `unsupported_response_type`: any but `code`, to the byte
    ∷ row (unsupported_response_type "response_type=Code&client_id=s6BhdRkqt3&state=xyz" "&state=xyz") refl
    ∷ row (unsupported_response_type "response_type=code+token&client_id=s6BhdRkqt3" "") refl
    ∷ row (unsupported_response_type "response_type=cod&client_id=s6BhdRkqt3" "") refl
    -- both `unsupported_response_type` and `invalid_scope`, and the second alone
    ∷ row (unsupported_response_type "response_type=token&client_id=s6BhdRkqt3&scope=cows" "") refl
    ∷ row (invalid_scope "response_type=code&client_id=s6BhdRkqt3&scope=cows" "") refl
    -- `invalid_scope`: bad form, unknown name, beyond the client's set
    ∷ row (invalid_scope "response_type=code&client_id=s6BhdRkqt3&scope=power++bill&state=xyz" "&state=xyz") refl
    ∷ row (invalid_scope "response_type=code&client_id=s6BhdRkqt3&scope=+power" "") refl
    ∷ row (invalid_scope "response_type=code&client_id=s6BhdRkqt3&scope=power+" "") refl
    ∷ row (invalid_scope "response_type=code&client_id=s6BhdRkqt3&scope=+" "") refl
    ∷ row (invalid_scope "response_type=code&client_id=s6BhdRkqt3&scope=power%09bill" "") refl
    ∷ row (invalid_scope "response_type=code&client_id=s6BhdRkqt3&scope=pow" "") refl
    ∷ row (invalid_scope "response_type=code&client_id=s6BhdRkqt3&scope=Power" "") refl
    ∷ row (invalid_scope "response_type=code&client_id=s6BhdRkqt3&scope=power+solar" "") refl
    ∷ row (invalid_scope "response_type=code&client_id=s6BhdRkqt3&scope=tariff" "") refl
    -- for client 1, whose set is 1 and whose address has a `?`
    ∷ row (decides (bytes "response_type=code&client_id=barnapp&scope=power+peak&state=x" ++ challenging) 1 (0 ∷ 4 ∷ [])
    (bytes "https://barn.example/r?x=1&error=invalid_scope&state=x") []) refl
    -- both `invalid_scope` and `access_denied`, and the second alone
    ∷ row (error_on (bytes "response_type=code&client_id=s6BhdRkqt3&scope=cows") 0 4 "invalid_scope" "") refl
    ∷ row (denied "response_type=code&client_id=s6BhdRkqt3&scope=bill" 0 "") refl
    -- `access_denied`: any decision but 1
    ∷ row (denied "response_type=code&client_id=s6BhdRkqt3&state=xyz" 2 "&state=xyz") refl
    ∷ row (denied "response_type=code&client_id=s6BhdRkqt3&state=xyz" (2 ^ 64 - 1) "&state=xyz") refl
    ∷ row (denied "response_type=code&client_id=s6BhdRkqt3&state=xyz" 257 "&state=xyz") refl
    -- "an owner's decision for farm 0 is from now on `access_denied`", whatever it is; farm 1 has its code (`held` of `AuthorizationStores`)
    ∷ row (farmless "response_type=code&client_id=s6BhdRkqt3&state=xyz" 1 7 "access_denied" "&state=xyz") refl
    ∷ row (farmless "response_type=code&client_id=s6BhdRkqt3" 1 7 "access_denied" "") refl
    ∷ row (farmless "response_type=code&client_id=s6BhdRkqt3&state=xyz" 0 7 "access_denied" "&state=xyz") refl
    ∷ row (farmless "response_type=code&client_id=s6BhdRkqt3&state=xyz" 2 7 "access_denied" "&state=xyz") refl
    ∷ row (decides_for 0 (bytes "response_type=code&client_id=barnapp&state=x" ++ challenging) 1 (0 ∷ 7 ∷ [])
    (bytes "https://barn.example/r?x=1&error=access_denied&state=x") []) refl
    -- in the place of his denial: each reason before it and farm 0
    ∷ row (farmless "response_type=code&client_id=s6BhdRkqt3&scope=cows&state=xyz" 1 4 "invalid_scope" "&state=xyz") refl
    ∷ row (farmless "response_type=token&client_id=s6BhdRkqt3" 1 6 "unsupported_response_type" "") refl
    ∷ row (farmless "client_id=s6BhdRkqt3" 1 1 "invalid_request" "") refl
    ∷ row (decides_for 0 (bytes "response_type=code&client_id=other") 1 (6 ∷ 0 ∷ []) [] []) refl
    ∷ []

-- ---- codes

pub codes : List Row
unfolding text_definitions registry_definitions slot_definitions decision_definitions authorization_definitions
codes =
    -- a query of 4,096 bytes is read
    row (barn_code (long_query 4096) "") refl
    -- without redirect_uri of kind 1, with it of kind 2; one without value is dropped
    ∷ row (code "response_type=code&client_id=s6BhdRkqt3" 1 11 "") refl
    ∷ row (code "response_type=code&client_id=s6BhdRkqt3&redirect_uri=https://client.example.com/cb" 2 11 "") refl
    ∷ row (code "response_type=code&client_id=s6BhdRkqt3&redirect_uri=" 1 11 "") refl
    -- names and values are decoded, hex digits of either case
    ∷ row (code "%72esponse_type=c%6Fde&client%5fid=s6BhdRkqt3&redirect_uri=https%3a%2f%2Fclient.example.com%2Fcb" 2 11 "") refl
    -- pieces without value are dropped before repeats are counted, empty ones are skipped, the order is free
    ∷ row
    (code "&&client_id=&client_id=s6BhdRkqt3&state&state=&state=x&redirect_uri&=y&response_type&response_type=code&scope=&" 1 11 "&state=x") refl
    -- unknown names are ignored, repeated or not
    ∷ row (code "response_type=code&client_id=s6BhdRkqt3&a=1&a=2&State=y&code=1&code=2&grant_type=x&grant_type=x&state=xyz" 1 11 "&state=xyz") refl
    -- no scope is the client's set; else the names asked for, order and repeats don't matter
    ∷ row (code "response_type=code&client_id=s6BhdRkqt3&scope=power" 1 1 "") refl
    ∷ row (code "response_type=code&client_id=s6BhdRkqt3&scope=bill+power" 1 9 "") refl
    ∷ row (code "response_type=code&client_id=s6BhdRkqt3&scope=power%20bill+power" 1 9 "") refl
    ∷ row (code "response_type=code&client_id=s6BhdRkqt3&scope=bill+peak+power" 1 11 "") refl
    -- the state is written anew as a form: letters, digits and - . _ * stand, a space is +, all else % and two upper-case digits
    ∷ row
    (code "response_type=code&client_id=s6BhdRkqt3&state=a%20b+c%2Bd%2f-._*~%25%26%3d=&scope=peak" 1 2 "&state=a+b+c%2Bd%2F-._*%7E%25%26%3D%3D")
    refl
    -- a state of 200 bytes
    ∷ row
    (code_on (bytes "response_type=code&client_id=s6BhdRkqt3&state=" ++ replicate 200 120) 1 11 (bytes "&state=" ++ replicate 200 120)) refl
    -- the first and the last byte that a state may have
    ∷ row (code "response_type=code&client_id=s6BhdRkqt3&state=+" 1 11 "&state=+") refl
    ∷ row (code "response_type=code&client_id=s6BhdRkqt3&state=~" 1 11 "&state=%7E") refl
    -- behind an address with a `?` comes `&`
    ∷ row (barn_code (bytes "response_type=code&client_id=barnapp" ++ challenging) "") refl
    ∷ row (barn_code (bytes "response_type=code&client_id=barnapp&scope=power&state=x" ++ challenging) "&state=x") refl
    ∷ []
