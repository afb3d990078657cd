-- The cases of codes with a challenge (RFC 7636, method S256): one on each side of every sentence of document 02's fifth request that decides
-- something at the authorization or the token endpoint.
--
-- Clients, slots, answers and calls are those of `TokenCases`: client 0 is confidential and client 1, barnapp, public. Where a test is about
-- one fault of a challenge or of a verifier, everything else about the call is right, the digest too, so that a definition without the
-- clause grants it. Which links a store may have is in `UnfitCases`.
--
-- In order: queries; their cases: faults, their place among the reasons, codes; codes with a challenge and calls that present them; their
-- cases: verifiers that answer, verifiers that don't, reasons before and after that one, where a verifier is ignored, and what such a code
-- is to other calls; the characters of a verifier.
-- Assumes nothing.
use Prim.Native.Nat.{ℕ}
use Prim.Native.String.{String}
use mathlib.Core.Path.{◌≡◌, refl}
use mathlib.Core.Bool.{Bool, true, cond}
use mathlib.Core.List.{List, [], ◌∷◌, ◌++◌}
use lib.ListN.{take, drop, replicate}
use Rattle.octets.specs.Text.{bytes}
use Rattle.octets.specs.BigEndian.{big_endian_bytes, big_endian_from}
use Rattle.client_registry.specs.Sample.{sample_confidential, sample_public}
use Rattle.token_store.specs.Store.{link_to, free_slot}
use Rattle.token_store.specs.declared.Slot.{Slot}
use Rattle.protocol.specs.Authorization.{challenge_given}
use Rattle.protocol.specs.Token.{is_unreserved}
use Rattle.protocol.proofs.Computing.{text_definitions, slot_definitions, digest_definitions, decision_definitions, authorization_definitions, client_definitions, token_definitions, credentials_definitions, check_definitions}
use Rattle.protocol.proofs.Cases.{authorization, ShortStore, slot, linked, spent, challenge, challenging, count_up, Case, Row}
use Rattle.protocol.proofs.TokenRows.{agrees_on, row_on}
use Rattle.protocol.proofs.TokenCases.{clients, registry, registry-fit, registry-clients, handle, code, unbound_code, refresh_token, twin, access, refresh, renewed, some, crowded, at, held, held_beside, invalid_request, challenged, invalid_grant, no_room, clash, both_tokens, access_alone, two_handles, next_handles, Visit, row, call, refused, basic, exchange, addressless, barn, refreshing, new_access, new_refresh}
use Rattle.protocol.proofs.CredentialsCases.{for_itself, wrong_secret, own_token, checked}

-- ---- queries: at clock 1000, allowed for farm 7, with the random bytes 00 to 13 hex

-- a query and the owner's decision on a store, what is answered, and the store after
record Asked : Type 0 where
  store : ShortStore
  query : List ℕ
  decision : ℕ
  numbers : List ℕ
  text : List ℕ
  after : ShortStore

abbrev case_of : Asked → Case
case_of a = record {
  call = authorization a.query a.decision 7;
  registry = registry;
  store = a.store;
  clock = 1000;
  random = handle 0;
  room = 1024;
  numbers = a.numbers;
  text = a.text;
  after = a.after;
}

abbrev asked : (a : Asked) → agrees_on clients (case_of a) ≡ true → Row
asked a agreed = row_on (case_of a) registry-fit clients registry-clients agreed

abbrev asks : ShortStore → List ℕ → ℕ → List ℕ → List ℕ → ShortStore → Asked
asks store query decision numbers text after =
    record { store = store; query = query; decision = decision; numbers = numbers; text = text; after = after }

-- client 0's query, and barnapp's, with this behind them
abbrev query : List ℕ → List ℕ
query more = bytes "response_type=code&client_id=s6BhdRkqt3" ++ more

abbrev barn_query : List ℕ → List ℕ
barn_query more = bytes "response_type=code&client_id=barnapp" ++ more

-- an allowed or denied query that is sent back to client 0 with an error word, which has a number over C, and to barnapp
abbrev sent_back : List ℕ → ℕ → ℕ → String → Asked
sent_back query decision number text =
    asks (some []) query decision (0 ∷ number ∷ []) (bytes "https://client.example.com/cb?error=" ++ bytes text) (some [])

abbrev barn_sent_back : List ℕ → ℕ → ℕ → String → Asked
barn_sent_back query decision number text =
    asks (some []) query decision (0 ∷ number ∷ []) (bytes "https://barn.example/r?x=1&error=" ++ bytes text) (some [])

-- `invalid_request` "by redirect", for what stands in the query, and for the text of a challenge with the right method
abbrev faulty : String → Asked
faulty more = sent_back (query (bytes more)) 1 1 "invalid_request"

abbrev barn_faulty : String → Asked
barn_faulty more = barn_sent_back (barn_query (bytes more)) 1 1 "invalid_request"

abbrev bad_text : String → Asked
bad_text text = sent_back (query (bytes "&code_challenge_method=S256&code_challenge=" ++ bytes text)) 1 1 "invalid_request"

-- a code of client 0, in a store from slots to slots
abbrev issues_in : List ℕ → ShortStore → ShortStore → Asked
issues_in more before after =
    asks before (query more) 1 (0 ∷ 0 ∷ []) (bytes "https://client.example.com/cb?code=000102030405060708090a0b0c0d0e0f10111213") after

-- by its kind and link, and one of barnapp
abbrev issues : List ℕ → ℕ → List ℕ → Asked
issues more kind link = issues_in more (some []) (some (linked link (slot kind (handle 0) 0 7 11 1600) ∷ []))

abbrev barn_issues : List ℕ → ℕ → List ℕ → Asked
barn_issues more kind link =
    asks (some []) (barn_query more) 1 (0 ∷ 0 ∷ []) (bytes "https://barn.example/r?x=1&code=000102030405060708090a0b0c0d0e0f10111213")
    (some (linked link (slot kind (handle 0) 1 7 1 1600) ∷ []))

-- none is: no room, a clash
abbrev issues_none : ShortStore → ℕ → String → Asked
issues_none store number word =
    asks store (query challenging) 1 (0 ∷ number ∷ []) (bytes "https://client.example.com/cb?error=" ++ bytes word) store

-- ---- the table of queries

pub challenge_cases : List Row
unfolding text_definitions slot_definitions decision_definitions authorization_definitions sample_confidential sample_public
challenge_cases =
    -- ---- `invalid_request` by redirect. "A challenge with another or no method": none, an empty one, `plain`, `s256`, a byte less, a byte
    -- more; "Repeats are refused as for scope."
    asked (faulty "&code_challenge=E9Melhoa2OwvFrEMTJguCHaoeK1t8URWbuGJSstw-cM") refl
    ∷ asked (faulty "&code_challenge=E9Melhoa2OwvFrEMTJguCHaoeK1t8URWbuGJSstw-cM&code_challenge_method=") refl
    ∷ asked (faulty "&code_challenge=E9Melhoa2OwvFrEMTJguCHaoeK1t8URWbuGJSstw-cM&code_challenge_method=plain") refl
    ∷ asked (faulty "&code_challenge=E9Melhoa2OwvFrEMTJguCHaoeK1t8URWbuGJSstw-cM&code_challenge_method=s256") refl
    ∷ asked (faulty "&code_challenge=E9Melhoa2OwvFrEMTJguCHaoeK1t8URWbuGJSstw-cM&code_challenge_method=S25") refl
    ∷ asked (faulty "&code_challenge=E9Melhoa2OwvFrEMTJguCHaoeK1t8URWbuGJSstw-cM&code_challenge_method=S256+") refl
    ∷ asked
    (faulty "&code_challenge=E9Melhoa2OwvFrEMTJguCHaoeK1t8URWbuGJSstw-cM&code_challenge_method=S256&code_challenge_method=S256") refl
    ∷ asked (barn_faulty "&code_challenge=E9Melhoa2OwvFrEMTJguCHaoeK1t8URWbuGJSstw-cM") refl
    ∷ asked (barn_faulty "&code_challenge=E9Melhoa2OwvFrEMTJguCHaoeK1t8URWbuGJSstw-cM&code_challenge_method=plain") refl
    -- "or a method without challenge": `S256`, `plain`, twice; beside an empty challenge
    ∷ asked (faulty "&code_challenge_method=S256") refl
    ∷ asked (faulty "&code_challenge_method=plain") refl
    ∷ asked (faulty "&code_challenge_method=S256&code_challenge_method=S256") refl
    ∷ asked (faulty "&code_challenge_method=S256&code_challenge=") refl
    ∷ asked (barn_faulty "&code_challenge_method=S256") refl
    -- "or a challenge that isn't 43 base64url characters with zero spare bits": 42 of them, 44, one with padding, `+` and `/` of the other
    -- alphabet, `=` and a space in its place, the last character with the first, the last and both spare bits
    ∷ asked (bad_text "E9Melhoa2OwvFrEMTJguCHaoeK1t8URWbuGJSstw-c") refl
    ∷ asked (bad_text "E9Melhoa2OwvFrEMTJguCHaoeK1t8URWbuGJSstw-cMA") refl
    ∷ asked (bad_text "E9Melhoa2OwvFrEMTJguCHaoeK1t8URWbuGJSstw-cM%3D") refl
    ∷ asked (bad_text "E9Melhoa2OwvFrEMTJguCHaoeK1t8URWbuGJSstw%2BcM") refl
    ∷ asked (bad_text "E9Melhoa2OwvFrEMTJguCHaoeK1t8URWbuGJSstw/cM") refl
    ∷ asked (bad_text "E9Melhoa2OwvFrEMTJguCHaoeK1t8URWbuGJSstw-c=") refl
    ∷ asked (bad_text "E9Melhoa2OwvFrEMTJguCHaoeK1t8URWbuGJSstw+cM") refl
    ∷ asked (bad_text "E9Melhoa2OwvFrEMTJguCHaoeK1t8URWbuGJSstw-cN") refl
    ∷ asked (bad_text "E9Melhoa2OwvFrEMTJguCHaoeK1t8URWbuGJSstw-cO") refl
    ∷ asked (bad_text "E9Melhoa2OwvFrEMTJguCHaoeK1t8URWbuGJSstw-cP") refl
    ∷ asked (bad_text "x") refl
    -- a challenge that is repeated, each time the same or not, with the method or without
    ∷ asked
    (faulty "&code_challenge=E9Melhoa2OwvFrEMTJguCHaoeK1t8URWbuGJSstw-cM&code_challenge=E9Melhoa2OwvFrEMTJguCHaoeK1t8URWbuGJSstw-cM") refl
    ∷ asked
    (bad_text "E9Melhoa2OwvFrEMTJguCHaoeK1t8URWbuGJSstw-cM&code_challenge=E9Melhoa2OwvFrEMTJguCHaoeK1t8URWbuGJSstw-cM") refl
    ∷ asked (bad_text "E9Melhoa2OwvFrEMTJguCHaoeK1t8URWbuGJSstw-cM&code_challenge=x") refl
    -- "Public clients must send one, else `invalid_request` likewise": none, and an empty one
    ∷ asked (barn_faulty "") refl
    ∷ asked (barn_faulty "&code_challenge=&code_challenge_method=") refl
    ∷ asked (barn_faulty "&redirect_uri=https://barn.example/r?x=1&code_challenge&Code_challenge=E9Melhoa2OwvFrEMTJguCHaoeK1t8URWbuGJSstw-cM") refl
    -- ---- behind refusal 7: both apply, and the first is mended
    ∷ asked (asks (some []) (barn_query (bytes "&redirect_uri=https://a.example/")) 1 (7 ∷ 0 ∷ []) [] (some [])) refl
    ∷ asked (barn_faulty "&redirect_uri=https://barn.example/r?x=1") refl
    -- before `unsupported_response_type`, `invalid_scope` and `access_denied`: both apply, and the first is mended
    ∷ asked (barn_sent_back (bytes "response_type=token&client_id=barnapp") 1 1 "invalid_request") refl
    ∷ asked (barn_sent_back (bytes "response_type=token&client_id=barnapp" ++ challenging) 1 6 "unsupported_response_type") refl
    ∷ asked (faulty "&scope=cows&code_challenge_method=S256") refl
    ∷ asked (sent_back (query (bytes "&scope=cows" ++ challenging)) 1 4 "invalid_scope") refl
    ∷ asked (barn_sent_back (barn_query []) 0 1 "invalid_request") refl
    ∷ asked (barn_sent_back (barn_query challenging) 0 7 "access_denied") refl
    -- the state is sent back, unless it is unsound itself
    ∷ asked (sent_back (query (bytes "&code_challenge_method=S256&state=xyz")) 1 1 "invalid_request&state=xyz") refl
    ∷ asked (faulty "&code_challenge_method=S256&state=%7F") refl
    -- ---- codes: "Codes with a challenge are kinds 6 and 7 (without and with bound redirect) and hold its 32 bytes"
    ∷ asked (barn_issues challenging 6 challenge) refl
    ∷ asked (barn_issues (bytes "&redirect_uri=https://barn.example/r?x=1" ++ challenging) 7 challenge) refl
    ∷ asked (issues challenging 6 challenge) refl
    ∷ asked (issues (challenging ++ bytes "&redirect_uri=https%3A%2F%2Fclient.example.com%2Fcb") 7 challenge) refl
    -- a confidential client need not send one: none, and an empty one
    ∷ asked (issues [] 1 (replicate 32 0)) refl
    ∷ asked (issues (bytes "&code_challenge=&code_challenge_method=&code_challenge_method") 1 (replicate 32 0)) refl
    ∷ asked (issues (bytes "&redirect_uri=https://client.example.com/cb&code_challenge=") 2 (replicate 32 0)) refl
    -- names and values are decoded; what has no value is dropped before repeats are counted, and other names are ignored
    ∷ asked
    (issues
    (bytes "&code%5fchallenge=%459Melhoa2OwvFrEMTJguCHaoeK1t8URWbuGJSstw%2DcM&code_challenge=&code_challenge_method=S%3256"
    ++ bytes "&code_challenge_method&code_verifier=x&code_verifier=x&code_challenges=y")
    6 challenge) refl
    -- the smallest digest and the largest: the digits `-` and `_` are the alphabet's
    ∷ asked (barn_issues (bytes "&code_challenge_method=S256&code_challenge=AAAAAAAAAAAAAAAAAAAAAAAAAAAAAAAAAAAAAAAAAAA") 6 (replicate 32 0)) refl
    ∷ asked (barn_issues (bytes "&code_challenge_method=S256&code_challenge=__________________________________________8") 6 (replicate 32 255)) refl
    -- ---- at stores with such codes: one that is live is no room, one that has run out is, and nothing is left of its challenge
    ∷ asked (issues_none (crowded (linked challenge (slot 6 (handle 60) 1 7 1 1001) ∷ [])) 8 "temporarily_unavailable") refl
    ∷ asked
    (issues_in [] (crowded (linked challenge (slot 7 (handle 60) 1 7 1 1000) ∷ [])) (crowded (slot 1 (handle 0) 0 7 11 1600 ∷ []))) refl
    -- its handle is that of a slot in use; the start of its challenge is no handle
    ∷ asked (issues_none (some (linked challenge (slot 6 (handle 0) 1 7 1 1600) ∷ [])) 9 "server_error") refl
    ∷ asked (issues_none (some (linked challenge (slot 7 (handle 0) 1 7 1 1) ∷ [])) 9 "server_error") refl
    ∷ asked
    (issues_in [] (some (linked (count_up 32 0) (slot 6 (handle 60) 1 7 1 1600) ∷ []))
    (some (linked (count_up 32 0) (slot 6 (handle 60) 1 7 1 1600) ∷ slot 1 (handle 0) 0 7 11 1600 ∷ []))) refl
    ∷ []

-- ---- codes with a challenge, and calls that present them

-- of client 0, with the handle of the visit's code, and of barnapp; by kind and challenge
abbrev rfc_code : ℕ → List ℕ → Slot
rfc_code kind challenge = linked challenge (slot kind (handle 0) 0 7 11 1600)

abbrev barn_code : ℕ → List ℕ → Slot
barn_code kind challenge = linked challenge (slot kind (handle 60) 1 8 1 1600)

-- what a body says to answer a challenge, and the answer to the RFC's, "code_verifier = dBjftJeZ4CVP-mB92K27uhbUJU1p1r_wW1gFWFOEjXk"
abbrev verifying : String → List ℕ
verifying verifier = bytes "&code_verifier=" ++ bytes verifier

abbrev answering : List ℕ
answering = verifying "dBjftJeZ4CVP-mB92K27uhbUJU1p1r_wW1gFWFOEjXk"

-- a code alone in its store is exchanged: it is kept as spent, with its challenge gone; and is not: every slot is as before
abbrev answers : Slot → List ℕ → List ℕ → String → Visit
answers s header body scope =
    call (some (s ∷ [])) 1599 two_handles header body (both_tokens scope)
    (at 1599 (some (spent s ∷ access s 1599 (handle 32) ∷ refresh s 1599 (handle 52) ∷ [])))

abbrev fails : Slot → List ℕ → List ℕ → Visit
fails s header body = refused (some (s ∷ [])) 1599 two_handles header body invalid_grant

-- barnapp's exchange of its code with a challenge
abbrev barn_fails : List ℕ → List ℕ → Visit
barn_fails challenge more = fails (barn_code 6 challenge) [] (barn ++ more)

-- the visit's code was exchanged and is shown again: of the slots of a store its tokens are cleared
abbrev withdraws : List ℕ → List Slot → List Slot → Visit
withdraws more before after = call (some before) 1599 next_handles basic (addressless ++ more) invalid_grant (at 1599 (some after))

-- a refresh and a client's request for itself, with this behind them
abbrev renews : List ℕ → Visit
renews more =
    call held 1599 two_handles basic (refreshing ++ more) (access_alone "power peak bill")
    (at 1599 (held_beside (renewed refresh_token 1599 (handle 32) 11)))

abbrev grants : List ℕ → Visit
grants more = call held 1599 two_handles basic (for_itself ++ more) (access_alone "power peak bill") (at 1599 (held_beside (own_token 0 1599 11)))

-- 128 characters, each that is unreserved among them
abbrev longest : String
longest =
    "ABCDEFGHIJKLMNOPQRSTUVWXYZabcdefghijklmnopqrstuvwxyz0123456789-._~~_.-ABCDEFGHIJKLMNOPQRSTUVWXYZabcdefghijklmnopqrstuvwxyz012345"

-- ---- the table of exchanges

pub verifier_cases : List Row
unfolding text_definitions slot_definitions digest_definitions decision_definitions client_definitions token_definitions credentials_definitions check_definitions sample_confidential sample_public challenge_given big_endian_from
verifier_cases =
    -- ---- the RFC's example, a public client's code of kind 6, for which the redirect_uri is ignored; a confidential client's of kind 7, with a
    -- verifier of 128 characters, the first of them an escape
    row (answers (barn_code 6 challenge) [] (barn ++ bytes "&redirect_uri=https%3A%2F%2Fevil.example%2F" ++ answering) "power") refl
    ∷ row
    (answers (rfc_code 7 (big_endian_bytes 32 0x4bf7ec7b_4325db88_448506cf_1402fdf2_749003ee_b0ef47cb_35bae5a7_4a80bf47)) basic
    (exchange ++ verifying "%41" ++ drop 1 (bytes longest)) "power peak bill") refl
    -- ---- `invalid_grant`: "of another digest". The challenge's own text as verifier; a challenge of which the last byte is another
    ∷ row (barn_fails challenge (verifying "E9Melhoa2OwvFrEMTJguCHaoeK1t8URWbuGJSstw-cM")) refl
    ∷ row (fails (rfc_code 7 (take 31 challenge ++ 0xc4 ∷ [])) basic (exchange ++ answering)) refl
    -- "missing", with no value; also where the redirect is right
    ∷ row (barn_fails challenge []) refl
    ∷ row (barn_fails challenge (verifying "")) refl
    ∷ row (barn_fails (replicate 32 0) []) refl
    ∷ row (fails (rfc_code 7 challenge) basic exchange) refl
    -- "malformed (not 43 to 128 unreserved characters)", though the digest is right: 42, 129, with a `*`
    ∷ row
    (barn_fails (big_endian_bytes 32 0x3331ae56_6b827e2c_a1b40f13_e1ef1605_55256d6d_4ab40acd_e1293e9f_e3d15ffb)
    (verifying "dBjftJeZ4CVP-mB92K27uhbUJU1p1r_wW1gFWFOEjX")) refl
    ∷ row
    (barn_fails (big_endian_bytes 32 0x0abedad5_77d6d238_2b6783c2_3b94b9f0_f54072eb_45296a38_bd05ffc6_82dae955)
    (verifying longest ++ bytes "6")) refl
    ∷ row
    (barn_fails (big_endian_bytes 32 0x5fd82ebd_ff35de78_bf1cc64f_1e0f84fa_f58201cd_33bd4b66_2e222a83_d08a5d2f)
    (verifying "dBjftJeZ4CVP*mB92K27uhbUJU1p1r_wW1gFWFOEjXk")) refl
    -- kind 7 asks for the redirect_uri too: missing, another
    ∷ row (fails (rfc_code 7 challenge) basic (addressless ++ answering)) refl
    ∷ row (fails (rfc_code 7 challenge) basic (addressless ++ bytes "&redirect_uri=https%3A%2F%2Fevil.example%2F" ++ answering)) refl
    -- the right verifier for a code that has run out, or is another client's
    ∷ row (refused (some (barn_code 6 challenge ∷ [])) 1600 two_handles [] (barn ++ answering) invalid_grant) refl
    ∷ row (fails (rfc_code 6 challenge) [] (addressless ++ bytes "&client_id=barnapp" ++ answering)) refl
    -- before 503 and 500: both apply; with a code that asks for no verifier, to which the second alone does
    ∷ row (refused (crowded (barn_code 6 challenge ∷ [])) 1599 two_handles [] barn invalid_grant) refl
    ∷ row (refused (crowded (unbound_code ∷ [])) 1599 two_handles [] (barn ++ answering) no_room) refl
    ∷ row (refused (some (barn_code 6 challenge ∷ [])) 1599 (handle 60 ++ handle 52) [] barn invalid_grant) refl
    ∷ row (refused (some (unbound_code ∷ [])) 1599 (handle 60 ++ handle 52) [] (barn ++ answering) clash) refl
    -- ---- "a verifier for a code without challenge, a spent code or a refresh is ignored": unbound and bound, a public client's codes too
    ∷ row (answers (slot 1 (handle 0) 0 7 11 1600) basic (addressless ++ verifying "x") "power peak bill") refl
    ∷ row (answers code basic (exchange ++ answering) "power peak bill") refl
    ∷ row (answers unbound_code [] (barn ++ verifying "*") "power") refl
    ∷ row (answers unbound_code [] (barn ++ answering) "power") refl
    ∷ row (answers unbound_code [] barn "power") refl
    -- a refresh, and a client's request for itself
    ∷ row (renews (verifying "x")) refl
    ∷ row (renews (answering ++ verifying "")) refl
    ∷ row (grants (verifying "x")) refl
    -- a code that was exchanged: the right one, none, a malformed one
    ∷ row (withdraws answering (spent (rfc_code 6 challenge) ∷ new_access ∷ new_refresh ∷ []) (spent (rfc_code 6 challenge) ∷ [])) refl
    ∷ row (withdraws [] (spent (rfc_code 7 challenge) ∷ new_access ∷ []) (spent (rfc_code 7 challenge) ∷ [])) refl
    ∷ row (withdraws (verifying "x") (new_refresh ∷ spent (rfc_code 6 challenge) ∷ []) (free_slot ∷ spent (rfc_code 6 challenge) ∷ [])) refl
    -- ---- "Repeats are refused as for scope.": `invalid_request` in every grant, and before `invalid_client`; also of a code that was exchanged
    ∷ row (refused (some (rfc_code 6 challenge ∷ [])) 1599 two_handles basic (addressless ++ answering ++ answering) invalid_request) refl
    ∷ row (refused (some (code ∷ [])) 1599 two_handles basic (exchange ++ verifying "x" ++ verifying "y") invalid_request) refl
    ∷ row (refused held 1599 two_handles basic (refreshing ++ answering ++ answering) invalid_request) refl
    ∷ row (refused held 1599 two_handles basic (for_itself ++ verifying "x" ++ verifying "x") invalid_request) refl
    ∷ row (refused held 1599 two_handles wrong_secret (exchange ++ answering ++ answering) invalid_request) refl
    ∷ row (refused held 1599 two_handles wrong_secret (exchange ++ answering) challenged) refl
    ∷ row
    (refused (some (spent (rfc_code 6 challenge) ∷ new_access ∷ [])) 1599 next_handles basic (addressless ++ answering ++ answering) invalid_request)
    refl
    -- ---- the lowest code of the handle counts, with a challenge or without
    ∷ row (refused (some (rfc_code 6 challenge ∷ twin 0 1600 ∷ [])) 1599 two_handles basic addressless invalid_grant) refl
    ∷ row
    (call (some (twin 0 1600 ∷ rfc_code 6 challenge ∷ [])) 1599 two_handles basic addressless (both_tokens "peak")
    (at 1599
    (some
    (spent (twin 0 1600)
    ∷ rfc_code 6 challenge
    ∷ access (twin 0 1600) 1599 (handle 32)
    ∷ refresh (twin 0 1600) 1599 (handle 52)
    ∷ [])))) refl
    -- an unspent code with a challenge stops a second showing, run out or another client's too
    ∷ row
    (refused (some (spent code ∷ new_access ∷ linked challenge (slot 6 (handle 0) 0 7 11 1599) ∷ [])) 1599 next_handles basic exchange invalid_grant)
    refl
    ∷ row
    (refused (some (linked challenge (slot 7 (handle 0) 1 7 11 1600) ∷ spent code ∷ new_access ∷ [])) 1599 next_handles basic exchange invalid_grant)
    refl
    -- "every token with that origin is cleared": a code is none, though its challenge begin with the handle, with zeros behind it or not
    ∷ row
    (withdraws [] (barn_code 6 (count_up 32 0) ∷ spent code ∷ new_access ∷ barn_code 7 (link_to (handle 0)) ∷ [])
    (barn_code 6 (count_up 32 0) ∷ spent code ∷ free_slot ∷ barn_code 7 (link_to (handle 0)) ∷ [])) refl
    -- such a code is no refresh token and no access token; it is no room while it lives, and its handle is in use
    ∷ row
    (fails (rfc_code 6 challenge) basic (bytes "grant_type=refresh_token&refresh_token=000102030405060708090a0b0c0d0e0f10111213" ++ answering)) refl
    ∷ checked (some (linked challenge (slot 6 (handle 32) 0 7 11 1600) ∷ linked challenge (slot 7 (handle 32) 0 7 11 1600) ∷ [])) 1599
    (0 ∷ 0 ∷ 0 ∷ 0 ∷ 0 ∷ []) refl
    ∷ row (refused (crowded (barn_code 6 challenge ∷ [])) 1599 two_handles basic for_itself no_room) refl
    ∷ row (refused (some (barn_code 7 challenge ∷ [])) 1599 (handle 60 ++ handle 52) basic for_itself clash) refl
    ∷ []

-- ---- characters

-- the numbers that pass a test
pick : (ℕ → Bool) → List ℕ → List ℕ
pick p [] = []
pick p (c ∷ t) = let r = pick p t in cond (p c) (c ∷ r) r

-- of all bytes those of RFC 7636, section 4.1: "unreserved = ALPHA / DIGIT / "-" / "." / "_" / "~""
unreserved-bytes : pick is_unreserved (count_up 256 0) ≡ bytes "-.0123456789ABCDEFGHIJKLMNOPQRSTUVWXYZ_abcdefghijklmnopqrstuvwxyz~"
unfolding pick
unreserved-bytes = refl
