-- The authorization endpoint: how a query is read, and the location that is written (RFC 6749, section 4.1).
use Rattle.std.specs.Prelude.{ℕ, Bool, true, false, cond, not, ◌&&◌, ◌||◌, List, [], ◌∷◌, ◌++◌, leb, ltb, eqb, length, Option, None, is_none, Ok, Err}
use Rattle.octets.specs.Text.{bytes}
use Rattle.octets.specs.Lists.{every, in_class}
use Rattle.encoding.specs.Hex.{hex_text}
use Rattle.encoding.specs.Base64.{read_digest}
use Rattle.form_coding.specs.Coding.{encode}
use Rattle.form.specs.Content.{Value, missing, once, repeated, is_well_formed_form, form_value, is_missing, is_repeated, only_value, is_once}
use Rattle.client_registry.specs.Registry.{Client}
use Rattle.client_registry.specs.Lookup.{number_of, is_known, client_at}
use Rattle.octets.specs.Search.{any}
use Rattle.protocol.specs.declared.ErrorWord.{ErrorWord}
use Rattle.protocol.specs.declared.ErrorWord.TheVariants.{InvalidRequest, InvalidScope, UnsupportedResponseType, AccessDenied}
use Rattle.protocol.specs.declared.Refusal.TheVariants.{Unfit, ErrorPage, Redirect, Token, Failed}
use Rattle.protocol.specs.declared.PageCause.TheVariants.{Query as bad_query, Client as bad_client, RedirectUri as bad_redirect}
use Rattle.protocol.specs.Answers.{word_text, Decision}
use Rattle.protocol.specs.declared.CodeRequest.{CodeRequest}
use Rattle.protocol.specs.declared.Request.TheVariants.{Code}
use Rattle.protocol.specs.declared.Reading.{Reading}
use Rattle.protocol.specs.Limits.{most_form, most_state}
use Rattle.protocol.specs.Refusals.{Reason, when, first_of}
use Rattle.protocol.specs.Requests.{scope_asked, fits, scope_given, no_farm, unless_refused}

-- ---- reading the query

-- refusal 5: "query over 4,096 or malformed"
unfoldable pub is_bad_query : List ℕ → Bool
is_bad_query query = ltb most_form (length query) || not (is_well_formed_form query)

-- the number of the client that the query names
unfoldable pub query_client : List Client → List ℕ → ℕ
query_client clients query = number_of (only_value (form_value query (bytes "client_id"))) clients

-- refusal 6: "client_id repeated, missing or unknown; or redirect_uri repeated"
unfoldable pub is_bad_client : List Client → List ℕ → Bool
is_bad_client clients query =
    let id = form_value query (bytes "client_id") in
    is_repeated id || is_missing id || not (is_known (only_value id) clients) || is_repeated (form_value query (bytes "redirect_uri"))

-- refusal 7: "redirect_uri given and not byte-equal to the registered one"
unfoldable pub is_bad_redirect : Client → List ℕ → Bool
is_bad_redirect client query =
    let redirect = form_value query (bytes "redirect_uri") in
    not (is_missing redirect) && not (is_once client.redirect redirect)

-- a state that may be sent back: at most 200 bytes of 20-7E
unfoldable pub is_sound_state : List ℕ → Bool
is_sound_state state = leb (length state) most_state && every (in_class 32 126 0) state

-- "state over 200 bytes or outside 20-7E"
unfoldable pub is_bad_state : Value → Bool
is_bad_state missing = false
is_bad_state (once state) = not (is_sound_state state)
is_bad_state repeated = true

-- the challenge that is given: "43 base64url characters with zero spare bits". One that is missing or repeated is none
unfoldable pub challenge_given : Value → Option (List ℕ)
challenge_given missing = None
challenge_given (once text) = read_digest text
challenge_given repeated = None

-- "A challenge with another or no method, or a method without challenge, or a challenge that isn't 43 base64url characters with
-- zero spare bits"; "Public clients must send one"; "Repeats are refused as for scope.": a repeated challenge is none that is
-- given, and a repeated method is not once `S256`
unfoldable pub is_bad_challenge : Client → Value → Value → Bool
is_bad_challenge client challenge method =
    cond (is_missing challenge) (not (is_missing method) || not client.confidential)
    (not (is_once (bytes "S256") method) || is_none (challenge_given challenge))

-- "`invalid_request` (response_type missing; response_type, scope or state repeated; state over 200 bytes or outside 20-7E)", and
-- the faults of a challenge likewise
unfoldable pub is_invalid_request : Client → List ℕ → Bool
is_invalid_request client query =
    let type = form_value query (bytes "response_type") in
    is_missing type || is_repeated type || is_repeated (form_value query (bytes "scope")) || is_bad_state (form_value query (bytes "state"))
    || is_bad_challenge client (form_value query (bytes "code_challenge")) (form_value query (bytes "code_challenge_method"))

-- "Response type `code` only."
unfoldable pub is_other_type : List ℕ → Bool
is_other_type query = not (is_once (bytes "code") (form_value query (bytes "response_type")))

-- "`invalid_scope` (bad form, unknown name, or beyond the client's set)"
unfoldable pub is_invalid_scope : Client → List ℕ → Bool
is_invalid_scope client form = not (fits (scope_asked (form_value form (bytes "scope"))) client.scope)

-- "No scope means the client's set."
abbrev pub scope_for : Client → List ℕ → ℕ
scope_for client form = scope_given (scope_asked (form_value form (bytes "scope"))) client.scope

-- "1 allows a farm number of 32 bits, any other number denies"; "an owner's decision for farm 0 is from now on `access_denied`"
abbrev pub is_denied : ℕ → ℕ → Bool
is_denied decision farm = not (eqb decision 1) || eqb farm no_farm

-- the code that the query asks for. "The code is bound when redirect_uri was given."
unfoldable pub code_asked : List Client → List ℕ → ℕ → CodeRequest
code_asked clients query farm =
    let number = query_client clients query in
    record {
      client = number;
      farm = farm;
      scope = scope_for (client_at clients number) query;
      bound = not (is_missing (form_value query (bytes "redirect_uri")));
    }

-- refusals 5 to 7, those that the client is told, and else the request
unfoldable pub page_reasons : List Client → List ℕ → List Reason
page_reasons clients query =
    when (is_bad_query query) (ErrorPage bad_query)
    ∷ when (is_bad_client clients query) (ErrorPage bad_client)
    ∷ when (is_bad_redirect (client_at clients (query_client clients query)) query) (ErrorPage bad_redirect)
    ∷ []

unfoldable pub redirect_reasons : Client → List ℕ → ℕ → ℕ → List Reason
redirect_reasons client query decision farm =
    when (is_invalid_request client query) (Redirect InvalidRequest)
    ∷ when (is_other_type query) (Redirect UnsupportedResponseType)
    ∷ when (is_invalid_scope client query) (Redirect InvalidScope)
    ∷ when (is_denied decision farm) (Redirect AccessDenied)
    ∷ []

-- the reading of a query that is not refused
abbrev pub code_reading : List Client → List ℕ → ℕ → Reading
code_reading clients query farm = record {
  request = Code (code_asked clients query farm);
  presented = None;
  challenge = challenge_given (form_value query (bytes "code_challenge"));
}

unfoldable pub read_authorization : List Client → List ℕ → ℕ → ℕ → Reading
read_authorization clients query decision farm =
    let client = client_at clients (query_client clients query) in
    unless_refused (first_of (page_reasons clients query ++ redirect_reasons client query decision farm)) (code_reading clients query farm)

-- ---- writing the location

-- "then `?`, or `&` if it holds a `?`"
unfoldable pub separator : List ℕ → List ℕ
separator redirect = cond (any (λ b. eqb b 63) redirect) (bytes "&") (bytes "?")

-- "then `&state=` and the state written as a form when it came once and sound"
unfoldable pub state_text : Value → List ℕ
state_text missing = []
state_text (once state) = cond (is_sound_state state) (bytes "&state=" ++ encode state) []
state_text repeated = []

-- "The location is the registered redirect, then `?`, or `&` if it holds a `?`, then `code=` or `error=`, then .. state"
unfoldable pub location : List ℕ → List ℕ → Value → List ℕ
location redirect parameter state = redirect ++ separator redirect ++ parameter ++ state_text state

unfoldable pub code_parameter : List ℕ → List ℕ
code_parameter handle = bytes "code=" ++ hex_text handle

unfoldable pub error_parameter : ErrorWord → List ℕ
error_parameter word = bytes "error=" ++ word_text word

-- what is written for a decision: "5 to 7 write no output"
unfoldable pub location_text : List ℕ → Value → List ℕ → Decision → List ℕ
location_text redirect state handle (Ok tt) = location redirect (code_parameter handle) state
location_text redirect state handle (Err (Unfit i)) = []
location_text redirect state handle (Err (ErrorPage p)) = []
location_text redirect state handle (Err (Redirect word)) = location redirect (error_parameter word) state
location_text redirect state handle (Err (Token word)) = []
location_text redirect state handle (Err (Failed f)) = []
