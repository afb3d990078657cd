-- The cases of an answer: the error words as texts, and the numbers by which a C host sees each case.
use Rattle.std.specs.Prelude.{ℕ, Bool, true, false, List, Result, Ok, Err}
use Rattle.octets.specs.Text.{bytes}
use Rattle.protocol.specs.declared.ErrorWord.{ErrorWord}
use Rattle.protocol.specs.declared.ErrorWord.TheVariants.{InvalidRequest, InvalidClient, InvalidGrant, InvalidScope, UnsupportedGrantType, UnsupportedResponseType, AccessDenied, TemporarilyUnavailable, ServerError, UnauthorizedClient}
use Rattle.protocol.specs.declared.Input.{Input}
use Rattle.protocol.specs.declared.Input.TheVariants.{Buffers, Registry, Store, Clock}
use Rattle.protocol.specs.declared.PageCause.{PageCause}
use Rattle.protocol.specs.declared.PageCause.TheVariants.{Query, Client, RedirectUri}
use Rattle.protocol.specs.declared.Failure.{Failure}
use Rattle.protocol.specs.declared.Failure.TheVariants.{NoRoom, Clash}
use Rattle.protocol.specs.declared.Refusal.{Refusal}
use Rattle.protocol.specs.declared.Refusal.TheVariants.{Unfit, ErrorPage, Redirect, Token, Failed}

-- whether a call was granted: a code at the authorization endpoint, tokens at the token endpoint; or a revocation done. `Ok tt`
-- is the grant, `Err r` the refusal r
abbrev pub Decision : Type 0
Decision = Result Unit Refusal

-- the words of RFC 6749, sections 4.1.2.1 and 5.2
unfoldable pub word_text : ErrorWord → List ℕ
word_text InvalidRequest = bytes "invalid_request"
word_text InvalidClient = bytes "invalid_client"
word_text InvalidGrant = bytes "invalid_grant"
word_text InvalidScope = bytes "invalid_scope"
word_text UnsupportedGrantType = bytes "unsupported_grant_type"
word_text UnsupportedResponseType = bytes "unsupported_response_type"
word_text AccessDenied = bytes "access_denied"
word_text TemporarilyUnavailable = bytes "temporarily_unavailable"
word_text ServerError = bytes "server_error"
word_text UnauthorizedClient = bytes "unauthorized_client"

-- the number of a word over C; 0 is no word
abbrev pub word_number : ErrorWord → ℕ
word_number InvalidRequest = 1
word_number InvalidClient = 2
word_number InvalidGrant = 3
word_number InvalidScope = 4
word_number UnsupportedGrantType = 5
word_number UnsupportedResponseType = 6
word_number AccessDenied = 7
word_number TemporarilyUnavailable = 8
word_number ServerError = 9
word_number UnauthorizedClient = 10

-- the table of refusals 1 to 7
abbrev pub input_number : Input → ℕ
input_number Buffers = 1
input_number Registry = 2
input_number Store = 3
input_number Clock = 4

abbrev pub page_number : PageCause → ℕ
page_number Query = 5
page_number Client = 6
page_number RedirectUri = 7

-- the number of a refusal in that table; 0 for those that come as a redirect or with a status
abbrev pub refusal_number : Refusal → ℕ
refusal_number (Unfit i) = input_number i
refusal_number (ErrorPage p) = page_number p
refusal_number (Redirect w) = 0
refusal_number (Token w) = 0
refusal_number (Failed f) = 0

-- "The answer carries the kind of refusal, and that the error word": 0 where there is none
abbrev pub error_number : Refusal → ℕ
error_number (Unfit i) = 0
error_number (ErrorPage p) = 0
error_number (Redirect w) = word_number w
error_number (Token w) = word_number w
error_number (Failed f) = 0

-- "`invalid_client`, status 401 .. Success is 200, all else 400"
abbrev pub word_status : ErrorWord → ℕ
word_status InvalidRequest = 400
word_status InvalidClient = 401
word_status InvalidGrant = 400
word_status InvalidScope = 400
word_status UnsupportedGrantType = 400
word_status UnsupportedResponseType = 400
word_status AccessDenied = 400
word_status TemporarilyUnavailable = 400
word_status ServerError = 400
word_status UnauthorizedClient = 400

-- "Status 503, empty: fewer slots free or run out than needed. Status 500, empty: a handle .. equals"
abbrev pub failure_status : Failure → ℕ
failure_status NoRoom = 503
failure_status Clash = 500

-- the HTTP status of the token endpoint's refusals; 0 for refusals 1 to 4, which are a number only, and for those of the
-- authorization endpoint
abbrev pub refusal_status : Refusal → ℕ
refusal_status (Unfit i) = 0
refusal_status (ErrorPage p) = 0
refusal_status (Redirect w) = 0
refusal_status (Token w) = word_status w
refusal_status (Failed f) = failure_status f

abbrev pub status_of : Decision → ℕ
status_of (Ok tt) = 200
status_of (Err r) = refusal_status r

-- the call was granted
unfoldable pub is_grant : Decision → Bool
is_grant (Ok tt) = true
is_grant (Err r) = false
