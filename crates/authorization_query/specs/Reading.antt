-- For contracts inside; the exports' contracts do not cite it.
--
-- What reading a query answers: the request of protocol's reading of it, beside the client's entry and the places of the state and
-- of the code challenge, by which the code is made and the answer is written.
use Rattle.std.specs.Prelude.{ℕ, ◌≤◌, ◌≡◌, true, List, [], ◌∷◌, length, Result, Ok, Err}
use Rattle.octets.specs.Text.{bytes}
use Rattle.form.specs.Content.{Value, is_well_formed_form, form_value}
use Rattle.form.specs.Places.{view_of, Within}
use Rattle.client_registry.specs.Registry.{Client, clients_of}
use Rattle.client_registry.specs.Lookup.{client_at, IsEntry}
use Rattle.client_registry.specs.declared.Entry.{Entry}
use Rattle.protocol.specs.Answers.{Decision}
use Rattle.protocol.specs.declared.ErrorWord.{ErrorWord}
use Rattle.protocol.specs.declared.PageCause.{PageCause}
use Rattle.protocol.specs.declared.PageCause.TheVariants.{Query}
use Rattle.protocol.specs.declared.Refusal.TheVariants.{ErrorPage, Redirect}
use Rattle.protocol.specs.declared.CodeRequest.{CodeRequest}
use Rattle.protocol.specs.declared.Request.{Request}
use Rattle.protocol.specs.declared.Request.TheVariants.{Refused, Code}
use Rattle.protocol.specs.Limits.{most_form}
use Rattle.protocol.specs.Refusals.{first_of}
use Rattle.protocol.specs.Authorization.{is_bad_query, query_client, code_asked, redirect_reasons, read_authorization}
use Rattle.parameters.specs.Fields.{IsField}
use Rattle.authorization_query.specs.declared.Names.{Names}
use Rattle.authorization_query.specs.declared.ClientQuery.{ClientQuery}

-- ---- on the way

-- the code challenge of a query, and its method
abbrev pub challenge_in : List ℕ → Value
challenge_in query = form_value query (bytes "code_challenge")

abbrev pub method_in : List ℕ → Value
method_in query = form_value query (bytes "code_challenge_method")

-- the known names, in the order of their places
abbrev pub known_names : List (List ℕ)
known_names =
    bytes "response_type" ∷ bytes "client_id" ∷ bytes "redirect_uri" ∷ bytes "scope" ∷ bytes "state" ∷ bytes "code_challenge" ∷ bytes "code_challenge_method" ∷ []

-- refusal 5 does not apply to the query, and the names are its own
pub record IsRead (query : List ℕ) (names : Names) : Type 0 where
  pub short : length query ≤ most_form
  pub formed : is_well_formed_form query ≡ true
  pub response_type : IsField query (bytes "response_type") names.response_type
  pub client_id : IsField query (bytes "client_id") names.client_id
  pub redirect_uri : IsField query (bytes "redirect_uri") names.redirect_uri
  pub scope : IsField query (bytes "scope") names.scope
  pub state : IsField query (bytes "state") names.state
  pub challenge : IsField query (bytes "code_challenge") names.code_challenge
  pub method : IsField query (bytes "code_challenge_method") names.code_challenge_method

-- the names of a query are found, or refusal 5 applies to it
abbrev pub FindsNames : List ℕ → Result Names PageCause → Type 0
FindsNames query (Ok names) = IsRead query names
FindsNames query (Err cause) = (cause ≡ Query) × (is_bad_query query ≡ true)

-- the entry is that of the client that the query names
pub record Named (registry query : List ℕ) (client : Entry) : Type 0 where
  pub entry : IsEntry registry client
  pub number : client.number ≡ query_client (clients_of registry) query

-- the client that the query names
abbrev pub client_named : List Client → List ℕ → Client
client_named clients query = client_at clients (query_client clients query)

-- what the query of a known client asks: a code, unless there is a reason to refuse it that the client is told
abbrev pub request_by : CodeRequest → Decision → Request
request_by asked (Ok tt) = Code asked
request_by asked (Err refusal) = Refused refusal

unfoldable pub asked_of : List Client → List ℕ → ℕ → ℕ → Request
asked_of clients query decision farm =
    request_by (code_asked clients query farm) (first_of (redirect_reasons (client_named clients query) query decision farm))

-- the request for a code, or what the client is told in place of one
abbrev pub request_for : Result CodeRequest ErrorWord → Request
request_for (Ok asked) = Code asked
request_for (Err word) = Refused (Redirect word)

-- ---- the answer

-- the request, as protocol has it
abbrev pub request_of : Result ClientQuery PageCause → Request
request_of (Ok q) = q.request
request_of (Err cause) = Refused (ErrorPage cause)

-- what stands beside the request of a client's query: its entry, which is that of the client that the query names, and the
-- places of the state and of the code challenge
pub record Known (registry query : List ℕ) (q : ClientQuery) : Type 0 where
  pub entry : IsEntry registry q.client
  pub number : q.client.number ≡ query_client (clients_of registry) query
  pub short : length query ≤ most_form
  pub within : Within query q.state
  pub state : view_of query q.state ≡ form_value query (bytes "state")
  pub challenge_within : Within query q.challenge
  pub challenge : view_of query q.challenge ≡ challenge_in query

pub record Reads (registry query : List ℕ) (decision farm : ℕ) (r : Result ClientQuery PageCause) : Type 0 where
  pub request : request_of r ≡ (read_authorization (clients_of registry) query decision farm).request
  pub known : (q : ClientQuery) → r ≡ Ok q → Known registry query q
