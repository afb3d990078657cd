-- The revocation endpoint: how the body of an authenticated client is read, and the replies (RFC 7009, section 2).
use Rattle.std.specs.Prelude.{ℕ, List, [], ◌∷◌, None, Ok, Err}
use Rattle.octets.specs.Text.{bytes}
use Rattle.encoding.specs.Hex.{read_handle}
use Rattle.form.specs.Content.{form_value, only_value}
use Rattle.client_registry.specs.Registry.{Client}
use Rattle.protocol.specs.Answers.{Decision}
use Rattle.protocol.specs.declared.Request.TheVariants.{Revocation}
use Rattle.protocol.specs.declared.Reading.{Reading}
use Rattle.protocol.specs.Refusals.{first_of}
use Rattle.protocol.specs.Requests.{unless_refused}
use Rattle.protocol.specs.ClientForms.{call_client, form_reasons}
use Rattle.protocol.specs.Token.{refusal_reply}

-- ---- the body

-- "known names token, token_type_hint, client_id, client_secret"
abbrev pub revocation_names : List (List ℕ)
revocation_names = bytes "client_id" ∷ bytes "client_secret" ∷ bytes "token" ∷ bytes "token_type_hint" ∷ []

-- "It authenticates clients as the token counter does; the checks come in the same order, without those of the grants, a missing
-- token in place of a missing grant_type"; "token_type_hint's value is ignored"
unfoldable pub read_revocation : List Client → List ℕ → List ℕ → Reading
read_revocation clients header body =
    unless_refused (first_of (form_reasons revocation_names (bytes "token") clients header body))
    (record {
      request = Revocation (record { client = call_client clients header body });
      presented = read_handle (only_value (form_value body (bytes "token")));
      challenge = None;
    })

-- ---- the replies: "status 200, empty"

unfoldable pub revocation_reply : Decision → List ℕ
revocation_reply (Ok tt) = []
revocation_reply (Err refusal) = refusal_reply refusal
