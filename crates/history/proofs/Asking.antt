-- Who calls and what is asked, in the claim's words: the caller is the client that is authenticated; a call at the token endpoint is
-- read as the grant that its form names, or was refused (`token-read`); and one that is admitted is refused only for what that grant needs.
--
-- In order: who calls; how a body is read; what is missing; one that is admitted.
-- Assumes nothing.
use mathlib.Core.Path.{◌≡◌, refl, sym}
use mathlib.Core.Bool.{Bool, true, false, not, ◌&&◌}
use mathlib.Core.List.{List, [], ◌∷◌}
use Prim.Native.Nat.{ℕ}
use Rattle.std.specs.Prelude.{Ok, Err, None}
use native.Mathlib.Omega.{arith}
use borrow.Author.Tests.{ne_eqb, not-true}
use lib.ListN.{length}
use Rattle.octets.specs.Text.{bytes}
use Rattle.octets.specs.Lists.{same}
use Rattle.octets.proofs.Booleans.{cond_of, and_left, and_right}
use Rattle.octets.proofs.Lists.{same-eq}
use Rattle.encoding.specs.Hex.{read_handle}
use Rattle.form.specs.Content.{Value, missing, once, repeated, form_value, is_missing, is_once}
use Rattle.client_registry.specs.Registry.{Client}
use Rattle.client_registry.specs.Lookup.{client_at}
use Rattle.protocol.specs.declared.ErrorWord.TheVariants.{InvalidRequest}
use Rattle.protocol.specs.declared.Refusal.{Refusal}
use Rattle.protocol.specs.declared.Refusal.TheVariants.{Token}
use Rattle.protocol.specs.declared.ExchangeRequest.{ExchangeRequest}
use Rattle.protocol.specs.declared.RefreshRequest.{RefreshRequest}
use Rattle.protocol.specs.declared.CredentialsRequest.{CredentialsRequest}
use Rattle.protocol.specs.declared.Request.TheVariants.{Exchange, Refresh, Credentials, Revocation}
use Rattle.protocol.specs.declared.Reading.{Reading}
use Rattle.protocol.specs.Answers.{is_grant, Decision}
use Rattle.protocol.specs.Refusals.{when, first_of}
use Rattle.protocol.specs.Requests.{scope_asked, presenting_none, refused_reading, unless_refused}
use Rattle.protocol.specs.Authorization.{scope_for}
use Rattle.protocol.specs.ClientForms.{is_invalid_form, is_invalid_client, presented_id, header_id, credentials, call_client, form_reasons}
use Rattle.protocol.specs.Token.{token_names, challenge_answered, read_exchange, read_refresh, read_credentials, read_grant, read_token}
use Rattle.history.specs.Contents.{value_of, is_exchange, is_refresh, is_credentials, id_in, caller, is_admitted}

-- ---- who calls

pub caller-is : (clients : List Client) (header body : List ℕ) → caller clients header body ≡ call_client clients header body
unfolding id_in call_client presented_id header_id credentials
caller-is clients [] body = refl
caller-is clients (b ∷ bs) body = rw (ne_eqb (length (b ∷ bs)) 0 (λ e. omega (arith, e)))

-- ---- how a body is read

module _ (clients : List Client) (header body : List ℕ) where
  abbrev pub exchange_asked : ExchangeRequest
  exchange_asked =
      let number = call_client clients header body in
      record { client = number; again = is_once (client_at clients number).redirect (form_value body (bytes "redirect_uri")) }

  abbrev pub refresh_asked : RefreshRequest
  refresh_asked = record { client = call_client clients header body; scope = scope_asked (form_value body (bytes "scope")) }

  abbrev pub exchange_reading : Reading
  exchange_reading = record {
    request = Exchange exchange_asked;
    presented = read_handle (value_of body (bytes "code"));
    challenge = challenge_answered (form_value body (bytes "code_verifier"));
  }

  abbrev pub refresh_reading : Reading
  refresh_reading = record {
    request = Refresh refresh_asked;
    presented = read_handle (value_of body (bytes "refresh_token"));
    challenge = None;
  }

  abbrev pub credentials_asked : CredentialsRequest
  credentials_asked = let number = call_client clients header body in record { client = number; scope = scope_for (client_at clients number) body }

  abbrev pub credentials_reading : Reading
  credentials_reading = presenting_none (Credentials credentials_asked)

  abbrev pub revocation_reading : Reading
  revocation_reading = record {
    request = Revocation (record { client = call_client clients header body });
    presented = read_handle (value_of body (bytes "token"));
    challenge = None;
  }

  pub data ReadAs (reading : Reading) : Type 0 where
    refused_as : (r : Refusal) → reading ≡ refused_reading r → ReadAs reading
    exchange_as : is_exchange body ≡ true → reading ≡ exchange_reading → ReadAs reading
    refresh_as : is_exchange body ≡ false → is_refresh body ≡ true → reading ≡ refresh_reading → ReadAs reading
    credentials_as : is_exchange body ≡ false → is_refresh body ≡ false → is_credentials body ≡ true → reading ≡ credentials_reading → ReadAs reading

  unless-read : (d : Decision) (x : Reading) → ReadAs x → ReadAs (unless_refused d x)
  unfolding unless_refused
  unless-read (Ok tt) x p = p
  unless-read (Err r) x p = refused_as r refl

  pub token-read : ReadAs (read_token clients header body)
  unfolding read_token read_grant read_exchange read_refresh read_credentials
  token-read =
      unless-read _ _
      (cond_of ReadAs (is_exchange body) _ _ (λ e. unless-read _ _ (exchange_as e refl))
      (λ n. cond_of ReadAs (is_refresh body) _ _ (λ e. unless-read _ _ (refresh_as n e refl))
      (λ m. cond_of ReadAs (is_credentials body) _ _ (λ e. unless-read _ _ (credentials_as n m e refl)) (λ _. refused_as _ refl))))

-- ---- what is missing

-- a reading, unless what it presents is missing
abbrev pub unless_missing : Value → Reading → Reading
unless_missing v reading = unless_refused (first_of (when (is_missing v) (Token InvalidRequest) ∷ [])) reading

-- a grant that is refused where something is missing, where it would be refused all the same
pub unless-missing : (v : Value) (granted : Bool) → (v ≡ missing → granted ≡ false)
    → (is_grant (first_of (when (is_missing v) (Token InvalidRequest) ∷ [])) && granted) ≡ granted
unfolding is_missing first_of is_grant
unless-missing missing granted none = sym (none refl)
unless-missing (once x) granted none = refl
unless-missing repeated granted none = refl

-- ---- one that is admitted

-- a form asks for one grant
one-grant : (body x y : List ℕ) → let grant = form_value body (bytes "grant_type") in same x y ≡ false → is_once x grant ≡ true → is_once y grant ≡ false
unfolding is_once
one-grant body x y = by (form_value body (bytes "grant_type"))
  where
    by : (v : Value) → same x y ≡ false → is_once x v ≡ true → is_once y v ≡ false
    by missing n e = refl
    by (once v) n e = rw (same-eq v x e) n
    by repeated n e = refl

module _ (clients : List Client) (header body : List ℕ) (admitted : is_admitted clients header body ≡ true) where
  let-in : read_token clients header body ≡ read_grant clients (call_client clients header body) body
  unfolding is_admitted read_token form_reasons unless_refused first_of
  let-in =
      let bad_form = is_invalid_form token_names (bytes "grant_type") header body in
      let bad_client = is_invalid_client clients header body in
      rw (not-true bad_form (and_left (not bad_form) (not bad_client) admitted), not-true bad_client (and_right (not bad_form) (not bad_client) admitted))

  pub exchange-read : is_exchange body ≡ true → read_token clients header body ≡ unless_missing (form_value body (bytes "code")) (exchange_reading clients header body)
  unfolding read_grant read_exchange
  exchange-read is = rw (let-in, is)

  pub refresh-read : is_refresh body ≡ true
      → read_token clients header body ≡ unless_missing (form_value body (bytes "refresh_token")) (refresh_reading clients header body)
  unfolding read_grant read_refresh same
  refresh-read is = rw (let-in, one-grant body (bytes "refresh_token") (bytes "authorization_code") refl is, is)

  pub credentials-read : is_credentials body ≡ true → read_token clients header body ≡ read_credentials clients (call_client clients header body) body
  unfolding read_grant same
  credentials-read is =
      let other : (y : List ℕ) → same (bytes "client_credentials") y ≡ false → is_once y (form_value body (bytes "grant_type")) ≡ false =
      λ y n. one-grant body (bytes "client_credentials") y n is
      in
      rw (let-in, other (bytes "authorization_code") refl, other (bytes "refresh_token") refl, is)
