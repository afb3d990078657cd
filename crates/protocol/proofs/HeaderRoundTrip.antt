-- The header that a client writes of its id and its secret is read as that id and that secret: base64 gives back what was coded, the
-- writer writes no colon, so that the first one parts the halves, and each half decodes to what was written.
--
-- In order: over all texts, the credentials and their halves, and what is read; the ids and secrets that a registry may hold, whose
-- header is never too long; the client of a registry that shows itself so, which is let in.
--
-- Not here: the round trips of base64 (encoding, `base64-round`) and of one value (form_coding, `round_trip`).
-- Assumes nothing.
use Prim.Native.Nat.{ℕ, ◌+◌, ◌*◌, ◌≤◌, ◌<◌}
use mathlib.Core.Path.{◌≡◌, refl, sym, ◌∙◌, ap}
use mathlib.Core.Bool.{Bool, true, false, not, ◌&&◌, ◌||◌}
use mathlib.Core.List.{List, ◌∷◌, ◌++◌}
use mathlib.Core.Logic.{inl}
use native.Mathlib.Omega.{arith}
use borrow.Author.Tests.{ne_eqb, ltb-true, le-ltb, lt-ltb}
use lib.Dec.{ltb, eqb, lit<}
use lib.ListN.{length, take, drop, length-append}
use lib.Seq.{take-append_seam, drop-append-add}
use Rattle.octets.specs.Text.{bytes}
use Rattle.octets.specs.Lists.{Bytes, every, index_of}
use Rattle.octets.specs.Search.{any}
use Rattle.octets.proofs.Lists.{every_append, class-bytes, same_refl}
use Rattle.octets.proofs.Pieces.{any-index}
use Rattle.encoding.specs.Base64.{standard, is_base64, base64_text}
use Rattle.encoding.proofs.Base64.{base64-valid, base64-round, base64-text-length}
use Rattle.form_coding.specs.Coding.{encode}
use Rattle.form_coding.proofs.RoundTrip.{round_trip, well-written, no-colon, writes_bytes, encode-length}
use Rattle.form.specs.Content.{Value, form_value, is_missing, is_once}
use Rattle.form.proofs.Pieces.{index-apart}
use Rattle.client_registry.specs.Registry.{Client, sound_id, sound_secret, clients_of, fit_registry}
use Rattle.client_registry.specs.Lookup.{number_of, is_known, client_at}
use Rattle.client_registry.proofs.Fields.{id-text, secret-text, text-bytes}
use Rattle.client_registry.proofs.Clients.{fit-client}
use Rattle.client_registry.proofs.Lookup.{known-below, known-id}
use Rattle.protocol.specs.Limits.{most_header}
use Rattle.protocol.specs.ClientForms.{came_with, lower_case, same_any_case, credentials, id_half, secret_half, is_bad_header, header_id, header_secret, header_of, presented_id, presented_secret, is_unclear_id, is_impostor, call_client, is_invalid_client}

-- ---- over all texts

module _ (id secret : List ℕ) where
  -- what stands in the header, before it is base64
  abbrev pair : List ℕ
  pair = encode id ++ 58 ∷ encode secret

  -- each byte takes three at most, and three bytes four digits
  header-length : length (header_of id secret) ≤ 6 + (length id + length secret + 1) * 4
  unfolding header_of
  header-length =
      omega (
        arith,
        length-append (bytes "Basic ") (base64_text standard pair),
        base64-text-length standard pair,
        length-append (encode id) (58 ∷ encode secret),
        encode-length id,
        encode-length secret,
      )

  came : came_with (header_of id secret) ≡ true
  unfolding header_of
  came =
      let some : length (header_of id secret) ≡ 0 → ⊥ = λ e. omega (arith, e, length-append (bytes "Basic ") (base64_text standard pair)) in
      ap not (ne_eqb (length (header_of id secret)) 0 some)

  scheme-read : same_any_case (take 6 (header_of id secret)) (bytes "basic ") ≡ true
  unfolding header_of same_any_case lower_case
  scheme-read = refl

  module _ (id-bytes : Bytes id) (secret-bytes : Bytes secret) where
    pair-bytes : Bytes pair
    unfolding every
    pair-bytes =
        class-bytes (λ c. ltb c 256) (λ c. ltb-true c 256) pair
        (every_append (λ c. ltb c 256) (encode id) (58 ∷ encode secret) ∙ rw (writes_bytes id id-bytes, writes_bytes secret secret-bytes))

    base64-read : is_base64 standard (drop 6 (header_of id secret)) ≡ true
    unfolding header_of
    base64-read = base64-valid standard (inl refl) pair pair-bytes

    pair-back : credentials (header_of id secret) ≡ pair
    unfolding credentials header_of
    pair-back = base64-round standard (inl refl) pair pair-bytes

    colon-at : index_of 58 pair ≡ length (encode id)
    colon-at = index-apart 58 (encode id) (encode secret) (no-colon id id-bytes)

    has-colon : any (λ b. eqb b 58) pair ≡ true
    has-colon =
        let within : length (encode id) < length pair = simp length-append (omega arith) in
        any-index 58 pair ∙ rw (colon-at, lt-ltb (length (encode id)) (length pair) within)

    first-half : id_half pair ≡ encode id
    first-half = rw (colon-at, take-append_seam)

    second-half : secret_half pair ≡ encode secret
    second-half = rw (colon-at, drop-append-add)

    pub header-sound : length (header_of id secret) ≤ most_header → is_bad_header (header_of id secret) ≡ false
    unfolding is_bad_header
    header-sound short =
        rw (
          le-ltb most_header (length (header_of id secret)) short,
          scheme-read,
          base64-read,
          pair-back,
          has-colon,
          first-half,
          second-half,
          well-written id id-bytes,
          well-written secret secret-bytes,
        )

    pub id-back : header_id (header_of id secret) ≡ id
    unfolding header_id
    id-back = rw (pair-back, first-half) (round_trip id id-bytes)

    pub secret-back : header_secret (header_of id secret) ≡ secret
    unfolding header_secret
    secret-back = rw (pair-back, second-half) (round_trip secret secret-bytes)

-- ---- the ids and secrets that a registry may hold

-- a header is read as an id and a secret
pub record ReadsAs (id secret header : List ℕ) : Type 0 where
  pub sound : is_bad_header header ≡ false
  pub named : header_id header ≡ id
  pub proven : header_secret header ≡ secret

pub header_read : (id secret : List ℕ) → sound_id id ≡ true → sound_secret secret ≡ true → ReadsAs id secret (header_of id secret)
header_read id secret i s =
    let id-bytes = text-bytes (id-text id i) (lit< tt) in
    let secret-bytes = text-bytes (secret-text secret s) (lit< tt) in
    record {
      sound = header-sound id secret id-bytes secret-bytes
          (omega (arith, header-length id secret, (id-text id i).most, (secret-text secret s).most));
      named = id-back id secret id-bytes secret-bytes;
      proven = secret-back id secret id-bytes secret-bytes;
    }

-- ---- a client of a registry that shows itself so

-- header and body do not name two clients
abbrev pub names_no_other : List ℕ → List ℕ → Bool
names_no_other id body = let v = form_value body (bytes "client_id") in is_missing v || is_once id v

module _ (registry : List ℕ) (fit : fit_registry registry ≡ true) (id body : List ℕ) where
  abbrev clients : List Client
  clients = clients_of registry

  abbrev number : ℕ
  number = number_of id clients

  abbrev header : List ℕ
  header = header_of id (client_at clients number).secret

  pub client-let-in : is_known id clients ≡ true → (client_at clients number).confidential ≡ true → names_no_other id body ≡ true
      → (is_invalid_client clients header body ≡ false) × (call_client clients header body ≡ number)
  unfolding is_invalid_client is_unclear_id is_impostor call_client presented_id presented_secret
  client-let-in known confidential one =
      let sound = fit-client registry fit number (known-below id clients known) in
      let id-sound : sound_id id ≡ true = rw (known-id id clients known) at sound.id-sound in
      let secret = (client_at clients number).secret in
      let r = header_read id secret id-sound (sound.secret-sound confidential) in
      rw (came id secret, r.sound, r.named, r.proven, known, confidential, same_refl secret, by (is_missing v) (is_once id v) one) (refl, refl)
    where
      v : Value
      v = form_value body (bytes "client_id")

      by : (m o : Bool) → (m || o) ≡ true → (not m && not o) ≡ false
      by true o e = refl
      by false true e = refl
      by false false e = sym e
