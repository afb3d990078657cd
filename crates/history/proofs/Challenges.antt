-- Challenges and verifiers, by the server's tests and by the claim's.
--
-- In order: digests, which their texts tell apart; a challenge that a query gives, as the slot of a code holds it (`given-fits`) and as the
-- claim reads it (`challenge-shown`); a verifier that answers it (`answered-is`).
-- Assumes nothing.
use mathlib.Core.Path.{◌≡◌, refl, sym, ap, ap₂, ◌∙◌, fun_ext}
use mathlib.Core.Bool.{Bool, true, false, cond, not, ◌&&◌, ◌||◌, or_assoc, or-false, true≢false}
use mathlib.Core.List.{List}
use mathlib.Core.Logic.{inr}
use Prim.Native.Nat.{ℕ}
use Rattle.std.specs.Prelude.{None, Option, is_some, Some, is_none, unwrap_or}
use lib.Dec.{leb}
use lib.ListN.{length}
use Rattle.octets.specs.Text.{bytes}
use Rattle.octets.specs.Lists.{Bytes, every, is_zero, same}
use Rattle.octets.specs.Search.{any}
use Rattle.octets.proofs.Booleans.{by-test, or-none}
use Rattle.octets.proofs.Lists.{same-iff, zero-bytes}
use Rattle.encoding.specs.Base64.{url, base64_bytes, base64_text, is_digest_text, read_digest}
use Rattle.encoding.proofs.Base64.{base64-round}
use Rattle.encoding.proofs.Digests.{digest-bytes, digest-exact, read-valid, read-invalid}
use Rattle.encoding.specs.Hex.{presents}
use Rattle.sha256.specs.Digest.{digest}
use Rattle.sha256.proofs.Results.{digest-small}
use Rattle.form.specs.Content.{Value, missing, once, repeated, is_missing, is_once}
use Rattle.client_registry.specs.Registry.{Client}
use Rattle.token_store.specs.Layout.{link_size}
use Rattle.token_store.specs.Store.{no_link}
use Rattle.protocol.specs.Authorization.{challenge_given, is_bad_challenge}
use Rattle.protocol.specs.Token.{is_unreserved, is_sound_verifier, challenge_answered}
use Rattle.history.specs.Claim.{is_unreserved as is_unreserved_by_claim, is_verifier_for, verifies, is_answered_by}

-- ---- digests

-- bytes that their text in base64url stands for
pub record Digest : Type 0 where
  pub octets : List ℕ
  pub back : base64_bytes url (base64_text url octets) ≡ octets

abbrev pub no_digest : Digest
no_digest = record { octets = no_link; back = base64-round url (inr refl) no_link (zero-bytes link_size) }

same-digest : (c : Digest) (d : List ℕ) → Bytes d → same (base64_text url c.octets) (base64_text url d) ≡ same d c.octets
same-digest c d small =
    same-iff (base64_text url c.octets) (base64_text url d) d c.octets
    (λ e. sym (base64-round url (inr refl) d small) ∙ ap (base64_bytes url) (sym e) ∙ c.back) (λ e. ap (base64_text url) (sym e))

-- ---- a challenge that is given

-- the link of a code with this challenge
abbrev pub link_of : Option (List ℕ) → List ℕ
link_of d = unwrap_or d no_link

-- what the slot of a code can hold: 32 bytes, which are zero where there is no challenge
pub record FitChallenge (d : Option (List ℕ)) : Type 0 where
  pub size : length (link_of d) ≡ link_size
  pub back : base64_bytes url (base64_text url (link_of d)) ≡ link_of d
  pub filled : (is_some d || every is_zero (link_of d)) ≡ true

abbrev pub digest_of : {d : Option (List ℕ)} → FitChallenge d → Digest
digest_of {d} f = record { octets = link_of d; back = f.back }

none-fits : FitChallenge None
unfolding every
none-fits = record { size = refl; back = no_digest.back; filled = refl }

pub given-fits : (v : Value) → FitChallenge (challenge_given v)
unfolding challenge_given
given-fits missing = none-fits
given-fits (once text) =
    by-test (is_digest_text text)
    (λ e.
    rw (read-valid text e) (record { size = digest-bytes text e; back = ap (base64_bytes url) (digest-exact text e); filled = refl }))
    (λ n. rw (read-invalid text n) none-fits)
given-fits repeated = none-fits

-- a query that is not refused gives the text of its challenge, or none
pub challenge-shown : (client : Client) (challenge method : Value) → is_bad_challenge client challenge method ≡ false
    → let given = challenge_given challenge in challenge ≡ cond (is_some given) (once (base64_text url (link_of given))) missing
unfolding is_bad_challenge challenge_given is_missing
challenge-shown client missing method e = refl
challenge-shown client (once text) method e = by-test (is_digest_text text) valid invalid
  where
    given : is_none (read_digest text) ≡ false
    given = (or-none (not (is_once (bytes "S256") method)) (is_none (read_digest text)) e).1

    Shown : Option (List ℕ) → Type 0
    Shown d = once text ≡ cond (is_some d) (once (base64_text url (link_of d))) missing

    valid : is_digest_text text ≡ true → Shown (read_digest text)
    valid d = rw (read-valid text d) (ap once (sym (digest-exact text d)))

    invalid : is_digest_text text ≡ false → Shown (read_digest text)
    invalid n = absurd (true≢false (rw (read-invalid text n) at given))
challenge-shown client repeated method e = absurd (true≢false (or-none (not (is_once (bytes "S256") method)) true e).1)

-- ---- a verifier that answers it

-- the claim's order of the tests is another
turn : (digit upper lower other : Bool) → (upper || (lower || (digit || other))) ≡ (digit || (upper || (lower || other)))
turn true true lower other = refl
turn true false true other = refl
turn true false false other = refl
turn false upper lower other = refl

unreserved-is : (c : ℕ) → is_unreserved_by_claim c ≡ is_unreserved c
unfolding any
unreserved-is c = simp (or_assoc, or-false) (turn (leb 48 c && leb c 57) (leb 65 c && leb c 90) (leb 97 c && leb c 122) _)

pub answered-is : (c : Digest) (w : Value)
    → is_answered_by (once (base64_text url c.octets)) w ≡ presents (challenge_answered w) c.octets
unfolding is_answered_by verifies is_verifier_for challenge_answered is_sound_verifier
answered-is c missing = refl
answered-is c (once v) =
    ap₂ (λ (p : ℕ → Bool) (b : Bool). leb 43 (length v) && leb (length v) 128 && every p v && b) (fun_ext unreserved-is)
    (same-digest c (digest v) (digest-small v))
    ∙ by (is_sound_verifier v)
  where
    by : (b : Bool) → (b && same (digest v) c.octets) ≡ presents (cond b (Some (digest v)) None) c.octets
    by true = refl
    by false = refl
answered-is c repeated = refl
