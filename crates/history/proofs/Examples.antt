-- Demand 3 on some calls: what server and claim say of them is what document 01 says, by computation, from the definitions.
--
-- In order: the calls, over the sample clients; the cases, each with what the paper says; what the server does, what the claim asks,
-- and whether the case meets the claim's premises; what some calls contain; verifiers; room.
--
-- Not here: the same from the registry's and the store's bytes, by the theorem (`Visit`).
-- Assumes nothing.
use mathlib.Core.Path.{◌≡◌, refl, ap, fun_ext}
use mathlib.Core.Bool.{Bool, true, false, cond, ◌&&◌, ◌||◌, beq, and-true}
use mathlib.Core.List.{List, [], ◌∷◌, ◌++◌, map}
use Prim.Native.Nat.{ℕ, ◌+◌, ◌*◌, ◌-◌, ◌^◌, max}
use Rattle.std.specs.Prelude.{Ok, Err}
use lib.Dec.{leb, ltb}
use lib.ListN.{length, replicate, drop}
use Rattle.octets.specs.Text.{bytes}
use Rattle.octets.specs.BigEndian.{big_endian_from}
use Rattle.octets.specs.Lists.{part, every}
use Rattle.octets.specs.Search.{any, keep}
use Rattle.octets.proofs.Lists.{same_refl}
use Rattle.encoding.specs.Base64.{url, base64_text, digit64}
use Rattle.sha256.specs.Digest.{digest}
use Rattle.form.specs.Content.{Value, missing, once}
use Rattle.client_registry.specs.Registry.{distinct}
use Rattle.client_registry.specs.Sample.{sample_clients}
use Rattle.token_store.specs.Layout.{slot_count}
use Rattle.token_store.specs.Store.{encode as encode_store, decode_slot, cut, Store, kind_bound_code, kind_access, kind_refresh, free_slot, fresh}
use Rattle.token_store.specs.declared.Slot.{Slot}
use Rattle.protocol.specs.declared.Failure.TheVariants.{NoRoom}
use Rattle.protocol.specs.declared.Refusal.TheVariants.{Failed}
use Rattle.protocol.specs.Answers.{Decision}
use Rattle.protocol.specs.Token.{read_token}
use Rattle.protocol.specs.Granting.{plan_of, decision_on}
use Rattle.protocol.specs.Outcomes.{Handed}
use Rattle.protocol.proofs.Computing.{text_definitions, registry_definitions, slot_definitions, digest_definitions, endpoint_definitions}
use Rattle.protocol.proofs.Cases.{challenge, challenging}
use Rattle.protocol.proofs.Starred.{count_up, rfc_query}
use Rattle.history.specs.Calls.{Call, authorization, token, revocation, check, Result}
use Rattle.history.specs.Contents.{Sort, code, access, refresh, Issue, is_exchange, is_refresh, is_credentials, is_admitted, is_admitted_to_revoke, issued_by, as_spent, Contents, nothing_yet, with_events, twenties}
use Rattle.history.specs.Slots.{slots_in_all, holds_token_from}
use Rattle.history.specs.Claim.{is_unreserved, is_answered_by, verifies, is_verifier_for, may_exchange, may_refresh, may_have_own, may_revoke, is_cleared, may_pass}
use Rattle.history.proofs.Computing.{claim_definitions, server_definitions}
use Rattle.history.proofs.CallsOnRecords.{result_on, left_by_all, events_on, is_fitting}

-- ---- the calls

-- so many random bytes from `first` on, and room to write
unfoldable pub handed_at : ℕ → ℕ → ℕ → Handed
handed_at clock size first = record { clock = clock; random = count_up size first; output = replicate 1024 0 }

-- the document's query, allowed for farm 7
unfoldable pub authorize_at : ℕ → ℕ → Call
authorize_at clock first = authorization rfc_query 1 7 (handed_at clock 20 first)

-- "`Basic czZCaGRSa3F0MzpnWDFmQmF0M2JW`"
unfoldable pub header : List ℕ
header = bytes "Basic czZCaGRSa3F0MzpnWDFmQmF0M2JW"

-- the same id and secret with an escape in each half, `s6Bhd%52kqt3:gX1f%42at3bV`
abbrev pub coded_header : List ℕ
coded_header = bytes "Basic czZCaGQlNTJrcXQzOmdYMWYlNDJhdDNiVg=="

-- an exchange by the first client, which repeats its redirect_uri, or does not
unfoldable pub exchange_of : List ℕ → List ℕ
exchange_of text = bytes "grant_type=authorization_code&code=" ++ text

unfoldable pub repeating : List ℕ → List ℕ
repeating text = exchange_of text ++ bytes "&redirect_uri=https%3A%2F%2Fclient%2Eexample%2Ecom%2Fcb"

-- the same by the other client
unfoldable pub by_barnapp : List ℕ → List ℕ
by_barnapp text = repeating text ++ bytes "&client_id=barnapp"

unfoldable pub token_at : List ℕ → List ℕ → ℕ → ℕ → Call
token_at h b clock first = token h b (handed_at clock 40 first)

-- "random 00 to 13 hex", "random 20 to 47 hex"
unfoldable pub code_text : List ℕ
code_text = bytes "000102030405060708090a0b0c0d0e0f10111213"

unfoldable pub access_text : List ℕ
access_text = bytes "202122232425262728292a2b2c2d2e2f30313233"

unfoldable pub refresh_text : List ℕ
refresh_text = bytes "3435363738393a3b3c3d3e3f4041424344454647"

-- "Exchange of that code .., its redirect_uri repeated"
unfoldable pub exchange_at : ℕ → Call
exchange_at clock = token_at header (repeating code_text) clock 0x20

-- a refresh with a token, and what is asked
unfoldable pub refresh_for : List ℕ → List ℕ → List ℕ
refresh_for text scope = bytes "grant_type=refresh_token&refresh_token=" ++ text ++ scope

-- a code is issued at 1000; or "A call at 1600" comes behind it
unfoldable pub visit : List Call
visit = authorize_at 1000 0 ∷ []

unfoldable pub night : List Call
night = authorize_at 1000 0 ∷ check (bytes "lost") 1600 ∷ []

-- RFC 7636, Appendix B: a challenge, the verifier that answers it, and another verifier
unfoldable pub challenge_text : List ℕ
challenge_text = bytes "E9Melhoa2OwvFrEMTJguCHaoeK1t8URWbuGJSstw-cM"

unfoldable pub verifier : List ℕ
verifier = bytes "dBjftJeZ4CVP-mB92K27uhbUJU1p1r_wW1gFWFOEjXk"

unfoldable pub other_verifier : List ℕ
other_verifier = bytes "dBjftJeZ4CVP-mB92K27uhbUJU1p1r_wW1gFWFOEjXl"

unfoldable pub verifying : List ℕ → List ℕ
verifying text = bytes "&code_verifier=" ++ text

-- what a day's calls issue besides: to barnapp for farm 9 with no redirect_uri and that challenge, by a refresh, and to the first client for less
unfoldable pub barn_query : List ℕ
barn_query = bytes "response_type=code&client_id=barnapp" ++ challenging

unfoldable pub less_query : List ℕ
less_query = rfc_query ++ bytes "&scope=bill+peak"

unfoldable pub barn_text : List ℕ
barn_text = bytes "808182838485868788898a8b8c8d8e8f90919293"

-- barnapp exchanges its code, with this behind it, and with the verifier
unfoldable pub barn_try : List ℕ → List ℕ
barn_try more = exchange_of barn_text ++ bytes "&client_id=barnapp" ++ more

unfoldable pub barn_body : List ℕ
barn_body = barn_try (verifying verifier)

unfoldable pub again_text : List ℕ
again_text = bytes "606162636465666768696a6b6c6d6e6f70717273"

unfoldable pub less_text : List ℕ
less_text = bytes "030405060708090a0b0c0d0e0f10111213141516"

-- a client's request for itself, and the texts of two
unfoldable pub own_for : List ℕ → List ℕ
own_for scope = bytes "grant_type=client_credentials" ++ scope

unfoldable pub own_text : List ℕ
own_text = bytes "a0a1a2a3a4a5a6a7a8a9aaabacadaeafb0b1b2b3"

unfoldable pub less_own_text : List ℕ
less_own_text = bytes "28292a2b2c2d2e2f303132333435363738393a3b"

-- calls of every kind. Those refused with 1 to 4 have random bytes that came before, and the highest clock.
unfoldable pub day : List Call
day =
    authorize_at 1000 0
    ∷ authorization rfc_query 0 7 (handed_at 1001 20 1)  -- denied, with a redirect
    ∷ authorization (bytes "client_id=nobody") 1 7 (handed_at 1002 20 2)  -- a page
    ∷ authorization rfc_query 1 7 (record { clock = 1003; random = count_up 20 0; output = replicate 1023 0 })  -- an output too short
    ∷ token_at header (exchange_of code_text) 1004 0x90  -- refused, and spends nothing
    ∷ token header (repeating code_text) (record { clock = 1600; random = count_up 20 0; output = replicate 1024 0 })  -- half the random bytes
    ∷ exchange_at 1500
    ∷ token_at header (refresh_for refresh_text (bytes "&scope=power+pump")) 1501 0xB0  -- refused
    ∷ token_at header (refresh_for refresh_text (bytes "&scope=power+bill")) 1502 0x60
    ∷ check access_text 1503
    ∷ check (bytes "lost") 1504  -- not live
    ∷ check access_text (2 ^ 40 + 1)  -- a clock too late
    ∷ authorization barn_query 1 9 (handed_at 1505 20 0x80)
    ∷ authorization less_query 1 7 (handed_at 1506 20 3)
    ∷ []

-- behind it the visit's code is shown again: by its client, who repeats no redirect_uri; at its old expiry; by the other client; and by
-- one who has not the secret
unfoldable pub showing_by : List ℕ → List ℕ → ℕ → List Call
showing_by h b clock = day ++ token_at h b clock 0x48 ∷ []

unfoldable pub leak : List Call
leak = showing_by header (exchange_of code_text) 1599

unfoldable pub late_showing : List Call
late_showing = showing_by header (exchange_of code_text) 1600

unfoldable pub strangers : List Call
strangers = showing_by [] (by_barnapp code_text) 1599

unfoldable pub impostors : List Call
impostors = showing_by [] (repeating code_text ++ bytes "&client_id=s6BhdRkqt3") 1599

-- behind the day a token is revoked: the first client's refresh token, with a hint that is wrong; one of its access tokens; the refresh token
-- by the other client, by one who has not the secret, and at its expiry; a code
unfoldable pub revoke_at : List ℕ → List ℕ → ℕ → Call
revoke_at h b clock = revocation h b clock (replicate 1024 0)

unfoldable pub revoking : List ℕ → List ℕ
revoking text = bytes "token=" ++ text

unfoldable pub barn_revoking : List ℕ → List ℕ
barn_revoking text = revoking text ++ bytes "&client_id=barnapp"

unfoldable pub farewell : List Call
farewell = day ++ revoke_at header (revoking refresh_text ++ bytes "&token_type_hint=access_token") 1550 ∷ []

unfoldable pub one_less : List Call
one_less = day ++ revoke_at header (revoking access_text) 1550 ∷ []

unfoldable pub nothing_revoked : List Call
nothing_revoked =
    day
    ++ revoke_at [] (barn_revoking refresh_text) 1550
    ∷ revoke_at [] (revoking refresh_text ++ bytes "&client_id=s6BhdRkqt3") 1550
    ∷ revoke_at header (revoking less_text) 1550
    ∷ revocation header (revoking refresh_text) 1550 (replicate 1023 0)  -- an output too short
    ∷ []

-- the first client asks for itself, for its whole set and for less; one that asks for more, and a public one, are refused
unfoldable pub pumps : List Call
pumps =
    token_at header (own_for []) 1000 0xA0
    ∷ token_at header (own_for (bytes "&scope=bill")) 1001 0x28
    ∷ token_at header (own_for (bytes "&scope=pump")) 1002 0x50
    ∷ token_at [] (own_for (bytes "&client_id=barnapp")) 1003 0x78
    ∷ []

-- barnapp gets its code at 1000, and tries it without a verifier, with one that is too short, and with the challenge itself
unfoldable pub barn_visit : List Call
barn_visit = authorization barn_query 1 9 (handed_at 1000 20 0x80) ∷ []

unfoldable pub guesses : List Call
guesses =
    barn_visit
    ++ token_at [] (barn_try []) 1100 0
    ∷ token_at [] (barn_try (verifying (bytes "short"))) 1101 0x28
    ∷ token_at [] (barn_try (verifying challenge_text)) 1102 0x50
    ∷ []

-- it exchanges the code, which is then shown again without a verifier
unfoldable pub barn_leak : List Call
barn_leak = barn_visit ++ token_at [] barn_body 1100 0x20 ∷ token_at [] (barn_try []) 1101 0x48 ∷ []

-- the visit's code, with a challenge
unfoldable pub challenged_visit : List Call
challenged_visit = authorization (rfc_query ++ challenging) 1 7 (handed_at 1000 20 0) ∷ []

-- what the calls are made of
unfoldable pub call_definitions : Unit {0}
unfolding rfc_query handed_at authorize_at header exchange_of repeating by_barnapp token_at code_text access_text refresh_text exchange_at refresh_for visit night challenge_text verifier other_verifier verifying barn_query less_query barn_text barn_try barn_body again_text less_text own_for own_text less_own_text day showing_by leak late_showing strangers impostors revoke_at revoking barn_revoking farewell one_less nothing_revoked pumps barn_visit guesses barn_leak challenged_visit
call_definitions = tt

-- ---- the cases

-- a call that is judged after some calls, and whether it yields or passes by the paper
pub record Case : Type 0 where
  pub call : Call
  pub paper : Bool

pub record Cases : Type 0 where
  pub calls : List Call
  pub judged : List Case

abbrev yes : Call → Case
yes c = record { call = c; paper = true }

abbrev no : Call → Case
no c = record { call = c; paper = false }

-- a call at the token endpoint with random bytes of its own
abbrev pub asking : List ℕ → List ℕ → ℕ → Call
asking h b clock = token_at h b clock 0xC0

unfoldable pub cases : List Cases
cases =
    record {
      calls = visit;
      judged =
          yes (exchange_at 1599)  -- "The code is live at 1599"
          ∷ no (exchange_at 1600)  -- "not at 1600"
          ∷ no (asking header (exchange_of code_text) 1510)  -- "the right one without its redirect"
          ∷ no (asking [] (by_barnapp code_text) 1510)  -- "the wrong client"
          ∷ yes (asking header (repeating code_text ++ verifying (bytes "short")) 1510)  -- no challenge was given, so no verifier is read
          ∷ no (check code_text 1510)  -- a code is no access token
          ∷ [];
    }
    ∷ record { calls = night; judged = no (exchange_at 1100) ∷ [] }  -- "A call at 1600, then exchange with clock 1100"
    ∷ record {
      calls = day;
      judged =
          no (asking header (repeating code_text) 1510)  -- it was exchanged
          ∷ yes (asking header (repeating less_text) 2105)
          ∷ no (asking header (repeating less_text) 2106)  -- 1506 and 600
          ∷ no (asking header (exchange_of less_text) 1510)
          ∷ no (asking [] (by_barnapp less_text) 1510)
          ∷ no (asking header (exchange_of less_text ++ bytes "&redirect_uri=https%3A%2F%2Fclient%2Eexample%2Ecom%2F") 1510)  -- another one
          ∷ no (asking header (repeating access_text) 1510)  -- an access token is no code
          ∷ yes (asking coded_header (repeating less_text) 1510)  -- the header's halves are coded
          ∷ no (asking coded_header (exchange_of barn_text) 1510)  -- the wrong client
          ∷ yes (asking header (refresh_for refresh_text []) 2593499)  -- no scope is asked
          ∷ no (asking header (refresh_for refresh_text []) 2593500)  -- 1500 and 2,592,000
          ∷ yes (asking header (refresh_for refresh_text (bytes "&scope=bill+peak")) 1510)  -- less is asked
          ∷ yes (asking header (refresh_for refresh_text (verifying (bytes "short"))) 1510)  -- a verifier is not read
          ∷ no (asking header (refresh_for refresh_text (bytes "&scope=power+pump")) 1510)  -- more is asked
          ∷ no (asking header (refresh_for refresh_text (bytes "&scope=power++bill")) 1510)  -- `power  bill` (two spaces) is bad
          ∷ no (asking [] (refresh_for refresh_text (bytes "&client_id=barnapp")) 1510)  -- the wrong client
          ∷ no (asking header (refresh_for access_text []) 1510)  -- an access token is no refresh token
          ∷ yes (check access_text 5099)
          ∷ no (check access_text 5100)  -- 1500 and 3,600
          ∷ yes (check again_text 5101)
          ∷ no (check refresh_text 1510)  -- a refresh token is no access token
          ∷ no (asking header (bytes "grant_type=authorization_code") 1510)  -- no code
          ∷ no (asking header (bytes "grant_type=refresh_token") 1510)  -- no refresh token
          ∷ yes (revoke_at header (revoking refresh_text) 1510)
          ∷ yes (revoke_at coded_header (revoking access_text) 1510)
          ∷ yes (revoke_at header (revoking (bytes "lost")) 1510)  -- "unknown"
          ∷ yes (revoke_at [] (barn_revoking less_text) 1510)  -- another client's code is no token
          ∷ no (revoke_at [] (barn_revoking refresh_text) 1510)  -- "a live token of another client"
          ∷ no (revoke_at [] (barn_revoking access_text) 5099)
          ∷ yes (revoke_at [] (barn_revoking access_text) 5100)  -- "run-out"
          ∷ no (revoke_at [] (revoking refresh_text ++ bytes "&client_id=s6BhdRkqt3") 1510)  -- no secret
          ∷ no (revoke_at header [] 1510)  -- no token
          ∷ [];
    }
    ∷ record {
      calls = farewell;
      judged =
          no (check access_text 1551)
          ∷ no (check access_text 0)  -- the clock goes back
          ∷ no (check again_text 1551)  -- by a refresh
          ∷ no (asking header (refresh_for refresh_text []) 1551)
          ∷ yes (asking header (repeating less_text) 1551)  -- another code
          ∷ yes (revoke_at header (revoking refresh_text) 1551)  -- once more
          ∷ yes (revoke_at [] (barn_revoking refresh_text) 1551)  -- which is unknown now
          ∷ [];
    }
    ∷ record {
      calls = one_less;
      judged =
          no (check access_text 1551)
          ∷ yes (check again_text 1551)  -- "an access token is cleared", and no other
          ∷ yes (asking header (refresh_for refresh_text []) 1551)
          ∷ [];
    }
    ∷ record {
      calls = nothing_revoked;
      judged =
          yes (check access_text 1551)
          ∷ yes (asking header (refresh_for refresh_text []) 1551)
          ∷ yes (asking header (repeating less_text) 1551)
          ∷ [];
    }
    ∷ record {
      calls = leak;
      judged =
          no (check access_text 1601)
          ∷ no (check again_text 1601)  -- by a refresh
          ∷ no (asking header (refresh_for refresh_text []) 1601)
          ∷ no (asking header (repeating code_text) 1599)  -- a third time
          ∷ yes (asking header (repeating less_text) 1601)  -- another code
          ∷ [];
    }
    ∷ record { calls = late_showing; judged = yes (check access_text 1601) ∷ yes (asking header (refresh_for refresh_text []) 1601) ∷ [] }
    ∷ record { calls = strangers; judged = yes (check access_text 1601) ∷ yes (check again_text 1601) ∷ [] }
    ∷ record { calls = impostors; judged = yes (check access_text 1601) ∷ [] }
    ∷ record {
      calls = barn_visit;
      judged =
          no (asking [] (barn_try []) 1510)  -- no verifier
          ∷ no (asking [] (barn_try (verifying other_verifier)) 1510)  -- of another digest
          ∷ no (asking [] (barn_try (verifying challenge_text)) 1510)  -- the challenge itself
          ∷ no (asking header (exchange_of barn_text ++ verifying verifier) 1510)  -- the wrong client
          ∷ no (asking [] barn_body 1600)
          ∷ [];
    }
    ∷ record { calls = guesses; judged = yes (asking [] barn_body 1510) ∷ [] }  -- nothing was spent; no redirect was given, so none is repeated
    ∷ record { calls = barn_leak; judged = no (check access_text 1510) ∷ [] }  -- of a spent code no verifier is read
    ∷ record {
      calls = challenged_visit;
      judged =
          yes (asking header (repeating code_text ++ verifying verifier) 1510)
          ∷ no (asking header (exchange_of code_text ++ verifying verifier) 1510)  -- no redirect
          ∷ no (asking header (repeating code_text) 1510)  -- no verifier
          ∷ [];
    }
    ∷ record {
      calls = pumps;
      judged =
          yes (asking header (own_for []) 1510)
          ∷ yes (asking coded_header (own_for []) 1510)
          ∷ yes (asking header (own_for (bytes "&scope=bill+peak+power")) 1510)  -- its whole set
          ∷ no (asking header (own_for (bytes "&scope=bill+peak+power+pump")) 1510)  -- beyond it
          ∷ no (asking header (own_for (bytes "&scope=power++bill")) 1510)  -- bad form
          ∷ no (asking [] (own_for (bytes "&client_id=barnapp")) 1510)  -- public
          ∷ no (asking [] (own_for (bytes "&client_id=barnapp&scope=power")) 1510)
          ∷ yes (check own_text 4599)
          ∷ no (check own_text 4600)  -- 1000 and 3,600
          ∷ yes (check less_own_text 4600)
          ∷ no (asking header (repeating own_text) 1510)  -- an access token is no code
          ∷ no (asking header (refresh_for own_text []) 1510)  -- nor a refresh token
          ∷ [];
    }
    ∷ []

-- what the server does
unfoldable pub yields : Call → Result → Bool
yields (authorization query decision farm handed) r = r.granted
yields (token h b handed) r = r.granted
yields (revocation h b clock output) r = r.granted
yields (check presented clock) r = r.passed

-- what the claim asks of what the calls contain
unfoldable pub may : Contents → Call → Bool
may c (authorization query decision farm handed) = false
may c (token h b handed) =
    let t = max handed.clock c.highest in
    cond (is_exchange b) (may_exchange sample_clients t c.standing h b)
    (cond (is_refresh b) (may_refresh sample_clients t c.standing h b) (may_have_own sample_clients t c.standing h b))
may c (revocation h b clock output) =
    is_admitted_to_revoke sample_clients h b && may_revoke sample_clients (max clock c.highest) c.standing h b
may c (check presented clock) = may_pass (max clock c.highest) c.standing presented

-- the call is one of those that the claim speaks of
unfoldable pub is_typed : Call → Bool
is_typed (authorization query decision farm handed) = ltb farm (2 ^ 32) && every (λ b. ltb b 256) handed.random
is_typed (token h b handed) = every (λ b. ltb b 256) handed.random
is_typed (revocation h b clock output) = true
is_typed (check presented clock) = true

unfoldable pub is_asked : Call → Bool
is_asked (authorization query decision farm handed) = false
is_asked (token h b handed) = is_admitted sample_clients h b && (is_exchange b || (is_refresh b || is_credentials b))
is_asked (revocation h b clock output) = true
is_asked (check presented clock) = true

unfoldable pub is_judged : Contents → Call → Bool
is_judged c k = is_typed k && (is_fitting k && distinct (twenties k ++ c.randoms))

-- what calls contain, over the sample clients
unfoldable pub left_in : List Call → Store
left_in cs = left_by_all sample_clients fresh (keep is_fitting cs)

unfoldable pub contained_in : List Call → Contents
contained_in cs = with_events sample_clients nothing_yet (events_on sample_clients fresh (keep is_fitting cs))

unfoldable pub claim_agrees : Contents → Case → Bool
claim_agrees c k = is_asked k.call && (is_judged c k.call && beq (may c k.call) k.paper)

unfoldable pub agrees_on : Store → Contents → Case → Bool
agrees_on g c k = claim_agrees c k && beq (yields k.call (result_on sample_clients g k.call)) k.paper

unfoldable pub agrees : Cases → Bool
agrees l = every (agrees_on (left_in l.calls) (contained_in l.calls)) l.judged && every is_typed l.calls

-- ---- what some calls contain

-- the redirect address that was given
unfoldable pub redirect : Value
redirect = once (bytes "https://client.example.com/cb")

-- what the first client gets for farm 7: a code, which is bound, or a token, from the visit's code
unfoldable pub code_until : List ℕ → ℕ → ℕ → Issue
code_until text scope expiry =
    record { sort = code; text = text; client = 0; farm = 7; scope = scope; address = redirect; challenge = missing; expiry = expiry; origin = text }

unfoldable pub token_until : Sort → List ℕ → ℕ → ℕ → Issue
token_until sort text scope expiry =
    record { sort = sort; text = text; client = 0; farm = 7; scope = scope; address = missing; challenge = missing; expiry = expiry; origin = code_text }

unfoldable pub barn_code : Issue
barn_code = record {
  sort = code;
  text = barn_text;
  client = 1;
  farm = 9;
  scope = 1;
  address = missing;
  challenge = once challenge_text;
  expiry = 2105;
  origin = barn_text;
}

unfoldable pub in_visit : Contents
in_visit = record { highest = 1000; standing = code_until code_text 11 1600 ∷ []; randoms = count_up 20 0 ∷ [] }

unfoldable pub in_day : Contents
in_day = record {
  highest = 1506;
  standing =
      code_until less_text 10 2106
      ∷ barn_code
      ∷ token_until access again_text 9 5102
      ∷ token_until refresh refresh_text 11 2593500
      ∷ token_until access access_text 11 5100
      ∷ as_spent (code_until code_text 11 1600)
      ∷ [];
  randoms =
      count_up 20 3
      ∷ count_up 20 0x80
      ∷ count_up 20 0x60
      ∷ count_up 20 0x74
      ∷ count_up 20 0xB0
      ∷ count_up 20 0xC4
      ∷ count_up 20 0x20
      ∷ count_up 20 0x34
      ∷ count_up 20 0x90
      ∷ count_up 20 0xA4
      ∷ count_up 20 2
      ∷ count_up 20 1
      ∷ count_up 20 0
      ∷ [];
}

-- behind that, barnapp's tokens stand
unfoldable pub evening : List Call
evening = day ++ asking [] barn_body 1510 ∷ []

unfoldable pub barn_token : Sort → List ℕ → ℕ → Issue
barn_token sort text expiry =
    record { sort = sort; text = text; client = 1; farm = 9; scope = 1; address = missing; challenge = missing; expiry = expiry; origin = barn_text }

unfoldable pub barn_access : List ℕ
barn_access = bytes "c0c1c2c3c4c5c6c7c8c9cacbcccdcecfd0d1d2d3"

unfoldable pub in_evening : Contents
in_evening = record {
  highest = 1510;
  standing =
      barn_token refresh (bytes "d4d5d6d7d8d9dadbdcdddedfe0e1e2e3e4e5e6e7") 2593510
      ∷ barn_token access barn_access 5110
      ∷ code_until less_text 10 2106
      ∷ as_spent barn_code
      ∷ token_until access again_text 9 5102
      ∷ token_until refresh refresh_text 11 2593500
      ∷ token_until access access_text 11 5100
      ∷ as_spent (code_until code_text 11 1600)
      ∷ [];
  randoms = count_up 20 0xC0 ∷ count_up 20 0xD4 ∷ in_day.randoms;
}

-- behind the second showing, the tokens from that code stand no longer
unfoldable pub in_leak : Contents
in_leak = record {
  highest = 1599;
  standing = code_until less_text 10 2106 ∷ barn_code ∷ as_spent (code_until code_text 11 1600) ∷ [];
  randoms = count_up 20 0x48 ∷ count_up 20 0x5C ∷ in_day.randoms;
}

-- and behind the revocation of the refresh token neither it nor the access tokens from that code
unfoldable pub in_farewell : Contents
in_farewell = record {
  highest = 1550;
  standing = code_until less_text 10 2106 ∷ barn_code ∷ as_spent (code_until code_text 11 1600) ∷ [];
  randoms = in_day.randoms;
}

-- the first client's tokens for itself
unfoldable pub own_until : List ℕ → ℕ → ℕ → Issue
own_until text scope expiry =
    record { sort = access; text = text; client = 0; farm = 0; scope = scope; address = missing; challenge = missing; expiry = expiry; origin = text }

unfoldable pub in_pumps : Contents
in_pumps = record {
  highest = 1003;
  standing = own_until less_own_text 8 4601 ∷ own_until own_text 11 4600 ∷ [];
  randoms =
      count_up 20 0x78
      ∷ count_up 20 0x8C
      ∷ count_up 20 0x50
      ∷ count_up 20 0x64
      ∷ count_up 20 0x28
      ∷ count_up 20 0x3C
      ∷ count_up 20 0xA0
      ∷ count_up 20 0xB4
      ∷ [];
}

-- the visit's code is exchanged at 1500
unfoldable pub exchange_visit : List Call
exchange_visit = visit ++ exchange_at 1500 ∷ []

unfoldable pub in_exchange_visit : Contents
in_exchange_visit = record {
  highest = 1500;
  standing =
      token_until refresh refresh_text 11 2593500 ∷ token_until access access_text 11 5100 ∷ as_spent (code_until code_text 11 1600) ∷ [];
  randoms = count_up 20 0x20 ∷ count_up 20 0x34 ∷ count_up 20 0 ∷ [];
}

-- and the refresh token is revoked at 1505
unfoldable pub gone : List Call
gone = exchange_visit ++ revoke_at header (revoking refresh_text) 1505 ∷ []

-- ---- verifiers

-- the challenge of a text's own digest is answered by it where it is 43 to 128 unreserved characters
own-answered : (v : List ℕ) → is_answered_by (once (base64_text url (digest v))) (once v)
    ≡ (leb 43 (length v) && leb (length v) 128 && every is_unreserved v)
unfolding is_answered_by verifies is_verifier_for
own-answered v = rw (same_refl (base64_text url (digest v))) (and-true _)

pub verifier-lengths : map (λ n. is_answered_by (once (base64_text url (digest (replicate n 97)))) (once (replicate n 97))) (42 ∷ 43 ∷ 128 ∷ 129 ∷ [])
    ≡ false ∷ true ∷ true ∷ false ∷ []
unfolding every any
verifier-lengths = ap (λ (f : ℕ → Bool). map f (42 ∷ 43 ∷ 128 ∷ 129 ∷ [])) (fun_ext (λ n. own-answered (replicate n 97)))

pub verifier-characters : keep is_unreserved (count_up 256 0) ≡ bytes "-.0123456789ABCDEFGHIJKLMNOPQRSTUVWXYZ_abcdefghijklmnopqrstuvwxyz~"
unfolding keep any
verifier-characters = refl

-- ---- room: beside the code or refresh token stand live access tokens, and so many slots are left

unfoldable pub beside : ℕ → Issue → List Issue
beside left e = e ∷ replicate (slots_in_all - 1 - left) (token_until access access_text 11 4600)

unfoldable pub may_beside : ℕ → List Bool
may_beside left =
    may_exchange sample_clients 1001 (beside left (code_until code_text 11 1600)) header (repeating code_text)
    ∷ may_refresh sample_clients 1001 (beside left (token_until refresh refresh_text 11 2593000)) header (refresh_for refresh_text [])
    ∷ may_have_own sample_clients 1001 (beside left (token_until refresh refresh_text 11 2593000)) header (own_for [])
    ∷ []

-- a spent code that runs out at 1600 takes one more slot
unfoldable pub may_beside_spent : ℕ → ℕ → Bool
may_beside_spent t left =
    may_exchange sample_clients t (as_spent (code_until code_text 11 1600) ∷ beside (left + 1) (code_until less_text 11 1700)) header (repeating less_text)

-- the same by the slots of a store
unfoldable pub slot_until : ℕ → List ℕ → ℕ → Slot
slot_until kind handle expiry = record { kind = kind; handle = handle; client = 0; farm = 7; scope = 11; expiry = expiry; link = replicate 32 0 }

unfoldable pub decided_beside : ℕ → Slot → List ℕ → Decision
decided_beside left s b =
    let slots = s ∷ replicate (slot_count - 1 - left) (slot_until kind_access (replicate 20 9) 4600) ++ replicate left free_slot in
    decision_on (plan_of 1001 slots (count_up 40 0x60) (read_token sample_clients header b))

unfoldable pub done_beside : ℕ → List Decision
done_beside left =
    decided_beside left (slot_until kind_bound_code (count_up 20 0) 1600) (repeating code_text)
    ∷ decided_beside left (slot_until kind_refresh (count_up 20 0x34) 2593000) (refresh_for refresh_text [])
    ∷ decided_beside left (slot_until kind_refresh (count_up 20 0x34) 2593000) (own_for [])
    ∷ []

-- ---- all that, computed

pub record Computed : Type 0 where
  pub cases-agree : every agrees cases ≡ true
  pub visit-contains : contained_in visit ≡ in_visit
  -- "A code issued next with clock 1100 expires at 2200."
  pub night-contains : contained_in (night ++ exchange_at 1100 ∷ authorize_at 1100 3 ∷ [])
      ≡ record {
        highest = 1600;
        standing = code_until less_text 11 2200 ∷ code_until code_text 11 1600 ∷ [];
        randoms = count_up 20 3 ∷ count_up 20 0x20 ∷ count_up 20 0x34 ∷ count_up 20 0 ∷ [];
      }
  -- "Identical requests are never merged: two grants, two codes."
  pub twice-contain : contained_in (authorize_at 1000 0 ∷ authorize_at 1000 3 ∷ [])
      ≡ record {
        highest = 1000;
        standing = code_until less_text 11 1600 ∷ code_until code_text 11 1600 ∷ [];
        randoms = count_up 20 3 ∷ count_up 20 0 ∷ [];
      }
  pub day-contains : contained_in day ≡ in_day
  pub evening-contains : contained_in evening ≡ in_evening
  pub leak-contains : contained_in leak ≡ in_leak
  pub farewell-contains : contained_in farewell ≡ in_farewell
  pub exchange-contains : contained_in exchange_visit ≡ in_exchange_visit
  pub exchange-issues : issued_by sample_clients 1500 in_visit.standing (exchange_at 1500) (result_on sample_clients (left_in visit) (exchange_at 1500))
      ≡ token_until refresh refresh_text 11 2593500 ∷ token_until access access_text 11 5100 ∷ []
  pub pumps-contain : contained_in pumps ≡ in_pumps
  pub visit-typed : every is_typed visit ≡ true
  pub day-typed : every is_typed day ≡ true
  pub evening-typed : every is_typed evening ≡ true
  pub leak-typed : every is_typed leak ≡ true
  pub farewell-typed : every is_typed farewell ≡ true
  pub exchange-typed : every is_typed exchange_visit ≡ true
  pub gone-typed : every is_typed gone ≡ true
  pub gone-judged : is_judged (contained_in gone) (check access_text 1000) ≡ true
  pub pumps-typed : every is_typed pumps ≡ true
  -- why the claim asks that random bytes never come twice: an exchange in time that brings those of its code gets 500
  pub clash : let again = token_at header (repeating code_text) 1510 0 in
      may in_visit again ∷ yields again (result_on sample_clients (left_in visit) again) ∷ is_judged in_visit again ∷ [] ≡ true ∷ false ∷ false ∷ []
  -- the day leaves room for one more code
  pub code-granted : (result_on sample_clients (left_in day) (authorize_at 1510 0xC0)).granted ≡ true
  pub barn-granted : (result_on sample_clients (left_in day) (authorization barn_query 1 9 (handed_at 1510 20 0xC0))).granted ≡ true
  -- the first client's code, bound, for farm 7, scopes 10 and until 2106, in the bytes that the day leaves
  pub code-kept : part (encode_store (left_in day)) (8 + 5 * 67) 67
      ≡ 2 ∷ count_up 20 3 ++ 0 ∷ 0 ∷ 0 ∷ 0 ∷ 7 ∷ 10 ∷ 0 ∷ 0 ∷ 0 ∷ 0 ∷ 0 ∷ 0 ∷ 8 ∷ 58 ∷ replicate 32 0
  -- barnapp's, unbound, for farm 9, scope 1 and until 2105, with its challenge
  pub challenge-kept : part (encode_store (left_in day)) (8 + 4 * 67) 67
      ≡ 6 ∷ count_up 20 0x80 ++ 1 ∷ 0 ∷ 0 ∷ 0 ∷ 9 ∷ 1 ∷ 0 ∷ 0 ∷ 0 ∷ 0 ∷ 0 ∷ 0 ∷ 8 ∷ 57 ∷ challenge
  -- the visit's code is spent, and its tokens have its handle
  pub code-spent : part (encode_store (left_in day)) 8 67
      ≡ 5 ∷ count_up 20 0 ++ 0 ∷ 0 ∷ 0 ∷ 0 ∷ 7 ∷ 11 ∷ 0 ∷ 0 ∷ 0 ∷ 0 ∷ 0 ∷ 0 ∷ 6 ∷ 64 ∷ replicate 32 0
  pub tokens-from : map (λ i. drop 35 (part (encode_store (left_in day)) (8 + i * 67) 67)) (1 ∷ 2 ∷ 3 ∷ []) ≡ replicate 3 (count_up 20 0 ++ replicate 12 0)
  -- so that these hold tokens from it, and it does not
  pub token-held : holds_token_from code_text (part (encode_store (left_in day)) (8 + 67) 67) ≡ true
  pub none-held : holds_token_from code_text (part (encode_store (left_in day)) 8 67) ≡ false
  -- with the refresh token, the second of them, go all three, neither their code nor another; with an access token it alone
  pub goes_with_lem : map (λ i. is_cleared sample_clients 1510 in_day.standing header (revoking refresh_text) (part (encode_store (left_in day)) (8 + i * 67) 67)) (0 ∷ 1 ∷ 2 ∷ 3 ∷ 4 ∷ 5 ∷ [])
      ≡ false ∷ true ∷ true ∷ true ∷ false ∷ false ∷ []
  pub goes-alone : map (λ i. is_cleared sample_clients 1510 in_day.standing header (revoking access_text) (part (encode_store (left_in day)) (8 + i * 67) 67)) (0 ∷ 1 ∷ 2 ∷ 3 ∷ 4 ∷ 5 ∷ [])
      ≡ false ∷ true ∷ false ∷ false ∷ false ∷ false ∷ []
  -- two slots to exchange, one to refresh or for a client itself
  pub room-asked : may_beside 2 ++ may_beside 1 ++ may_beside 0
      ≡ true ∷ true ∷ true ∷ false ∷ true ∷ true ∷ false ∷ false ∷ false ∷ []
  pub room-found : done_beside 2 ++ done_beside 1 ++ done_beside 0
      ≡ Ok tt
      ∷ Ok tt
      ∷ Ok tt
      ∷ Err (Failed NoRoom)
      ∷ Ok tt
      ∷ Ok tt
      ∷ Err (Failed NoRoom)
      ∷ Err (Failed NoRoom)
      ∷ Err (Failed NoRoom)
      ∷ []
  -- a spent code takes room until it runs out
  pub room-of-spent : may_beside_spent 1001 2 ∷ may_beside_spent 1001 1 ∷ may_beside_spent 1599 1 ∷ may_beside_spent 1600 1 ∷ []
      ≡ true ∷ false ∷ false ∷ true ∷ []

pub computed : Computed
unfolding text_definitions registry_definitions slot_definitions digest_definitions endpoint_definitions claim_definitions server_definitions call_definitions exchange_visit in_exchange_visit gone in_farewell base64_text digit64 in_leak may_beside_spent own_until in_pumps encode_store decode_slot cut big_endian_from redirect code_until token_until barn_code in_visit in_day evening barn_token barn_access in_evening beside may_beside slot_until decided_beside done_beside yields may is_typed is_asked is_judged left_in contained_in claim_agrees agrees_on agrees cases keep fresh
computed = record {
  cases-agree = refl;
  visit-contains = refl;
  night-contains = refl;
  twice-contain = refl;
  day-contains = refl;
  evening-contains = refl;
  leak-contains = refl;
  farewell-contains = refl;
  exchange-contains = refl;
  exchange-issues = refl;
  pumps-contain = refl;
  visit-typed = refl;
  day-typed = refl;
  evening-typed = refl;
  leak-typed = refl;
  farewell-typed = refl;
  exchange-typed = refl;
  gone-typed = refl;
  gone-judged = refl;
  pumps-typed = refl;
  clash = refl;
  code-granted = refl;
  barn-granted = refl;
  code-kept = refl;
  challenge-kept = refl;
  code-spent = refl;
  tokens-from = refl;
  token-held = refl;
  none-held = refl;
  goes_with_lem = refl;
  goes-alone = refl;
  room-asked = refl;
  room-found = refl;
  room-of-spent = refl;
}
