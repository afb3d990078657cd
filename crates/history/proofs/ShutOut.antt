-- The servers of UselessServers do not meet the claim: after a short list of calls demand 3 is false of each, so that every clause of
-- the claim shuts out some server.
--
-- In order: what the servers do to stores as records; the lists of calls and the calls judged after them, by computation; that none of
-- the servers meets the claim (`useless`, `unmet`). At the end a server that the claim does not shut out: "demand 3 alone holds of a
-- desk that issues nothing".
-- Assumes nothing.
use mathlib.Core.Path.{◌≡◌, refl, sym, ap, ap₂, ◌∙◌, subst}
use mathlib.Core.Bool.{not, Bool, true, false, cond, ◌&&◌, ◌||◌, false≢true, and-false, or-true}
use mathlib.Core.List.Memᴰ
use mathlib.Core.List.{List, [], ◌∷◌, ◌++◌, map}
use Prim.Native.Nat.{ℕ, ◌≤◌, max}
use Rattle.std.specs.Prelude.{replicate, unwrap_or}
use native.Mathlib.Omega.{arith}
use lib.Dec.{ltb, eqb, lit≤, lit<}
use lib.ListN.{length, get_or, length-map, get_or-map}
use lib.Seq.{drop_at}
use Rattle.octets.specs.Lists.{every, same}
use Rattle.octets.specs.Search.{replace_first, keep, index_where, any}
use Rattle.octets.specs.Text.{bytes}
use Rattle.octets.specs.BigEndian.{big_endian_bytes, big_endian_from}
use Rattle.octets.proofs.BigEndian.{length-be-bytes}
use Rattle.octets.proofs.Booleans.{and_left, cond_of}
use Rattle.octets.proofs.Counting.{length-replace_first, length-replace_all}
use Rattle.octets.proofs.Searches.{replace_first-each, replace_all-each}
use Rattle.octets.proofs.Lists.{same_refl, same-eq}
use Rattle.encoding.specs.Hex.{read_handle}
use Rattle.encoding.specs.Base64.{read_digest, base64_text, digit64}
use Rattle.form_coding.specs.Coding.{sound}
use Rattle.client_registry.specs.Sample.{sample_clients, sample_registry}
use Rattle.client_registry.specs.Registry.{clients_of}
use Rattle.token_store.specs.Store.{kind_code, kind_bound_code, code_kind, no_link, is_bound_code, is_challenged, free_slot, Store, encode, decode, fresh, slot_of, is_vacant, concat, encode_slot, with_slots, with_time, is_sought, comes_from}
use Rattle.token_store.specs.Fit.{fit_link}
use Rattle.token_store.specs.Layout.{time_size, slot_count, handle_size}
use Rattle.token_store.specs.declared.Slot.{Slot}
use Rattle.token_store.specs.declared.Sought.TheVariants.{Code as sought_code, Refresh as sought_refresh, Token as sought_token}
use Rattle.token_store.proofs.Slots.{free-fits, sought-used}
use Rattle.token_store.proofs.Fits.{fit_free, fit-used}
use Rattle.protocol.specs.Requests.{fits}
use Rattle.protocol.specs.Outcomes.{Handed}
use Rattle.protocol.proofs.Computing.{text_definitions, registry_definitions, digest_definitions, endpoint_definitions}
use Rattle.protocol.proofs.Starred.{count_up, rfc_query}
use Rattle.history.specs.Contents.{standing_after, with_event, is_second_showing, is_withdrawn_by, value_of, Issue, Contents, nothing_yet, with_events, is_exchange, is_refresh, is_credentials, is_admitted}
use Rattle.history.specs.Claim.{may_refresh, may_pass, may_exchange, Demand3, CredentialsYield}
use Rattle.history.specs.Server.{ours}
use Rattle.history.specs.Calls.{Call, authorization, token, revocation, check, handed_to, WellTyped, AllWellTyped, Result, Server, events, fresh_store}
use Rattle.history.proofs.Computing.{claim_definitions, server_definitions}
use Rattle.history.proofs.AnyCall.{left_by, store-on}
use Rattle.history.proofs.SoundStores.{SoundSlot, AllSound, sound-used, used-fields, sound_back, sound-fresh}
use Rattle.history.proofs.Readings.{FieldsFit}
use Rattle.history.proofs.AllCalls.{fresh-bytes}
use Rattle.history.proofs.CallsOnRecords.{result_on, is_fitting}
use Rattle.history.proofs.Sample.{tested-bytes, SoundSample, sample-served, sample-left}
use Rattle.history.proofs.Examples.{handed_at, authorize_at, header, repeating, by_barnapp, token_at, code_text, access_text, refresh_text, exchange_at, refresh_for, challenge_text, verifying, challenged_visit, visit, night, is_typed, own_for, own_text, revoke_at, revoking, barn_revoking, call_definitions}
use Rattle.history.proofs.Visit.{tested-calls}
use Rattle.history.proofs.ServersOnRecords.{Model, Follows, left_after, events_after, contained_after, all, is_named_wrongly, exchanges_wrongly, refreshes_wrongly, exchange_replies_wrongly, refresh_replies_wrongly, credentials_wrongly, credentials_replies_wrongly, passes_wrongly, names_wrongly, locates_wrongly, measures_wrongly, spends_slot, unequal, exchange-fails, refresh-fails, exchange-reply-fails, refresh-reply-fails, credentials-fails, credentials-reply-fails, pass-fails, name-fails, locate-fails, measure-fails, spend-fails}
use Rattle.history.proofs.UselessServers.{answering, one_more, invented_seconds, not_passed, never_passes, unwritten, writes_nothing, unmeasured, says_no_length, leaving, untouched, leaving_from, code_in, spent, spends_on_refusal, spent_unanswered, spends_unanswered, put_back, code_twice, unkept, forgets_own, unwithdrawn, keeps_tokens, withdrawn, withdraws_for_anyone, revoked_as, token_in, not_revoked, revokes_nothing, access_left, leaves_access, anyone_revokes, revokes_for_anyone, handed_clock, seen_as, seeing, wide, widens_scope, bare, unasked, ignores_verifier, plainly, takes_challenge, stock, first_only, yields_always, refuses_everyone}

-- ---- what they do to stores as records

abbrev answering_model : (Call → Result → Result) → Model
answering_model otherwise = record { result = λ g c. otherwise c (result_on sample_clients g c); left = λ g c. left_by sample_clients g c }

answering-follows : (otherwise : Call → Result → Result) → ((c : Call) (r : Result) → (otherwise c r).store ≡ r.store)
    → Follows (answering otherwise) (answering_model otherwise)
answering-follows otherwise same_Store = record {
  results = λ g w c typed e. ap (otherwise c) (sample-served g w c e);
  stores = λ g w c e. same_Store c (result_on sample_clients g c) ∙ store-on sample_clients g c;
  sounds = λ g w c typed e. sample-left g w c typed e;
}

untouched_model : Model
untouched_model = record { result = λ g c. leaving (encode g) (result_on sample_clients g c); left = λ g c. g }

untouched-follows : Follows untouched untouched_model
unfolding untouched untouched_model
untouched-follows = record {
  results = λ g w c typed e. ap (leaving (encode g)) (sample-served g w c e);
  stores = λ g w c e. refl;
  sounds = λ g w c typed e. w;
}

module _ (instead : Call → Bool → Store → Store → Store) where
  -- the store that is left instead
  abbrev instead_on : Store → Call → Store
  instead_on g c = instead c (result_on sample_clients g c).granted g (left_by sample_clients g c)

  abbrev leaving_model : Model
  leaving_model = record {
    result = λ g c. let r = result_on sample_clients g c in cond r.unfit r (leaving (encode (instead_on g c)) r);
    left = λ g c. cond (result_on sample_clients g c).unfit (left_by sample_clients g c) (instead_on g c);
  }

  leaving-stores : (b : Bool) (r : Result) (g h : Store) → r.store ≡ encode g → (cond b r (leaving (encode h) r)).store ≡ encode (cond b g h)
  leaving-stores true r g h e = e
  leaving-stores false r g h e = refl

  leaving-follows : ((c : Call) (granted : Bool) (before after : Store) → SoundSample before → SoundSample after
      → SoundSample (instead c granted before after)) → Follows (leaving_from instead) leaving_model
  leaving-follows sound = record {
    results = λ g w c typed e.
        let r = result_on sample_clients g c in
        let back = ap decode (store-on sample_clients g c) ∙ sound_back (left_by sample_clients g c) (sample-left g w c typed e) in
        ap (λ (r : Result). cond r.unfit r (leaving (encode (instead c r.granted (decode (encode g)) (decode r.store))) r))
        (sample-served g w c e)
        ∙ ap₂ (λ (before after : Store). cond r.unfit r (leaving (encode (instead c r.granted before after)) r)) (sound_back g w) back;
    stores = λ g w c e.
        let r = result_on sample_clients g c in
        leaving-stores r.unfit r (left_by sample_clients g c) (instead_on g c) (store-on sample_clients g c);
    sounds = λ g w c typed e.
        let r = result_on sample_clients g c in
        let after = left_by sample_clients g c in
        let s = sample-left g w c typed e in
        cond_of SoundSample r.unfit after (instead_on g c) (λ _. s) (λ _. sound c r.granted g after w s);
  }

free-slot : SoundSlot (length sample_clients) free_slot
free-slot = record { fits = free-fits; fit = fit_free _ }

-- a slot put in place of another
sound-replaced : (p : Slot → Bool) (s : Slot) → SoundSlot (length sample_clients) s → (g : Store) → SoundSample g
    → SoundSample (with_slots g (replace_first p s g.slots))
sound-replaced p s new g w = record {
  size = length-replace_first p s g.slots ∙ w.size;
  early = w.early;
  slots = replace_first-each p free_slot (SoundSlot (length sample_clients)) s new g.slots w.slots;
}

sound-spent : (c : Call) (granted : Bool) (before after : Store) → SoundSample before → SoundSample after
    → SoundSample (spent c granted before after)
unfolding spent
sound-spent (authorization query decision farm handed) granted before after b a = a
sound-spent (token header body handed) true before after b a = a
sound-spent (token header body handed) false before after b a =
    sound-replaced (code_in body) free_slot free-slot after a
sound-spent (revocation header body clock output) granted before after b a = a
sound-spent (check presented clock) granted before after b a = a

sound-unanswered : (c : Call) (granted : Bool) (before after : Store) → SoundSample before → SoundSample after
    → SoundSample (spent_unanswered c granted before after)
unfolding spent_unanswered
sound-unanswered (authorization query decision farm handed) granted before after b a = a
sound-unanswered (token header body handed) granted before after b a = sound-spent (token header body handed) _ before after b a
sound-unanswered (revocation header body clock output) granted before after b a = a
sound-unanswered (check presented clock) granted before after b a = a

sound-put : (c : Call) (granted : Bool) (before after : Store) → SoundSample before → SoundSample after
    → SoundSample (put_back c granted before after)
unfolding put_back
sound-put (authorization query decision farm handed) granted before after b a = a
sound-put (token header body handed) true before after b a =
    let at = index_where (code_in body) before.slots in
    sound-replaced (is_vacant after.time) (slot_of before at) (b.slots at) after a
sound-put (token header body handed) false before after b a = a
sound-put (revocation header body clock output) granted before after b a = a
sound-put (check presented clock) granted before after b a = a

sound-unkept : (c : Call) (granted : Bool) (before after : Store) → SoundSample before → SoundSample after
    → SoundSample (unkept c granted before after)
unfolding unkept
sound-unkept (authorization query decision farm handed) granted before after b a = a
sound-unkept (token header body handed) granted before after b a =
    cond_of SoundSample (is_credentials body) (with_slots after before.slots) after
    (λ _. record { size = b.size; early = a.early; slots = b.slots }) (λ _. a)
sound-unkept (revocation header body clock output) granted before after b a = a
sound-unkept (check presented clock) granted before after b a = a

sound-unwithdrawn : (c : Call) (granted : Bool) (before after : Store) → SoundSample before → SoundSample after
    → SoundSample (unwithdrawn c granted before after)
unfolding unwithdrawn
sound-unwithdrawn c true before after b a = a
sound-unwithdrawn c false before after b a = record { size = b.size; early = a.early; slots = b.slots }

sound-withdrawn : (c : Call) (granted : Bool) (before after : Store) → SoundSample before → SoundSample after
    → SoundSample (withdrawn c granted before after)
unfolding withdrawn
sound-withdrawn (authorization query decision farm handed) granted before after b a = a
sound-withdrawn (token header body handed) true before after b a = a
sound-withdrawn (token header body handed) false before after b a =
    let from = comes_from sought_token (unwrap_or (read_handle (value_of body (bytes "code"))) (replicate handle_size 0)) in
    record {
      size = length-replace_all free_slot from after.slots ∙ a.size;
      early = a.early;
      slots = replace_all-each free_slot from (SoundSlot (length sample_clients)) free-slot after.slots a.slots;
    }
sound-withdrawn (revocation header body clock output) granted before after b a = a
sound-withdrawn (check presented clock) granted before after b a = a

-- slots that are sound, where those before and after are
abbrev SoundSlots : List Slot → Type 0
SoundSlots l = (length l ≡ slot_count) × AllSound (length sample_clients) l

sound-revoked : (f : List ℕ → Bool → List Slot → List Slot → List Slot)
    → ((body : List ℕ) (granted : Bool) (before after : List Slot) → SoundSlots before → SoundSlots after → SoundSlots (f body granted before after))
    → (c : Call) (granted : Bool) (before after : Store) → SoundSample before → SoundSample after → SoundSample (revoked_as f c granted before after)
unfolding revoked_as
sound-revoked f sound (authorization query decision farm handed) granted before after b a = a
sound-revoked f sound (token header body handed) granted before after b a = a
sound-revoked f sound (revocation header body clock output) granted before after b a =
    let s = sound body granted before.slots after.slots (b.size, b.slots) (a.size, a.slots) in
    record { size = s.0; early = a.early; slots = s.1 }
sound-revoked f sound (check presented clock) granted before after b a = a

sound-freed : (p : Slot → Bool) (l : List Slot) → SoundSlots l → SoundSlots (replace_first p free_slot l)
sound-freed p l s = (
  length-replace_first p free_slot l ∙ s.0,
  replace_first-each p free_slot (SoundSlot (length sample_clients)) free_slot free-slot l s.1,
)

abbrev reading_model : (Call → Store → Store) → Model
reading_model instead = record {
  result = λ g c. result_on sample_clients (instead c g) c;
  left = λ g c. left_by sample_clients (instead c g) c;
}

reading-follows : (server : Server) (instead : Call → Store → Store) → ((c : Call) (g : Store) → SoundSample g → SoundSample (instead c g))
    → ((c : Call) (g : Store) → SoundSample g → server sample_registry (encode g) c ≡ ours sample_registry (encode (instead c g)) c)
    → Follows server (reading_model instead)
reading-follows server instead sound reads = record {
  results = λ g w c typed e. reads c g w ∙ sample-served (instead c g) (sound c g w) c e;
  stores = λ g w c e. store-on sample_clients (instead c g) c;
  sounds = λ g w c typed e. sample-left (instead c g) (sound c g w) c typed e;
}

abbrev untimed : Call → Store → Store
untimed c g = with_time g 0

handed-follows : Follows handed_clock (reading_model untimed)
unfolding handed_clock encode
handed-follows =
    reading-follows handed_clock untimed (λ c g w. record { size = w.size; early = omega arith; slots = w.slots })
    (λ c g w.
    ap (λ (l : List ℕ). ours sample_registry (big_endian_bytes time_size 0 ++ l) c)
    (drop_at (big_endian_bytes time_size g.time) (concat (map encode_slot g.slots)) time_size (length-be-bytes time_size g.time)))

-- a slot that is read as another
abbrev KeepsSound : (Slot → Slot) → Type 0
KeepsSound f = (s : Slot) → SoundSlot (length sample_clients) s → SoundSlot (length sample_clients) (f s)

few : length sample_clients ≤ 64
unfolding sample_clients
few = lit≤ tt

sound-wide : (body : List ℕ) → KeepsSound (wide body)
unfolding fit_link
sound-wide body s w = cond_of (SoundSlot (length sample_clients)) (is_sought sought_refresh s) _ s by (λ _. w)
  where
    by : is_sought sought_refresh s ≡ true
        → SoundSlot (length sample_clients)
        (record { kind = s.kind; handle = s.handle; client = s.client; farm = s.farm; scope = 255; expiry = s.expiry; link = s.link })
    by e =
        let used = sought-used sought_refresh s e in
        let u = fit-used (length sample_clients) s used w.fit in
        let f = used-fields (length sample_clients) s used w in
        sound-used (length sample_clients) _ used few u.kind w.fits.handle w.fits.expiry
        (record { client = f.client; wide = f.wide; scope = record { some = lit< tt; byte = lit< tt } }) (w.fits.link, u.link)

sound-bare : (s : Slot) → is_challenged s ≡ true → SoundSlot (length sample_clients) s → SoundSlot (length sample_clients) (bare s)
unfolding fit_link every
sound-bare s e w = by (is_bound_code s)
  where
    fields : FieldsFit (length sample_clients) s.client s.farm s.scope
    fields =
        used-fields (length sample_clients) s
        (sought-used sought_code s (rw e (or-true (eqb s.kind kind_code || eqb s.kind kind_bound_code)))) w

    by : (b : Bool) → SoundSlot (length sample_clients)
        (record { kind = code_kind b false; handle = s.handle; client = s.client; farm = s.farm; scope = s.scope; expiry = s.expiry; link = no_link })
    by true = sound-used _ _ refl few (lit≤ tt) w.fits.handle w.fits.expiry fields (refl, refl)
    by false = sound-used _ _ refl few (lit≤ tt) w.fits.handle w.fits.expiry fields (refl, refl)

sound-unasked : (body : List ℕ) → KeepsSound (unasked body)
sound-unasked body s w = cond_of (SoundSlot (length sample_clients)) (is_challenged s) (bare s) s (λ e. sound-bare s e w) (λ _. w)

sound-plainly : (body : List ℕ) → KeepsSound (plainly body)
sound-plainly body s w =
    let is = same (unwrap_or (read_digest (value_of body (bytes "code_verifier"))) no_link) s.link in
    cond_of (SoundSlot (length sample_clients)) (is_challenged s && is) (bare s) s (λ e. sound-bare s (and_left (is_challenged s) is e) w) (λ _. w)

module _ (is_grant_type : List ℕ → Bool) (f : List ℕ → Slot → Slot) (keeps : (body : List ℕ) → KeepsSound (f body))
    (free : (body : List ℕ) → f body free_slot ≡ free_slot) where
  sound-seen : (c : Call) (g : Store) → SoundSample g → SoundSample (seen_as is_grant_type f c g)
  unfolding seen_as
  sound-seen (authorization query decision farm handed) g w = w
  sound-seen (token header body handed) g w =
      cond_of SoundSample (is_grant_type body) (with_slots g (map (f body) g.slots)) g
      (λ _. record {
        size = length-map g.slots (f body) ∙ w.size;
        early = w.early;
        slots = λ k.
            subst (SoundSlot (length sample_clients))
            (sym (get_or-map (f body) g.slots k free_slot) ∙ ap (λ (d : Slot). get_or (map (f body) g.slots) k d) (free body))
            (keeps body (slot_of g k) (w.slots k));
      })
      (λ _. w)
  sound-seen (revocation header body clock output) g w = w
  sound-seen (check presented clock) g w = w

  seeing-follows : Follows (seeing is_grant_type f) (reading_model (seen_as is_grant_type f))
  seeing-follows =
      reading-follows (seeing is_grant_type f) (seen_as is_grant_type f) sound-seen
      (λ c g w. ap (λ (s : Store). ours sample_registry (encode (seen_as is_grant_type f c s)) c) (sound_back g w))

-- by any test for the fresh store
abbrev first_model : (Store → Bool) → Model
first_model is_first = record {
  result = λ g c. cond (is_first g) (result_on sample_clients g c) (stock false (encode g) c);
  left = λ g c. cond (is_first g) (left_by sample_clients g c) g;
}

abbrev is_fresh : Store → Bool
is_fresh g = same (encode g) fresh_store

first-stores : (b : Bool) (g : Store) (c : Call)
    → (cond b (result_on sample_clients g c) (stock false (encode g) c)).store ≡ encode (cond b (left_by sample_clients g c) g)
first-stores true g c = store-on sample_clients g c
first-stores false g c = refl

first-follows : Follows first_only (first_model is_fresh)
unfolding first_only
first-follows = record {
  results = λ g w c typed e. ap (λ (r : Result). cond (is_fresh g) r (stock false (encode g) c)) (sample-served g w c e);
  stores = λ g w c e. first-stores (is_fresh g) g c;
  sounds = λ g w c typed e. cond_of SoundSample (is_fresh g) (left_by sample_clients g c) g (λ _. sample-left g w c typed e) (λ _. w);
}

abbrev stock_model : Bool → Model
stock_model yields = record { result = λ g c. stock yields (encode g) c; left = λ g c. g }

stock-follows : (yields : Bool) → Follows (λ registry store c. stock yields store c) (stock_model yields)
stock-follows yields = record { results = λ g w c typed e. refl; stores = λ g w c e. refl; sounds = λ g w c typed e. w }

-- ---- the calls

-- the wrong client tries the code of the visit
unfoldable pub wrong_try : Call
wrong_try = token_at [] (by_barnapp code_text) 1510 0x60

unfoldable pub tried : List Call
tried = authorize_at 1000 0 ∷ wrong_try ∷ []

-- the code is exchanged at 1500
unfoldable pub exchanged : List Call
exchanged = authorize_at 1000 0 ∷ exchange_at 1500 ∷ []

-- and shown again at 1505, by its client and by the other
unfoldable pub shown_again : List Call
shown_again = authorize_at 1000 0 ∷ exchange_at 1500 ∷ token_at header (repeating code_text) 1505 0x60 ∷ []

unfoldable pub shown_by_other : List Call
shown_by_other = authorize_at 1000 0 ∷ exchange_at 1500 ∷ token_at [] (by_barnapp code_text) 1505 0x60 ∷ []

-- its refresh token is revoked at 1505, and its access token by the other client
unfoldable pub revoked : List Call
revoked = authorize_at 1000 0 ∷ exchange_at 1500 ∷ revoke_at header (revoking refresh_text) 1505 ∷ []

unfoldable pub revoked_by_other : List Call
revoked_by_other = authorize_at 1000 0 ∷ exchange_at 1500 ∷ revoke_at [] (barn_revoking access_text) 1505 ∷ []

-- a refresh that asks for more than was granted, and one that asks for nothing
unfoldable wider : List ℕ
wider = refresh_for refresh_text (bytes "&scope=power+pump")

unfoldable again : List ℕ
again = refresh_for refresh_text []

-- the first client asks for itself
unfoldable pub itself : List Call
itself = token_at header (own_for []) 1000 0xA0 ∷ []

-- the visit's code, which has a challenge, is tried without a verifier; and with the challenge as verifier
unfoldable pub unanswered : Call
unanswered = token_at header (repeating code_text) 1100 0x20

unfoldable challenge_shown : List ℕ
challenge_shown = repeating code_text ++ verifying challenge_text

-- tests of a call that is judged after some
module _ (m : Model) (cs : List Call) where
  abbrev comes_to : Call → Result
  comes_to c = m.result (left_after m fresh cs) c

  abbrev token_tests : (Contents → Result → List ℕ → List ℕ → Handed → List Bool) → List ℕ → ℕ → ℕ → Bool
  token_tests tests body clock first =
      let handed = handed_at clock 40 first in all (tests (contained_after m cs) (comes_to (token header body handed)) header body handed)

  abbrev check_tests : (Contents → Result → List ℕ → ℕ → List Bool) → List ℕ → Bool
  check_tests tests presented = all (tests (contained_after m cs) (comes_to (check presented 1510)) presented 1510)

  abbrev code_tests : (Contents → Result → List ℕ → ℕ → ℕ → Handed → List Bool) → Bool
  code_tests tests =
      let handed = handed_at 1000 20 0 in
      all (tests (contained_after m cs) (comes_to (authorization rfc_query 1 7 handed)) rfc_query 1 7 handed)

  abbrev exchange_tests : ℕ → ℕ → Bool
  exchange_tests clock first = token_tests exchanges_wrongly (repeating code_text) clock first

-- a refused call clears the first slot
abbrev clears_first : (Call → Bool → Store → Store → Store) → List Call → Call → Bool
clears_first instead cs c =
    let m = leaving_model instead in
    let g = left_after m fresh cs in
    all (spends_slot (contained_after m cs) c (comes_to m cs c) g (m.left g c) 0)

-- the exchange after the visit, where the store before it is told to be fresh or not, and then the store behind it
first_wrong : Bool → Bool → Bool
first_wrong before behind =
    let a = authorize_at 1000 0 in
    let handed = handed_at 1100 40 0x20 in
    let c = token header (repeating code_text) handed in
    let g = cond before (left_by sample_clients fresh a) fresh in
    let r = cond before (result_on sample_clients fresh a) (stock false (encode fresh) a) in
    all (exchanges_wrongly (with_events sample_clients nothing_yet (record { call = a; result = r } ∷ []))
    (cond behind (result_on sample_clients g c) (stock false (encode g) c)) header (repeating code_text) handed)

-- ---- all that, computed

record Computed : Type 0 where
  visit-typed : every is_typed visit ≡ true
  visit-fits : every is_fitting visit ≡ true
  tried_typed : every is_typed tried ≡ true
  tried-fits : every is_fitting tried ≡ true
  night-typed : every is_typed night ≡ true
  night-fits : every is_fitting night ≡ true
  exchanged-typed : every is_typed exchanged ≡ true
  exchanged-fits : every is_fitting exchanged ≡ true
  untouched : exchange_tests untouched_model visit 1100 0x20 ≡ true
  first-late : not (eqb (left_by sample_clients fresh (authorize_at 1000 0)).time 0) ≡ true
  first : first_wrong true false ≡ true
  spends : exchange_tests (leaving_model spent) tried 1520 0x20 ≡ true
  challenged-typed : every is_typed challenged_visit ≡ true
  challenged-fits : every is_fitting challenged_visit ≡ true
  ignores : exchange_tests (reading_model (seen_as is_exchange unasked)) challenged_visit 1100 0x20 ≡ true
  takes : token_tests (reading_model (seen_as is_exchange plainly)) challenged_visit exchanges_wrongly challenge_shown 1100 0x20 ≡ true
  spends-unanswered : clears_first spent_unanswered challenged_visit unanswered ≡ true
  clears : clears_first spent visit wrong_try ≡ true
  handed : exchange_tests (reading_model untimed) night 1100 0x20 ≡ true
  seconds : check_tests (answering_model one_more) exchanged names_wrongly access_text ≡ true
  twice : exchange_tests (leaving_model put_back) exchanged 1510 0x60 ≡ true
  again-typed : every is_typed shown_again ≡ true
  again-fits : every is_fitting shown_again ≡ true
  other-typed : every is_typed shown_by_other ≡ true
  other_fits : every is_fitting shown_by_other ≡ true
  keeps : check_tests (leaving_model unwithdrawn) shown_again passes_wrongly access_text ≡ true
  withdraws : check_tests (leaving_model withdrawn) shown_by_other passes_wrongly access_text ≡ true
  revoked-typed : every is_typed revoked ≡ true
  revoked-fits : every is_fitting revoked ≡ true
  by-other-typed : every is_typed revoked_by_other ≡ true
  by-other-fits : every is_fitting revoked_by_other ≡ true
  nothing-revoked : check_tests (leaving_model (revoked_as not_revoked)) revoked passes_wrongly access_text ≡ true
  access-left : check_tests (leaving_model (revoked_as access_left)) revoked passes_wrongly access_text ≡ true
  anyone-revokes : check_tests (leaving_model (revoked_as anyone_revokes)) revoked_by_other passes_wrongly access_text ≡ true
  widens : token_tests (reading_model (seen_as is_refresh wide)) exchanged refreshes_wrongly wider 1510 0x60 ≡ true
  never : check_tests (answering_model not_passed) exchanged passes_wrongly access_text ≡ true
  itself-typed : every is_typed itself ≡ true
  itself-fits : every is_fitting itself ≡ true
  forgets : check_tests (leaving_model unkept) itself passes_wrongly own_text ≡ true
  silent-code : code_tests (answering_model unwritten) [] locates_wrongly ≡ true
  silent-exchange : token_tests (answering_model unwritten) visit exchange_replies_wrongly (repeating code_text) 1100 0x20 ≡ true
  silent-refresh : token_tests (answering_model unwritten) exchanged refresh_replies_wrongly again 1510 0x60 ≡ true
  silent-own : token_tests (answering_model unwritten) [] credentials_replies_wrongly (own_for []) 1100 0x20 ≡ true
  length-code : code_tests (answering_model unmeasured) [] measures_wrongly ≡ true
  yields : exchange_tests (stock_model true) [] 1100 0x20 ≡ true
  refuses : token_tests (stock_model false) [] credentials_wrongly (own_for []) 1100 0x20 ≡ true

computed : Computed
unfolding text_definitions registry_definitions digest_definitions endpoint_definitions claim_definitions server_definitions call_definitions revoked_as revoked revoked_by_other base64_text digit64 big_endian_from first_wrong untouched_model spent put_back unkept unwithdrawn withdrawn shown_again shown_by_other seen_as spent_unanswered itself wrong_try tried exchanged wider again unanswered challenge_shown is_typed is_named_wrongly left_after events_after keep free_slot fresh
computed = record {
  visit-typed = refl;
  visit-fits = refl;
  tried_typed = refl;
  tried-fits = refl;
  night-typed = refl;
  night-fits = refl;
  exchanged-typed = refl;
  exchanged-fits = refl;
  untouched = refl;
  first-late = refl;
  first = refl;
  spends = refl;
  challenged-typed = refl;
  challenged-fits = refl;
  ignores = refl;
  takes = refl;
  spends-unanswered = refl;
  clears = refl;
  handed = refl;
  seconds = refl;
  twice = refl;
  again-typed = refl;
  again-fits = refl;
  other-typed = refl;
  other_fits = refl;
  keeps = refl;
  withdraws = refl;
  revoked-typed = refl;
  revoked-fits = refl;
  by-other-typed = refl;
  by-other-fits = refl;
  nothing-revoked = refl;
  access-left = refl;
  anyone-revokes = refl;
  widens = refl;
  never = refl;
  itself-typed = refl;
  itself-fits = refl;
  forgets = refl;
  silent-code = refl;
  silent-exchange = refl;
  silent-refresh = refl;
  silent-own = refl;
  length-code = refl;
  yields = refl;
  refuses = refl;
}

-- ---- demand 3 is false of them

pub record Refuted (server : Server) (cs : List Call) : Type 0 where
  pub typed : AllWellTyped cs
  pub fails : Demand3 server sample_registry cs → ⊥

exchange-refuted : {server : Server} {m : Model} → Follows server m → (cs : List Call) → every is_typed cs ≡ true → every is_fitting cs ≡ true
    → (clock first : ℕ) → every (λ b. ltb b 256) (handed_at clock 40 first).random ≡ true → exchange_tests m cs clock first ≡ true
    → Refuted server cs
exchange-refuted f cs typed fits clock first small e =
    let t = tested-calls cs typed in
    let handed = handed_at clock 40 first in
    record { typed = t; fails = exchange-fails f cs t fits header (repeating code_text) handed (tested-bytes handed.random small) e }

pass-refuted : {server : Server} {m : Model} → Follows server m → (cs : List Call) → every is_typed cs ≡ true → every is_fitting cs ≡ true
    → (presented : List ℕ) → check_tests m cs passes_wrongly presented ≡ true → Refuted server cs
pass-refuted f cs typed fits presented e =
    let t = tested-calls cs typed in record { typed = t; fails = pass-fails f cs t fits presented 1510 e }

-- a store with a time is not fresh
later-store : (g : Store) → SoundSample g → not (eqb g.time 0) ≡ true → is_fresh g ≡ false
unfolding fresh
later-store g w late = by (is_fresh g) refl
  where
    by : (b : Bool) → is_fresh g ≡ b → b ≡ false
    by true e =
        let same_Store = ap decode (same-eq (encode g) fresh_store e ∙ fresh-bytes) in
        let back = sym (sound_back g w) ∙ same_Store ∙ sound_back fresh (sound-fresh (length sample_clients)) in
        absurd (unequal g.time 0 (ap (λ (s : Store). s.time) back) late)
    by false e = refl

first-computed : exchange_tests (first_model is_fresh) visit 1100 0x20 ≡ true
unfolding first_wrong visit left_after events_after every AllWellTyped
first-computed =
    let a = authorize_at 1000 0 in
    let before : is_fresh fresh ≡ true = ap (λ (b : List ℕ). same b fresh_store) (sym fresh-bytes) ∙ same_refl fresh_store in
    let typed = (tested-calls visit computed.visit-typed).0 in
    let left = sample-left fresh (sound-fresh _) a typed (and_left (is_fitting a) true computed.visit-fits) in
    let behind : is_fresh (cond (is_fresh fresh) (left_by sample_clients fresh a) fresh) ≡ false =
    ap (λ (b : Bool). is_fresh (cond b (left_by sample_clients fresh a) fresh)) before
    ∙ later-store (left_by sample_clients fresh a) left computed.first-late
    in
    ap₂ first_wrong before behind ∙ computed.first

-- for each server the calls, and behind them the one at which a clause of the claim is false
pub record Useless : Type 0 where
  -- the exchange at 1100: its code is never found
  pub untouched-visit : Refuted untouched visit
  pub first-visit : Refuted first_only visit
  -- the exchange at 1520; and before it the wrong client's try, which clears the slot
  pub spends-tried : Refuted spends_on_refusal tried
  pub spends-visit : Refuted spends_on_refusal visit
  -- the exchange at 1100
  pub handed-night : Refuted handed_clock night
  -- the check at 1510
  pub seconds-exchanged : Refuted invented_seconds exchanged
  pub never-exchanged : Refuted never_passes exchanged
  pub forgets-itself : Refuted forgets_own itself
  -- the second exchange, at 1510
  pub twice-exchanged : Refuted code_twice exchanged
  -- the check at 1510, of a token whose code was shown again by its client, and by another
  pub keeps-again : Refuted keeps_tokens shown_again
  pub withdraws-other : Refuted withdraws_for_anyone shown_by_other
  -- the check at 1510, of a token whose refresh token was revoked; and of one that another client would revoke
  pub nothing-revoked : Refuted revokes_nothing revoked
  pub access-left : Refuted leaves_access revoked
  pub anyone-revokes : Refuted revokes_for_anyone revoked_by_other
  -- the refresh at 1510, which asks for more
  pub widens-exchanged : Refuted widens_scope exchanged
  -- the exchange at 1100 of a code with a challenge: without a verifier, which yields, and which clears the slot; and with the challenge as verifier
  pub ignores-challenged : Refuted ignores_verifier challenged_visit
  pub unanswered-challenged : Refuted spends_unanswered challenged_visit
  pub takes-challenged : Refuted takes_challenge challenged_visit
  -- the location at 1000, the reply to a client for itself and that to the exchange at 1100, the reply to the refresh at 1510
  pub silent-none : Refuted writes_nothing []
  pub silent-own : Refuted writes_nothing []
  pub silent-visit : Refuted writes_nothing visit
  pub silent-exchanged : Refuted writes_nothing exchanged
  -- the location at 1000
  pub length_none : Refuted says_no_length []
  -- the exchange at 1100, though no code was issued
  pub yields_none : Refuted yields_always []

pub useless : Useless
unfolding invented_seconds never_passes writes_nothing says_no_length spends_on_refusal code_twice forgets_own keeps_tokens withdraws_for_anyone revokes_nothing leaves_access revokes_for_anyone yields_always AllWellTyped every handed_at token_at wrong_try unanswered ignores_verifier takes_challenge spends_unanswered widens_scope free_slot
useless =
    let visit-typed = tested-calls visit computed.visit-typed in
    let exchanged-typed = tested-calls exchanged computed.exchanged-typed in
    let challenged-typed = tested-calls challenged_visit computed.challenged-typed in
    let silent-follows = answering-follows unwritten (λ c r. refl) in
    let code-typed : WellTyped (authorization rfc_query 1 7 (handed_at 1000 20 0)) = (lit< tt, tested-bytes (count_up 20 0) refl) in
    let token-typed = tested-bytes (count_up 40 0x60) refl in
    record {
      untouched-visit = exchange-refuted untouched-follows visit computed.visit-typed computed.visit-fits 1100 0x20 refl computed.untouched;
      first-visit = exchange-refuted first-follows visit computed.visit-typed computed.visit-fits 1100 0x20 refl first-computed;
      spends-tried =
          exchange-refuted (leaving-follows spent sound-spent) tried computed.tried_typed computed.tried-fits 1520 0x20 refl
          computed.spends;
      spends-visit = record {
        typed = visit-typed;
        fails =
            spend-fails (leaving-follows spent sound-spent) visit visit-typed computed.visit-fits wrong_try token-typed 0 (lit< tt)
            computed.clears;
      };
      handed-night = exchange-refuted handed-follows night computed.night-typed computed.night-fits 1100 0x20 refl computed.handed;
      seconds-exchanged = record {
        typed = exchanged-typed;
        fails =
            name-fails (answering-follows one_more (λ c r. refl)) exchanged exchanged-typed computed.exchanged-fits access_text 1510
            computed.seconds;
      };
      never-exchanged =
          pass-refuted (answering-follows not_passed (λ c r. refl)) exchanged computed.exchanged-typed computed.exchanged-fits access_text
          computed.never;
      forgets-itself =
          pass-refuted (leaving-follows unkept sound-unkept) itself computed.itself-typed computed.itself-fits own_text computed.forgets;
      twice-exchanged =
          exchange-refuted (leaving-follows put_back sound-put) exchanged computed.exchanged-typed computed.exchanged-fits 1510 0x60 refl
          computed.twice;
      keeps-again =
          pass-refuted (leaving-follows unwithdrawn sound-unwithdrawn) shown_again computed.again-typed computed.again-fits access_text
          computed.keeps;
      withdraws-other =
          pass-refuted (leaving-follows withdrawn sound-withdrawn) shown_by_other computed.other-typed computed.other_fits access_text
          computed.withdraws;
      nothing-revoked =
          pass-refuted (leaving-follows (revoked_as not_revoked) (sound-revoked not_revoked (λ body granted before after b a. b))) revoked
          computed.revoked-typed computed.revoked-fits access_text computed.nothing-revoked;
      access-left =
          pass-refuted
          (leaving-follows (revoked_as access_left)
          (sound-revoked access_left
          (λ body granted before after b a.
          cond_of SoundSlots granted _ after (λ _. sound-freed (token_in sought_refresh body) before b) (λ _. a))))
          revoked computed.revoked-typed computed.revoked-fits access_text computed.access-left;
      anyone-revokes =
          pass-refuted
          (leaving-follows (revoked_as anyone_revokes)
          (sound-revoked anyone_revokes (λ body granted before after b a. sound-freed (token_in sought_token body) after a)))
          revoked_by_other computed.by-other-typed computed.by-other-fits access_text computed.anyone-revokes;
      widens-exchanged = record {
        typed = exchanged-typed;
        fails =
            refresh-fails (seeing-follows is_refresh wide sound-wide (λ body. refl)) exchanged exchanged-typed computed.exchanged-fits header wider (handed_at 1510 40 0x60) token-typed
            computed.widens;
      };
      ignores-challenged =
          exchange-refuted (seeing-follows is_exchange unasked sound-unasked (λ body. refl)) challenged_visit computed.challenged-typed
          computed.challenged-fits 1100 0x20 refl computed.ignores;
      unanswered-challenged = record {
        typed = challenged-typed;
        fails =
            spend-fails (leaving-follows spent_unanswered sound-unanswered) challenged_visit challenged-typed computed.challenged-fits unanswered
            (tested-bytes (count_up 40 0x20) refl) 0 (lit< tt) computed.spends-unanswered;
      };
      takes-challenged = record {
        typed = challenged-typed;
        fails =
            exchange-fails (seeing-follows is_exchange plainly sound-plainly (λ body. refl)) challenged_visit challenged-typed
            computed.challenged-fits header challenge_shown (handed_at 1100 40 0x20) (tested-bytes (count_up 40 0x20) refl) computed.takes;
      };
      silent-none = record {
        typed = tt;
        fails = locate-fails silent-follows [] tt refl rfc_query 1 7 (handed_at 1000 20 0) code-typed computed.silent-code;
      };
      silent-own = record {
        typed = tt;
        fails =
            credentials-reply-fails silent-follows [] tt refl header (own_for []) (handed_at 1100 40 0x20) (tested-bytes (count_up 40 0x20) refl)
            computed.silent-own;
      };
      silent-visit = record {
        typed = visit-typed;
        fails =
            exchange-reply-fails silent-follows visit visit-typed computed.visit-fits header (repeating code_text) (handed_at 1100 40 0x20)
            (tested-bytes (count_up 40 0x20) refl) computed.silent-exchange;
      };
      silent-exchanged = record {
        typed = exchanged-typed;
        fails =
            refresh-reply-fails silent-follows exchanged exchanged-typed computed.exchanged-fits header again (handed_at 1510 40 0x60)
            token-typed computed.silent-refresh;
      };
      length_none = record {
        typed = tt;
        fails =
            measure-fails (answering-follows unmeasured (λ c r. refl)) [] tt refl rfc_query 1 7 (handed_at 1000 20 0) code-typed
            computed.length-code;
      };
      yields_none = exchange-refuted (stock-follows true) [] refl refl 1100 0x20 refl computed.yields;
    }

-- the whole claim, for every list of calls over the sample registry
abbrev pub Fulfils : Server → Type 0
Fulfils server = (cs : List Call) → AllWellTyped cs → Demand3 server sample_registry cs

-- a server with such a list does not meet it
pub unmet : {server : Server} {cs : List Call} → Refuted server cs → Fulfils server → ⊥
unmet {cs = cs} r claim = r.fails (claim cs r.typed)

-- ---- what the claim does not shut out: "demand 3 alone holds of a desk that issues nothing"

module _ (registry : List ℕ) where
  nothing-stands : (b : List ℕ) (cs : List Call) (k : Contents) → k.standing ≡ []
      → (with_events (clients_of registry) k (events refuses_everyone registry b cs)).standing ≡ []
  unfolding refuses_everyone events with_events with_event standing_after keep
  nothing-stands b [] k e = e
  nothing-stands b (c ∷ cs) k e =
      let t = max (handed_to c).clock k.highest in
      nothing-stands b cs _ (ap (λ (l : List Issue). keep (λ x. not (is_withdrawn_by (clients_of registry) t l c x)) l) e)

  -- so that nothing is shown twice
  nothing-shown : (t : ℕ) (c : Call) → is_second_showing (clients_of registry) t [] c ≡ false
  unfolding is_second_showing any
  nothing-shown t (authorization query decision farm handed) = refl
  nothing-shown t (token h b handed) = and-false (is_admitted (clients_of registry) h b && is_exchange b)
  nothing-shown t (revocation h b clock output) = refl
  nothing-shown t (check presented clock) = refl

  pub refusing-meets : (cs : List Call) → Demand3 refuses_everyone registry cs
  unfolding refuses_everyone may_exchange may_refresh may_pass any
  refusing-meets cs =
      let none = nothing-stands fresh_store cs nothing_yet refl in
      record {
        exchanges = λ header body handed asks is. rw none;
        refreshes = λ header body handed asks is. rw none;
        passes = λ presented clock judged. rw none;
        names = λ presented clock judged e member live is. absurd (Memᴰ.not-nil (rw none at member));
        exchange_replies = λ header body handed asks is granted. absurd (false≢true granted);
        refresh_replies = λ header body handed asks is granted. absurd (false≢true granted);
        credentials_replies = λ header body handed asks is granted. absurd (false≢true granted);
        locates = λ query decision farm handed judged granted. absurd (false≢true granted);
        spends_nothing = λ c judged refused i below. rw (none, nothing-shown _ c);
      }

-- beyond the demand it is shut out: a confidential client that asks for itself must be served
pub refusing-fails : CredentialsYield refuses_everyone sample_registry [] → ⊥
unfolding refuses_everyone AllWellTyped every handed_at
refusing-fails =
    credentials-fails (stock-follows false) [] tt refl header (own_for []) (handed_at 1100 40 0x20) (tested-bytes (count_up 40 0x20) refl)
    computed.refuses
