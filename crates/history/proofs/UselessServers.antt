-- Servers that are useless or bad, as document 01 lists them and beyond, each ours but for one thing. ShutOut shows for each a short
-- list of calls after which demand 3 is false of it.
--
-- In order: servers that answer otherwise than ours, that leave another store, that read another store than the one handed in, and
-- with a stock reply.
use mathlib.Core.Bool.{not, Bool, true, false, cond, ◌&&◌, ◌||◌}
use mathlib.Core.List.{List, ◌++◌, map}
use Prim.Native.Nat.{ℕ, ◌+◌}
use Rattle.std.specs.Prelude.{replicate, unwrap_or}
use lib.ListN.{drop}
use Rattle.octets.specs.Lists.{same}
use Rattle.octets.specs.Search.{replace_first, index_where}
use Rattle.octets.specs.Text.{bytes}
use Rattle.octets.specs.BigEndian.{big_endian_bytes}
use Rattle.encoding.specs.Hex.{read_handle}
use Rattle.encoding.specs.Base64.{read_digest}
use Rattle.form.specs.Content.{form_value, is_missing}
use Rattle.token_store.specs.Store.{code_kind, no_link, is_bound_code, is_challenged, free_slot, Store, encode, decode, sought_key, slot_of, issue, with_slots, is_sought, without_tokens}
use Rattle.token_store.specs.Layout.{time_size, handle_size}
use Rattle.token_store.specs.declared.Slot.{Slot}
use Rattle.token_store.specs.declared.Sought.{Sought}
use Rattle.token_store.specs.declared.Sought.TheVariants.{Code as sought_code, Refresh as sought_refresh, Token as sought_token}
use Rattle.history.specs.Contents.{value_of, is_exchange, is_refresh, is_credentials}
use Rattle.history.specs.Server.{nothing_named, ours}
use Rattle.history.specs.Calls.{Call, authorization, token, revocation, check, handed_to, Result, Server, fresh_store}
use Rattle.history.proofs.Examples.{header}

-- ---- servers that answer otherwise than ours

abbrev pub answering : (Call → Result → Result) → Server
answering otherwise registry store c = otherwise c (ours registry store c)

-- "one whose seconds left are invented"
abbrev pub one_more : Call → Result → Result
one_more c r = record {
  unfit = r.unfit;
  granted = r.granted;
  passed = r.passed;
  named = record { client = r.named.client; farm = r.named.farm; scope = r.named.scope; left = r.named.left + 1 };
  length = r.length;
  output = r.output;
  store = r.store;
}

unfoldable pub invented_seconds : Server
invented_seconds = answering one_more

-- no token passes its check
abbrev pub not_passed : Call → Result → Result
not_passed c r = record {
  unfit = r.unfit;
  granted = r.granted;
  passed = false;
  named = r.named;
  length = r.length;
  output = r.output;
  store = r.store;
}

unfoldable pub never_passes : Server
never_passes = answering not_passed

-- no answer is written
abbrev pub unwritten : Call → Result → Result
unwritten c r = record {
  unfit = r.unfit;
  granted = r.granted;
  passed = r.passed;
  named = r.named;
  length = r.length;
  output = (handed_to c).output;
  store = r.store;
}

unfoldable pub writes_nothing : Server
writes_nothing = answering unwritten

-- every answer is said to have no length
abbrev pub unmeasured : Call → Result → Result
unmeasured c r = record {
  unfit = r.unfit;
  granted = r.granted;
  passed = r.passed;
  named = r.named;
  length = 0;
  output = r.output;
  store = r.store;
}

unfoldable pub says_no_length : Server
says_no_length = answering unmeasured

-- ---- servers that leave another store than ours

abbrev pub leaving : List ℕ → Result → Result
leaving store r = record {
  unfit = r.unfit;
  granted = r.granted;
  passed = r.passed;
  named = r.named;
  length = r.length;
  output = r.output;
  store = store;
}

-- "one that never touches the ledger"
unfoldable pub untouched : Server
untouched registry store c = leaving store (ours registry store c)

-- past refusals 1 to 4, by the stores that our server was handed and left
abbrev pub leaving_from : (Call → Bool → Store → Store → Store) → Server
leaving_from instead registry store c =
    let r = ours registry store c in
    cond r.unfit r (leaving (encode (instead c r.granted (decode store) (decode r.store))) r)

-- the key of the code that a call presents
abbrev pub code_in : List ℕ → Slot → Bool
code_in body = sought_key sought_code (read_handle (value_of body (bytes "code")))

-- "Spending a code when the wrong client, or the right one without its redirect, tries it."
unfoldable pub spent : Call → Bool → Store → Store → Store
spent (authorization query decision farm handed) granted before after = after
spent (token header body handed) granted before after =
    cond granted after (with_slots after (replace_first (code_in body) free_slot after.slots))
spent (revocation header body clock output) granted before after = after
spent (check presented clock) granted before after = after

unfoldable pub spends_on_refusal : Server
spends_on_refusal = leaving_from spent

-- a code is spent when it is tried without a verifier
unfoldable pub spent_unanswered : Call → Bool → Store → Store → Store
spent_unanswered (authorization query decision farm handed) granted before after = after
spent_unanswered (token header body handed) granted before after =
    spent (token header body handed) (granted || not (is_missing (form_value body (bytes "code_verifier")))) before after
spent_unanswered (revocation header body clock output) granted before after = after
spent_unanswered (check presented clock) granted before after = after

unfoldable pub spends_unanswered : Server
spends_unanswered = leaving_from spent_unanswered

-- an exchange, after which its code is found again
unfoldable pub put_back : Call → Bool → Store → Store → Store
put_back (authorization query decision farm handed) granted before after = after
put_back (token header body handed) granted before after =
    cond granted (with_slots after (issue after.time (slot_of before (index_where (code_in body) before.slots)) after.slots)) after
put_back (revocation header body clock output) granted before after = after
put_back (check presented clock) granted before after = after

unfoldable pub code_twice : Server
code_twice = leaving_from put_back

-- a client's token for itself is not kept
unfoldable pub unkept : Call → Bool → Store → Store → Store
unkept (authorization query decision farm handed) granted before after = after
unkept (token header body handed) granted before after = cond (is_credentials body) (with_slots after before.slots) after
unkept (revocation header body clock output) granted before after = after
unkept (check presented clock) granted before after = after

unfoldable pub forgets_own : Server
forgets_own = leaving_from unkept

-- a code that is shown again withdraws nothing
unfoldable pub unwithdrawn : Call → Bool → Store → Store → Store
unwithdrawn c granted before after = cond granted after (with_slots after before.slots)

unfoldable pub keeps_tokens : Server
keeps_tokens = leaving_from unwithdrawn

-- a code that is shown again withdraws its tokens, whoever shows it; a text that is no handle counts as the handle of zeros
unfoldable pub withdrawn : Call → Bool → Store → Store → Store
withdrawn (authorization query decision farm handed) granted before after = after
withdrawn (token header body handed) granted before after =
    let handle = unwrap_or (read_handle (value_of body (bytes "code"))) (replicate handle_size 0) in
    cond granted after (with_slots after (without_tokens sought_token handle after.slots))
withdrawn (revocation header body clock output) granted before after = after
withdrawn (check presented clock) granted before after = after

unfoldable pub withdraws_for_anyone : Server
withdraws_for_anyone = leaving_from withdrawn

-- by a revocation other slots are left, of those before and after it
unfoldable pub revoked_as : (List ℕ → Bool → List Slot → List Slot → List Slot) → Call → Bool → Store → Store → Store
revoked_as f (authorization query decision farm handed) granted before after = after
revoked_as f (token header body handed) granted before after = after
revoked_as f (revocation header body clock output) granted before after = with_slots after (f body granted before.slots after.slots)
revoked_as f (check presented clock) granted before after = after

-- the key of the token that is shown
abbrev pub token_in : Sought → List ℕ → Slot → Bool
token_in q body = sought_key q (read_handle (value_of body (bytes "token")))

-- nothing is cleared
abbrev pub not_revoked : List ℕ → Bool → List Slot → List Slot → List Slot
not_revoked body granted before after = before

unfoldable pub revokes_nothing : Server
revokes_nothing = leaving_from (revoked_as not_revoked)

-- the refresh token is cleared, and its access tokens are left
abbrev pub access_left : List ℕ → Bool → List Slot → List Slot → List Slot
access_left body granted before after = cond granted (replace_first (token_in sought_refresh body) free_slot before) after

unfoldable pub leaves_access : Server
leaves_access = leaving_from (revoked_as access_left)

-- the token is cleared, whoever shows it
abbrev pub anyone_revokes : List ℕ → Bool → List Slot → List Slot → List Slot
anyone_revokes body granted before after = replace_first (token_in sought_token body) free_slot after

unfoldable pub revokes_for_anyone : Server
revokes_for_anyone = leaving_from (revoked_as anyone_revokes)

-- ---- servers that read another store than the one handed in

-- "Expiry compared with the clock handed in, not with T.": the mark counts as zero
unfoldable pub handed_clock : Server
handed_clock registry store c = ours registry (big_endian_bytes time_size 0 ++ drop time_size store) c

-- by an exchange or a refresh, each slot is read as another
unfoldable pub seen_as : (List ℕ → Bool) → (List ℕ → Slot → Slot) → Call → Store → Store
seen_as is_grant_type f (authorization query decision farm handed) g = g
seen_as is_grant_type f (token header body handed) g = cond (is_grant_type body) (with_slots g (map (f body) g.slots)) g
seen_as is_grant_type f (revocation header body clock output) g = g
seen_as is_grant_type f (check presented clock) g = g

abbrev pub seeing : (List ℕ → Bool) → (List ℕ → Slot → Slot) → Server
seeing is_grant_type f registry store c = ours registry (encode (seen_as is_grant_type f c (decode store))) c

-- "A refresh that widens scope": a refresh token counts as granted for every name
abbrev pub wide : List ℕ → Slot → Slot
wide body s =
    cond (is_sought sought_refresh s)
    (record { kind = s.kind; handle = s.handle; client = s.client; farm = s.farm; scope = 255; expiry = s.expiry; link = s.link })
    s

unfoldable pub widens_scope : Server
widens_scope = seeing is_refresh wide

-- a code with a challenge, as one without
abbrev pub bare : Slot → Slot
bare s = record {
  kind = code_kind (is_bound_code s) false;
  handle = s.handle;
  client = s.client;
  farm = s.farm;
  scope = s.scope;
  expiry = s.expiry;
  link = no_link;
}

-- no verifier is asked
abbrev pub unasked : List ℕ → Slot → Slot
unasked body s = cond (is_challenged s) (bare s) s

unfoldable pub ignores_verifier : Server
ignores_verifier = seeing is_exchange unasked

-- the challenge itself is taken for a verifier, as by the method `plain`; a text that is no digest counts as zeros
abbrev pub plainly : List ℕ → Slot → Slot
plainly body s = cond (is_challenged s && same (unwrap_or (read_digest (value_of body (bytes "code_verifier"))) no_link) s.link) (bare s) s

unfoldable pub takes_challenge : Server
takes_challenge = seeing is_exchange plainly

-- ---- servers with a stock reply

abbrev pub stock : Bool → List ℕ → Call → Result
stock yields store c = record {
  unfit = false;
  granted = yields;
  passed = yields;
  named = nothing_named;
  length = 0;
  output = (handed_to c).output;
  store = store;
}

-- "one that serves only its first call rightly": any other store than the fresh one is refused
unfoldable pub first_only : Server
first_only registry store c = cond (same store fresh_store) (ours registry store c) (stock false store c)

-- "one with a single stock reply", which yields
unfoldable pub yields_always : Server
yields_always registry store c = stock true store c

-- "one that refuses everyone"
unfoldable pub refuses_everyone : Server
refuses_everyone registry store c = stock false store c
