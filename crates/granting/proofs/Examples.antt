-- Examples of the definitions, by computation: requests on a store of some slots that are granted or refused, each for one
-- reason, and the slots that a grant and a refusal leave.
-- Assumes nothing.
use Prim.Native.Nat.{ℕ}
use mathlib.Core.Path.{◌≡◌, refl}
use mathlib.Core.Bool.{Bool, true, false}
use mathlib.Core.List.{List, [], ◌∷◌, ◌++◌, map}
use Rattle.std.specs.Prelude.{Option, Some, None, Result, Err}
use lib.ListN.{replicate}
use Rattle.octets.specs.Lists.{same}
use Rattle.token_store.specs.Layout.{handle_size}
use Rattle.octets.specs.Search.{count, any, first_or, replace_first, replace_all}
use Rattle.token_store.specs.Store.{kind_code, kind_bound_code, kind_access, kind_refresh, kind_spent, no_link, link_to, free_slot, spent_code}
use Rattle.token_store.specs.declared.Slot.{Slot}
use Rattle.protocol.specs.declared.ErrorWord.TheVariants.{InvalidGrant, InvalidScope, TemporarilyUnavailable, ServerError}
use Rattle.protocol.specs.declared.Refusal.{Refusal}
use Rattle.protocol.specs.declared.Refusal.TheVariants.{Redirect, Token, Failed}
use Rattle.protocol.specs.declared.Failure.TheVariants.{NoRoom, Clash}
use Rattle.protocol.specs.declared.ScopeAsked.{ScopeAsked}
use Rattle.protocol.specs.declared.ScopeAsked.TheVariants.{Everything, Only, Unreadable}
use Rattle.protocol.specs.declared.Request.TheVariants.{Code, Exchange, Refresh, Credentials, Revocation}
use Rattle.protocol.specs.declared.Reading.{Reading}
use Rattle.protocol.specs.Refusals.{first_of}
use Rattle.protocol.specs.Requests.{fits, scope_given, presenting_none, refused_reading}
use Rattle.protocol.specs.Granting.{Plan, refused_plan, code_plan, exchange_plan, refresh_plan, credentials_plan, revocation_plan, plan_for, plan_of, decision_on, slots_by, slots_after}
use Rattle.granting.specs.declared.Issued.{Issued}
use Rattle.granting.specs.Granted.{granted_with, granted_by}

-- a handle of one byte twenty times, and as it is presented
abbrev handle : ℕ → List ℕ
handle x = replicate handle_size x

abbrev shown : ℕ → Option (List ℕ)
shown x = Some (handle x)

-- of client 0, for farm 5 and the scope set 11: a slot of a kind, with a handle, until some time, with a link; that to a code
abbrev slot : ℕ → ℕ → ℕ → List ℕ → Slot
slot kind x expiry link = record { kind = kind; handle = handle x; client = 0; farm = 5; scope = 11; expiry = expiry; link = link }

abbrev from : ℕ → List ℕ
from x = link_to (handle x)

-- a bound code that runs out at 1600, and a refresh token
abbrev code : Slot
code = slot kind_bound_code 7 1600 no_link

abbrev token : Slot
token = slot kind_refresh 8 9000 (from 6)

abbrev slots : List Slot
slots = free_slot ∷ code ∷ token ∷ free_slot ∷ []

-- a spent code with its tokens, one of which has run out, and another's; and without the tokens
abbrev exchanged : List Slot
exchanged = slot kind_spent 6 1600 no_link ∷ slot kind_access 5 900 (from 6) ∷ token ∷ slot kind_access 4 9000 (from 7) ∷ []

abbrev cleared : List Slot
cleared = slot kind_spent 6 1600 no_link ∷ free_slot ∷ free_slot ∷ slot kind_access 4 9000 (from 7) ∷ []

-- a code for farm 5 and the scope set 11, and what presents a code or a refresh token
abbrev authorize : Bool → Reading
authorize bound = presenting_none (Code (record { client = 0; farm = 5; scope = 11; bound = bound }))

abbrev exchange : ℕ → ℕ → Bool → Reading
exchange client x again = record { request = Exchange (record { client = client; again = again }); presented = shown x; challenge = None }

abbrev refresh : ℕ → ℕ → ScopeAsked → Reading
refresh client x scope = record { request = Refresh (record { client = client; scope = scope }); presented = shown x; challenge = None }

abbrev revocation : ℕ → ℕ → Reading
revocation client x = record { request = Revocation (record { client = client }); presented = shown x; challenge = None }

-- an access token for client 0 itself
abbrev itself : Reading
itself = presenting_none (Credentials (record { client = 0; scope = 9 }))

-- the random bytes of two handles
abbrev random : ℕ → ℕ → List ℕ
random x y = handle x ++ handle y

-- a call's time, slots, random bytes and reading, and what is granted
pub record Case : Type 0 where
  pub t : ℕ
  pub slots : List Slot
  pub random : List ℕ
  pub reading : Reading
  pub answer : Result Issued Refusal

abbrev case : ℕ → List Slot → List ℕ → Reading → Result Issued Refusal → Case
case t slots random reading answer = record { t = t; slots = slots; random = random; reading = reading; answer = answer }

abbrev cases : List Case
cases =
    -- a code; no slot; the handle of a slot in use; a call that was refused as it was read
    case 1000 slots (handle 1) (authorize true) (granted_with 11 false)
    ∷ case 1000 (code ∷ token ∷ []) (handle 1) (authorize true) (Err (Redirect TemporarilyUnavailable))
    ∷ case 1000 slots (handle 8) (authorize true) (Err (Redirect ServerError))
    ∷ case 1000 slots [] (refused_reading (Token InvalidScope)) (Err (Token InvalidScope))
    ∷ case 1599 slots (random 1 2) (exchange 0 7 true) (granted_with 11 true)
    -- run out; another client; the redirect address not repeated; a refresh token as a code; a spent code
    ∷ case 1600 slots (random 1 2) (exchange 0 7 true) (Err (Token InvalidGrant))
    ∷ case 1000 slots (random 1 2) (exchange 1 7 true) (Err (Token InvalidGrant))
    ∷ case 1000 slots (random 1 2) (exchange 0 7 false) (Err (Token InvalidGrant))
    ∷ case 1000 slots (random 1 2) (exchange 0 8 true) (Err (Token InvalidGrant))
    ∷ case 1000 exchanged (random 1 2) (exchange 0 6 true) (Err (Token InvalidGrant))
    -- one slot besides its own; its own handle, a second handle that is in use, and two that are equal
    ∷ case 1000 (free_slot ∷ code ∷ token ∷ []) (random 1 2) (exchange 0 7 true) (Err (Failed NoRoom))
    ∷ case 1000 slots (random 7 2) (exchange 0 7 true) (Err (Failed Clash))
    ∷ case 1000 slots (random 1 8) (exchange 0 7 true) (Err (Failed Clash))
    ∷ case 1000 slots (random 1 1) (exchange 0 7 true) (Err (Failed Clash))
    -- an origin is no handle, a spent code's is one
    ∷ case 1000 slots (random 6 2) (exchange 0 7 true) (granted_with 11 true)
    ∷ case 1000 (spent_code code ∷ slots) (random 7 2) itself (Err (Failed Clash))
    -- a refresh for the whole set, for less, for more, and for a value that is no scope
    ∷ case 1000 slots (random 1 2) (refresh 0 8 Everything) (granted_with 11 false)
    ∷ case 1000 slots (random 1 2) (refresh 0 8 (Only 9)) (granted_with 9 false)
    ∷ case 1000 slots (random 1 2) (refresh 0 8 (Only 15)) (Err (Token InvalidScope))
    ∷ case 1000 slots (random 1 2) (refresh 0 8 Unreadable) (Err (Token InvalidScope))
    -- another client; no slot; the second handle is ignored, the first is not
    ∷ case 1000 slots (random 1 2) (refresh 1 8 Everything) (Err (Token InvalidGrant))
    ∷ case 1000 (code ∷ token ∷ []) (random 1 2) (refresh 0 8 Everything) (Err (Failed NoRoom))
    ∷ case 1000 slots (random 1 1) (refresh 0 8 Everything) (granted_with 11 false)
    ∷ case 1000 slots (random 8 1) (refresh 0 8 Everything) (Err (Failed Clash))
    -- the client for itself; no slot; the second handle is ignored, the first is not
    ∷ case 1000 slots (random 1 2) itself (granted_with 9 false)
    ∷ case 1000 (code ∷ token ∷ []) (random 1 2) itself (Err (Failed NoRoom))
    ∷ case 1000 slots (random 1 8) itself (granted_with 9 false)
    ∷ case 1000 slots (random 8 1) itself (Err (Failed Clash))
    -- a revocation, without random bytes; another client's token; a handle that no slot has, and that of a code
    ∷ case 1000 exchanged [] (revocation 0 8) (granted_with 0 false)
    ∷ case 1000 exchanged [] (revocation 1 8) (Err (Token InvalidGrant))
    ∷ case 1000 exchanged [] (revocation 1 9) (granted_with 0 false)
    ∷ case 1000 slots [] (revocation 1 7) (granted_with 0 false)
    -- at its expiry it is nobody's
    ∷ case 8999 exchanged [] (revocation 1 8) (Err (Token InvalidGrant))
    ∷ case 9000 exchanged [] (revocation 1 8) (granted_with 0 false)
    ∷ []

abbrev plan_in : Case → Plan
plan_in c = plan_of c.t c.slots c.random c.reading

pub cases-hold : map (λ c. granted_by (decision_on (plan_in c)) (plan_in c)) cases ≡ map (λ c. c.answer) cases
unfolding granted_by first_of plan_for refused_plan code_plan exchange_plan refresh_plan credentials_plan revocation_plan fits scope_given count any first_or replace_first same free_slot
cases-hold = refl

-- a code is bound where redirect_uri was given
pub code-leaves : slots_after (plan_of 1000 slots (handle 1) (authorize false)) ≡ slot kind_code 1 1600 no_link ∷ code ∷ token ∷ free_slot ∷ []
unfolding slots_by first_of plan_for code_plan count any first_or replace_first same free_slot
code-leaves = refl

-- the code stays as spent; the access token takes the lowest slot and the refresh token the next, both from that code
pub exchange-leaves : slots_after (plan_of 1000 slots (random 1 2) (exchange 0 7 true))
    ≡ slot kind_access 1 4600 (from 7) ∷ slot kind_spent 7 1600 no_link ∷ token ∷ slot kind_refresh 2 2593000 (from 7) ∷ []
unfolding slots_by first_of plan_for exchange_plan count any first_or replace_first same free_slot
exchange-leaves = refl

-- an access token on a refresh token comes from the code that this one came from
pub refresh-leaves : slots_after (plan_of 1000 slots (random 1 2) (refresh 0 8 Everything))
    ≡ slot kind_access 1 4600 (from 6) ∷ code ∷ token ∷ free_slot ∷ []
unfolding slots_by first_of plan_for refresh_plan fits scope_given count any first_or replace_first same free_slot
refresh-leaves = refl

-- a client's token for itself is an access token for farm 0, and comes from itself
pub itself-leaves : slots_after (plan_of 1000 slots (random 1 2) itself)
    ≡ record { kind = kind_access; handle = handle 1; client = 0; farm = 0; scope = 9; expiry = 4600; link = from 1 }
    ∷ code
    ∷ token
    ∷ free_slot
    ∷ []
unfolding slots_by first_of plan_for credentials_plan count any first_or replace_first same free_slot
itself-leaves = refl

-- ---- what a call that issues nothing leaves, one case a row

pub record Clearing : Type 0 where
  pub t : ℕ
  pub slots : List Slot
  pub reading : Reading
  pub left : List Slot

abbrev clearing : ℕ → List Slot → Reading → List Slot → Clearing
clearing t slots reading left = record { t = t; slots = slots; reading = reading; left = left }

-- a refused exchange: the slots, or without the tokens of a code that is shown again
abbrev refusals : List Clearing
refusals =
    -- another client's try of a code that is not spent
    clearing 1000 slots (exchange 1 7 true) slots
    -- a spent code is shown again: no redirect address is asked for; at its expiry, and by another client, it clears nothing
    ∷ clearing 1599 exchanged (exchange 0 6 false) cleared
    ∷ clearing 1600 exchanged (exchange 0 6 false) exchanged
    ∷ clearing 1000 exchanged (exchange 1 6 false) exchanged
    -- an unspent code has its handle, and has run out
    ∷ clearing 1000 (slot kind_code 6 600 no_link ∷ exchanged) (exchange 0 6 false) (slot kind_code 6 600 no_link ∷ exchanged)
    -- a lower spent code of its handle has run out
    ∷ clearing 1000 (slot kind_spent 6 600 no_link ∷ exchanged) (exchange 0 6 false) (slot kind_spent 6 600 no_link ∷ exchanged)
    -- a spent code of zeros clears no code
    ∷ clearing 1000 (slot kind_spent 0 1600 no_link ∷ slots) (exchange 0 0 false) (slot kind_spent 0 1600 no_link ∷ slots)
    ∷ []

pub refusals-hold : map (λ c. slots_after (plan_of c.t c.slots (random 1 2) c.reading)) refusals ≡ map (λ c. c.left) refusals
unfolding slots_by first_of plan_for exchange_plan count any first_or replace_first replace_all same free_slot
refusals-hold = refl

-- a revocation: without a refresh token and the access tokens of its origin, or without an access token, or the slots
abbrev revocations : List Clearing
revocations =
    clearing 1000 exchanged (revocation 0 8) cleared
    ∷ clearing 1000 exchanged (revocation 0 4) (slot kind_spent 6 1600 no_link ∷ slot kind_access 5 900 (from 6) ∷ token ∷ free_slot ∷ [])
    -- another refresh token of its origin stays
    ∷ clearing 1000 (slot kind_refresh 3 9000 (from 6) ∷ exchanged) (revocation 0 8) (slot kind_refresh 3 9000 (from 6) ∷ cleared)
    -- the lower of two slots with its handle is the one that is looked at: here it has run out
    ∷ clearing 1000 (slot kind_access 8 900 (from 6) ∷ exchanged) (revocation 0 8) (slot kind_access 8 900 (from 6) ∷ exchanged)
    -- one that has run out, that of another client, and a code
    ∷ clearing 1000 exchanged (revocation 0 5) exchanged
    ∷ clearing 1000 exchanged (revocation 1 8) exchanged
    ∷ clearing 1000 slots (revocation 0 7) slots
    ∷ []

pub revocations-hold : map (λ c. slots_after (plan_of c.t c.slots [] c.reading)) revocations ≡ map (λ c. c.left) revocations
unfolding slots_by first_of plan_for revocation_plan any first_or replace_first replace_all same free_slot
revocations-hold = refl
