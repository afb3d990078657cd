-- Calls at the endpoints, what comes of them, servers, and runs of calls: "It starts from a fresh ledger (all zero, the mark
-- too), and each call gets the ledger as the last one left it. One register is kept".
use Rattle.std.specs.Prelude.{ℕ, ◌<◌, ◌^◌, Bool, List, [], ◌∷◌, replicate}
use Rattle.octets.specs.Lists.{Bytes}
use Rattle.token_store.specs.Layout.{store_size}
use Rattle.protocol.specs.declared.LiveToken.{LiveToken}
use Rattle.protocol.specs.Outcomes.{Handed, without_random, clock_alone}

-- a call, by all that it is handed but the registry and the store
pub data Call : Type 0 where
  authorization : (query : List ℕ) (decision farm : ℕ) (handed : Handed) → Call
  token : (header body : List ℕ) (handed : Handed) → Call
  revocation : (header body : List ℕ) (clock : ℕ) (output : List ℕ) → Call
  check : (presented : List ℕ) (clock : ℕ) → Call

-- its clock, random bytes and output
unfoldable pub handed_to : Call → Handed
handed_to (authorization query decision farm handed) = handed
handed_to (token header body handed) = handed
handed_to (revocation header body clock output) = without_random clock output
handed_to (check presented clock) = clock_alone clock

-- a host hands over random bytes that are bytes, and a farm number of 32 bits; nothing else is asked of a call
abbrev pub WellTyped : Call → Type 0
WellTyped (authorization query decision farm handed) = (farm < 2 ^ 32) × Bytes handed.random
WellTyped (token header body handed) = Bytes handed.random
WellTyped (revocation header body clock output) = Unit {0}
WellTyped (check presented clock) = Unit {0}

unfoldable pub AllWellTyped : List Call → Type 0
AllWellTyped [] = Unit {0}
AllWellTyped (c ∷ cs) = WellTyped c × AllWellTyped cs

-- what came of a call, as far as demand 3 speaks of it
pub record Result : Type 0 where
  -- it was refused with 1 to 4
  pub unfit : Bool
  -- it answered with a code, or with status 200
  pub granted : Bool
  -- a check let the token pass, and named this
  pub passed : Bool
  pub named : LiveToken
  -- the first `length` bytes of the output are the answer's
  pub length : ℕ
  pub output : List ℕ
  pub store : List ℕ

pub record Event : Type 0 where
  pub call : Call
  pub result : Result

-- a server: what comes of a call with this registry and this store
abbrev pub Server : Type 0
Server = List ℕ → List ℕ → Call → Result

module _ (server : Server) (registry : List ℕ) where
  -- the store after some calls, the first of which is handed `store`
  unfoldable pub store_after_all : List ℕ → List Call → List ℕ
  store_after_all store [] = store
  store_after_all store (c ∷ cs) = store_after_all (server registry store c).store cs

  -- the calls with what came of them, oldest first
  unfoldable pub events : List ℕ → List Call → List Event
  events store [] = []
  events store (c ∷ cs) =
      let result = server registry store c in record { call = c; result = result } ∷ events result.store cs

-- a fresh store, which is all zero
unfoldable pub fresh_store : List ℕ
fresh_store = replicate store_size 0
