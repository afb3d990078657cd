-- The exports as a server: what a C host sees of a call, which is the numbers answered, the output and the store, as a result that demand 3
-- speaks of.
use Rattle.std.specs.Prelude.{ℕ, ◌≡◌, Bool, false, ◌&&◌, List, leb, eqb}
use Rattle.protocol.specs.Outcomes.{Outcome, authorization_outcome, token_outcome, revocation_outcome, check_outcome}
use Rattle.authorization_server.specs.declared.AuthorizationReply.{AuthorizationReply}
use Rattle.authorization_server.specs.declared.TokenReply.{TokenReply}
use Rattle.authorization_server.specs.declared.CheckReply.{CheckReply}
use Rattle.authorization_server.specs.Numbers.{authorization_reply, token_reply, check_reply, in_numbers}
use Rattle.history.specs.Calls.{Call, authorization, token, revocation, check, WellTyped, Result, Server}
use Rattle.history.specs.Server.{nothing_named}

-- ---- numbers, told apart

-- refusals 1 to 4
abbrev pub is_one_to_four : ℕ → Bool
is_one_to_four refusal = leb 1 refusal && leb refusal 4

-- a code: no refusal and no error word
unfoldable pub authorization_seen : Outcome AuthorizationReply → Result
authorization_seen left =
    let a = left.answer in
    record {
      unfit = is_one_to_four a.refusal;
      granted = eqb a.refusal 0 && eqb a.error 0;
      passed = false;
      named = nothing_named;
      length = a.length;
      output = left.output;
      store = left.store;
    }

-- tokens, or a revocation that was done: status 200
unfoldable pub token_seen : Outcome TokenReply → Result
token_seen left =
    let a = left.answer in
    record {
      unfit = is_one_to_four a.refusal;
      granted = eqb a.status 200;
      passed = false;
      named = nothing_named;
      length = a.length;
      output = left.output;
      store = left.store;
    }

-- a token that passes: live 1
unfoldable pub check_seen : Outcome CheckReply → Result
check_seen left =
    let a = left.answer in
    record {
      unfit = is_one_to_four a.refusal;
      granted = false;
      passed = eqb a.live 1;
      named = record { client = a.client; farm = a.farm; scope = a.scope; left = a.secondsleft };
      length = 0;
      output = left.output;
      store = left.store;
    }

-- ---- the server: each call leaves what its export's contract says. src/lib.rt proves it of each export (`Leaves`)

unfoldable pub exports : Server
exports registry store (authorization query decision farm handed) =
    authorization_seen (in_numbers authorization_reply (authorization_outcome query decision farm registry store handed))
exports registry store (token header body handed) = token_seen (in_numbers token_reply (token_outcome header body registry store handed))
exports registry store (revocation header body clock output) =
    token_seen (in_numbers token_reply (revocation_outcome header body registry store clock output))
exports registry store (check presented clock) = check_seen (in_numbers check_reply (check_outcome presented registry store clock))

-- by the types of its arguments the call is one that demand 3 speaks of, and this is what comes of it
abbrev pub Leaves : List ℕ → List ℕ → Call → Result → Type 0
Leaves registry store c result = WellTyped c × (result ≡ exports registry store c)
