-- For contracts inside; the exports' contracts do not cite it.
--
-- What granting answers and leaves, by a request's plan (protocol's Granting.antt).
use Rattle.std.specs.Prelude.{ℕ, eqb, set, ◌≡◌, Bool, cond, List, Option, None, Result, Ok, Err}
use Rattle.octets.specs.Search.{index_where}
use Rattle.token_store.specs.Store.{Store, kind_access, kind_refresh, with_slots, free_slot, origin_of, without_tokens, sought_key, found_at, issue}
use Rattle.token_store.specs.declared.Slot.{Slot}
use Rattle.token_store.specs.declared.Sought.{Sought}
use Rattle.token_store.specs.declared.Sought.TheVariants.{Access as sought_access}
use Rattle.protocol.specs.declared.Refusal.{Refusal}
use Rattle.protocol.specs.Answers.{Decision}
use Rattle.protocol.specs.declared.Request.{Request}
use Rattle.protocol.specs.declared.Request.TheVariants.{Refused, Code, Exchange, Refresh, Credentials, Revocation}
use Rattle.protocol.specs.Limits.{code_random, token_random}
use Rattle.protocol.specs.Granting.{Plan, decision_on, slots_after, shown_slot, is_own, token_on}
use Rattle.granting.specs.declared.Issued.{Issued}

-- ---- the answer

-- what is issued, by its scope and whether a refresh token comes with it
abbrev pub granted_with : ℕ → Bool → Result Issued Refusal
granted_with scope refresh = Ok (record { scope = scope; refresh = refresh })

unfoldable pub granted_by : Decision → Plan → Result Issued Refusal
granted_by (Ok tt) plan = granted_with plan.scope plan.brings_refresh
granted_by (Err refusal) plan = Err refusal

-- what is decided, of what was granted
abbrev pub decision_of : Result Issued Refusal → Decision
decision_of (Ok issued) = Ok tt
decision_of (Err refusal) = Err refusal

-- ---- the contract of every grant: the answer, and the slots that are left, are those of the plan

pub record Follows (plan : Plan) (before : Store) (r : Result Issued Refusal) (after : Store) : Type 0 where
  pub answer : r ≡ granted_by (decision_on plan) plan
  pub store : after ≡ with_slots before (slots_after plan)

-- how many random bytes a request takes
abbrev pub random_needed : Request → ℕ
random_needed (Refused refusal) = 0
random_needed (Code r) = code_random
random_needed (Exchange r) = token_random
random_needed (Refresh r) = token_random
random_needed (Credentials r) = token_random
random_needed (Revocation r) = 0

-- ---- steps of a grant

-- where the client's own code or refresh token is, live at t
abbrev pub own_at : ℕ → ℕ → Sought → Option (List ℕ) → List Slot → Option ℕ
own_at t client sought presented slots =
    cond (is_own t client (shown_slot sought presented slots)) (found_at (index_where (sought_key sought presented) slots)) None

-- the slots after an access and a refresh token are issued on a code
abbrev pub spent_on : ℕ → List ℕ → List ℕ → Slot → List Slot → List Slot
spent_on t first second code slots =
    issue t (token_on code code.handle t kind_refresh second code.scope)
    (issue t (token_on code code.handle t kind_access first code.scope) slots)

-- the slots after a token in slot i is freed, and with a refresh token the access tokens that came from the same code
abbrev pub freed_at : ℕ → Slot → List Slot → List Slot
freed_at i token slots =
    let others = set slots i free_slot in
    cond (eqb token.kind kind_refresh) (without_tokens sought_access (origin_of token) others) others
