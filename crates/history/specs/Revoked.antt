-- What follows from demand 3 for a farmer who shows an app the door: "once a client has revoked its refresh token, no access token got from
-- the same code before that call passes the check at any later call, whatever the clock does".
--
-- In order: an access token that was got from a code; a refresh token of it that was revoked; the claim.
use Rattle.std.specs.Prelude.{ℕ, ◌≡◌, true, false}
use mathlib.Core.List.{List, ◌∷◌, ◌++◌, Memᴰ}
use Rattle.history.specs.Calls.{Call, revocation, check, handed_to, AllWellTyped, Server}
use Rattle.history.specs.Contents.{Issue, access, refresh, is_a, issued_by, is_revocable}
use Rattle.history.specs.Claim.{clients, standing, time_at, next, Judged}

module _ (server : Server) (registry : List ℕ) (calls : List Call) (origin : List ℕ) where
  -- one of the calls answered with an access token of this text, from the code `origin`: by an exchange or by a refresh
  pub record GotFrom (text : List ℕ) : Type 0 where
    pub before : List Call
    pub call : Call
    pub behind : List Call
    pub among : calls ≡ before ++ call ∷ behind
    pub seen : (next server registry before call).unfit ≡ false
    pub granted : (next server registry before call).granted ≡ true
    pub issue : Issue
    pub issued : Memᴰ issue
        (issued_by (clients server registry before) (time_at server registry before (handed_to call).clock) (standing server registry before) call
        (next server registry before call))
    pub is_access : is_a access issue ≡ true
    pub shown : issue.text ≡ text
    pub from : issue.origin ≡ origin

  -- behind them a client revokes a live refresh token of its own from that code, and is answered with 200
  pub record IsRevoked (header body : List ℕ) (clock : ℕ) (output : List ℕ) : Type 0 where
    pub token : Issue
    pub stands : Memᴰ token (standing server registry calls)
    pub own : is_revocable (clients server registry calls) (time_at server registry calls clock) header body token ≡ true
    pub is_refresh : is_a refresh token ≡ true
    pub from : token.origin ≡ origin
    pub seen : (next server registry calls (revocation header body clock output)).unfit ≡ false
    pub done : (next server registry calls (revocation header body clock output)).granted ≡ true

-- then no check of that access token passes, after whatever calls come later
abbrev pub RevokedForGood : Server → List ℕ → Type 0
RevokedForGood server registry =
    (calls : List Call) (origin header body : List ℕ) (clock : ℕ) (output : List ℕ) → IsRevoked server registry calls origin header body clock output
    → (text : List ℕ) → GotFrom server registry calls origin text
    → (later : List Call) → let all = calls ++ revocation header body clock output ∷ later in
    AllWellTyped all → (now : ℕ) → Judged server registry all (check text now)
    → (next server registry all (check text now)).passed ≡ false
