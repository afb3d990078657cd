-- The claim over the exports is not empty: the visit of document 01, from raw bytes, goes through the theorem both ways. The exchange at
-- 1599 has status 200, at 1600 another; a confidential client that asks for itself has status 200, a public one another; a refresh token is
-- revoked with status 200 by its client, and by another client with another. Calls and computations are those of crate history (Examples and
-- Visit there).
-- Assumes nothing.
use mathlib.Core.Path.{◌≡◌, sym, ap, ap₂, ◌∙◌, subst}
use mathlib.Core.Bool.{Bool, true, false, ◌&&◌}
use mathlib.Core.List.{List, []}
use Prim.Native.Nat.{ℕ, max}
use borrow.Author.Tests.{eqb-true}
use lib.Dec.{eqb}
use lib.ListN.{replicate}
use Rattle.octets.specs.Text.{bytes}
use Rattle.client_registry.specs.Registry.{Client, clients_of}
use Rattle.client_registry.specs.Sample.{sample_clients, sample_registry}
use Rattle.protocol.specs.Outcomes.{Handed, token_outcome, revocation_outcome}
use Rattle.authorization_server.specs.Numbers.{token_reply}
use Rattle.history.specs.Calls.{token, Server}
use Rattle.history.specs.Contents.{is_exchange, is_credentials, is_admitted_to_revoke, Contents}
use Rattle.history.specs.Claim.{may_exchange, may_have_own, may_revoke, store, contained, Judged, Asks}
use Rattle.history.proofs.Examples.{handed_at, header, repeating, code_text, refresh_text, own_for, token_at, exchange_at, revoke_at, revoking, barn_revoking, visit, day, in_visit, in_day, is_asked, is_judged}
use Rattle.history.proofs.Visit.{sample-bytes, sample-clients, typed, contents-are, judged, well-asked, the_visit, the_day, ExchangeAt, OwnAsked, RevocationOf, shown}
use Rattle.host_history.specs.Exports.{token_seen, exports}
use Rattle.host_history.proofs.Theorem.{same-server, host-demand3, host-credentials-yield, host-revocations}

-- the status that the export answers a call after the visit
abbrev pub status_of : List ℕ → List ℕ → Handed → ℕ
status_of h b handed = (token_reply (token_outcome h b sample_registry (store exports sample_registry visit) handed).answer).status

module _ (h b : List ℕ) (handed : Handed) (asked : is_asked (token h b handed) ≡ true) (judged : is_judged in_visit (token h b handed) ≡ true) where
  asks : Asks exports sample_registry visit h b handed
  unfolding the_visit
  asks =
      subst (λ (s : Server). Asks s sample_registry visit h b handed) (sym same-server) (well-asked the_visit h b handed asked judged)

  -- what the claim says of the clients and of what the visit contains, which are computed
  computed-by : (may : List Client → Contents → Bool) → eqb (status_of h b handed) 200 ≡ may (clients_of sample_registry) (contained exports sample_registry visit)
      → eqb (status_of h b handed) 200 ≡ may sample_clients in_visit
  unfolding the_visit
  computed-by may e =
      e
      ∙ ap (λ (s : Server). may (clients_of sample_registry) (contained s sample_registry visit)) same-server
      ∙ ap (λ (c : Contents). may (clients_of sample_registry) c) (contents-are the_visit)
      ∙ ap (λ (clients : List Client). may clients in_visit) sample-clients

  by-exchange : is_exchange b ≡ true
      → eqb (status_of h b handed) 200 ≡ may_exchange sample_clients (max handed.clock in_visit.highest) in_visit.standing h b
  unfolding exports token_seen the_visit
  by-exchange is =
      computed-by (λ clients c. may_exchange clients (max handed.clock c.highest) c.standing h b)
      ((host-demand3 sample_registry sample-bytes visit (typed the_visit)).exchanges h b handed asks is)

  by-credentials : is_credentials b ≡ true
      → eqb (status_of h b handed) 200 ≡ may_have_own sample_clients (max handed.clock in_visit.highest) in_visit.standing h b
  unfolding exports token_seen the_visit
  by-credentials is =
      computed-by (λ clients c. may_have_own clients (max handed.clock c.highest) c.standing h b)
      ((host-credentials-yield sample_registry sample-bytes visit (typed the_visit)).yields h b handed asks is)

-- the exchange of the visit's code at a clock
module _ {clock : ℕ} {paper : Bool} (e : ExchangeAt clock paper) where
  exchange-status : eqb (status_of header (repeating code_text) (handed_at clock 40 0x20)) 200 ≡ paper
  unfolding exchange_at token_at handed_at
  exchange-status = by-exchange header (repeating code_text) (handed_at clock 40 0x20) e.asked e.judged e.exchange ∙ e.says

-- a client's request for itself
module _ {h b : List ℕ} {paper : Bool} (e : OwnAsked h b paper) where
  own-status : eqb (status_of h b (handed_at 1510 40 0xC0)) 200 ≡ paper
  unfolding token_at handed_at
  own-status = by-credentials h b (handed_at 1510 40 0xC0) e.asked e.judged e.credentials ∙ e.says

pub status-1599 : status_of header (repeating code_text) (handed_at 1599 40 0x20) ≡ 200
status-1599 = eqb-true (status_of header (repeating code_text) (handed_at 1599 40 0x20)) 200 (exchange-status shown.in-time)

pub status-1600 : eqb (status_of header (repeating code_text) (handed_at 1600 40 0x20)) 200 ≡ false
status-1600 = exchange-status shown.too-late

pub status-own : status_of header (own_for []) (handed_at 1510 40 0xC0) ≡ 200
status-own = eqb-true (status_of header (own_for []) (handed_at 1510 40 0xC0)) 200 (own-status shown.own-confidential)

pub status-public : eqb (status_of [] (own_for (bytes "&client_id=barnapp")) (handed_at 1510 40 0xC0)) 200 ≡ false
status-public = own-status shown.own-public

-- a revocation after the day
abbrev pub revocation_status : List ℕ → List ℕ → ℕ
revocation_status h b = (token_reply (revocation_outcome h b sample_registry (store exports sample_registry day) 1510 (replicate 1024 0)).answer).status

revocation-status : {h b : List ℕ} {paper : Bool} → RevocationOf in_day 1510 h b paper → eqb (revocation_status h b) 200 ≡ paper
unfolding exports token_seen the_day revoke_at
revocation-status {h} {b} e =
    let c = revoke_at h b 1510 in
    let may : List Client → Contents → Bool = λ clients k. is_admitted_to_revoke clients h b && may_revoke clients (max 1510 k.highest) k.standing h b in
    let asked = subst (λ (s : Server). Judged s sample_registry day c) (sym same-server) (judged the_day c e.judged) in
    (host-revocations sample_registry sample-bytes day (typed the_day)).done h b 1510 (replicate 1024 0) asked
    ∙ ap (λ (s : Server). may (clients_of sample_registry) (contained s sample_registry day)) same-server
    ∙ ap₂ may sample-clients (contents-are the_day)
    ∙ e.says

pub status-revoked : revocation_status header (revoking refresh_text) ≡ 200
status-revoked = eqb-true (revocation_status header (revoking refresh_text)) 200 (revocation-status shown.revocation-own)

pub status-other : eqb (revocation_status [] (barn_revoking refresh_text)) 200 ≡ false
status-other = revocation-status shown.revocation-other
