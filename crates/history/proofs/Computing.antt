-- What the examples compute with, beside the groups of protocol: each group opens the definitions of one matter.
-- Assumes nothing.
use Rattle.protocol.specs.Answers.{is_grant}
use Rattle.history.specs.Server.{is_unfit_refusal, is_unfit_decision, is_unfit_check, is_unfit, is_granted, length_of, is_live_check, named_by, is_passed, named_in}
use Rattle.history.specs.Calls.{handed_to}
use Rattle.history.specs.Contents.{no_issue, none_beyond, is_within_granted, names_or, asked_or, code_issue, exchange_issues, refresh_issues, own_issue, issued_by, is_spent_by, is_second_showing, code_shown, is_withdrawn_by, is_revoked_by, standing_after, with_event, with_events, twenties, id_in, is_admitted, is_admitted_to_revoke}
use Rattle.history.specs.Claim.{is_repeated_by, is_answered_by, verifies, is_verifier_for, may_exchange, may_refresh, may_have_own, may_revoke, may_pass}
use Rattle.history.proofs.AnyCall.{asked, outcome_on, unfit_to}
use Rattle.history.proofs.CallsOnRecords.{left_by_all, events_on, is_fitting}

-- what the claim says of a list of calls
unfoldable pub claim_definitions : Unit {0}
unfolding handed_to no_issue none_beyond is_within_granted names_or asked_or code_issue exchange_issues refresh_issues own_issue issued_by is_spent_by is_second_showing code_shown is_withdrawn_by is_revoked_by standing_after with_event with_events twenties id_in is_admitted is_admitted_to_revoke is_repeated_by is_answered_by verifies is_verifier_for may_exchange may_refresh may_have_own may_revoke may_pass
claim_definitions = tt

-- what is seen of a call, and calls one after another on a store as a record
unfoldable pub server_definitions : Unit {0}
unfolding is_grant is_unfit_refusal is_unfit_decision is_unfit_check is_unfit is_granted length_of is_live_check named_by is_passed named_in asked outcome_on unfit_to left_by_all events_on is_fitting
server_definitions = tt
