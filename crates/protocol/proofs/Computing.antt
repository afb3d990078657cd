-- What the tables compute with: each group opens the definitions of one matter, so that a table's line `unfolding` names groups.
--
-- A table names only the groups that it needs: a change of a definition then checks no other tables again.
-- Assumes nothing.
use Rattle.octets.specs.Lists.{every, same, index_of, split_on, grow}
use Rattle.octets.specs.Search.{count, any, index_where, first_or, replace_first, replace_all}
use Rattle.octets.specs.BigEndian.{big_endian_bytes}
use Rattle.encoding.specs.Hex.{hex_text, hex_digit, hex_value, is_handle_text, unhex, read_handle}
use Rattle.encoding.specs.Base64.{is_base64, base64_bytes, group_bytes, sound_group, sextet, none, is_digest_text, read_digest}
use Rattle.form_coding.specs.Coding.{decode_after, first_byte, extra, escaped, plain, well_formed, sound, encode, encode_byte}
use Rattle.form.specs.Content.{is_well_formed_form, piece_name, piece_value, gives, add, value_in, form_value, is_missing, is_repeated, only_value, is_once}
use Rattle.scope.specs.Set.{names}
use Rattle.scope.specs.Value.{bit_from, bit_of, union, read_scope, chosen, spaced, scope_text}
use Rattle.client_registry.specs.Registry.{sound_text, sound_id, sound_redirect, sound_secret, sound_field, sound_common, sound_public, sound_confidential, sound_record, record_size, records_behind, sound_records, distinct, fit_registry}
use Rattle.client_registry.specs.Sample.{record_of, registry_of, sample_confidential, sample_public, sample_clients, sample_registry}
use Rattle.token_store.specs.Store.{free_slot, concat, encode_slot}
use Rattle.token_store.specs.Fit.{fit_link, fit_slot}
use Rattle.sha256.specs.Constants.{initial_hash, round_constants}
use Rattle.sha256.specs.Functions.{big_sigma, ch, maj, rotr, small_sigma}
use Rattle.sha256.specs.Digest.{added, block_words, compressed, digest, extended, first_sum, hashed, next_word, padded_message, padding, round, rounds, schedule, schedule_word, second_sum, state_bytes, words_bytes}
use Rattle.protocol.specs.Answers.{word_text}
use Rattle.protocol.specs.Refusals.{first_of}
use Rattle.protocol.specs.Requests.{asked_by, scope_asked, fits, scope_given, unless_refused}
use Rattle.protocol.specs.Granting.{refused_plan, plan_for, slots_by, code_plan, exchange_plan, refresh_plan, credentials_plan, revocation_plan, check_slots}
use Rattle.protocol.specs.Authorization.{is_bad_query, query_client, is_bad_client, is_bad_redirect, is_sound_state, is_bad_state, challenge_given, is_bad_challenge, is_invalid_request, is_other_type, is_invalid_scope, code_asked, page_reasons, redirect_reasons, read_authorization, separator, state_text, location, code_parameter, error_parameter, location_text}
use Rattle.protocol.specs.Outcomes.{serve_authorization, reply_text, serve_token, serve_revocation, serve_check}
use Rattle.protocol.specs.ClientForms.{is_invalid_form, lower_case, same_any_case, credentials, is_bad_header, header_id, header_secret, presented_id, presented_secret, is_unclear_id, is_impostor, call_client, is_invalid_client, form_reasons}
use Rattle.protocol.specs.Token.{is_sound_verifier, error_reply, refusal_reply, challenges, challenge_answered, read_exchange, read_refresh, read_grant, read_token, token_reply, refresh_member, read_credentials}
use Rattle.protocol.specs.Revocation.{read_revocation, revocation_reply}

-- how texts are read and written: bytes, lists and searches, hex, base64, coded forms, scope values
unfoldable pub text_definitions : Unit {0}
unfolding every same index_of split_on grow count any index_where first_or replace_first replace_all big_endian_bytes hex_text hex_digit hex_value is_handle_text unhex read_handle is_base64 base64_bytes group_bytes sound_group sextet none is_digest_text read_digest decode_after first_byte extra escaped plain well_formed sound encode encode_byte is_well_formed_form piece_name piece_value gives add value_in form_value is_missing is_repeated only_value is_once names bit_from bit_of union read_scope chosen spaced scope_text
text_definitions = tt

-- what a fit registry is, and the registries of the tables
unfoldable pub registry_definitions : Unit {0}
unfolding sound_text sound_id sound_redirect sound_secret sound_field sound_common sound_public sound_confidential sound_record record_size records_behind sound_records distinct fit_registry record_of registry_of sample_confidential sample_public sample_clients sample_registry
registry_definitions = tt

-- what a fit slot is, and its bytes
unfoldable pub slot_definitions : Unit {0}
unfolding free_slot concat encode_slot fit_link fit_slot
slot_definitions = tt

-- a sound verifier and its digest
unfoldable pub digest_definitions : Unit {0}
unfolding is_sound_verifier initial_hash round_constants big_sigma ch maj rotr small_sigma added block_words compressed digest extended first_sum hashed next_word padded_message padding round rounds schedule schedule_word second_sum state_bytes words_bytes
digest_definitions = tt

-- how a request is decided by its reading and its plan
unfoldable pub decision_definitions : Unit {0}
unfolding word_text first_of asked_by scope_asked fits scope_given unless_refused refused_plan plan_for slots_by
decision_definitions = tt

-- the authorization endpoint
unfoldable pub authorization_definitions : Unit {0}
unfolding is_bad_query query_client is_bad_client is_bad_redirect is_sound_state is_bad_state challenge_given is_bad_challenge is_invalid_request is_other_type is_invalid_scope code_asked page_reasons redirect_reasons read_authorization separator state_text location code_parameter error_parameter location_text code_plan serve_authorization
authorization_definitions = tt

-- a form that authenticates a client
unfoldable pub client_definitions : Unit {0}
unfolding is_invalid_form lower_case same_any_case credentials is_bad_header header_id header_secret presented_id presented_secret is_unclear_id is_impostor call_client is_invalid_client form_reasons error_reply refusal_reply challenges
client_definitions = tt

-- the token endpoint, for codes and refresh tokens
unfoldable pub token_definitions : Unit {0}
unfolding challenge_answered read_exchange read_refresh read_grant read_token token_reply refresh_member exchange_plan refresh_plan reply_text serve_token
token_definitions = tt

-- and for a client itself
unfoldable pub credentials_definitions : Unit {0}
unfolding is_invalid_scope read_credentials credentials_plan
credentials_definitions = tt

-- the revocation endpoint
unfoldable pub revocation_definitions : Unit {0}
unfolding read_revocation revocation_reply revocation_plan serve_revocation
revocation_definitions = tt

-- the check
unfoldable pub check_definitions : Unit {0}
unfolding check_slots serve_check
check_definitions = tt

-- the plan of each request
unfoldable pub plan_definitions : Unit {0}
unfolding plan_for refused_plan code_plan exchange_plan refresh_plan credentials_plan revocation_plan
plan_definitions = tt

-- every endpoint
unfoldable pub endpoint_definitions : Unit {0}
unfolding decision_definitions authorization_definitions client_definitions token_definitions credentials_definitions revocation_definitions check_definitions
endpoint_definitions = tt
