-- Refusals 1 to 4 at every endpoint, case by case: buffers, registry, store and clock, each clause on both sides, and their order.
--
-- A call that is refused so answers its number and nothing else, writes nothing and changes nothing: `after` is the store as it was.
-- A call that passes is answered at once with what an empty query, an empty body or no token gets, and the store has its time.
-- A revocation takes no random bytes, so its refusal 1 is for the output alone.
--
-- Not here: stores of another length (`StoreLength`).
use Prim.Native.Nat.{ℕ, zero, suc, ◌+◌, ◌-◌, ◌^◌}
use mathlib.Core.Path.{refl}
use mathlib.Core.List.{List, [], ◌∷◌, ◌++◌}
use lib.ListN.{length, take, replicate}
use Rattle.octets.specs.Text.{bytes}
use Rattle.client_registry.specs.Sample.{sample_registry}
use Rattle.token_store.specs.Store.{link_to, free_slot}
use Rattle.token_store.specs.declared.Slot.{Slot}
use Rattle.protocol.specs.Refusals.{first_of}
use Rattle.protocol.proofs.Computing.{text_definitions, registry_definitions, slot_definitions, decision_definitions, authorization_definitions, check_definitions, endpoint_definitions}
use Rattle.protocol.proofs.Cases.{Call, authorization, token, revocation, check, ShortStore, holding, lastly, slot, linked, challenge, challenging, count_up, Case, Row, row}

-- ---- calls

-- an empty query, a body of no bytes with a header at two endpoints, and no token
abbrev empty_query : Call
empty_query = authorization [] 1 7

abbrev empty_body : Call
empty_body = token (bytes "Basic czZCaGRSa3F0MzpnWDFmQmF0M2JW") []

abbrev empty_revocation : Call
empty_revocation = revocation (bytes "Basic czZCaGRSa3F0MzpnWDFmQmF0M2JW") []

abbrev no_token : Call
no_token = check []

-- the random bytes that each takes
abbrev enough : Call → List ℕ
enough (authorization query decision farm) = count_up 20 0
enough (token header body) = count_up 40 0
enough (revocation header body) = []
enough (check presented) = []

-- a refusal's number alone; and the answer of a call that passes: page 6, 400 `invalid_request`, not live
abbrev number_alone : Call → ℕ → List ℕ
number_alone (authorization query decision farm) n = n ∷ 0 ∷ []
number_alone (token header body) n = n ∷ 0 ∷ 0 ∷ 0 ∷ []
number_alone (revocation header body) n = n ∷ 0 ∷ 0 ∷ 0 ∷ []
number_alone (check presented) n = n ∷ 0 ∷ 0 ∷ 0 ∷ 0 ∷ 0 ∷ []

abbrev pass_numbers : Call → List ℕ
pass_numbers (authorization query decision farm) = 6 ∷ 0 ∷ []
pass_numbers (token header body) = 0 ∷ 400 ∷ 1 ∷ 0 ∷ []
pass_numbers (revocation header body) = 0 ∷ 400 ∷ 1 ∷ 0 ∷ []
pass_numbers (check presented) = 0 ∷ 0 ∷ 0 ∷ 0 ∷ 0 ∷ 0 ∷ []

abbrev pass_text : Call → List ℕ
pass_text (authorization query decision farm) = []
pass_text (token header body) = bytes "{\"error\":\"invalid_request\"}"
pass_text (revocation header body) = bytes "{\"error\":\"invalid_request\"}"
pass_text (check presented) = []

-- refused with this number
abbrev refused : Call → ℕ → List ℕ → List ℕ → ShortStore → ℕ → ℕ → Case
refused call room random registry store clock number = record {
  call = call;
  registry = registry;
  store = store;
  clock = clock;
  random = random;
  room = room;
  numbers = number_alone call number;
  text = [];
  after = store;
}

-- passes, the time after being the clock
abbrev passes : Call → ℕ → List ℕ → List ℕ → ShortStore → ℕ → Case
passes call room random registry store clock = record {
  call = call;
  registry = registry;
  store = store;
  clock = clock;
  random = random;
  room = room;
  numbers = pass_numbers call;
  text = pass_text call;
  after = record { time = clock; first = store.first; rest = store.rest };
}

-- ---- buffers

abbrev buffers_unfit : Call → ℕ → List ℕ → Case
buffers_unfit call room random = refused call room random sample_registry (holding 0 []) 1000 1

abbrev buffers_fit : Call → ℕ → List ℕ → Case
buffers_fit call room random = passes call room random sample_registry (holding 0 []) 1000

pub buffers : List Row
unfolding text_definitions registry_definitions slot_definitions endpoint_definitions
buffers =
    -- "output below 1,024"
    row (buffers_unfit empty_query 1023 (count_up 20 0)) refl
    ∷ row (buffers_fit empty_query 1024 (count_up 20 0)) refl
    ∷ row (buffers_fit empty_query 1025 (count_up 20 0)) refl
    ∷ row (buffers_unfit empty_query 0 (count_up 20 0)) refl
    ∷ row (buffers_unfit empty_body 1023 (count_up 40 0)) refl
    ∷ row (buffers_fit empty_body 1024 (count_up 40 0)) refl
    ∷ row (buffers_unfit empty_revocation 1023 []) refl
    ∷ row (buffers_fit empty_revocation 1024 []) refl
    ∷ row (buffers_fit empty_revocation 1025 []) refl
    ∷ row (buffers_unfit empty_revocation 0 []) refl
    -- "or random bytes not 20 (token: 40)"
    ∷ row (buffers_unfit empty_query 1024 (count_up 19 0)) refl
    ∷ row (buffers_unfit empty_query 1024 (count_up 21 0)) refl
    ∷ row (buffers_unfit empty_query 1024 (count_up 40 0)) refl
    ∷ row (buffers_unfit empty_query 1024 []) refl
    ∷ row (buffers_unfit empty_body 1024 (count_up 39 0)) refl
    ∷ row (buffers_unfit empty_body 1024 (count_up 41 0)) refl
    ∷ row (buffers_unfit empty_body 1024 (count_up 20 0)) refl
    ∷ []

-- ---- the clock, the mark, and the order of the four

-- a store with a slot of kind 8
abbrev bad_store : ShortStore
bad_store = holding 0 (slot 8 (count_up 20 0) 0 7 11 1600 ∷ [])

abbrev usual : Call → List ℕ → ShortStore → ℕ → ℕ → Case
usual call registry store clock number = refused call 1024 (enough call) registry store clock number

abbrev usual_pass : Call → ShortStore → ℕ → Case
usual_pass call store clock = passes call 1024 (enough call) sample_registry store clock

pub order : List Row
unfolding text_definitions registry_definitions slot_definitions endpoint_definitions
order =
    -- each two neighbours apply, then the second alone: 1 and 2, 2 and 3, 3 and 4, 4 and what comes behind
    row (refused empty_query 1023 (count_up 20 0) [] (holding 0 []) 1000 1) refl
    ∷ row (refused empty_body 1024 (count_up 39 0) [] (holding 0 []) 1000 1) refl
    ∷ row (refused empty_revocation 1023 [] [] (holding 0 []) 1000 1) refl
    ∷ row (usual empty_query [] bad_store 1000 2) refl
    ∷ row (usual empty_body [] bad_store 1000 2) refl
    ∷ row (usual empty_revocation [] bad_store 1000 2) refl
    ∷ row (usual no_token [] bad_store 1000 2) refl
    ∷ row (usual empty_query [] (holding 0 []) 1000 2) refl
    ∷ row (usual empty_body [] (holding 0 []) 1000 2) refl
    ∷ row (usual empty_revocation [] (holding 0 []) 1000 2) refl
    ∷ row (usual no_token [] (holding 0 []) 1000 2) refl
    ∷ row (usual empty_query sample_registry bad_store (2 ^ 40 + 1) 3) refl
    ∷ row (usual empty_body sample_registry bad_store (2 ^ 40 + 1) 3) refl
    ∷ row (usual empty_revocation sample_registry bad_store (2 ^ 40 + 1) 3) refl
    ∷ row (usual no_token sample_registry bad_store (2 ^ 40 + 1) 3) refl
    ∷ row (usual empty_query sample_registry bad_store 1000 3) refl
    ∷ row (usual empty_body sample_registry bad_store 1000 3) refl
    ∷ row (usual empty_revocation sample_registry bad_store 1000 3) refl
    ∷ row (usual no_token sample_registry bad_store 1000 3) refl
    ∷ row (usual (authorization (bytes "%") 1 7) sample_registry (holding 0 []) (2 ^ 40 + 1) 4) refl
    ∷ row (usual empty_body sample_registry (holding 0 []) (2 ^ 40 + 1) 4) refl
    ∷ row (usual empty_revocation sample_registry (holding 0 []) (2 ^ 40 + 1) 4) refl
    ∷ row (usual no_token sample_registry (holding 0 []) (2 ^ 40 + 1) 4) refl
    -- all four
    ∷ row (refused empty_query 1023 (count_up 20 0) [] bad_store (2 ^ 40 + 1) 1) refl
    ∷ row (refused empty_body 1023 (count_up 40 0) [] bad_store (2 ^ 40 + 1) 1) refl
    ∷ row (refused empty_revocation 1023 [] [] bad_store (2 ^ 40 + 1) 1) refl
    -- a clock of 2^40 is read; so is a mark of 2^40, one above is not
    ∷ row (usual_pass empty_query (holding 0 []) (2 ^ 40)) refl
    ∷ row (usual_pass empty_body (holding 0 []) (2 ^ 40)) refl
    ∷ row (usual_pass empty_revocation (holding 0 []) (2 ^ 40)) refl
    ∷ row (usual_pass no_token (holding 0 []) (2 ^ 40)) refl
    ∷ row (usual_pass no_token (holding (2 ^ 40) []) (2 ^ 40)) refl
    ∷ row (usual empty_query sample_registry (holding (2 ^ 40 + 1) []) 1000 3) refl
    ∷ row (usual empty_body sample_registry (holding (2 ^ 40 + 1) []) 1000 3) refl
    ∷ row (usual empty_revocation sample_registry (holding (2 ^ 40 + 1) []) 1000 3) refl
    ∷ row (usual no_token sample_registry (holding (2 ^ 40 + 1) []) 1000 3) refl
    ∷ []

-- ---- slots

abbrev store_unfit : ShortStore → Case
store_unfit store = usual no_token sample_registry store 1000 3

abbrev store_fit : ShortStore → Case
store_fit store = usual_pass no_token store 1000

abbrev one_slot : Slot → ShortStore
one_slot s = holding 0 (s ∷ [])

-- a link of which the byte with this number alone is not zero
abbrev one_byte : ℕ → List ℕ
one_byte n = replicate n 0 ++ 1 ∷ replicate (31 - n) 0

-- a store with a slot of a kind that has this link
abbrev link_is : ℕ → List ℕ → ShortStore
link_is kind link = one_slot (linked link (slot kind (count_up 20 0) 0 7 11 1600))

pub slots : List Row
unfolding text_definitions registry_definitions slot_definitions check_definitions first_of
slots =
    -- kinds go up to 7
    row (store_fit (one_slot (slot 1 (count_up 20 0) 0 7 11 1600))) refl
    ∷ row (store_fit (one_slot (slot 4 (count_up 20 0) 0 7 11 1600))) refl
    ∷ row (store_fit (one_slot (slot 5 (count_up 20 0) 0 7 11 1600))) refl
    ∷ row (store_fit (one_slot (slot 6 (count_up 20 0) 0 7 11 1600))) refl
    ∷ row (store_fit (one_slot (slot 7 (count_up 20 0) 0 7 11 1600))) refl
    ∷ row (store_unfit (one_slot (slot 8 (count_up 20 0) 0 7 11 1600))) refl
    ∷ row (store_unfit (one_slot (slot 255 (count_up 20 0) 0 7 11 1600))) refl
    -- a client number in the registry, which has two
    ∷ row (store_fit (one_slot (slot 3 (count_up 20 0) 1 7 11 1600))) refl
    ∷ row (store_unfit (one_slot (slot 3 (count_up 20 0) 2 7 11 1600))) refl
    ∷ row (store_unfit (one_slot (slot 1 (count_up 20 0) 255 7 11 1600))) refl
    ∷ row (store_fit (one_slot (slot 5 (count_up 20 0) 1 7 11 1600))) refl
    ∷ row (store_unfit (one_slot (slot 5 (count_up 20 0) 2 7 11 1600))) refl
    ∷ row (store_fit (one_slot (linked challenge (slot 7 (count_up 20 0) 1 7 11 1600)))) refl
    ∷ row (store_unfit (one_slot (linked challenge (slot 6 (count_up 20 0) 2 7 11 1600)))) refl
    -- a scope set that is not empty
    ∷ row (store_fit (one_slot (slot 2 (count_up 20 0) 1 7 255 1600))) refl
    ∷ row (store_unfit (one_slot (slot 2 (count_up 20 0) 1 7 0 1600))) refl
    ∷ row (store_fit (one_slot (slot 5 (count_up 20 0) 1 7 255 1600))) refl
    ∷ row (store_unfit (one_slot (slot 5 (count_up 20 0) 1 7 0 1600))) refl
    ∷ row (store_unfit (one_slot (linked challenge (slot 6 (count_up 20 0) 1 7 0 1600)))) refl
    ∷ row (store_unfit (one_slot (linked challenge (slot 7 (count_up 20 0) 1 7 0 1600)))) refl
    -- farm, expiry and handle are free: all zero, as high as may be, one handle twice
    ∷ row (store_fit (one_slot (slot 3 (replicate 20 0) 0 0 1 0))) refl
    ∷ row (store_fit (holding 0 (slot 3 (replicate 20 255) 0 (2 ^ 32 - 1) 1 (2 ^ 64 - 1) ∷ slot 3 (replicate 20 255) 0 0 1 0 ∷ []))) refl
    -- the link: "zero in codes (spent ones too; else refusal 3)"
    ∷ row (store_unfit (link_is 1 (one_byte 0))) refl
    ∷ row (store_unfit (link_is 1 (one_byte 31))) refl
    ∷ row (store_unfit (link_is 2 (one_byte 0))) refl
    ∷ row (store_unfit (link_is 2 (one_byte 31))) refl
    ∷ row (store_unfit (link_is 5 (one_byte 0))) refl
    ∷ row (store_unfit (link_is 5 (one_byte 19))) refl
    ∷ row (store_unfit (link_is 5 (one_byte 20))) refl
    ∷ row (store_unfit (link_is 5 (one_byte 31))) refl
    ∷ row (store_unfit (link_is 5 challenge)) refl
    -- in tokens an origin of any 20 bytes, zeros and their own handle too; the 12 behind it are "zero-filled (else refusal 3)"
    ∷ row (store_fit (link_is 3 (replicate 32 0))) refl
    ∷ row (store_fit (link_is 3 (one_byte 0))) refl
    ∷ row (store_fit (link_is 3 (link_to (count_up 20 0)))) refl
    ∷ row (store_fit (link_is 4 (one_byte 19))) refl
    ∷ row (store_fit (link_is 4 (link_to (replicate 20 255)))) refl
    ∷ row (store_unfit (link_is 3 (one_byte 20))) refl
    ∷ row (store_unfit (link_is 3 (one_byte 31))) refl
    ∷ row (store_unfit (link_is 4 (one_byte 20))) refl
    ∷ row (store_unfit (link_is 4 (one_byte 31))) refl
    ∷ row (store_unfit (link_is 4 challenge)) refl
    -- in codes with a challenge any 32 bytes, zeros too (above)
    ∷ row (store_fit (link_is 6 challenge)) refl
    ∷ row (store_fit (link_is 6 (one_byte 0))) refl
    ∷ row (store_fit (link_is 6 (replicate 32 255))) refl
    ∷ row (store_fit (link_is 7 challenge)) refl
    ∷ row (store_fit (link_is 7 (one_byte 31))) refl
    ∷ row (store_unfit (link_is 8 challenge)) refl
    -- kind 0: the body is all zero
    ∷ row (store_fit (one_slot (slot 0 (replicate 20 0) 0 0 0 0))) refl
    ∷ row (store_unfit (one_slot (slot 0 (1 ∷ replicate 19 0) 0 0 0 0))) refl
    ∷ row (store_unfit (one_slot (slot 0 (replicate 19 0 ++ 1 ∷ []) 0 0 0 0))) refl
    ∷ row (store_unfit (one_slot (slot 0 (replicate 20 0) 1 0 0 0))) refl
    ∷ row (store_unfit (one_slot (slot 0 (replicate 20 0) 0 1 0 0))) refl
    ∷ row (store_unfit (one_slot (slot 0 (replicate 20 0) 0 (2 ^ 24) 0 0))) refl
    ∷ row (store_unfit (one_slot (slot 0 (replicate 20 0) 0 0 1 0))) refl
    ∷ row (store_unfit (one_slot (slot 0 (replicate 20 0) 0 0 0 1))) refl
    ∷ row (store_unfit (one_slot (slot 0 (replicate 20 0) 0 0 0 (2 ^ 56)))) refl
    ∷ row (store_unfit (one_slot (linked (one_byte 0) free_slot))) refl
    ∷ row (store_unfit (one_slot (linked (one_byte 19) free_slot))) refl
    ∷ row (store_unfit (one_slot (linked (one_byte 31) free_slot))) refl
    -- one unfit slot is enough, at the last place too, run out or not
    ∷ row (store_unfit (holding 0 (slot 3 (count_up 20 0) 0 7 11 1600 ∷ slot 3 (count_up 20 1) 0 7 0 1 ∷ []))) refl
    ∷ row (store_unfit (lastly 0 [] free_slot (slot 8 (count_up 20 0) 0 7 11 1))) refl
    ∷ row (store_fit (lastly 0 [] free_slot (slot 4 (count_up 20 0) 0 7 11 1))) refl
    ∷ row (store_unfit (lastly 0 [] free_slot (linked (one_byte 31) (slot 5 (count_up 20 0) 0 7 11 1)))) refl
    ∷ []

-- ---- registries

-- a record as the paper lays it out: "id length, 32 for the id, redirect length, 200 for the redirect, scope set", "then secret length
-- and 64 for the secret"
abbrev filled : ℕ → List ℕ → List ℕ
filled room x = x ++ replicate (room - length x) 0

abbrev entry : (kind id_length : ℕ) (id : List ℕ) (redirect_length : ℕ) (redirect : List ℕ) (scope : ℕ) → List ℕ
entry kind id_length id redirect_length redirect scope =
    kind ∷ id_length ∷ filled 32 id ++ redirect_length ∷ filled 200 redirect ++ scope ∷ []

-- a public client `a` with the address `r` and set 1, all but one field
abbrev kind_is : ℕ → List ℕ
kind_is kind = entry kind 1 (bytes "a") 1 (bytes "r") 1

abbrev id_is : ℕ → List ℕ → List ℕ
id_is id_length id = entry 1 id_length id 65 (replicate 65 114) 1

abbrev redirect_is : ℕ → List ℕ → List ℕ
redirect_is redirect_length redirect = entry 1 1 (bytes "a") redirect_length redirect 65

abbrev scope_is : ℕ → List ℕ
scope_is scope = entry 1 1 (bytes "a") 1 (bytes "r") scope

-- a confidential client `b`, by its secret
abbrev secret_is : ℕ → List ℕ → List ℕ
secret_is secret_length secret = entry 2 1 (bytes "b") 1 (bytes "r") 1 ++ secret_length ∷ filled 64 secret

-- n public clients, each with an id of one byte
abbrev many : ℕ → List ℕ
many zero = []
many (suc n) = entry 1 1 ((0x3B + n) ∷ []) 1 (bytes "r") 1 ++ many n

abbrev registry_unfit : List ℕ → Case
registry_unfit registry = usual no_token registry (holding 0 []) 1000 2

abbrev registry_fit : List ℕ → Case
registry_fit registry = passes no_token 1024 [] registry (holding 0 []) 1000

pub registries : List Row
unfolding text_definitions registry_definitions slot_definitions check_definitions first_of
registries =
    -- kind 1 is 235 bytes behind its kind, kind 2 is 300, and there is no other
    row (registry_fit (kind_is 1)) refl
    ∷ row (registry_fit (secret_is 1 (bytes "s"))) refl
    ∷ row (registry_unfit (kind_is 0)) refl
    ∷ row (registry_unfit (kind_is 2)) refl
    ∷ row (registry_unfit (kind_is 3)) refl
    ∷ row (registry_unfit (entry 1 1 (bytes "b") 1 (bytes "r") 1 ++ 1 ∷ filled 64 (bytes "s"))) refl
    ∷ row (registry_fit (kind_is 1 ++ secret_is 1 (bytes "s"))) refl
    ∷ row (registry_fit (secret_is 1 (bytes "s") ++ kind_is 1)) refl
    -- it ends with its last record
    ∷ row (registry_unfit (kind_is 1 ++ 0 ∷ [])) refl
    ∷ row (registry_unfit (kind_is 1 ++ 1 ∷ [])) refl
    ∷ row (registry_unfit (take 235 (kind_is 1))) refl
    ∷ row (registry_unfit (take 300 (secret_is 1 (bytes "s")))) refl
    ∷ row (registry_unfit (secret_is 1 (bytes "s") ++ take 235 (kind_is 1))) refl
    -- an id of 1 to 32 bytes
    ∷ row (registry_unfit (id_is 0 [])) refl
    ∷ row (registry_fit (id_is 1 (bytes "a"))) refl
    ∷ row (registry_fit (id_is 32 (replicate 32 97))) refl
    ∷ row (registry_unfit (id_is 33 (replicate 32 97))) refl
    ∷ row (registry_unfit (id_is 255 (replicate 32 97))) refl
    -- of 20-7E hex, no colon
    ∷ row (registry_unfit (id_is 2 (0x61 ∷ 0x1F ∷ []))) refl
    ∷ row (registry_fit (id_is 2 (0x20 ∷ 0x7E ∷ []))) refl
    ∷ row (registry_unfit (id_is 2 (0x7F ∷ 0x61 ∷ []))) refl
    ∷ row (registry_unfit (id_is 2 (0x61 ∷ 0x3A ∷ []))) refl
    ∷ row (registry_fit (id_is 2 (0x39 ∷ 0x3B ∷ []))) refl
    -- a redirect of 1 to 200 bytes
    ∷ row (registry_unfit (redirect_is 0 [])) refl
    ∷ row (registry_fit (redirect_is 1 (bytes "r"))) refl
    ∷ row (registry_fit (redirect_is 200 (replicate 200 114))) refl
    ∷ row (registry_unfit (redirect_is 201 (replicate 200 114))) refl
    -- of 21-7E, no `#`
    ∷ row (registry_unfit (redirect_is 2 (0x72 ∷ 0x20 ∷ []))) refl
    ∷ row (registry_fit (redirect_is 2 (0x21 ∷ 0x7E ∷ []))) refl
    ∷ row (registry_unfit (redirect_is 2 (0x7F ∷ 0x72 ∷ []))) refl
    ∷ row (registry_unfit (redirect_is 2 (0x72 ∷ 0x23 ∷ []))) refl
    ∷ row (registry_fit (redirect_is 3 (0x22 ∷ 0x24 ∷ 0x3A ∷ []))) refl
    -- a scope set that is not empty
    ∷ row (registry_unfit (scope_is 0)) refl
    ∷ row (registry_fit (scope_is 1)) refl
    ∷ row (registry_fit (scope_is 255)) refl
    -- a secret of 1 to 64 bytes
    ∷ row (registry_unfit (secret_is 0 [])) refl
    ∷ row (registry_fit (secret_is 64 (replicate 64 115))) refl
    ∷ row (registry_unfit (secret_is 65 (replicate 64 115))) refl
    -- of 20-7E
    ∷ row (registry_unfit (secret_is 2 (0x73 ∷ 0x1F ∷ []))) refl
    ∷ row (registry_fit (secret_is 4 (0x20 ∷ 0x7E ∷ 0x3A ∷ 0x23 ∷ []))) refl
    ∷ row (registry_unfit (secret_is 2 (0x7F ∷ 0x73 ∷ []))) refl
    -- unused bytes are zero, the first and the last of each field
    ∷ row (registry_unfit (id_is 1 (bytes "aa"))) refl
    ∷ row (registry_unfit (id_is 31 (replicate 32 97))) refl
    ∷ row (registry_unfit (redirect_is 1 (bytes "rr"))) refl
    ∷ row (registry_unfit (redirect_is 199 (replicate 200 114))) refl
    ∷ row (registry_unfit (secret_is 1 (bytes "ss"))) refl
    ∷ row (registry_unfit (secret_is 63 (replicate 64 115))) refl
    -- no two ids are equal, next to each other or not, whatever else differs; one may begin with another
    ∷ row (registry_unfit (kind_is 1 ++ scope_is 3)) refl
    ∷ row (registry_unfit (kind_is 1 ++ secret_is 1 (bytes "s") ++ redirect_is 2 (bytes "rr"))) refl
    ∷ row (registry_fit (kind_is 1 ++ id_is 2 (bytes "aa"))) refl
    -- a record behind a sound one is tested too
    ∷ row (registry_unfit (secret_is 1 (bytes "s") ++ scope_is 0)) refl
    -- 1 to 64 records
    ∷ row (registry_unfit []) refl
    ∷ row (registry_fit (many 64)) refl
    ∷ row (registry_unfit (many 65)) refl
    ∷ []

-- clients number from 0: with 64 of them, 63 is the last that a slot may have, and a code has the number of its client
pub many_clients : List Row
unfolding text_definitions registry_definitions slot_definitions decision_definitions authorization_definitions check_definitions
many_clients =
    row (passes no_token 1024 [] (many 64) (one_slot (slot 3 (count_up 20 0) 63 7 1 1600)) 1000) refl
    ∷ row (usual no_token (many 64) (one_slot (slot 3 (count_up 20 0) 64 7 1 1600)) 1000 3) refl
    ∷ row (record {
      call = authorization (bytes "response_type=code&client_id=;" ++ challenging) 1 7;
      registry = many 64;
      store = holding 0 [];
      clock = 1000;
      random = count_up 20 0;
      room = 1024;
      numbers = 0 ∷ 0 ∷ [];
      text = bytes "r?code=000102030405060708090a0b0c0d0e0f10111213";
      after = holding 1000 (linked challenge (slot 6 (count_up 20 0) 63 7 1 1600) ∷ []);
    }) refl
    ∷ []
