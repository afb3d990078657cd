-- The cases of document 01's "A visit, written out" that are marked with a star: one table, and one claim about it.
--
-- A case that speaks of an endpoint is one of its outcome function, from raw bytes (`Cases`); one that speaks of a text has what the
-- definitions say and what the paper says, both as bytes: a text as it stands, a number as one byte, a yes as 1, a no as 0, and a
-- refusal of a value as no byte.
-- Assumes nothing.
use Prim.Native.Nat.{ℕ}
use mathlib.Core.Path.{◌≡◌, refl}
use mathlib.Core.Bool.{Bool, true, ◌&&◌}
use mathlib.Core.List.{List, [], ◌∷◌, ◌++◌}
use Rattle.std.specs.Prelude.{Option, Some, None}
use Rattle.octets.specs.Text.{bytes}
use Rattle.octets.specs.Lists.{same}
use Rattle.octets.specs.Search.{bit}
use Rattle.octets.proofs.Booleans.{and_left, and_right}
use Rattle.octets.proofs.Lists.{same-eq}
use Rattle.encoding.specs.Base64.{standard, is_base64, base64_bytes}
use Rattle.form_coding.specs.Coding.{encode}
use Rattle.form.specs.Content.{is_well_formed_form, form_value, Value, missing, once, repeated}
use Rattle.scope.specs.Value.{read_scope}
use Rattle.scope.specs.declared.Scope.{Scope}
use Rattle.client_registry.specs.Sample.{sample_registry}
use Rattle.token_store.specs.declared.Slot.{Slot}
use Rattle.protocol.proofs.Computing.{text_definitions, registry_definitions, slot_definitions, decision_definitions, authorization_definitions, client_definitions, token_definitions}
use Rattle.protocol.proofs.Cases.{authorization, token, holding, slot, from, spent, challenging, Case, Decided, decided, agrees}
unfoldable pub use Rattle.protocol.proofs.Cases.{count_up}

-- ---- what the definitions say of a text

yes : Bool → List ℕ
yes b = bit b ∷ []

number : Option Scope → List ℕ
number (Some s) = s.bits ∷ []
number None = []

-- how often a form says a name: 0, 1, or 2 for more
times : Value → List ℕ
times missing = 0 ∷ []
times (once v) = 1 ∷ []
times repeated = 2 ∷ []

-- ---- calls

-- "response_type=code&.. (document 003)"
unfoldable pub rfc_query : List ℕ
rfc_query = bytes "response_type=code&client_id=s6BhdRkqt3&state=xyz&redirect_uri=https%3A%2F%2Fclient%2Eexample%2Ecom%2Fcb"

-- the slot of that query's code, of farm 7: "random 00 to 13 hex, clock 1000"
code_issued : Slot
code_issued = slot 2 (count_up 20 0) 0 7 11 1600

-- a query at clock 1000 and a fresh store
abbrev queried : List ℕ → ℕ → ℕ → List ℕ → List Slot → Case
queried query decision error text slots = record {
  call = authorization query decision 7;
  registry = sample_registry;
  store = holding 0 [];
  clock = 1000;
  random = count_up 20 0;
  room = 1024;
  numbers = 0 ∷ error ∷ [];
  text = text;
  after = holding 1000 slots;
}

-- the exchange of that code at a clock, its redirect_uri repeated, with client 0's header and the random bytes 20 to 47 hex
abbrev exchanged : ℕ → ℕ → ℕ → List ℕ → List Slot → Case
exchanged clock status error text slots = record {
  call =
      token (bytes "Basic czZCaGRSa3F0MzpnWDFmQmF0M2JW")
      (bytes "grant_type=authorization_code&code=000102030405060708090a0b0c0d0e0f10111213&redirect_uri=https%3A%2F%2Fclient.example.com%2Fcb");
  registry = sample_registry;
  store = holding 1000 (code_issued ∷ []);
  clock = clock;
  random = count_up 40 32;
  room = 1024;
  numbers = 0 ∷ status ∷ error ∷ 0 ∷ [];
  text = text;
  after = holding clock slots;
}

-- ---- the table

pub data Star : Type 0 where
  -- what the definitions say of a text, and what the paper says
  says : List ℕ → List ℕ → Star
  -- how the outcome function decides
  decides : Case → Star

pub cases : List Star
cases =
    decides
    (queried rfc_query 1 0 (bytes "https://client.example.com/cb?code=000102030405060708090a0b0c0d0e0f10111213&state=xyz") (code_issued ∷ []))
    ∷ decides (queried rfc_query 0 7 (bytes "https://client.example.com/cb?error=access_denied&state=xyz") [])
    ∷ says (base64_bytes standard (bytes "czZCaGRSa3F0MzpnWDFmQmF0M2JW")) (bytes "s6BhdRkqt3:gX1fBat3bV")
    ∷ says (yes (is_base64 standard (bytes "czZCaGRSa3F0MzpnWDFmQmF0M2JW"))) (1 ∷ [])
    -- "The code is live at 1599, not at 1600.": it is exchanged, and is not
    ∷ decides
    (exchanged 1599 200 0
    (bytes "{\"access_token\":\"202122232425262728292a2b2c2d2e2f30313233\",\"token_type\":\"Bearer\",\"expires_in\":3600,"
    ++ bytes "\"refresh_token\":\"3435363738393a3b3c3d3e3f4041424344454647\",\"scope\":\"power peak bill\"}")
    (spent code_issued
    ∷ from (count_up 20 0) (slot 3 (count_up 20 32) 0 7 11 5199)
    ∷ from (count_up 20 0) (slot 4 (count_up 20 52) 0 7 11 2593599)
    ∷ []))
    ∷ decides (exchanged 1600 400 3 (bytes "{\"error\":\"invalid_grant\"}") (code_issued ∷ []))
    ∷ says (number (read_scope (bytes "bill power"))) (9 ∷ [])
    ∷ says (number (read_scope (bytes "power bill power"))) (9 ∷ [])
    ∷ says (number (read_scope (bytes "power  bill"))) []
    ∷ says (encode (0x20 ∷ 0x25 ∷ 0x26 ∷ 0x2B ∷ 0xC2 ∷ 0xA3 ∷ 0xE2 ∷ 0x82 ∷ 0xAC ∷ [])) (bytes "+%25%26%2B%C2%A3%E2%82%AC")
    ∷ says (yes (is_well_formed_form (bytes "a=%4"))) (0 ∷ [])
    ∷ says (times (form_value (bytes "state=&state=x") (bytes "state"))) (1 ∷ [])
    -- "document 01's barnapp case is amended to carry a challenge"
    ∷ decides (queried (bytes "response_type=code&client_id=barnapp" ++ challenging) 0 7 (bytes "https://barn.example/r?x=1&error=access_denied") [])
    ∷ []

-- ---- the claim

abbrev pub AsThePaperHas : List Star → Type 0
AsThePaperHas [] = Unit {0}
AsThePaperHas (says x y ∷ stars) = (x ≡ y) × AsThePaperHas stars
AsThePaperHas (decides c ∷ stars) = Decided c × AsThePaperHas stars

as_the_paper_has : List Star → Bool
as_the_paper_has [] = true
as_the_paper_has (says x y ∷ stars) = same x y && as_the_paper_has stars
as_the_paper_has (decides c ∷ stars) = agrees c && as_the_paper_has stars

all-stars : (stars : List Star) → as_the_paper_has stars ≡ true → AsThePaperHas stars
unfolding as_the_paper_has
all-stars [] e = tt
all-stars (says x y ∷ stars) e =
    (same-eq x y (and_left (same x y) (as_the_paper_has stars) e), all-stars stars (and_right (same x y) (as_the_paper_has stars) e))
all-stars (decides c ∷ stars) e =
    (decided c (and_left (agrees c) (as_the_paper_has stars) e), all-stars stars (and_right (agrees c) (as_the_paper_has stars) e))

computed : as_the_paper_has cases ≡ true
unfolding text_definitions registry_definitions slot_definitions decision_definitions authorization_definitions client_definitions token_definitions as_the_paper_has cases yes number times rfc_query code_issued
computed = refl

-- every starred case stands as the paper has it
pub starred : AsThePaperHas cases
starred = all-stars cases computed
