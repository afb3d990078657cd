-- The authorization endpoint at stores in use, case by case: room and clashes, which slot a code takes and what it holds, and the time.
use Prim.Native.Nat.{ℕ, zero, suc, ◌+◌, ◌-◌, ◌^◌}
use Prim.Native.String.{String}
use mathlib.Core.Path.{refl}
use mathlib.Core.Bool.{false}
use mathlib.Core.List.{List, [], ◌∷◌, ◌++◌}
use lib.ListN.{replicate}
use Rattle.octets.specs.Text.{bytes}
use Rattle.client_registry.specs.Registry.{Client}
use Rattle.client_registry.specs.Sample.{registry_of, sample_registry}
use Rattle.token_store.specs.Store.{free_slot}
use Rattle.token_store.specs.declared.Slot.{Slot}
use Rattle.protocol.proofs.Computing.{text_definitions, registry_definitions, slot_definitions, decision_definitions, authorization_definitions}
use Rattle.protocol.proofs.Cases.{authorization, ShortStore, holding, lastly, slot, linked, from, spent, challenge, challenging, count_up, Case, Row, row}

-- ---- slots

-- the code that is issued at a time
abbrev code_at : ℕ → Slot
code_at t = slot 1 (count_up 20 0) 0 7 11 (t + 600)

-- another client's code, until a time
abbrev barn_code : ℕ → Slot
barn_code t = slot 2 (count_up 20 160) 1 9 1 t

-- a refresh token that is live for long
abbrev other : Slot
other = from (count_up 20 140) (slot 4 (count_up 20 100) 1 8 1 9000)

-- an access token that runs out at a time
abbrev until : ℕ → Slot
until t = from (count_up 20 140) (slot 3 (count_up 20 120) 1 9 1 t)

-- a store whose slots are all in use and live but for the first of them
abbrev crowded : ℕ → List Slot → ShortStore
crowded time slots = record { time = time; first = slots; rest = other }

-- ---- calls: of client 0 with a state, allowed for farm 7, at clock 1000 with the random bytes 00 to 13 hex

abbrev query : List ℕ
query = bytes "response_type=code&client_id=s6BhdRkqt3&state=xyz"

abbrev answered_for : ℕ → ℕ → ℕ → List ℕ → ShortStore → ℕ → String → ShortStore → Case
answered_for farm clock decision random before word text after = record {
  call = authorization query decision farm;
  registry = sample_registry;
  store = before;
  clock = clock;
  random = random;
  room = 1024;
  numbers = 0 ∷ word ∷ [];
  text = bytes "https://client.example.com/cb?" ++ bytes text ++ bytes "&state=xyz";
  after = after;
}

abbrev answered : ℕ → ℕ → List ℕ → ShortStore → ℕ → String → ShortStore → Case
answered clock decision random before word text after = answered_for 7 clock decision random before word text after

-- a code is issued, and the store after
abbrev issued : ℕ → ShortStore → ShortStore → Case
issued clock before after = answered clock 1 (count_up 20 0) before 0 "code=000102030405060708090a0b0c0d0e0f10111213" after

-- the store with another time
abbrev seen_at : ℕ → ShortStore → ShortStore
seen_at time l = record { time = time; first = l.first; rest = l.rest }

-- none is: the slots stay, and the time is the call's
abbrev full : ShortStore → Case
full before = answered 1000 1 (count_up 20 0) before 8 "error=temporarily_unavailable" (seen_at 1000 before)

abbrev clash : List ℕ → ShortStore → Case
clash random before = answered 1000 1 random before 9 "error=server_error" (seen_at 1000 before)

-- allowed for farm 0: "an owner's decision for farm 0 is from now on `access_denied`"
abbrev farmless : ℕ → List ℕ → ShortStore → ShortStore → Case
farmless clock random before after = answered_for 0 clock 1 random before 7 "error=access_denied" after

-- a page, at a store with slots in use, one of which has run out
abbrev page_at : String → ℕ → Case
page_at asked number = record {
  call = authorization (bytes asked) 1 7;
  registry = sample_registry;
  store = holding 1600 (other ∷ until 1 ∷ []);
  clock = 1700;
  random = count_up 20 0;
  room = 1024;
  numbers = number ∷ 0 ∷ [];
  text = [];
  after = holding 1700 (other ∷ until 1 ∷ []);
}

-- a code for a farm at a fresh store, with a challenge: what the location starts with, and the code's slot but for its link
abbrev holds : List ℕ → String → ℕ → List ℕ → Slot → Case
holds registry asked farm start s = record {
  call = authorization (bytes asked ++ challenging) 1 farm;
  registry = registry;
  store = holding 0 [];
  clock = 1000;
  random = count_up 20 0;
  room = 1024;
  numbers = 0 ∷ 0 ∷ [];
  text = start ++ bytes "code=000102030405060708090a0b0c0d0e0f10111213";
  after = holding 1000 (linked challenge s ∷ []);
}

-- three public clients: an address of 200 bytes, one that ends in `?`, one with `&`
public : String → List ℕ → ℕ → Client
public id redirect scope = record { confidential = false; id = bytes id; redirect = redirect; scope = scope; secret = [] }

addresses : List ℕ
addresses =
    registry_of
    (public "a" (replicate 200 97) 148
    ∷ public "b" (bytes "https://b.example/?") 255
    ∷ public "c" (bytes "https://c.example/a&b") 224
    ∷ [])

-- n signs for percent, written as a form
abbrev written : ℕ → List ℕ
written zero = []
written (suc n) = bytes "%25" ++ written n

-- a code of client 1 among them, which has every name, by the scope asked for
abbrev named : String → ℕ → Case
named asked scope = record {
  call = authorization (bytes "response_type=code&client_id=b&scope=" ++ bytes asked ++ challenging) 1 7;
  registry = addresses;
  store = holding 0 [];
  clock = 1000;
  random = count_up 20 0;
  room = 1024;
  numbers = 0 ∷ 0 ∷ [];
  text = bytes "https://b.example/?&code=000102030405060708090a0b0c0d0e0f10111213";
  after = holding 1000 (linked challenge (slot 6 (count_up 20 0) 1 7 scope 1600) ∷ []);
}

-- ---- the table

pub room_and_clashes : List Row
unfolding text_definitions registry_definitions slot_definitions decision_definitions authorization_definitions
room_and_clashes =
    -- no slot is free or has run out; a denied request is not told so
    row (full (crowded 0 [])) refl
    ∷ row (answered 1000 0 (count_up 20 0) (crowded 0 []) 7 "error=access_denied" (crowded 1000 [])) refl
    ∷ row (farmless 1000 (count_up 20 0) (crowded 0 []) (crowded 1000 [])) refl
    -- a slot that runs out a second later is none, one that runs out now is; the first and the last place
    ∷ row (full (crowded 0 (other ∷ other ∷ until 1001 ∷ []))) refl
    ∷ row (issued 1000 (crowded 0 (other ∷ other ∷ until 1000 ∷ [])) (crowded 1000 (other ∷ other ∷ code_at 1000 ∷ []))) refl
    ∷ row (issued 1000 (crowded 0 (until 1000 ∷ [])) (crowded 1000 (code_at 1000 ∷ []))) refl
    ∷ row (issued 1000 (lastly 0 [] other (until 1000)) (lastly 1000 [] other (code_at 1000))) refl
    ∷ row (full (lastly 0 [] other (until 1001))) refl
    -- one is free
    ∷ row (issued 1000 (crowded 0 (other ∷ free_slot ∷ [])) (crowded 1000 (other ∷ code_at 1000 ∷ []))) refl
    ∷ row (issued 1000 (lastly 0 [] other free_slot) (lastly 1000 [] other (code_at 1000))) refl
    -- a code that is spent is in use until its old expiry, and room from then on
    ∷ row (full (crowded 0 (spent (barn_code 1001) ∷ []))) refl
    ∷ row (issued 1000 (crowded 0 (other ∷ spent (barn_code 1000) ∷ [])) (crowded 1000 (other ∷ code_at 1000 ∷ []))) refl
    -- the lowest counts, whether free or run out
    ∷ row (issued 1000 (holding 0 (other ∷ until 999 ∷ [])) (holding 1000 (other ∷ code_at 1000 ∷ []))) refl
    ∷ row (issued 1000 (crowded 0 (other ∷ free_slot ∷ until 999 ∷ [])) (crowded 1000 (other ∷ code_at 1000 ∷ until 999 ∷ []))) refl
    -- both no slot and a clash, and the clash alone
    ∷ row (answered 1000 1 (count_up 20 100) (crowded 0 []) 8 "error=temporarily_unavailable" (crowded 1000 [])) refl
    ∷ row (clash (count_up 20 100) (holding 0 (other ∷ []))) refl
    -- a decision for farm 0 is not told of a clash either
    ∷ row (farmless 1000 (count_up 20 100) (holding 0 (other ∷ [])) (holding 1000 (other ∷ []))) refl
    -- the random bytes are the handle of a slot in use, of any kind and at any place, run out or not
    ∷ row (clash (count_up 20 0) (holding 0 (slot 1 (count_up 20 0) 1 9 1 1000 ∷ []))) refl
    ∷ row (clash (count_up 20 0) (holding 0 (slot 2 (count_up 20 0) 1 9 1 1001 ∷ []))) refl
    ∷ row (clash (count_up 20 0) (holding 0 (other ∷ slot 3 (count_up 20 0) 1 9 1 1 ∷ []))) refl
    ∷ row (clash (count_up 20 0) (holding 0 (slot 4 (count_up 20 0) 1 9 1 0 ∷ []))) refl
    ∷ row (clash (count_up 20 0) (holding 0 (slot 5 (count_up 20 0) 1 9 1 1001 ∷ []))) refl
    ∷ row (clash (count_up 20 0) (holding 0 (other ∷ slot 5 (count_up 20 0) 1 9 1 1000 ∷ []))) refl
    ∷ row (clash (count_up 20 0) (lastly 0 [] free_slot (slot 3 (count_up 20 0) 1 9 1 1000))) refl
    -- they differ from it in the first or the last byte
    ∷ row (issued 1000 (holding 0 (slot 3 (1 ∷ count_up 19 1) 1 9 1 2000 ∷ []))
    (holding 1000 (slot 3 (1 ∷ count_up 19 1) 1 9 1 2000 ∷ code_at 1000 ∷ []))) refl
    ∷ row (issued 1000 (holding 0 (slot 3 (count_up 19 0 ++ 20 ∷ []) 1 9 1 2000 ∷ []))
    (holding 1000 (slot 3 (count_up 19 0 ++ 20 ∷ []) 1 9 1 2000 ∷ code_at 1000 ∷ []))) refl
    -- an origin is no handle of a slot: not of a token that is live, nor of one that has run out
    ∷ row (issued 1000 (holding 0 (from (count_up 20 0) other ∷ [])) (holding 1000 (from (count_up 20 0) other ∷ code_at 1000 ∷ []))) refl
    ∷ row (issued 1000 (crowded 0 (other ∷ from (count_up 20 0) (until 999) ∷ [])) (crowded 1000 (other ∷ code_at 1000 ∷ []))) refl
    -- the zeros of a free slot are no handle, nor are those of a code's link
    ∷ row (answered 1000 1 (replicate 20 0) (holding 0 []) 0 "code=0000000000000000000000000000000000000000"
    (holding 1000 (slot 1 (replicate 20 0) 0 7 11 1600 ∷ []))) refl
    ∷ row (answered 1000 1 (replicate 20 0) (holding 0 (barn_code 1600 ∷ spent (barn_code 1600) ∷ [])) 0
    "code=0000000000000000000000000000000000000000"
    (holding 1000 (barn_code 1600 ∷ spent (barn_code 1600) ∷ slot 1 (replicate 20 0) 0 7 11 1600 ∷ []))) refl
    ∷ []

pub times : List Row
unfolding text_definitions registry_definitions slot_definitions decision_definitions authorization_definitions
times =
    -- T is the larger of clock and mark: it is stored, the expiry is T plus 600, and slots run out by it
    row (issued 1000 (holding 1000 []) (holding 1000 (code_at 1000 ∷ []))) refl
    ∷ row (issued 1001 (holding 1000 []) (holding 1001 (code_at 1001 ∷ []))) refl
    ∷ row (issued 1100 (holding 1600 []) (holding 1600 (code_at 1600 ∷ []))) refl
    ∷ row (issued 1100 (crowded 1600 (other ∷ until 1600 ∷ [])) (crowded 1600 (other ∷ code_at 1600 ∷ []))) refl
    ∷ row (answered 1100 1 (count_up 20 0) (crowded 1600 (other ∷ until 1601 ∷ [])) 8 "error=temporarily_unavailable"
    (crowded 1600 (other ∷ until 1601 ∷ []))) refl
    ∷ row (issued (2 ^ 40) (holding 1600 []) (holding (2 ^ 40) (code_at (2 ^ 40) ∷ []))) refl
    -- two identical requests give two codes
    ∷ row (answered 1000 1 (count_up 20 100) (holding 1000 (code_at 1000 ∷ [])) 0 "code=6465666768696a6b6c6d6e6f7071727374757677"
    (holding 1000 (code_at 1000 ∷ slot 1 (count_up 20 100) 0 7 11 1600 ∷ []))) refl
    -- a call that is refused stores T too, and no other byte changes: with an error word, and with each page
    ∷ row (answered 1700 0 (count_up 20 0) (holding 1600 (other ∷ until 1 ∷ [])) 7 "error=access_denied" (holding 1700 (other ∷ until 1 ∷ []))) refl
    ∷ row (answered 1100 0 (count_up 20 0) (holding 1600 (other ∷ until 1 ∷ [])) 7 "error=access_denied" (holding 1600 (other ∷ until 1 ∷ []))) refl
    ∷ row (farmless 1700 (count_up 20 0) (holding 1600 (other ∷ until 1 ∷ [])) (holding 1700 (other ∷ until 1 ∷ []))) refl
    ∷ row (farmless 1100 (count_up 20 0) (holding 1600 (other ∷ until 1 ∷ [])) (holding 1600 (other ∷ until 1 ∷ []))) refl
    ∷ row (page_at "a=%4" 5) refl
    ∷ row (page_at "client_id=other" 6) refl
    ∷ row (page_at "client_id=barnapp&redirect_uri=x" 7) refl
    ∷ []

-- what a code holds and where it is sent, by the client, with the owner's decision 1
pub held : List Row
unfolding text_definitions registry_definitions slot_definitions decision_definitions authorization_definitions public addresses
held =
    -- the farm that the owner allowed, of 32 bits and any but 0; the client's number, and its set
    row (holds sample_registry "response_type=code&client_id=s6BhdRkqt3&scope=bill" 1
    (bytes "https://client.example.com/cb?") (slot 6 (count_up 20 0) 0 1 8 1600)) refl
    ∷ row (holds sample_registry "response_type=code&client_id=barnapp&redirect_uri=https://barn.example/r?x=1" (2 ^ 32 - 1)
    (bytes "https://barn.example/r?x=1&") (slot 7 (count_up 20 0) 1 (2 ^ 32 - 1) 1 1600)) refl
    ∷ row (holds sample_registry "response_type=code&client_id=barnapp" (2 ^ 24) (bytes "https://barn.example/r?x=1&")
    (slot 6 (count_up 20 0) 1 (2 ^ 24) 1 1600)) refl
    -- an address that ends in `?`, and one with `&` alone
    ∷ row (holds addresses "response_type=code&client_id=b" 7 (bytes "https://b.example/?&") (slot 6 (count_up 20 0) 1 7 255 1600)) refl
    ∷ row (holds addresses "response_type=code&client_id=c" 7 (bytes "https://c.example/a&b?") (slot 6 (count_up 20 0) 2 7 224 1600)) refl
    -- each name of the table, for a client with all of them
    ∷ row (named "power" 1) refl
    ∷ row (named "peak" 2) refl
    ∷ row (named "tariff" 4) refl
    ∷ row (named "bill" 8) refl
    ∷ row (named "milking" 16) refl
    ∷ row (named "drying" 32) refl
    ∷ row (named "pump" 64) refl
    ∷ row (named "solar" 128) refl
    ∷ row (named "solar+pump+drying+milking+bill+tariff+peak+power" 255) refl
    -- an address of 200 bytes; with a state of 200 that each take three, the longest location
    ∷ row (holds addresses "response_type=code&client_id=a&scope=milking" 7 (replicate 200 97 ++ bytes "?")
    (slot 6 (count_up 20 0) 0 7 16 1600)) refl
    ∷ row (record {
      call = authorization (bytes "response_type=code&client_id=a&state=" ++ written 200 ++ challenging) 1 7;
      registry = addresses;
      store = holding 0 [];
      clock = 1000;
      random = count_up 20 0;
      room = 1024;
      numbers = 0 ∷ 0 ∷ [];
      text = replicate 200 97 ++ bytes "?code=000102030405060708090a0b0c0d0e0f10111213&state=" ++ written 200;
      after = holding 1000 (linked challenge (slot 6 (count_up 20 0) 0 7 148 1600) ∷ []);
    }) refl
    ∷ []
