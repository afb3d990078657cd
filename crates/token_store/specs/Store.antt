-- A store as the latest time seen and a list of slots: what a slot is, the tests of it, and how a store's bytes are
-- read and written. A store is document 01's ledger, and its time the mark.
use Rattle.std.specs.Prelude.{ℕ, zero, suc, ◌-◌, ◌^◌, ◌<◌, max, ◌≡◌, Bool, cond, not, ◌&&◌, ◌||◌, List, [], ◌∷◌, ◌++◌, map, eqb, ltb, length, take, drop, get_or, set, replicate, Option, Some, None}
use Rattle.octets.specs.Lists.{part, same}
use Rattle.octets.specs.BigEndian.{big_endian, big_endian_bytes}
use Rattle.encoding.specs.Hex.{presents}
use Rattle.token_store.specs.Layout.{time_size, slot_count, handle_size, farm_size, expiry_size, link_size, field_sizes, slot_size, slot_start}
use Rattle.octets.specs.Search.{replace_first, replace_all}
use Rattle.token_store.specs.declared.Slot.{Slot}
use Rattle.token_store.specs.declared.Sought.{Sought}
use Rattle.token_store.specs.declared.Sought.TheVariants.{Code, Spent, Access, Refresh, Token}

pub record Store : Type 0 where
  pub time : ℕ
  pub slots : List Slot

-- ---- kinds: "Kind 0 is free, body all zero; 1 code without bound redirect; 2 code with bound redirect; 3 access; 4 refresh."
-- "Keep an exchanged code as kind 5, spent"; "Codes with a challenge are kinds 6 and 7 (without and with bound redirect)"

abbrev pub kind_free : ℕ
kind_free = 0

abbrev pub kind_code : ℕ
kind_code = 1

abbrev pub kind_bound_code : ℕ
kind_bound_code = 2

abbrev pub kind_access : ℕ
kind_access = 3

abbrev pub kind_refresh : ℕ
kind_refresh = 4

abbrev pub kind_spent : ℕ
kind_spent = 5

abbrev pub kind_challenged_code : ℕ
kind_challenged_code = 6

abbrev pub kind_bound_challenged_code : ℕ
kind_bound_challenged_code = 7

-- the kinds number up to the last of them
abbrev pub kind_last : ℕ
kind_last = kind_bound_challenged_code

-- the kind of a code, by whether its redirect is bound and whether it has a challenge
abbrev pub code_kind : Bool → Bool → ℕ
code_kind bound challenged = cond challenged (cond bound kind_bound_challenged_code kind_challenged_code) (cond bound kind_bound_code kind_code)

abbrev pub is_used : Slot → Bool
is_used s = not (eqb s.kind kind_free)

abbrev pub is_bound_code : Slot → Bool
is_bound_code s = eqb s.kind kind_bound_code || eqb s.kind kind_bound_challenged_code

-- a code with a challenge
abbrev pub is_challenged_kind : ℕ → Bool
is_challenged_kind kind = eqb kind kind_challenged_code || eqb kind kind_bound_challenged_code

abbrev pub is_challenged : Slot → Bool
is_challenged s = is_challenged_kind s.kind

-- an access or a refresh token
abbrev pub is_token_kind : ℕ → Bool
is_token_kind kind = eqb kind kind_access || eqb kind kind_refresh

abbrev pub is_token : Slot → Bool
is_token s = is_token_kind s.kind

-- "for a code, 1 or 2", and with a challenge 6 or 7; "kinds 3 and 4 looked up together"
abbrev pub is_sought : Sought → Slot → Bool
is_sought Code s = eqb s.kind kind_code || eqb s.kind kind_bound_code || is_challenged s
is_sought Spent s = eqb s.kind kind_spent
is_sought Access s = eqb s.kind kind_access
is_sought Refresh s = eqb s.kind kind_refresh
is_sought Token s = is_token s

-- ---- links: "Each access and refresh token records the handle of the code it came from"; codes with a challenge "hold its 32
-- bytes in the place where tokens hold their origin (zero again once spent as kind 5)"; "zero-filled"

-- the link of what has no origin and no challenge
abbrev pub no_link : List ℕ
no_link = replicate link_size 0

-- the link of a token, by the handle of the code that it came from
abbrev pub link_to : List ℕ → List ℕ
link_to origin = origin ++ replicate (link_size - handle_size) 0

-- the handle of the code that a token came from
abbrev pub origin_of : Slot → List ℕ
origin_of s = take handle_size s.link

unfoldable pub free_slot : Slot
free_slot = record {
  kind = kind_free;
  handle = replicate handle_size 0;
  client = 0;
  farm = 0;
  scope = 0;
  expiry = 0;
  link = no_link;
}

-- a code once it is exchanged: its kind changes, and it has no challenge any more
abbrev pub spent_code : Slot → Slot
spent_code s = record {
  kind = kind_spent;
  handle = s.handle;
  client = s.client;
  farm = s.farm;
  scope = s.scope;
  expiry = s.expiry;
  link = no_link;
}

-- ---- time: "Something is live while T is below its expiry."

-- "Expiry is T plus 600 (code), 3,600 (access), 2,592,000 (refresh).": a row for each kind. A spent code is never issued: it is
-- kept "until its old expiry"
abbrev pub lifetimes : List ℕ
lifetimes = 0 ∷ 600 ∷ 600 ∷ 3600 ∷ 2592000 ∷ 0 ∷ 600 ∷ 600 ∷ []

abbrev pub lifetime_of : ℕ → ℕ
lifetime_of kind = get_or lifetimes kind 0

abbrev pub is_live : ℕ → Slot → Bool
is_live t s = is_used s && ltb t s.expiry

-- "free or has run out at T"
abbrev pub is_vacant : ℕ → Slot → Bool
is_vacant t s = not (is_live t s)

-- ---- handles: "A look-up takes the lowest slot of the right kind (for a code, 1 or 2) and handle"

-- "equal to the handle of any slot in use, run out or not"
abbrev pub holds : List ℕ → Slot → Bool
holds h s = is_used s && same h s.handle

-- the slot has the handle that was presented: "any other text matches no slot"
abbrev pub shows : Option (List ℕ) → Slot → Bool
shows p s = presents p s.handle

abbrev pub sought_key : Sought → Option (List ℕ) → Slot → Bool
sought_key q p s = is_sought q s && shows p s

-- a token of a kind that is sought, which came from the code of this handle
abbrev pub comes_from : Sought → List ℕ → Slot → Bool
comes_from q handle s = is_sought q s && same handle (origin_of s)

-- "every token with that origin is cleared"; "all access tokens of its origin"
abbrev pub without_tokens : Sought → List ℕ → List Slot → List Slot
without_tokens q origin slots = replace_all free_slot (comes_from q origin) slots

-- what a search of the slots gives, by the place of the first that passes
abbrev pub found_at : ℕ → Option ℕ
found_at i = cond (ltb i slot_count) (Some i) None

-- ---- one slot of a store, and the store with another slot, other slots or another time

abbrev pub slot_of : Store → ℕ → Slot
slot_of g i = get_or g.slots i free_slot

abbrev pub with_slot : Store → ℕ → Slot → Store
with_slot g i s = record { time = g.time; slots = set g.slots i s }

abbrev pub with_slots : Store → List Slot → Store
with_slots g slots = record { time = g.time; slots = slots }

abbrev pub with_time : Store → ℕ → Store
with_time g t = record { time = t; slots = g.slots }

-- "Issue takes the lowest slot that is free or has run out at T, so old room is used again."
abbrev pub issue : ℕ → Slot → List Slot → List Slot
issue t s slots = replace_first (is_vacant t) s slots

-- "A call's time T is the larger of clock and mark."
abbrev pub call_time : Store → ℕ → ℕ
call_time g clock = max clock g.time

-- "A fresh ledger is all zero."
unfoldable pub fresh : Store
fresh = record { time = 0; slots = replicate slot_count free_slot }

-- ---- bytes

-- a list cut into pieces of the given lengths, and pieces joined
unfoldable pub cut : List ℕ → List ℕ → List (List ℕ)
cut [] l = []
cut (w ∷ ws) l = take w l ∷ cut ws (drop w l)

unfoldable pub concat : List (List ℕ) → List ℕ
concat [] = []
concat (f ∷ fs) = f ++ concat fs

-- f 0, f 1, .., f (n - 1)
unfoldable pub tabulate : {A : Type 0} → ℕ → (ℕ → A) → List A
tabulate zero f = []
tabulate (suc n) f = tabulate n f ++ (f n ∷ [])

-- a slot's fields, each in its bytes
abbrev pub fields_of : Slot → List (List ℕ)
fields_of s =
    big_endian_bytes 1 s.kind
    ∷ s.handle
    ∷ big_endian_bytes 1 s.client
    ∷ big_endian_bytes farm_size s.farm
    ∷ big_endian_bytes 1 s.scope
    ∷ big_endian_bytes expiry_size s.expiry
    ∷ s.link
    ∷ []

abbrev pub of_fields : List (List ℕ) → Slot
of_fields fs = record {
  kind = big_endian (get_or fs 0 []);
  handle = get_or fs 1 [];
  client = big_endian (get_or fs 2 []);
  farm = big_endian (get_or fs 3 []);
  scope = big_endian (get_or fs 4 []);
  expiry = big_endian (get_or fs 5 []);
  link = get_or fs 6 [];
}

-- the fields fit their widths
pub record SlotFits (s : Slot) : Type 0 where
  pub kind : s.kind < 256 ^ 1
  pub handle : length s.handle ≡ handle_size
  pub client : s.client < 256 ^ 1
  pub farm : s.farm < 256 ^ farm_size
  pub scope : s.scope < 256 ^ 1
  pub expiry : s.expiry < 256 ^ expiry_size
  pub link : length s.link ≡ link_size

-- so do those of every slot; past the list's end the slot is free
abbrev pub SlotsFit : List Slot → Type 0
SlotsFit l = (i : ℕ) → SlotFits (get_or l i free_slot)

unfoldable pub encode_slot : Slot → List ℕ
encode_slot s = concat (fields_of s)

unfoldable pub decode_slot : List ℕ → Slot
decode_slot l = of_fields (cut field_sizes l)

-- the bytes of slot i
abbrev pub slot_bytes : List ℕ → ℕ → List ℕ
slot_bytes b i = part b (slot_start i) slot_size

unfoldable pub encode : Store → List ℕ
encode g = big_endian_bytes time_size g.time ++ concat (map encode_slot g.slots)

unfoldable pub decode : List ℕ → Store
decode b = record {
  time = big_endian (part b 0 time_size);
  slots = tabulate slot_count (λ i. decode_slot (slot_bytes b i));
}
