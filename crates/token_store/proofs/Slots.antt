-- Laws of one slot (specs/Store.antt): its bytes, its fields and its tests.
--
-- In order: reading what was written; where each field lies in a slot's bytes; writing what was read,
-- which fits; the stores that write a slot; the free slot; a slot that is sought is in use, and of one kind; lifetimes.
--
-- Not here: the slots of a store (`Codec`), fitness (`Fits`).
-- Assumes nothing.
use mathlib.Core.Path.{◌≡◌, refl, sym, ap, ◌∙◌, subst}
use mathlib.Core.Bool.{Bool, true, false, not, ◌||◌}
use mathlib.Core.Logic.{◌⊎◌, inl, inr, ⊎_elim}
use mathlib.Core.List.{List, [], ◌∷◌, ◌++◌, map, append_assoc, append-nil}
use Prim.Native.Nat.{ℕ, suc, ◌+◌, ◌^◌, ◌≤◌, ◌<◌}
use native.Mathlib.Omega.{arith}
use lib.Dec.{lit<, eqb, leb}
use lib.ListN.{length, drop, get_or, set, replicate, length-append, drop_of_length-le}
use lib.Seq.{drop-cons, sets}
use borrow.Author.Tests.{eqb-true, ne_eqb, leb-true}
use Rattle.octets.specs.Lists.{part, Bytes, every, same}
use Rattle.octets.specs.BigEndian.{big_endian, big_endian_from, big_endian_bytes}
use Rattle.octets.proofs.Booleans.{and_left, and_right, or_cases}
use Rattle.octets.proofs.Lists.{take-bytes, drop-bytes, length_part}
use Rattle.octets.proofs.Searches.{every-each}
use Rattle.octets.proofs.Stores.{sets-append}
use Rattle.octets.proofs.BigEndian.{be-one, be-bytes, bytes-be, be-bound, be-bytes-one, length-be-bytes}
use Rattle.std.specs.Prelude.{Some}
use Rattle.token_store.specs.Layout.{latest_time, handle_size, farm_size, expiry_size, link_size, field_sizes, slot_size, at_handle, at_client, at_farm, at_scope, at_expiry, at_link}
use Rattle.token_store.specs.Store.{SlotFits, cut, concat, fields_of, of_fields, encode_slot, decode_slot, free_slot, kind_code, kind_bound_code, kind_access, kind_refresh, kind_challenged_code, kind_bound_challenged_code, is_challenged, kind_free, is_used, lifetimes, lifetime_of, is_live, holds, is_sought, sought_key}
use Rattle.token_store.specs.declared.Slot.{Slot}
use Rattle.token_store.specs.declared.Sought.{Sought}
use Rattle.token_store.specs.declared.Sought.TheVariants.{Code, Spent, Access, Refresh, Token}
use Rattle.token_store.proofs.Tables.{cut-from, cut-concat, concat-cut}

-- ---- reading what was written

pub slot-back : (s : Slot) → SlotFits s → decode_slot (encode_slot s) ≡ s
unfolding decode_slot encode_slot
slot-back s h =
    let w : map length (fields_of s) ≡ field_sizes = simp (length-be-bytes, h.handle, h.link) in
    let e : cut field_sizes (concat (fields_of s)) ≡ fields_of s =
    subst (λ (ws : List ℕ). cut ws (concat (fields_of s)) ≡ fields_of s) w (cut-concat (fields_of s))
    in
    ap of_fields e
    ∙ λ j. record {
      kind = be-bytes 1 s.kind h.kind j;
      handle = s.handle;
      client = be-bytes 1 s.client h.client j;
      farm = be-bytes farm_size s.farm h.farm j;
      scope = be-bytes 1 s.scope h.scope j;
      expiry = be-bytes expiry_size s.expiry h.expiry j;
      link = s.link;
    }

pub length-slot : (s : Slot) → SlotFits s → length (encode_slot s) ≡ slot_size
unfolding encode_slot concat
length-slot s h = simp (length-append, length-be-bytes, h.handle, h.link) (omega arith)

-- ---- where the fields lie

-- a slot's bytes cut into its fields, each by its place
abbrev fields_in : List ℕ → List (List ℕ)
fields_in l =
    part l 0 1
    ∷ part l at_handle handle_size
    ∷ part l at_client 1
    ∷ part l at_farm farm_size
    ∷ part l at_scope 1
    ∷ part l at_expiry expiry_size
    ∷ part l at_link link_size
    ∷ []

cut-fields : (l : List ℕ) → cut field_sizes l ≡ fields_in l
cut-fields l = cut-from field_sizes l 0

slot-fields : (l : List ℕ) → decode_slot l ≡ of_fields (fields_in l)
unfolding decode_slot
slot-fields l = ap of_fields (cut-fields l)

byte-in : (l : List ℕ) (k : ℕ) → k < length l → big_endian (part l k 1) ≡ get_or l k 0
byte-in l k h = rw (drop-cons l k 0 h) (be-one (get_or l k 0))

-- the slot in these bytes, each field by its place
abbrev pub slot_in : List ℕ → Slot
slot_in l = record {
  kind = get_or l 0 0;
  handle = part l at_handle handle_size;
  client = get_or l at_client 0;
  farm = big_endian (part l at_farm farm_size);
  scope = get_or l at_scope 0;
  expiry = big_endian (part l at_expiry expiry_size);
  link = part l at_link link_size;
}

pub slot-in : (l : List ℕ) → length l ≡ slot_size → decode_slot l ≡ slot_in l
slot-in l size =
    slot-fields l
    ∙ λ j. record {
      kind = byte-in l 0 (omega arith) j;
      handle = part l at_handle handle_size;
      client = byte-in l at_client (omega arith) j;
      farm = big_endian (part l at_farm farm_size);
      scope = byte-in l at_scope (omega arith) j;
      expiry = big_endian (part l at_expiry expiry_size);
      link = part l at_link link_size;
    }

-- ---- writing what was read

module _ (l : List ℕ) (size : length l ≡ slot_size) (bytes : Bytes l) where
  field-length : (k n : ℕ) → k + n ≤ slot_size → length (part l k n) ≡ n
  field-length k n h = length_part l k n (omega arith)

  field-bytes : (k n : ℕ) → Bytes (part l k n)
  field-bytes k n = take-bytes n (drop k l) (drop-bytes k l bytes)

  field-forth : (k n : ℕ) → k + n ≤ slot_size → big_endian_bytes n (big_endian (part l k n)) ≡ part l k n
  field-forth k n h = bytes-be n (part l k n) (field-length k n h) (field-bytes k n)

  pub slot-forth : encode_slot (decode_slot l) ≡ l
  unfolding encode_slot
  slot-forth =
      let e : fields_of (of_fields (fields_in l)) ≡ fields_in l =
      λ j. field-forth 0 1 (omega arith) j
      ∷ part l at_handle handle_size
      ∷ field-forth at_client 1 (omega arith) j
      ∷ field-forth at_farm farm_size (omega arith) j
      ∷ field-forth at_scope 1 (omega arith) j
      ∷ field-forth at_expiry expiry_size (omega arith) j
      ∷ part l at_link link_size
      ∷ []
      in
      ap (λ (s : Slot). concat (fields_of s)) (slot-fields l) ∙ ap concat (e ∙ sym (cut-fields l))
      ∙ concat-cut field_sizes l (drop_of_length-le l {i = slot_size} (omega arith))

  field_bound : (k n : ℕ) → k + n ≤ slot_size → big_endian (part l k n) < 256 ^ n
  field_bound k n h = subst (λ (w : ℕ). big_endian (part l k n) < 256 ^ w) (field-length k n h) (be-bound (part l k n) (field-bytes k n))

  -- what was read fits
  pub read_fits : SlotFits (decode_slot l)
  read_fits =
      subst SlotFits (sym (slot-fields l))
      (record {
        kind = field_bound 0 1 (omega arith);
        handle = field-length at_handle handle_size (omega arith);
        client = field_bound at_client 1 (omega arith);
        farm = field_bound at_farm farm_size (omega arith);
        scope = field_bound at_scope 1 (omega arith);
        expiry = field_bound at_expiry expiry_size (omega arith);
        link = field-length at_link link_size (omega arith);
      })

-- ---- the stores that write a slot are one store of the whole slot

glue : (l : List ℕ) (i j : ℕ) (u v : List ℕ) → j ≡ i + length u → sets (sets l i u) j v ≡ sets l i (u ++ v)
glue l i j u v e = rw e (sets-append l i u v)

-- u₁ to u₅ are what is stored up to the next number: kind and handle, the client, the farm, the scope, the expiry
module _ (b : List ℕ) (at : ℕ) (s : Slot) (fits : SlotFits s) (l₁ l₂ l₃ l₄ : List ℕ) where
  pub store-slot :
      l₁ ≡ sets (set b at s.kind) (at + at_handle) s.handle
      → l₂ ≡ sets (set l₁ (at + at_client) s.client) (at + at_farm) (big_endian_bytes farm_size s.farm)
      → l₃ ≡ sets (set l₂ (at + at_scope) s.scope) (at + at_expiry) (big_endian_bytes expiry_size s.expiry)
      → l₄ ≡ sets l₃ (at + at_link) s.link
      → l₄ ≡ sets b at (encode_slot s)
  unfolding encode_slot concat
  store-slot e₁ e₂ e₃ e₄ =
      let f : List ℕ = big_endian_bytes farm_size s.farm in
      let x : List ℕ = big_endian_bytes expiry_size s.expiry in
      let u₁ : List ℕ = s.kind ∷ s.handle in
      let u₂ : List ℕ = u₁ ++ (s.client ∷ []) in
      let u₃ : List ℕ = u₂ ++ f in
      let u₄ : List ℕ = u₃ ++ (s.scope ∷ []) in
      let u₅ : List ℕ = u₄ ++ x in
      let h : length s.handle ≡ handle_size = fits.handle in
      let n₁ : length u₁ ≡ at_client = omega arith in
      let n₂ : length u₂ ≡ at_farm = length-append u₁ (s.client ∷ []) ∙ omega arith in
      let n₃ : length u₃ ≡ at_scope = length-append u₂ f ∙ omega (arith, length-be-bytes farm_size s.farm) in
      let n₄ : length u₄ ≡ at_expiry = length-append u₃ (s.scope ∷ []) ∙ omega arith in
      let n₅ : length u₅ ≡ at_link = length-append u₄ x ∙ omega (arith, length-be-bytes expiry_size s.expiry) in
      let p₁ : l₁ ≡ sets b at u₁ = e₁ ∙ glue b at (at + at_handle) (s.kind ∷ []) s.handle refl in
      let p₂ : l₂ ≡ sets b at u₃ =
      e₂ ∙ rw (p₁, glue b at (at + at_client) u₁ (s.client ∷ []) (omega arith)) (glue b at (at + at_farm) u₂ f (omega arith))
      in
      let p₃ : l₃ ≡ sets b at u₅ =
      e₃ ∙ rw (p₂, glue b at (at + at_scope) u₃ (s.scope ∷ []) (omega arith)) (glue b at (at + at_expiry) u₄ x (omega arith))
      in
      let p₄ : l₄ ≡ sets b at (u₅ ++ s.link) = e₄ ∙ rw p₃ (glue b at (at + at_link) u₅ s.link (omega arith)) in
      p₄
      ∙ rw (be-bytes-one s.kind fits.kind, be-bytes-one s.client fits.client, be-bytes-one s.scope fits.scope)
      (simp (append_assoc, append-nil))

-- ---- the free slot

pub free-read : decode_slot (replicate slot_size 0) ≡ free_slot
unfolding decode_slot cut free_slot big_endian_from
free-read = refl

pub free_bytes : encode_slot free_slot ≡ replicate slot_size 0
unfolding encode_slot concat free_slot big_endian_bytes
free_bytes = refl

pub free-fits : SlotFits free_slot
unfolding free_slot
free-fits = record {
  kind = lit< tt;
  handle = refl;
  client = lit< tt;
  farm = lit< tt;
  scope = lit< tt;
  expiry = lit< tt;
  link = refl;
}

pub free-unused : is_used free_slot ≡ false
unfolding free_slot
free-unused = refl

pub free-dead : (t : ℕ) → is_live t free_slot ≡ false
unfolding free_slot
free-dead t = refl

-- ---- a slot that is sought is in use

-- a number that is one of two fails a test that both fail
either-fails : (f : ℕ → Bool) (j k : ℕ) → f j ≡ false → f k ≡ false → (n : ℕ) → (eqb n j || eqb n k) ≡ true → f n ≡ false
either-fails f j k a b n e = by (or_cases (eqb n j) (eqb n k) e)
  where
    by : (eqb n j ≡ true) ⊎ (eqb n k ≡ true) → f n ≡ false
    by (inl q) = rw (eqb-true n j q) a
    by (inr q) = rw (eqb-true n k q) b

-- a code's kind fails a test that all its kinds fail
pub code-fails : (f : ℕ → Bool) → f kind_code ≡ false → f kind_bound_code ≡ false → f kind_challenged_code ≡ false → f kind_bound_challenged_code ≡ false
    → (s : Slot) → is_sought Code s ≡ true → f s.kind ≡ false
code-fails f a b c d s e =
    ⊎_elim (either-fails f kind_code kind_bound_code a b s.kind) (either-fails f kind_challenged_code kind_bound_challenged_code c d s.kind)
    (or_cases (eqb s.kind kind_code || eqb s.kind kind_bound_code) (is_challenged s) e)

used : (k n : ℕ) → eqb k (suc n) ≡ true → not (eqb k 0) ≡ true
used k n e = let q = eqb-true k (suc n) e in rw (ne_eqb k 0 (λ z. omega arith))

pub sought-used : (q : Sought) (s : Slot) → is_sought q s ≡ true → is_used s ≡ true
sought-used Code s e = ap not (code-fails (λ k. eqb k kind_free) refl refl refl refl s e)
sought-used Spent s e = used s.kind 4 e
sought-used Access s e = used s.kind 2 e
sought-used Refresh s e = used s.kind 3 e
sought-used Token s e = ap not (either-fails (λ k. eqb k kind_free) kind_access kind_refresh refl refl s.kind e)

-- a slot that a look-up takes is in use and has the handle presented
pub key-holds : (q : Sought) (h : List ℕ) (s : Slot) → sought_key q (Some h) s ≡ true → holds h s ≡ true
key-holds q h s e =
    rw (sought-used q s (and_left (is_sought q s) (same h s.handle) e)) (and_right (is_sought q s) (same h s.handle) e)

-- ---- lifetimes

-- each is so short that it and the latest time fit an expiry
pub lifetime-bound : (kind : ℕ) → lifetime_of kind ≤ latest_time
unfolding every
lifetime-bound kind = leb-true (lifetime_of kind) latest_time (every-each (λ n. leb n latest_time) 0 lifetimes refl refl kind)
