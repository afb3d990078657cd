-- Laws of a field: a byte that says how many bytes behind it are used, and room for more.
--
-- In order: what a scan of a field tests; what a sound field and a sound text give; a sound field is its text, its length
-- in front and zeros behind, so that two fields are equal exactly where their texts are.
--
-- Not here: the fields of a record (`Records`).
-- Assumes nothing.
use mathlib.Core.Path.{◌≡◌, sym, ap, ap₂, ◌∙◌}
use mathlib.Core.Bool.{Bool, true, false, not, ◌&&◌, and-true}
use mathlib.Core.List.{List, ◌∷◌, ◌++◌}
use Prim.Native.Nat.{ℕ, ◌+◌, ◌-◌, ◌≤◌, ◌<◌}
use native.Mathlib.Omega.{arith}
use borrow.Author.Tests.{le-leb, lt-leb, leb-true}
use lib.Dec.{leb, eqb}
use lib.ListN.{length, take, drop, get_or, replicate}
use lib.Seq.{take-append_seam, take-take, drop-drop}
use Rattle.octets.specs.Lists.{part, Bytes, every, is_zero, in_class, same}
use Rattle.octets.proofs.Booleans.{and-three}
use Rattle.octets.proofs.Lists.{every-zero, same-iff, class-bytes, length_part, part-add, part-to, part-one, drop-take}
use Rattle.client_registry.specs.Layout.{id_room, redirect_room, secret_room}
use Rattle.client_registry.specs.Registry.{sound_text, sound_id, sound_redirect, sound_secret, sound_field, field_text, field_rest}
use Rattle.client_registry.specs.Sample.{field_of}

-- ---- what a scan of a field tests

module _ (sound : List ℕ → Bool) (r : List ℕ) (at room : ℕ) where
  -- a length beyond the room
  pub field-over : room < get_or r at 0 → sound_field sound r at room ≡ false
  unfolding sound_field
  field-over h = rw (lt-leb (get_or r at 0) room h)

  -- a length within the room
  pub field-within : get_or r at 0 ≤ room → sound_field sound r at room ≡ (sound (field_text r at) && every is_zero (field_rest r at room))
  unfolding sound_field
  field-within h = rw (le-leb (get_or r at 0) room h)

-- a text that fits the room has only to be 1 byte or more
text-within : (room low high except : ℕ) (x : List ℕ) (n : ℕ) → length x ≡ n → n ≤ room
    → sound_text room low high except x ≡ (leb 1 n && every (in_class low high except) x)
unfolding sound_text
text-within room low high except x n e h = rw (e, le-leb n room h) (ap (λ (q : Bool). q && every (in_class low high except) x) (and-true (leb 1 n)))

-- so the scan of a field with n bytes in use tests n, the bytes in use and the bytes behind them
pub field-tests : (room low high except : ℕ) (r : List ℕ) (at n : ℕ) → at + 1 + room ≤ length r → n ≡ get_or r at 0 → n ≤ room
    → let f = part r (at + 1) (at + 1 + room - (at + 1)) in
    (leb 1 n && every (in_class low high except) (take n f) && every is_zero (drop n f)) ≡ sound_field (sound_text room low high except) r at room
field-tests room low high except r at n h e w =
    let f : part r (at + 1) (at + 1 + room - (at + 1)) ≡ part r (at + 1) room = part-to r (at + 1) (at + 1 + room) room (omega arith) in
    let used : take n (part r (at + 1) room) ≡ field_text r at = rw (← e) (take-take n room (drop (at + 1) r) w) in
    let rest : drop n (part r (at + 1) room) ≡ field_rest r at room = rw (← e) (drop-take (drop (at + 1) r) room n ∙ rw drop-drop) in
    let t = text-within room low high except (field_text r at) n (rw (← e) (length_part r (at + 1) n (omega arith))) w in
    rw (f, used, rest) (ap (λ (q : Bool). q && every is_zero (field_rest r at room)) (sym t)
    ∙ sym (field-within (sound_text room low high except) r at room (omega arith)))

-- ---- what a sound field and a sound text give

pub record Field (sound : List ℕ → Bool) (r : List ℕ) (at room : ℕ) : Type 0 where
  pub within : get_or r at 0 ≤ room
  pub text : sound (field_text r at) ≡ true
  pub zeros : every is_zero (field_rest r at room) ≡ true

pub sound-field : (sound : List ℕ → Bool) (r : List ℕ) (at room : ℕ) → sound_field sound r at room ≡ true → Field sound r at room
unfolding sound_field
sound-field sound r at room e =
    let h = and-three (leb (get_or r at 0) room) (sound (field_text r at)) (every is_zero (field_rest r at room)) e in
    record { within = leb-true (get_or r at 0) room h.0; text = h.1; zeros = h.2 }

pub record Text (room low high except : ℕ) (x : List ℕ) : Type 0 where
  pub least : 1 ≤ length x
  pub most : length x ≤ room
  pub class : every (in_class low high except) x ≡ true

pub sound-text : (room low high except : ℕ) (x : List ℕ) → sound_text room low high except x ≡ true → Text room low high except x
unfolding sound_text
sound-text room low high except x e =
    let h = and-three (leb 1 (length x)) (leb (length x) room) (every (in_class low high except) x) e in
    record { least = leb-true 1 (length x) h.0; most = leb-true (length x) room h.1; class = h.2 }

-- a text of a class of bytes is made of bytes
pub text-bytes : {room low high except : ℕ} {x : List ℕ} → Text room low high except x → high < 256 → Bytes x
text-bytes {low = low} {high = high} {except = except} {x = x} t small =
    class-bytes (in_class low high except)
    (λ b e. omega (arith, leb-true b high (and-three (leb low b) (leb b high) (not (eqb b except)) e).1, small)) x t.class

-- the texts of a client
pub id-text : (x : List ℕ) → sound_id x ≡ true → Text id_room 0x20 0x7E 0x3A x
unfolding sound_id
id-text x e = sound-text id_room 0x20 0x7E 0x3A x e

pub redirect-text : (x : List ℕ) → sound_redirect x ≡ true → Text redirect_room 0x21 0x7E 0x23 x
unfolding sound_redirect
redirect-text x e = sound-text redirect_room 0x21 0x7E 0x23 x e

pub secret-text : (x : List ℕ) → sound_secret x ≡ true → Text secret_room 0x20 0x7E 0x00 x
unfolding sound_secret
secret-text x e = sound-text secret_room 0x20 0x7E 0x00 x e

-- ---- a sound field is its text, its length in front and zeros behind

pub field-whole : (sound : List ℕ → Bool) (r : List ℕ) (at room : ℕ) → at + 1 + room ≤ length r → Field sound r at room
    → part r at (1 + room) ≡ field_of room (field_text r at)
field-whole sound r at room h f =
    let n = get_or r at 0 in
    let w : n ≤ room = f.within in
    let e : length (field_text r at) ≡ n = length_part r (at + 1) n (omega arith) in
    let k : length (field_rest r at room) ≡ room - n = length_part r (at + 1 + n) (room - n) (omega arith) in
    let z : field_rest r at room ≡ replicate (room - n) 0 = every-zero (field_rest r at room) f.zeros ∙ ap (λ (m : ℕ). replicate m 0) k in
    let s : n + (room - n) ≡ room = omega arith in
    let p = ap (part r (at + 1)) (sym s) ∙ part-add r (at + 1) n (room - n) ∙ ap (λ (l : List ℕ). field_text r at ++ l) z in
    part-add r at 1 room ∙ ap₂ (λ (a b : List ℕ). a ++ b) (part-one r at (omega arith)) p
    ∙ ap (λ (m : ℕ). m ∷ field_text r at ++ replicate (room - m) 0) (sym e)

-- texts with equal fields are equal
field_of-inj : (room : ℕ) (x y : List ℕ) → field_of room x ≡ field_of room y → x ≡ y
field_of-inj room x y e =
    let z : List ℕ = replicate (room - length x) 0 in
    let w : List ℕ = replicate (room - length y) 0 in
    let n : length x ≡ length y = cc in
    let t : x ++ z ≡ y ++ w = cc in
    sym (take-append_seam x z) ∙ ap₂ take n t ∙ take-append_seam y w

-- fields are equal exactly where their texts are
pub same-field : (sound : List ℕ → Bool) (r s : List ℕ) (at at' room : ℕ) → at + 1 + room ≤ length r → at' + 1 + room ≤ length s
    → Field sound r at room → Field sound s at' room
    → same (part r at (1 + room)) (part s at' (1 + room)) ≡ same (field_text r at) (field_text s at')
same-field sound r s at at' room h h' f f' =
    let x = field_text r at in
    let y = field_text s at' in
    ap₂ same (field-whole sound r at room h f) (field-whole sound s at' room h' f')
    ∙ same-iff (field_of room x) (field_of room y) x y (field_of-inj room x y) (λ e. ap (field_of room) e)
