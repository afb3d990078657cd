-- Laws of fitness (specs/Fit.antt).
--
-- In order: a slot in use, and one that is not; a slot by its bytes, each case that the code has; a store, each case that the
-- code has, and what a fit store has; a store that was written, and the fresh store.
--
-- Not here: the slots and the time that are read from a store's bytes (`Codec`).
-- Assumes nothing.
use mathlib.Core.Path.{◌≡◌, refl, sym, ap, ◌∙◌, subst}
use mathlib.Core.Bool.{Bool, true, false, not, ◌&&◌, ◌||◌, and-false}
use mathlib.Core.List.{List}
use Prim.Native.Nat.{ℕ, ◌+◌, ◌-◌, ◌^◌, ◌≤◌, ◌<◌}
use native.Mathlib.Omega.{arith}
use lib.Dec.{eqb, leb, ltb}
use lib.ListN.{length, take, drop, get_or}
use lib.Seq.{drop-drop}
use borrow.Author.Tests.{lt-ltb, le-leb, lt-leb, eq-eqb, ne_eqb, eqb-true, eqb-false, leb-true, ltb-true, not-true}
use Rattle.octets.specs.Lists.{Bytes, every, is_zero, part}
use Rattle.octets.proofs.Booleans.{and_left, and_right, and-three}
use Rattle.octets.proofs.Lists.{drop-take}
use Rattle.token_store.specs.Layout.{time_size, slot_count, slot_size, store_size, latest_time, handle_size, link_size, at_client, at_scope, at_link}
use Rattle.token_store.specs.Store.{Store, SlotsFit, kind_free, kind_last, is_used, is_token, is_challenged, encode_slot, decode_slot, decode, encode, free_slot}
use Rattle.token_store.specs.Fit.{fit_link, fit_slot, fit_store}
use Rattle.token_store.specs.declared.Slot.{Slot}
use Rattle.token_store.proofs.Slots.{slot-forth, slot-in, free_bytes, free-unused}
use Rattle.token_store.proofs.Codec.{length-encode, decode-encode}

-- ---- a slot

-- what is asked of a slot in use, of so many clients
pub record UsedFit (clients : ℕ) (s : Slot) : Type 0 where
  pub kind : s.kind ≤ kind_last
  pub client : s.client < clients
  pub scope : 0 < s.scope
  pub link : fit_link s ≡ true

module _ (clients : ℕ) (s : Slot) where
  fit-in-use : is_used s ≡ true
      → fit_slot clients s
      ≡ (leb s.kind kind_last && ltb s.client clients && not (eqb s.scope 0) && fit_link s)
  unfolding fit_slot
  fit-in-use u = rw u

  fit-not-used : is_used s ≡ false → fit_slot clients s ≡ every is_zero (encode_slot s)
  unfolding fit_slot
  fit-not-used u = rw u

  pub fit-used : is_used s ≡ true → fit_slot clients s ≡ true → UsedFit clients s
  fit-used u e =
      let empty : Bool = eqb s.scope 0 in
      let fit = sym (fit-in-use u) ∙ e in
      let before = leb s.kind kind_last && ltb s.client clients && not empty in
      let h = and-three (leb s.kind kind_last) (ltb s.client clients) (not empty) (and_left before (fit_link s) fit) in
      let some = eqb-false s.scope 0 (not-true empty h.2) in
      record {
        kind = leb-true s.kind kind_last h.0;
        client = ltb-true s.client clients h.1;
        scope = omega arith;
        link = and_right before (fit_link s) fit;
      }

  pub used-fit : is_used s ≡ true → UsedFit clients s → fit_slot clients s ≡ true
  used-fit u w =
      fit-in-use u
      ∙ rw (
        le-leb s.kind kind_last w.kind,
        lt-ltb s.client clients w.client,
        ne_eqb s.scope 0 (λ z. omega (arith, w.scope)),
        w.link,
      )

pub fit_free : (clients : ℕ) → fit_slot clients free_slot ≡ true
unfolding every
fit_free clients = fit-not-used clients free_slot free-unused ∙ ap (every is_zero) free_bytes

-- ---- a slot by its bytes

module _ (l : List ℕ) (size : length l ≡ slot_size) where
  module _ (clients : ℕ) where
    -- of kind 0, where all bytes are to be zero
    pub fit-zero : Bytes l → (decode_slot l).kind ≡ kind_free → every is_zero l ≡ fit_slot clients (decode_slot l)
    fit-zero bytes k =
        ap (every is_zero) (sym (slot-forth l size bytes))
        ∙ sym (fit-not-used clients (decode_slot l) (ap not (eq-eqb (decode_slot l).kind kind_free k)))

    -- of any other kind
    pub fit-in-use-bytes : ((decode_slot l).kind ≡ kind_free → ⊥)
        → (leb (decode_slot l).kind kind_last && ltb (get_or l at_client 0) clients && not (eqb (get_or l at_scope 0) 0) && fit_link (decode_slot l))
        ≡ fit_slot clients (decode_slot l)
    fit-in-use-bytes n =
        let client = ap (λ (s : Slot). s.client) (slot-in l size) in
        let scope = ap (λ (s : Slot). s.scope) (slot-in l size) in
        rw (← client, ← scope) (sym (fit-in-use clients (decode_slot l) (ap not (ne_eqb (decode_slot l).kind kind_free n))))

  link : (decode_slot l).link ≡ part l at_link link_size
  link = ap (λ (s : Slot). s.link) (slot-in l size)

  -- the link, each case that the code has: of a token what stands behind the origin, of any other kind all of it
  pub fit-link-token : is_token (decode_slot l) ≡ true
      → every is_zero (part l (at_link + handle_size) (link_size - handle_size)) ≡ fit_link (decode_slot l)
  unfolding fit_link
  fit-link-token t =
      let rest : drop handle_size (part l at_link link_size) ≡ part l (at_link + handle_size) (link_size - handle_size) =
      drop-take (drop at_link l) link_size handle_size ∙ ap (λ (x : List ℕ). take (link_size - handle_size) x) (drop-drop handle_size at_link l)
      in
      rw (t, link) (ap (every is_zero) (sym rest))

  pub fit-link-other : is_token (decode_slot l) ≡ false
      → (is_challenged (decode_slot l) || every is_zero (part l at_link link_size)) ≡ fit_link (decode_slot l)
  unfolding fit_link
  fit-link-other t = rw (t, link) refl

-- ---- a store

module _ (clients : ℕ) (b : List ℕ) where
  pub unfit-size : (length b ≡ store_size → ⊥) → fit_store clients b ≡ false
  unfolding fit_store
  unfit-size n = rw (ne_eqb (length b) store_size n)

  pub unfit-time : latest_time < (decode b).time → fit_store clients b ≡ false
  unfolding fit_store
  unfit-time l = rw (lt-leb (decode b).time latest_time l, and-false)

  pub fit-rest : length b ≡ store_size → (decode b).time ≤ latest_time → fit_store clients b ≡ every (fit_slot clients) (decode b).slots
  unfolding fit_store
  fit-rest e l = rw (eq-eqb (length b) store_size e, le-leb (decode b).time latest_time l)

  module _ (e : fit_store clients b ≡ true) where
    parts : (eqb (length b) store_size ≡ true) × (leb (decode b).time latest_time ≡ true) × (every (fit_slot clients) (decode b).slots ≡ true)
    unfolding fit_store
    parts = and-three (eqb (length b) store_size) (leb (decode b).time latest_time) (every (fit_slot clients) (decode b).slots) e

    pub fit-size : length b ≡ store_size
    fit-size = eqb-true (length b) store_size parts.0

    pub fit-time : (decode b).time ≤ latest_time
    fit-time = leb-true (decode b).time latest_time parts.1

    pub fit-slots : every (fit_slot clients) (decode b).slots ≡ true
    fit-slots = parts.2

-- ---- what was written

pub fit-encode : (clients : ℕ) (g : Store) → length g.slots ≡ slot_count → g.time ≤ latest_time → SlotsFit g.slots
    → every (fit_slot clients) g.slots ≡ true → fit_store clients (encode g) ≡ true
fit-encode clients g n t f e =
    let early : g.time < 256 ^ time_size = omega arith in
    let back : decode (encode g) ≡ g = decode-encode g n early f in
    fit-rest clients (encode g) (length-encode g n early f) (subst (λ (h : Store). h.time ≤ latest_time) (sym back) t)
    ∙ ap (λ (h : Store). every (fit_slot clients) h.slots) back ∙ e
