-- The store after each call is the bytes of a store whose slots fit, so that refusal 3 never comes and the next call reads what the
-- last one left.
--
-- In order: a slot that fits and is fit; a store of such slots, its bytes and the fresh store; a request leaves such a store
-- (`sound-after`).
-- Assumes nothing.
use mathlib.Core.Path.{◌≡◌, refl, sym, ap, ◌∙◌}
use mathlib.Core.Bool.{Bool, true, false, cond}
use mathlib.Core.List.{List, [], ◌∷◌, map}
use Prim.Native.Nat.{ℕ, suc, ◌+◌, ◌-◌, ◌*◌, ◌^◌, ◌≤◌, ◌<◌}
use Rattle.std.specs.Prelude.{Ok, Err, Option, Some, None}
use native.Mathlib.Omega.{arith}
use lib.Dec.{eqb, ltb, lit≤, lit<}
use lib.ListN.{length, take, drop, get_or, replicate, length-append, length-drop, length-replicate}
use lib.Seq.{drop_at, drop-drop, length-take-le}
use Rattle.octets.specs.Lists.{part, Bytes, every, is_zero}
use Rattle.octets.specs.BigEndian.{big_endian_bytes}
use Rattle.octets.proofs.BigEndian.{length-be-bytes}
use Rattle.octets.proofs.Booleans.{cond_of, and_left}
use Rattle.octets.proofs.Lists.{each-replicate, zero-bytes}
use Rattle.token_store.specs.Layout.{time_size, slot_count, handle_size, link_size, expiry_size, slot_size, store_size, slot_start, latest_time}
use Rattle.octets.specs.Search.{first_or, replace_first, replace_all}
use Rattle.token_store.specs.Store.{issue, Store, SlotFits, SlotsFit, kind_access, kind_refresh, kind_last, is_used, is_token, is_live, is_vacant, link_to, origin_of, free_slot, spent_code, fresh, concat, encode_slot, decode_slot, encode, decode, sought_key}
use Rattle.token_store.specs.Fit.{fit_link, fit_slot, fit_store}
use Rattle.token_store.specs.declared.Slot.{Slot}
use Rattle.token_store.specs.declared.Sought.{Sought}
use Rattle.token_store.specs.declared.Sought.TheVariants.{Code as sought_code, Refresh as sought_refresh, Token as sought_token}
use Rattle.octets.proofs.Searches.{every-each, each-every, replace_first-each, replace_all-at, replace_all-each}
use Rattle.token_store.proofs.Slots.{slot-back, free_bytes, free-fits}
use Rattle.token_store.proofs.Codec.{length-slots, slots-fit, encode-decode, decode-encode, piece-at, decode-fresh}
use Rattle.token_store.proofs.Fits.{fit-used, used-fit, fit_free, fit-size, fit-time, fit-slots, fit-encode}
use Rattle.protocol.specs.declared.CodeRequest.{CodeRequest}
use Rattle.protocol.specs.declared.Request.{Request}
use Rattle.protocol.specs.declared.Request.TheVariants.{Refused, Code, Exchange, Refresh, Credentials, Revocation}
use Rattle.protocol.specs.Answers.{is_grant, Decision}
use Rattle.protocol.specs.Granting.{Plan, first_handle, shown_slot, is_shown_again, without_shown, revoked_slots, new_code, token_on, plan_for, decision_on, slots_by, slots_after, without_issued_on, is_issued_on}
use Rattle.octets.proofs.Counting.{length-replace_first, length-replace_all}
use Rattle.protocol.proofs.Computing.{plan_definitions}
use Rattle.history.proofs.Challenges.{FitChallenge}
use Rattle.history.proofs.Readings.{FieldsFit, scope-given, Brings}
use Rattle.history.proofs.OneRequest.{Granted, exchange-has, refresh-has}

-- ---- a slot

pub record SoundSlot (clients : ℕ) (s : Slot) : Type 0 where
  pub fits : SlotFits s
  pub fit : fit_slot clients s ≡ true

abbrev pub SoundLink : Slot → Type 0
SoundLink s = (length s.link ≡ link_size) × (fit_link s ≡ true)

token-link : (s : Slot) → is_token s ≡ true → (origin : List ℕ) → s.link ≡ link_to origin → length origin ≡ handle_size → SoundLink s
unfolding fit_link every
token-link s is origin e n =
    rw (is, e) (simp length-append (omega (arith, n)), ap (every is_zero) (drop_at origin (replicate (link_size - handle_size) 0) handle_size n))

sound-free : (clients : ℕ) → SoundSlot clients free_slot
sound-free clients = record { fits = free-fits; fit = fit_free clients }

module _ (clients : ℕ) (s : Slot) (used : is_used s ≡ true) where
  pub sound-used : clients ≤ 64 → s.kind ≤ kind_last → length s.handle ≡ handle_size → s.expiry < 256 ^ expiry_size
      → FieldsFit clients s.client s.farm s.scope → SoundLink s → SoundSlot clients s
  sound-used few kind handle expiry f link = record {
    fits = record {
      kind = omega arith;
      handle = handle;
      client = omega (arith, f.client);
      farm = omega (arith, f.wide);
      scope = omega (arith, f.scope.byte);
      expiry = expiry;
      link = link.0;
    };
    fit = used-fit clients s used (record { kind = kind; client = f.client; scope = f.scope.some; link = link.1 });
  }

  pub used-fields : SoundSlot clients s → FieldsFit clients s.client s.farm s.scope
  used-fields w =
      let u = fit-used clients s used w.fit in
      record {
        client = u.client;
        wide = omega (arith, w.fits.farm);
        scope = record { some = u.scope; byte = omega (arith, w.fits.scope) };
      }

-- ---- a store

abbrev pub AllSound : ℕ → List Slot → Type 0
AllSound clients slots = (k : ℕ) → SoundSlot clients (get_or slots k free_slot)

pub record Sound (clients : ℕ) (g : Store) : Type 0 where
  pub size : length g.slots ≡ slot_count
  pub early : g.time ≤ latest_time
  pub slots : AllSound clients g.slots

module _ {clients : ℕ} (g : Store) (w : Sound clients g) where
  pub sound_back : decode (encode g) ≡ g
  sound_back = decode-encode g w.size (omega (arith, w.early)) (λ k. (w.slots k).fits)

  pub sound-fit : fit_store clients (encode g) ≡ true
  sound-fit =
      fit-encode clients g w.size w.early (λ k. (w.slots k).fits)
      (each-every (fit_slot clients) free_slot g.slots (λ k. (w.slots k).fit))

-- a fit store of bytes is read as a sound one
pub fit-sound : (clients : ℕ) (b : List ℕ) → Bytes b → fit_store clients b ≡ true → Sound clients (decode b)
fit-sound clients b bytes fit = record {
  size = length-slots b;
  early = fit-time clients b fit;
  slots = λ k. record {
    fits = slots-fit b (fit-size clients b fit) bytes k;
    fit = every-each (fit_slot clients) free_slot (decode b).slots (fit_free clients) (fit-slots clients b fit) k;
  };
}

pub slots_same : (g h : Store) → g.slots ≡ h.slots → (i : ℕ) → part (encode g) (slot_start i) slot_size ≡ part (encode h) (slot_start i) slot_size
unfolding encode
slots_same g h e i = behind g ∙ ap (λ (l : List Slot). part (concat (map encode_slot l)) (i * slot_size) slot_size) e ∙ sym (behind h)
  where
    behind : (s : Store) → part (encode s) (time_size + i * slot_size) slot_size ≡ part (concat (map encode_slot s.slots)) (i * slot_size) slot_size
    behind s =
        ap (λ (l : List ℕ). take slot_size l)
        (sym (drop-drop (i * slot_size) time_size (encode s))
        ∙ ap (λ (l : List ℕ). drop (i * slot_size) l)
        (drop_at (big_endian_bytes time_size s.time) (concat (map encode_slot s.slots)) time_size (length-be-bytes time_size s.time)))

-- a store with some slots freed, which are zero
pub slots-freed : (g : Store) → length g.slots ≡ slot_count → SlotsFit g.slots → (k : Slot → Bool) (t i : ℕ) → i < slot_count
    → part (encode (record { time = t; slots = replace_all free_slot k g.slots })) (slot_start i) slot_size
    ≡ cond (k (get_or g.slots i free_slot)) (replicate slot_size 0) (part (encode g) (slot_start i) slot_size)
slots-freed g size fits k t i below =
    slots_same (record { time = t; slots = freed }) (record { time = 0; slots = freed }) refl i
    ∙ piece-at (record { time = 0; slots = freed }) (length-replace_all free_slot k g.slots ∙ size) (lit< tt)
    (replace_all-each free_slot k SlotFits free-fits g.slots fits) i below
    ∙ ap encode_slot (replace_all-at free_slot k g.slots i)
    ∙ by (k (get_or g.slots i free_slot))
  where
    freed : List Slot
    freed = replace_all free_slot k g.slots

    by : (b : Bool) → encode_slot (cond b free_slot (get_or g.slots i free_slot)) ≡ cond b (replicate slot_size 0) (part (encode g) (slot_start i) slot_size)
    by true = free_bytes
    by false = sym (slots_same g (record { time = 0; slots = g.slots }) refl i ∙ piece-at (record { time = 0; slots = g.slots }) size (lit< tt) fits i below)

-- a slot's bytes are read as the slot
pub slot-read-back : (g : Store) → length g.slots ≡ slot_count → SlotsFit g.slots → (i : ℕ) → i < slot_count
    → decode_slot (part (encode g) (slot_start i) slot_size) ≡ get_or g.slots i free_slot
slot-read-back g size fits i below =
    ap decode_slot
    (slots_same g (record { time = 0; slots = g.slots }) refl i ∙ piece-at (record { time = 0; slots = g.slots }) size (lit< tt) fits i below)
    ∙ slot-back (get_or g.slots i free_slot) (fits i)

-- ---- the fresh store

pub sound-fresh : (clients : ℕ) → Sound clients fresh
unfolding fresh
sound-fresh clients = record {
  size = length-replicate slot_count free_slot;
  early = omega arith;
  slots = λ k. each-replicate (SoundSlot clients) free_slot slot_count k (sound-free clients);
}

encode-zeros : (n : ℕ) → n ≡ store_size → encode (decode (replicate n 0)) ≡ replicate n 0
encode-zeros n e = encode-decode (replicate n 0) (length-replicate n 0 ∙ e) (zero-bytes n)

pub encode-fresh : replicate store_size 0 ≡ encode fresh
encode-fresh = sym (encode-zeros store_size refl) ∙ ap encode decode-fresh

-- ---- what is issued fits

found-sound : {clients : ℕ} (p : Slot → Bool) (slots : List Slot) → AllSound clients slots → SoundSlot clients (first_or free_slot p slots)
unfolding first_or
found-sound p [] w = w 0
found-sound {clients} p (s ∷ slots) w = by (p s) (found-sound p slots (λ k. w (suc k)))
  where
    by : (b : Bool) → SoundSlot clients (first_or free_slot p slots) → SoundSlot clients (cond b s (first_or free_slot p slots))
    by true r = w 0
    by false r = r

module _ {clients : ℕ} (few : clients ≤ 64) {t : ℕ} (early : t ≤ latest_time) (random : List ℕ) (twenties : List (List ℕ)) (p : Option (List ℕ))
    (d : Option (List ℕ)) (g : Store) (w : Sound clients g) where
  abbrev slots : List Slot
  slots = g.slots

  shown-sound : (q : Sought) → SoundSlot clients (shown_slot q p slots)
  shown-sound q = found-sound (sought_key q p) slots w.slots

  shown-fields : (q : Sought) → let s = shown_slot q p slots in is_live t s ≡ true → FieldsFit clients s.client s.farm s.scope
  shown-fields q live =
      let s = shown_slot q p slots in used-fields clients s (and_left (is_used s) (ltb t s.expiry) live) (shown-sound q)

  -- a code that is found is fit as spent, too: it has no link
  spent-sound : is_live t (shown_slot sought_code p slots) ≡ true → SoundSlot clients (spent_code (shown_slot sought_code p slots))
  unfolding fit_link every
  spent-sound live =
      let sound = shown-sound sought_code in
      sound-used clients (spent_code (shown_slot sought_code p slots)) refl few (lit≤ tt) sound.fits.handle sound.fits.expiry
      (shown-fields sought_code live) (refl, refl)

  code-sound : (r : CodeRequest) → 20 ≤ length random → FieldsFit clients r.client r.farm r.scope → FitChallenge d
      → SoundSlot clients (new_code t (first_handle random) d r)
  unfolding fit_link
  code-sound r h f fit = by r.bound d fit
    where
      by : (b : Bool) (c : Option (List ℕ)) → FitChallenge c
          → SoundSlot clients
          (new_code t (first_handle random) c (record { client = r.client; farm = r.farm; scope = r.scope; bound = b }))
      by true (Some x) e = sound-used clients _ refl few (lit≤ tt) (length-take-le handle_size random h) (omega arith) f (e.size, e.filled)
      by true None e = sound-used clients _ refl few (lit≤ tt) (length-take-le handle_size random h) (omega arith) f (e.size, e.filled)
      by false (Some x) e = sound-used clients _ refl few (lit≤ tt) (length-take-le handle_size random h) (omega arith) f (e.size, e.filled)
      by false None e = sound-used clients _ refl few (lit≤ tt) (length-take-le handle_size random h) (omega arith) f (e.size, e.filled)

  issue-each : (s : Slot) (l : List Slot) → SoundSlot clients s → AllSound clients l → AllSound clients (issue t s l)
  issue-each s l new old = replace_first-each (is_vacant t) free_slot (SoundSlot clients) s new l old

  -- a revocation frees slots at the most
  freed-each : (k : Slot → Bool) (l : List Slot) → AllSound clients l → AllSound clients (replace_all free_slot k l)
  freed-each k l old = replace_all-each free_slot k (SoundSlot clients) (sound-free clients) l old

  revoked-as : (P : List Slot → Type 0) → P slots → P (replace_first (sought_key sought_token p) free_slot slots)
      → ((k : Slot → Bool) (l : List Slot) → P l → P (replace_all free_slot k l)) → P (revoked_slots t p slots)
  revoked-as P old first all =
      let token = shown_slot sought_token p slots in
      cond_of P (is_live t token) (without_shown p slots) slots
      (λ _. cond_of P (eqb token.kind kind_refresh) _ _ (λ _. all _ _ first) (λ _. first)) (λ _. old)

  revoked-each : AllSound clients (revoked_slots t p slots)
  revoked-each =
      revoked-as (AllSound clients) w.slots
      (replace_first-each (sought_key sought_token p) free_slot (SoundSlot clients) free_slot (sound-free clients) slots w.slots) freed-each

  revoked-size : length (revoked_slots t p slots) ≡ length slots
  revoked-size =
      revoked-as (λ l. length l ≡ length slots) refl (length-replace_first (sought_key sought_token p) free_slot slots)
      (λ k l e. length-replace_all free_slot k l ∙ e)

  granted-each : (request : Request) → Brings clients random twenties d request → Granted t slots random p d request
      → AllSound clients (plan_for t slots random p d request).granted
  unfolding plan_definitions Brings
  granted-each (Refused r) q e = w.slots
  granted-each (Code r) q e = issue-each _ slots (code-sound r (omega (arith, q.0.size)) q.1 q.2) w.slots
  granted-each (Exchange r) q e =
      let live = (exchange-has t slots random p d r e).0 in
      let f = shown-fields sought_code live in
      let o = (shown-sound sought_code).fits.handle in
      let a = length-take-le handle_size random (omega (arith, q.size)) in
      let b = length-take-le handle_size (drop handle_size random) (simp length-drop (omega (arith, q.size))) in
      let code = shown_slot sought_code p slots in
      let on : ℕ → List ℕ → Slot = λ kind handle. token_on code code.handle t kind handle code.scope in
      issue-each (on kind_refresh _) _ (sound-used clients _ refl few (lit≤ tt) b (omega arith) f (token-link _ refl code.handle refl o))
      (issue-each (on kind_access _) _ (sound-used clients _ refl few (lit≤ tt) a (omega arith) f (token-link _ refl code.handle refl o))
      (replace_first-each (sought_key sought_code p) free_slot (SoundSlot clients) _ (spent-sound live) slots w.slots))
  granted-each (Refresh r) q e =
      let s = shown_slot sought_refresh p slots in
      let f = shown-fields sought_refresh (refresh-has t slots random p d r e).0 in
      let a = length-take-le handle_size random (omega (arith, q.0.size)) in
      let o = length-take-le handle_size s.link (omega (arith, (shown-sound sought_refresh).fits.link)) in
      issue-each _ slots
      (sound-used clients _ refl few (lit≤ tt) a (omega arith)
      (record { client = f.client; wide = f.wide; scope = scope-given r.scope s.scope q.1 f.scope }) (token-link _ refl (origin_of s) refl o))
      w.slots
  granted-each (Credentials r) q e =
      let a = length-take-le handle_size random (omega (arith, q.0.size)) in
      issue-each _ slots (sound-used clients _ refl few (lit≤ tt) a (omega arith) q.1 (token-link _ refl (first_handle random) refl a)) w.slots
  granted-each (Revocation r) q e = revoked-each

  granted-size : (request : Request) → length (plan_for t slots random p d request).granted ≡ length slots
  unfolding plan_definitions
  granted-size (Refused r) = refl
  granted-size (Code r) = simp length-replace_first
  granted-size (Exchange r) = simp length-replace_first
  granted-size (Refresh r) = simp length-replace_first
  granted-size (Credentials r) = simp length-replace_first
  granted-size (Revocation r) = revoked-size

  -- a refusal frees slots at the most
  denied-each : (request : Request) → AllSound clients (plan_for t slots random p d request).denied
  unfolding plan_definitions
  denied-each (Refused r) = w.slots
  denied-each (Code r) = w.slots
  denied-each (Exchange r) = by (is_shown_again t r.client p slots)
    where
      by : (b : Bool) → AllSound clients (cond b (without_issued_on p slots) slots)
      by true = freed-each (is_issued_on p) slots w.slots
      by false = w.slots
  denied-each (Refresh r) = w.slots
  denied-each (Credentials r) = w.slots
  denied-each (Revocation r) = w.slots

  denied-size : (request : Request) → length (plan_for t slots random p d request).denied ≡ length slots
  unfolding plan_definitions
  denied-size (Refused r) = refl
  denied-size (Code r) = refl
  denied-size (Exchange r) = by (is_shown_again t r.client p slots)
    where
      by : (b : Bool) → length (cond b (without_issued_on p slots) slots) ≡ length slots
      by true = length-replace_all free_slot (is_issued_on p) slots
      by false = refl
  denied-size (Refresh r) = refl
  denied-size (Credentials r) = refl
  denied-size (Revocation r) = refl

  -- a request leaves a sound store
  pub sound-after : (request : Request) → Brings clients random twenties d request
      → Sound clients (record { time = t; slots = slots_after (plan_for t slots random p d request) })
  unfolding slots_by is_grant
  sound-after request q = by (decision_on plan) (granted-each request q)
    where
      plan : Plan
      plan = plan_for t slots random p d request

      by : (made : Decision) → (is_grant made ≡ true → AllSound clients plan.granted) → Sound clients (record { time = t; slots = slots_by made plan })
      by (Ok tt) f = record { size = granted-size request ∙ w.size; early = early; slots = f refl }
      by (Err r) f = record { size = denied-size request ∙ w.size; early = early; slots = denied-each request }
