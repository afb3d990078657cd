-- Every list of calls: the bytes that it leaves are those of a sound store, and the invariant holds between its slots and what the
-- calls contain, if no random bytes came twice (`kept-all`).
--
-- In order: bytes that belong to what some calls contain; through one call; through a list.
-- Assumes nothing.
use mathlib.Core.Path.{◌≡◌, refl, sym, ap, ◌∙◌, subst}
use mathlib.Core.Bool.{Bool, true, false, cond}
use mathlib.Core.List.{List, [], ◌∷◌, ◌++◌, map}
use Prim.Native.Nat.{ℕ, max}
use native.Mathlib.Omega.{arith}
use lib.ListN.{length}
use Rattle.octets.specs.Lists.{Bytes, same}
use Rattle.client_registry.proofs.Clients.{redirect-most}
use Rattle.client_registry.specs.Registry.{Client, clients_of}
use Rattle.token_store.specs.Store.{Store, encode, decode, call_time, fresh}
use Rattle.token_store.specs.declared.Slot.{Slot}
use Rattle.protocol.specs.Answers.{is_grant}
use Rattle.protocol.specs.Granting.{decision_on}
use Rattle.history.specs.Calls.{Call, handed_to, WellTyped, AllWellTyped, Event, store_after_all, events, fresh_store}
use Rattle.history.specs.Server.{result_of, ours}
use Rattle.history.specs.Contents.{Issue, standing_after, twenties, Contents, nothing_yet, with_event, with_events, NeverTwice}
use Rattle.octets.proofs.Counting.{count-append}
use Rattle.history.proofs.HeldIssues.{Held, as_issue}
use Rattle.history.proofs.Invariant.{Invariant, invariant-fresh, invariant-later}
use Rattle.history.proofs.Readings.{FitClients, clients-fit, BringsAs}
use Rattle.history.proofs.OneRequest.{held_after, held_after_refusal, request-kept}
use Rattle.history.proofs.SoundStores.{Sound, sound_back, sound-fresh, encode-fresh, sound-after}
use Rattle.history.proofs.AnyCall.{outcome_on, asked, is_past, TakenCall, unseen, seen, refused-unfit, take, past-buffers, past-registry, past-clock, call-brings, plan_on, left_by, store-on, fit_on}
use Rattle.history.proofs.Shown.{standing-shown}

pub never-tail : (xs ys : List (List ℕ)) → NeverTwice (xs ++ ys) → NeverTwice ys
never-tail xs ys once h = omega (arith, once h, count-append (same h) xs ys)

-- ---- the bytes of a sound store that belongs to what some calls contain

-- slots with the highest clock seen
abbrev pub store_with : Contents → List Slot → Store
store_with c slots = record { time = c.highest; slots = slots }

pub record Kept (clients : List Client) (b : List ℕ) (c : Contents) : Type 0 where
  pub slots : List Slot
  pub held : List Held
  pub bytes : b ≡ encode (store_with c slots)
  pub sound : Sound (length clients) (store_with c slots)
  pub issues : c.standing ≡ map (as_issue clients) held
  pub inv : NeverTwice c.randoms → Invariant c.highest slots held c.randoms

-- what the bytes are read as
pub kept_read : {clients : List Client} {b : List ℕ} {c : Contents} (v : Kept clients b c) → decode b ≡ store_with c v.slots
kept_read {c = c} v = ap decode v.bytes ∙ sound_back (store_with c v.slots) v.sound

pub fresh-bytes : fresh_store ≡ encode fresh
unfolding fresh_store
fresh-bytes = encode-fresh

kept_fresh : (clients : List Client) → Kept clients fresh_store nothing_yet
unfolding fresh
kept_fresh clients = record {
  slots = fresh.slots;
  held = [];
  bytes = fresh-bytes;
  sound = sound-fresh (length clients);
  issues = refl;
  inv = λ once. invariant-fresh;
}

module _ (registry : List ℕ) (bytes : Bytes registry) where
  abbrev clients : List Client
  clients = clients_of registry

  abbrev number : ℕ
  number = length (clients_of registry)

  -- ---- through one call

  -- what the calls contain after one that is not refused with 1 to 4
  pub seen-event : (e : Event) (k : Contents) → e.result.unfit ≡ false
      → let t = max (handed_to e.call).clock k.highest in
      with_event clients e k
      ≡ record { highest = t; standing = standing_after clients t k.standing e.call e.result; randoms = twenties e.call ++ k.randoms }
  unfolding with_event
  seen-event e k fit =
      let t = max (handed_to e.call).clock k.highest in
      let after = standing_after clients t k.standing e.call e.result in
      ap (λ (b : Bool). cond b k (record { highest = t; standing = after; randoms = twenties e.call ++ k.randoms })) fit

  module _ (c : Call) (typed : WellTyped c) (store : List ℕ) (past : is_past registry store c ≡ true) where
    fitting : FitClients clients
    fitting = clients-fit registry bytes (past-registry registry store c past)

    pub brings : BringsAs number (handed_to c).random (twenties c) (asked clients c)
    brings = call-brings clients fitting c typed (past-buffers registry store c past)

    pub sound-left : (g : Store) → Sound number g → Sound number (left_by clients g c)
    sound-left g w =
        sound-after fitting.most (omega (arith, past-clock registry store c past, w.early)) (handed_to c).random (twenties c)
        (asked clients c).presented (asked clients c).challenge g w (asked clients c).request brings

  module _ (c : Call) (typed : WellTyped c) {b : List ℕ} {k : Contents} (v : Kept clients b k) where
    abbrev g : Store
    g = store_with k v.slots

    abbrev KeptAfter : Type 0
    KeptAfter = Kept clients (ours registry b c).store (with_event clients (record { call = c; result = ours registry b c }) k)

    kept-call : KeptAfter
    unfolding with_event
    kept-call = by (take registry b c)
      where
        by : TakenCall registry b c → KeptAfter
        by (unseen i n e) = rw (e, refused-unfit c i) v
        by (seen past e) =
            let q = brings c typed b past in
            let t = call_time g (handed_to c).clock in
            let p = (asked clients c).presented in
            let d = (asked clients c).challenge in
            let request = (asked clients c).request in
            let short = redirect-most registry (past-registry registry b c past) in
            rw (e, kept_read v)
            (subst (Kept clients (outcome_on clients g c).store)
            (sym (seen-event (record { call = c; result = result_of (outcome_on clients g c) }) k (fit_on clients g c q)))
            (record {
              slots = (left_by clients g c).slots;
              held =
                  cond (is_grant (decision_on (plan_on clients g c)))
                  (held_after t v.held number (handed_to c).random (twenties c) p d request q) (held_after_refusal t v.held p request);
              bytes = store-on clients g c;
              sound = sound-left c typed b past g v.sound;
              issues =
                  ap (λ (l : List Issue). standing_after clients t l c (result_of (outcome_on clients g c))) v.issues
                  ∙ standing-shown clients short g v.held c (past-buffers registry b c past) q;
              inv = λ never.
                  let once = never-tail (twenties c) k.randoms never in
                  request-kept (invariant-later (v.inv once) t (omega arith)) once number (handed_to c).random (twenties c) p d request q;
            }))

  -- ---- through a list of calls

  kept_run : (b : List ℕ) (cs : List Call) → AllWellTyped cs → (k : Contents) → Kept clients b k
      → Kept clients (store_after_all ours registry b cs) (with_events clients k (events ours registry b cs))
  unfolding store_after_all events with_events AllWellTyped
  kept_run b [] typed k v = v
  kept_run b (c ∷ cs) typed k v =
      let result = ours registry b c in
      kept_run result.store cs typed.1 (with_event clients (record { call = c; result = result }) k) (kept-call c typed.0 v)

  pub kept-all : (cs : List Call) → AllWellTyped cs
      → Kept clients (store_after_all ours registry fresh_store cs) (with_events clients nothing_yet (events ours registry fresh_store cs))
  kept-all cs typed = kept_run fresh_store cs typed nothing_yet (kept_fresh clients)
