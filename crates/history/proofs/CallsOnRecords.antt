-- Lists of calls over a store as a record: by these examples compute, since they never write bytes.
--
-- In order: what calls past refusals 1 to 4 are answered and leave; and that over a fit registry and a sound store bytes and records
-- contain and leave the same (`replay`), where of a list the calls whose buffers and clock are fit are seen alone.
-- Assumes nothing.
use mathlib.Core.Path.{◌≡◌, refl, sym, ap, ◌∙◌}
use mathlib.Core.Bool.{Bool, true, false, cond, not, ◌&&◌, and-true, false≢true}
use mathlib.Core.List.{List, [], ◌∷◌}
use Prim.Native.Nat.{ℕ}
use lib.Dec.{ltb}
use lib.ListN.{length}
use Rattle.octets.specs.Lists.{Bytes, every}
use Rattle.octets.specs.Search.{keep}
use Rattle.client_registry.specs.Registry.{Client, fit_registry, clients_of}
use Rattle.token_store.specs.Layout.{latest_time}
use Rattle.token_store.specs.Store.{Store, encode}
use Rattle.protocol.specs.Outcomes.{unfit_reasons, Outcome, admit}
use Rattle.protocol.proofs.Reasons.{grant-every}
use Rattle.history.specs.Calls.{Call, handed_to, WellTyped, AllWellTyped, Result, store_after_all, Event, events}
use Rattle.history.specs.Contents.{Contents, with_event, with_events}
use Rattle.history.specs.Server.{Answer, outcome_of, result_of, ours}
use Rattle.history.proofs.SoundStores.{Sound, sound_back, sound-fit}
use Rattle.history.proofs.AnyCall.{outcome_on, unfit_to, is_past, TakenCall, unseen, seen, refused-unfit, take, past-seen, left_by, store-on, fit_on}
use Rattle.history.proofs.AllCalls.{brings, sound-left}

abbrev pub result_on : List Client → Store → Call → Result
result_on clients g c = result_of (outcome_on clients g c)

unfoldable pub left_by_all : List Client → Store → List Call → Store
left_by_all clients g [] = g
left_by_all clients g (c ∷ cs) = left_by_all clients (left_by clients g c) cs

unfoldable pub events_on : List Client → Store → List Call → List Event
events_on clients g [] = []
events_on clients g (c ∷ cs) = record { call = c; result = result_on clients g c } ∷ events_on clients (left_by clients g c) cs

-- the call's buffers and clock are fit
unfoldable pub is_fitting : Call → Bool
is_fitting c = not (unfit_to c) && not (ltb latest_time (handed_to c).clock)

module _ (registry : List ℕ) (bytes : Bytes registry) (fit : fit_registry registry ≡ true) where
  abbrev clients : List Client
  clients = clients_of registry

  -- the calls contain and leave what those do that are served
  pub record Replayed (g : Store) (cs served : List Call) : Type 0 where
    pub same-contents : (k : Contents)
        → with_events clients k (events ours registry (encode g) cs) ≡ with_events clients k (events_on clients g served)
    pub same_store : store_after_all ours registry (encode g) cs ≡ encode (left_by_all clients g served)
    pub sound : Sound (length clients) (left_by_all clients g served)

  module _ (g : Store) (w : Sound (length clients) g) (c : Call) where
    -- no other input is unfit
    past-fitting : is_past registry (encode g) c ≡ is_fitting c
    unfolding is_fitting admit every
    past-fitting = grant-every (unfit_reasons (unfit_to c) registry (encode g) (handed_to c).clock) ∙ rw (fit, sound-fit g w) (simp and-true)

    pub fitting-served : is_fitting c ≡ true → outcome_of registry (encode g) c ≡ outcome_on clients g c
    fitting-served e =
        past-seen registry (encode g) c (past-fitting ∙ e) ∙ ap (λ (s : Store). outcome_on clients s c) (sound_back g w)

    -- one call before others: it is seen, or leaves all as it was
    seen_first : is_fitting c ≡ true → {cs served : List Call} → Replayed (left_by clients g c) cs served → Replayed g (c ∷ cs) (c ∷ served)
    unfolding events events_on store_after_all left_by_all with_events
    seen_first e {cs = cs} r =
        let o = fitting-served e in
        let s = ap (λ (x : Outcome Answer). x.store) o ∙ store-on clients g c in
        record {
          same-contents = λ k.
              let after : Outcome Answer → Contents = λ x. with_event clients (record { call = c; result = result_of x }) k in
              ap (λ (x : Outcome Answer). with_events clients (after x) (events ours registry x.store cs)) o
              ∙ ap (λ (b : List ℕ). with_events clients (after (outcome_on clients g c)) (events ours registry b cs)) (store-on clients g c)
              ∙ r.same-contents (after (outcome_on clients g c));
          same_store = ap (λ (b : List ℕ). store_after_all ours registry b cs) s ∙ r.same_store;
          sound = r.sound;
        }

    unseen-first : is_fitting c ≡ false → {cs served : List Call} → Replayed g cs served → Replayed g (c ∷ cs) served
    unfolding events events_on store_after_all left_by_all with_events with_event
    unseen-first e {cs = cs} {served = served} r = by (take registry (encode g) c)
      where
        by : TakenCall registry (encode g) c → Replayed g (c ∷ cs) served
        by (unseen i n o) = record {
          same-contents = λ k. rw (o, refused-unfit c i) (r.same-contents k);
          same_store = rw o r.same_store;
          sound = r.sound;
        }
        by (seen p o) = absurd (false≢true (sym e ∙ sym past-fitting ∙ p))

  pub replay : (g : Store) → Sound (length clients) g → (cs : List Call) → AllWellTyped cs → Replayed g cs (keep is_fitting cs)
  unfolding events events_on store_after_all left_by_all AllWellTyped keep
  replay g w [] typed = record { same-contents = λ k. refl; same_store = refl; sound = w }
  replay g w (c ∷ cs) typed = by (is_fitting c) refl (λ h v. replay h v cs typed.1)
    where
      by : (b : Bool) → is_fitting c ≡ b → ((h : Store) → Sound (length clients) h → Replayed h cs (keep is_fitting cs))
          → Replayed g (c ∷ cs) (cond b (c ∷ keep is_fitting cs) (keep is_fitting cs))
      by true e all =
          seen_first g w c e (all (left_by clients g c) (sound-left registry bytes c typed.0 (encode g) (past-fitting g w c ∙ e) g w))
      by false e all = unseen-first g w c e (all g w)

  -- what comes of one more call
  pub replay-result : (g : Store) (cs served : List Call) → Replayed g cs served → (c : Call) → is_fitting c ≡ true
      → ours registry (store_after_all ours registry (encode g) cs) c ≡ result_on clients (left_by_all clients g served) c
  replay-result g cs served r c e =
      ap (λ (b : List ℕ). ours registry b c) r.same_store ∙ ap result_of (fitting-served (left_by_all clients g served) r.sound c e)

  -- which is not refused with 1 to 4
  pub replay-fit : (g : Store) (cs served : List Call) → Replayed g cs served → (c : Call) → WellTyped c → is_fitting c ≡ true
      → (ours registry (store_after_all ours registry (encode g) cs) c).unfit ≡ false
  replay-fit g cs served r c typed e =
      let left = left_by_all clients g served in
      ap (λ (x : Result). x.unfit) (replay-result g cs served r c e)
      ∙ fit_on clients left c (brings registry bytes c typed (encode left) (past-fitting left r.sound c ∙ e))
