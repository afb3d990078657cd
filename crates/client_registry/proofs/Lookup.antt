-- Laws of a look-up by id: what the number of an id is, and what the search through a registry finds.
--
-- In order: the number of an id among clients; the entry of each client of a registry, and its record; what `find` finds;
-- its way there, over the records.
--
-- Assumes nothing.
use mathlib.Core.Path.{◌≡◌, refl, sym, ap, ◌∙◌}
use mathlib.Core.Bool.{Bool, true, false, cond}
use mathlib.Core.List.{List, [], ◌∷◌}
use Prim.Native.Nat.{ℕ, zero, suc, ◌+◌, ◌≤◌, ◌<◌}
use native.Mathlib.Numerals.{add-one}
use native.Mathlib.Omega.{arith}
use borrow.Author.Tests.{ltb-true, lt-ltb, le-ltb}
use lib.ListN.{length, drop, get_or, length-map, length-drop, length-take}
use lib.Seq.{drop-cons, drop-drop, get_or-drop}
use Rattle.octets.specs.Lists.{every, same}
use Rattle.octets.proofs.Booleans.{and_left, and_right}
use Rattle.octets.proofs.Lists.{every-at, same-eq}
use Rattle.octets.proofs.Searches.{index_at, scan-stop, scan-next}
use Rattle.client_registry.specs.Registry.{Client, sound_record, record_size, records, client_of, clients_of, fit_registry}
use Rattle.client_registry.specs.Lookup.{number_of, is_known, no_client, client_at, start_of, entry_of, find_client, record_at, next_of, IsEntry}
use Rattle.client_registry.specs.declared.Entry.{Entry}
use Rattle.std.specs.Prelude.{Some, None}
use Rattle.client_registry.proofs.Fields.{id-text}
use Rattle.client_registry.proofs.Fit.{fit-records}
use Rattle.client_registry.proofs.Clients.{client-record, fit-client}
use Rattle.client_registry.proofs.Records.{records-nil, records-cons, size-here, record-fits}

-- ---- the number of an id

module _ (id : List ℕ) (cs : List Client) where
  pub known-below : is_known id cs ≡ true → number_of id cs < length cs
  known-below e = ltb-true (number_of id cs) (length cs) e

  -- the client of that number has the id
  pub known-id : is_known id cs ≡ true → (client_at cs (number_of id cs)).id ≡ id
  known-id e = same-eq (client_at cs (number_of id cs)).id id (index_at (λ c. same c.id id) no_client cs (known-below e))

-- no client of a fit registry has an empty id
pub empty-unknown : (b : List ℕ) → fit_registry b ≡ true → is_known [] (clients_of b) ≡ true → ⊥
empty-unknown b fit k =
    let cs = clients_of b in
    let n = number_of [] cs in
    omega (arith, ap length (known-id [] cs k), (id-text (client_at cs n).id (fit-client b fit n (known-below [] cs k)).id-sound).least)

-- ---- the entry of each client

every-step : (r : List ℕ) (rs : List (List ℕ)) → every sound_record (r ∷ rs) ≡ true → (sound_record r ≡ true) × (every sound_record rs ≡ true)
unfolding every
every-step r rs e = (and_left (sound_record r) (every sound_record rs) e, and_right (sound_record r) (every sound_record rs) e)

-- a record of what stands behind k bytes
record-behind : (b : List ℕ) (k at : ℕ) → record_at (drop k b) at ≡ record_at b (k + at)
record-behind b k at = rw (get_or-drop, drop-drop)

-- record n starts behind those before it
start-record : (n : ℕ) (b : List ℕ) → every sound_record (records b) ≡ true → n < length (records b)
    → record_at b (start_of n (records b)) ≡ get_or (records b) n []
unfolding start_of
start-record n [] s h = absurd (omega (arith, ap length records-nil))
start-record zero (k ∷ t) s h = rw (records-cons k t)
start-record (suc n) (k ∷ t) s h =
    let b : List ℕ = k ∷ t in
    let first = record_at b 0 in
    let rest = drop (record_size k) b in
    let e : records b ≡ first ∷ records rest = records-cons k t in
    let sound = every-step first (records rest) (sym (ap (every sound_record) e) ∙ s) in
    let size : length first ≡ record_size k = size-here b 0 sound.0 in
    rw (e, size)
    (sym (record-behind b (record_size k) (start_of n (records rest))) ∙ start-record n rest sound.1 (omega (arith, ap length e)))

-- the record of client n
pub entry-of : (b : List ℕ) → fit_registry b ≡ true → (n : ℕ) → n < length (clients_of b) → IsEntry b (entry_of b n)
entry-of b fit n h =
    let k : n < length (records b) = omega (arith, length-map (records b) client_of) in
    record { known = h; there = start-record n b (fit-records b fit).each k }

-- the client of an entry is that of the record there, which is sound
module _ (b : List ℕ) (e : Entry) (fit : fit_registry b ≡ true) (entry : IsEntry b e) where
  pub entry-client : client_of (record_at b e.start) ≡ client_at (clients_of b) e.number
  entry-client = ap client_of entry.there ∙ sym (client-record b e.number)

  pub entry-sound : sound_record (record_at b e.start) ≡ true
  entry-sound =
      ap sound_record entry.there
      ∙ every-at sound_record (records b) [] (fit-records b fit).each e.number (omega (arith, entry.known, length-map (records b) client_of))

  pub entry-fits : next_of b e.start ≤ length b
  entry-fits = record-fits b e.start entry-sound

-- ---- what a look-up finds

module _ (b : List ℕ) (id : List ℕ) where
  pub found-entry : (e : Entry) → find_client b id ≡ Some e → (is_known id (clients_of b) ≡ true) × (e ≡ entry_of b (number_of id (clients_of b)))
  unfolding find_client
  found-entry e f = by (is_known id (clients_of b)) f
    where
      by : (q : Bool) → cond q (Some (entry_of b (number_of id (clients_of b)))) None ≡ Some e → (q ≡ true) × (e ≡ entry_of b (number_of id (clients_of b)))
      by true f = (refl, cc)
      by false f = let z : ◌≡◌ {A = ℕ} 0 1 = cc in absurd (omega arith)

  pub find-unknown : find_client b id ≡ None → is_known id (clients_of b) ≡ false
  unfolding find_client
  find-unknown f = by (is_known id (clients_of b)) f
    where
      by : (q : Bool) → cond q (Some (entry_of b (number_of id (clients_of b)))) None ≡ None → q ≡ false
      by true f = let z : ◌≡◌ {A = ℕ} 0 1 = cc in absurd (omega arith)
      by false f = refl

-- the client with this id: its number, its entry, and its id
pub record Found (b id : List ℕ) (e : Entry) : Type 0 where
  pub known : is_known id (clients_of b) ≡ true
  pub number : e.number ≡ number_of id (clients_of b)
  pub entry : IsEntry b e
  pub has : (client_at (clients_of b) e.number).id ≡ id

pub find_at : (b id : List ℕ) → fit_registry b ≡ true → (e : Entry) → find_client b id ≡ Some e → Found b id e
find_at b id fit e f =
    let cs = clients_of b in
    let found = found-entry b id e f in
    let known = found.0 in
    rw found.1
    (record { known = known; number = refl; entry = entry-of b fit (number_of id cs) (known-below id cs known); has = known-id id cs known })

-- ---- the search for an id: where n records are passed, none of whose clients has it

-- n records take no more than all the bytes
pub start-within : (n : ℕ) (b : List ℕ) → start_of n (records b) ≤ length b
unfolding start_of
start-within zero b = omega arith
start-within (suc n) [] = rw records-nil (omega arith)
start-within (suc n) (k ∷ t) =
    let size = record_size k in
    rw (records-cons k t) (omega (arith, start-within n (drop size (k ∷ t)), length-drop size (k ∷ t), length-take size (k ∷ t)))

start-next : (n : ℕ) (rs : List (List ℕ)) → n < length rs → start_of (n + 1) rs ≡ start_of n rs + length (get_or rs n [])
unfolding start_of
start-next n rs h = rw add-one (by n rs h)
  where
    by : (n : ℕ) (rs : List (List ℕ)) → n < length rs → start_of (suc n) rs ≡ start_of n rs + length (get_or rs n [])
    by n [] h = absurd (omega arith)
    by zero (r ∷ rs) h = omega arith
    by (suc n) (r ∷ rs) h = omega (arith, by n rs (omega arith))

pub record Passed (b id : List ℕ) (left : List (List ℕ)) (start n : ℕ) : Type 0 where
  pub sound : every sound_record left ≡ true
  pub rest : left ≡ drop n (records b)
  pub place : start ≡ start_of n (records b)
  pub none : n ≤ number_of id (clients_of b)

pub passed-first : (b id : List ℕ) → fit_registry b ≡ true → Passed b id (records b) 0 0
unfolding start_of
passed-first b id fit = record { sound = (fit-records b fit).each; rest = refl; place = refl; none = omega arith }

module _ {b id : List ℕ} {left : List (List ℕ)} {start n : ℕ} (p : Passed b id left start n) where
  count : length (clients_of b) ≡ length (records b)
  count = length-map (records b) client_of

  -- past all of them
  pub passed-all : left ≡ [] → None ≡ find_client b id
  unfolding find_client
  passed-all e =
      rw (le-ltb (number_of id (clients_of b)) (length (clients_of b)) (omega (arith, p.none, count, length-drop n (records b), ap length (sym p.rest ∙ e))))

  -- or at the next, r
  module _ {r : List ℕ} {rest : List (List ℕ)} (e : left ≡ r ∷ rest) where
    pub passed-sound : sound_record r ≡ true
    passed-sound = (every-step r rest (sym (ap (every sound_record) e) ∙ p.sound)).0

    pub passed-below : n < length (records b)
    passed-below = omega (arith, length-drop n (records b), ap length (sym p.rest ∙ e))

    steps : r ∷ rest ≡ get_or (records b) n [] ∷ drop (suc n) (records b)
    steps = sym e ∙ p.rest ∙ drop-cons (records b) n [] passed-below

    here : get_or (records b) n [] ≡ r
    here = let s = steps in cc

    next-start : start + length r ≡ start_of (n + 1) (records b)
    next-start = rw p.place (sym (start-next n (records b) passed-below ∙ ap (λ (x : List ℕ). start_of n (records b) + length x) here))

    pub passed-within : start + length r ≤ length b
    passed-within = omega (arith, next-start, start-within (n + 1) b)

    tested : same (client_at (clients_of b) n).id id ≡ same (client_of r).id id
    tested = ap (λ (c : Client). same c.id id) (client-record b n ∙ ap client_of here)

    pub passed-here : same (client_of r).id id ≡ true → Some (record { number = n; start = start }) ≡ find_client b id
    unfolding find_client
    passed-here t =
        let below : n < length (clients_of b) = omega (arith, passed-below, count) in
        let k : number_of id (clients_of b) ≡ n = scan-stop (λ c. same c.id id) no_client (clients_of b) n below p.none (tested ∙ t) in
        rw (k, lt-ltb n (length (clients_of b)) below) (ap (λ (s : ℕ). Some (record { number = n; start = s })) p.place)

    pub passed-next : same (client_of r).id id ≡ false → Passed b id rest (start + length r) (n + 1)
    passed-next t =
        let s = steps in
        let below : n < length (clients_of b) = omega (arith, passed-below, count) in
        record {
          sound = (every-step r rest (sym (ap (every sound_record) e) ∙ p.sound)).1;
          rest = rw add-one (cc);
          place = next-start;
          none = scan-next (λ c. same c.id id) no_client (clients_of b) n below p.none (tested ∙ t);
        }
