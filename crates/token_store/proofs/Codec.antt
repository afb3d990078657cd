-- Laws of a store's bytes (specs/Store.antt): what is read from them, what a write does, and that nothing is lost.
--
-- In order: the slots and the time that are read, and the slots by their bytes; a store of a whole slot or of the time, as a
-- change of what is read; writing what was read; reading what was written; the fresh
-- store.
--
-- Not here: one slot's bytes (`Slots`), scans of the slots (`Scans`), fitness (`Fits`).
-- Assumes nothing.
use mathlib.Core.Path.{◌≡◌, refl, sym, ap, ◌∙◌, subst}
use mathlib.Core.Bool.{Bool, true, false, cond}
use mathlib.Core.Logic.{◌≢◌}
use mathlib.Core.List.{List, ◌++◌, map}
use Prim.Native.Nat.{ℕ, ◌+◌, ◌*◌, ◌^◌, ◌<◌}
use native.Mathlib.Decide.{dec_lt}
use native.Mathlib.Omega.{arith}
use lib.ListN.{length, take, drop, get_or, replicate, length-append, length-drop, length-map, length-replicate, get_or-replicate, take-append-drop, get_or-map, get_or-eq_default}
use lib.Seq.{take_all, take_at, drop-append-add, length-take-le, sets}
use Rattle.std.specs.Simd.{first_chunks}
use Rattle.std.proofs.lemmas.List.{get_or_default}
use Rattle.octets.specs.Lists.{part, Bytes}
use Rattle.octets.specs.BigEndian.{big_endian, big_endian_from, big_endian_bytes}
use Rattle.octets.specs.Search.{replace_all}
use Rattle.octets.proofs.Lists.{take-bytes, drop-bytes, length_part, part-part}
use Rattle.octets.proofs.Searches.{replace_all-map}
use Rattle.octets.proofs.Stores.{part-sets-after, part-sets-before, part-sets-same}
use Rattle.octets.proofs.BigEndian.{be-bytes, bytes-be, length-be-bytes}
use Rattle.token_store.specs.Layout.{time_size, slot_count, slot_size, store_size, slot_start}
use Rattle.token_store.specs.Store.{Store, SlotFits, SlotsFit, concat, tabulate, encode_slot, decode_slot, slot_bytes, decode, encode, free_slot, fresh, slot_of, with_slot, with_time}
use Rattle.token_store.specs.declared.Slot.{Slot}
use Rattle.token_store.proofs.Tables.{chunks-table, length-tabulate, get_d_tabulate, tabulate-cong, tabulate-list, tabulate-set, map-tabulate, concat-parts, part-concat, length-concat, part-replicate}
use Rattle.token_store.proofs.Slots.{slot-back, slot-forth, read_fits, length-slot, free-read, free_bytes, free-fits}

-- ---- what is read

pub time-at : (b : List ℕ) → (decode b).time ≡ big_endian (part b 0 time_size)
unfolding decode
time-at b = refl

pub length-slots : (b : List ℕ) → length (decode b).slots ≡ slot_count
unfolding decode
length-slots b = length-tabulate (λ k. decode_slot (slot_bytes b k)) slot_count

pub slot_at : (b : List ℕ) (i : ℕ) → i < slot_count → slot_of (decode b) i ≡ decode_slot (slot_bytes b i)
unfolding decode
slot_at b i below = get_d_tabulate (λ k. decode_slot (slot_bytes b k)) slot_count i free_slot below

module _ (b : List ℕ) (i : ℕ) (size : length b ≡ store_size) (below : i < slot_count) where
  pub length-slot-bytes : length (slot_bytes b i) ≡ slot_size
  length-slot-bytes = length_part b (slot_start i) slot_size (omega arith)

-- the chunks behind the time are the bytes of the slots
pub chunks-slots : (b : List ℕ) → map decode_slot (first_chunks slot_size slot_count (part b time_size (slot_count * slot_size))) ≡ (decode b).slots
unfolding decode
chunks-slots b =
    let behind : List ℕ = part b time_size (slot_count * slot_size) in
    ap (λ (l : List (List ℕ)). map decode_slot l)
    (chunks-table slot_size slot_count behind
    ∙ tabulate-cong (λ i. part behind (i * slot_size) slot_size) (slot_bytes b) slot_count (λ i below. part-part b time_size (slot_count * slot_size) (i * slot_size) slot_size (omega arith)))
    ∙ map-tabulate decode_slot (slot_bytes b) slot_count

module _ (b : List ℕ) (pieces : List (List ℕ)) (said : map decode_slot pieces ≡ (decode b).slots) where
  pub length-pieces : length pieces ≡ slot_count
  length-pieces = sym (length-map pieces decode_slot) ∙ ap length said ∙ length-slots b

  pub piece_read : (i : ℕ) (d : List ℕ) → i < slot_count → slot_of (decode b) i ≡ decode_slot (get_or pieces i d)
  piece_read i d below =
      let within : i < length (map decode_slot pieces) = omega (arith, length-map pieces decode_slot, length-pieces) in
      ap (λ (l : List Slot). get_or l i free_slot) (sym said) ∙ get_or_default (map decode_slot pieces) i free_slot (decode_slot d) within ∙ get_or-map decode_slot pieces i d

-- ---- a store of a whole slot changes that slot of what is read, and nothing else

module _ (b : List ℕ) (i : ℕ) (v : List ℕ) (size : length b ≡ store_size) (below : i < slot_count) (wide : length v ≡ slot_size) where
  here : slot_bytes (sets b (slot_start i) v) i ≡ v
  here = rw wide at (part-sets-same b (slot_start i) v (omega arith))

  there : (k : ℕ) → k ≢ i → slot_bytes (sets b (slot_start i) v) k ≡ slot_bytes b k
  there k ne = by (dec_lt k i)
    where
      by : Dec (k < i) → slot_bytes (sets b (slot_start i) v) k ≡ slot_bytes b k
      by (yes l) = part-sets-after b (slot_start k) slot_size (slot_start i) v (omega arith)
      by (no n) = part-sets-before b (slot_start k) slot_size (slot_start i) v (omega arith)

  pub decode-put : decode (sets b (slot_start i) v) ≡ with_slot (decode b) i (decode_slot v)
  unfolding decode
  decode-put = λ j. record {
    time = big_endian (part-sets-after b 0 time_size (slot_start i) v (omega arith) j);
    slots =
        tabulate-set slot_count i (decode_slot v)
        (λ k. decode_slot (slot_bytes b k))
        (λ k. decode_slot (slot_bytes (sets b (slot_start i) v) k))
        (ap decode_slot here)
        (λ k n. ap decode_slot (there k n))
        j;
  }

-- a store of the time changes the time alone
pub decode-time : (b : List ℕ) (t : ℕ) → length b ≡ store_size → t < 256 ^ time_size
    → decode (sets b 0 (big_endian_bytes time_size t)) ≡ with_time (decode b) t
unfolding decode
decode-time b t size h =
    let v : List ℕ = big_endian_bytes time_size t in
    let n : length v ≡ time_size = length-be-bytes time_size t in
    let m : part (sets b 0 v) 0 time_size ≡ v = subst (λ (k : ℕ). part (sets b 0 v) 0 k ≡ v) n (part-sets-same b 0 v (omega arith)) in
    λ j. record {
      time = (ap big_endian m ∙ be-bytes time_size t h) j;
      slots =
          tabulate-cong (λ k. decode_slot (slot_bytes (sets b 0 v) k)) (λ k. decode_slot (slot_bytes b k)) slot_count
          (λ k l. ap decode_slot (part-sets-before b (slot_start k) slot_size 0 v (omega arith)))
          j;
    }

-- ---- writing what was read

module _ (b : List ℕ) (size : length b ≡ store_size) (bytes : Bytes b) where
  slot-bytes : (i : ℕ) → Bytes (slot_bytes b i)
  slot-bytes i = take-bytes slot_size (drop (slot_start i) b) (drop-bytes (slot_start i) b bytes)

  encode-slots : concat (map encode_slot (decode b).slots) ≡ drop time_size b
  unfolding decode
  encode-slots =
      ap concat
      (map-tabulate encode_slot (λ k. decode_slot (slot_bytes b k)) slot_count
      ∙ tabulate-cong (λ k. encode_slot (decode_slot (slot_bytes b k))) (slot_bytes b) slot_count
      (λ k l. slot-forth (slot_bytes b k) (length-slot-bytes b k size l) (slot-bytes k)))
      ∙ concat-parts b time_size slot_size slot_count
      ∙ take_all (slot_count * slot_size) (drop time_size b) (simp length-drop (omega arith))

  -- the bytes of a store, fit or not, are those of what is read from them
  pub encode-decode : encode (decode b) ≡ b
  unfolding encode decode
  encode-decode =
      let t : big_endian_bytes time_size (big_endian (part b 0 time_size)) ≡ take time_size b =
      bytes-be time_size (take time_size b) (length-take-le time_size b (omega arith)) (take-bytes time_size b bytes)
      in
      rw (t, encode-slots) (take-append-drop time_size b)

  -- and with another time they change in the first eight alone
  pub encode-later : (t : ℕ) → encode (with_time (decode b) t) ≡ big_endian_bytes time_size t ++ drop time_size b
  unfolding encode
  encode-later t = rw encode-slots

  -- with some slots freed, these are zero
  pub encode-freed : (k : Slot → Bool)
      → concat (map encode_slot (replace_all free_slot k (decode b).slots))
      ≡ concat (tabulate slot_count (λ i. cond (k (decode_slot (slot_bytes b i))) (replicate slot_size 0) (slot_bytes b i)))
  unfolding decode
  encode-freed k =
      ap concat
      (ap (λ (l : List Slot). map encode_slot l)
      (replace_all-map free_slot k (decode b).slots ∙ map-tabulate (λ s. cond (k s) free_slot s) (λ i. decode_slot (slot_bytes b i)) slot_count)
      ∙ map-tabulate encode_slot (λ i. let s = decode_slot (slot_bytes b i) in cond (k s) free_slot s) slot_count
      ∙ tabulate-cong _ _ slot_count (λ i l. by (decode_slot (slot_bytes b i)) (k (decode_slot (slot_bytes b i))) (slot-forth (slot_bytes b i) (length-slot-bytes b i size l) (slot-bytes i))))
    where
      by : (s : Slot) {v : List ℕ} (q : Bool) → encode_slot s ≡ v → encode_slot (cond q free_slot s) ≡ cond q (replicate slot_size 0) v
      by s true e = free_bytes
      by s false e = e

  pub slots-fit : SlotsFit (decode b).slots
  slots-fit i = by (dec_lt i slot_count)
    where
      by : Dec (i < slot_count) → SlotFits (slot_of (decode b) i)
      by (yes l) = rw (slot_at b i l) (read_fits (slot_bytes b i) (length-slot-bytes b i size l) (slot-bytes i))
      by (no n) = rw (get_or-eq_default (decode b).slots free_slot {n = i} (omega (arith, length-slots b))) free-fits

-- ---- reading what was written

module _ (g : Store) (sized : length g.slots ≡ slot_count) (early : g.time < 256 ^ time_size) (fits : SlotsFit g.slots) where
  -- the bytes of the time, and those of the slots one by one
  times : List ℕ
  times = big_endian_bytes time_size g.time

  pieces : List (List ℕ)
  pieces = map encode_slot g.slots

  piece : (k : ℕ) → get_or pieces k (encode_slot free_slot) ≡ encode_slot (get_or g.slots k free_slot)
  unfolding pieces
  piece k = get_or-map encode_slot g.slots k free_slot

  piece-length : (k : ℕ) → length (get_or pieces k (encode_slot free_slot)) ≡ slot_size
  piece-length k = ap length (piece k) ∙ length-slot (get_or g.slots k free_slot) (fits k)

  piece-count : length pieces ≡ slot_count
  unfolding pieces
  piece-count = length-map g.slots encode_slot ∙ sized

  pub length-encode : length (encode g) ≡ store_size
  unfolding encode pieces times
  length-encode =
      length-append times (concat pieces)
      ∙ omega (arith, length-be-bytes time_size g.time, length-concat slot_size (encode_slot free_slot) pieces piece-length, piece-count)

  pub piece-at : (i : ℕ) → i < slot_count → slot_bytes (encode g) i ≡ encode_slot (get_or g.slots i free_slot)
  unfolding encode pieces times
  piece-at i below =
      let n : length times ≡ time_size = length-be-bytes time_size g.time in
      let e : drop (time_size + i * slot_size) (times ++ concat pieces) ≡ drop (i * slot_size) (concat pieces) =
      subst (λ (k : ℕ). drop (k + i * slot_size) (times ++ concat pieces) ≡ drop (i * slot_size) (concat pieces)) n
      (drop-append-add times (concat pieces) (i * slot_size))
      in
      ap (λ (l : List ℕ). take slot_size l) e ∙ part-concat slot_size (encode_slot free_slot) pieces piece-length i (omega (arith, piece-count)) ∙ piece i

  time-back : big_endian (part (encode g) 0 time_size) ≡ g.time
  unfolding encode
  time-back =
      ap big_endian (take_at (big_endian_bytes time_size g.time) (concat (map encode_slot g.slots)) time_size (length-be-bytes time_size g.time))
      ∙ be-bytes time_size g.time early

  -- a store whose fields fit is read back as it was
  pub decode-encode : decode (encode g) ≡ g
  unfolding decode
  decode-encode = λ j. record {
    time = time-back j;
    slots =
        tabulate-list (λ i. decode_slot (slot_bytes (encode g) i)) free_slot slot_count g.slots sized
        (λ i l. ap decode_slot (piece-at i l) ∙ slot-back (get_or g.slots i free_slot) (fits i))
        j;
  }

-- ---- the fresh store: its bytes are all zero

fresh-slot : (i : ℕ) → i < slot_count → decode_slot (slot_bytes (replicate store_size 0) i) ≡ free_slot
fresh-slot i below = ap decode_slot (part-replicate 0 store_size (slot_start i) slot_size (omega arith)) ∙ free-read

pub decode-fresh : decode (replicate store_size 0) ≡ fresh
unfolding decode fresh big_endian_from
decode-fresh = λ j. record {
  time = big_endian (part-replicate 0 store_size 0 time_size (omega arith) j);
  slots =
      tabulate-list (λ i. decode_slot (slot_bytes (replicate store_size 0) i)) free_slot slot_count (replicate slot_count free_slot)
      (length-replicate slot_count free_slot)
      (λ i l. fresh-slot i l ∙ sym (get_or-replicate slot_count i free_slot free_slot l))
      j;
}
