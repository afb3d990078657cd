-- Behind the time stand the slots' bytes, one slot behind the other, and none are left over.
use Rattle.std.proofs.Common.{rules, arith, refl, ap, ◌∙◌, ◌≡◌, ◌*◌, ◌/◌, ℕ, List, length}
use Rattle.std.specs.Prelude.{map}
use Rattle.std.specs.Simd.{first_chunks}
use Rattle.octets.specs.Lists.{part}
use Rattle.octets.proofs.Lists.{length_part}
use Rattle.token_store.specs.Layout.{time_size, slot_count, slot_size}
use Rattle.token_store.specs.Store.{decode_slot}
use Rattle.token_store.proofs.Codec.{chunks-slots}
use Rattle.token_store.proofs.fields.slots.Goals as goal

pub returns : goal.returns
returns c =
    let b = c.args.store.now in
    let behind : List ℕ = part b time_size (slot_count * slot_size) in
    let size : length b ≡ 60308 = search rules in
    let many : length behind / slot_size ≡ slot_count = rw (length_part b time_size (slot_count * slot_size) (omega (arith, size))) refl in
    record {
      count = c.as_chunks.ensures.front_len ∙ many;
      slots = ap (map decode_slot) (c.as_chunks.ensures.front ∙ ap (λ (n : ℕ). first_chunks slot_size n behind) many) ∙ chunks-slots b;
    }
