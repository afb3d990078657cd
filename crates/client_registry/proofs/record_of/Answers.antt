-- The record where a client's entry says is the client's, and lies within the bytes.
use Rattle.std.proofs.Common.{get_or, ◌+◌, arith}
use Rattle.octets.proofs.Lists.{part-to}
use Rattle.client_registry.specs.Registry.{record_size}
use Rattle.client_registry.specs.Lookup.{record_at}
use Rattle.client_registry.proofs.Records.{size-least, sound-least}
use Rattle.client_registry.proofs.Lookup.{entry-client, entry-sound, entry-fits}
use Rattle.client_registry.proofs.record_of.Goals as goal

pub bounds-b-e : goal.bounds-b-e
bounds-b-e c =
    let b = c.args.b.now in
    omega (arith, entry-fits b c.args.e c.requires.0 c.requires.1, size-least (get_or b c.args.e.start 0))

pub overflow_add-end : goal.overflow_add-end
overflow_add-end c = omega (arith, entry-fits c.args.b.now c.args.e c.requires.0 c.requires.1)

pub slice_bounds-result-end : goal.slice_bounds-result-end
slice_bounds-result-end c = omega (arith, entry-fits c.args.b.now c.args.e c.requires.0 c.requires.1)

pub returns : goal.returns
returns c =
    let b = c.args.b.now in
    let e = c.args.e in
    let sound = entry-sound b e c.requires.0 c.requires.1 in
    let found = part-to b e.start (e.start + c.record_size.result) (record_size (get_or b e.start 0)) (omega arith) in
    rw found (record { client = entry-client b e c.requires.0 c.requires.1; sound = sound; least = sound-least (record_at b e.start) sound })
