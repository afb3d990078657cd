-- The id field of a sound record is the id, its length in front and zeros behind.
use Rattle.std.proofs.Common.{◌∙◌, arith}
use Rattle.client_registry.proofs.Records.{sound-least, same-ids}
use Rattle.client_registry.proofs.same_id.Goals as goal

pub slice_bounds-equal-end : goal.slice_bounds-equal-end
slice_bounds-equal-end c = omega (arith, sound-least c.args.one.now c.requires.0)

pub slice_bounds-equal-end-2 : goal.slice_bounds-equal-end-2
slice_bounds-equal-end-2 c = omega (arith, sound-least c.args.other.now c.requires.1)

pub returns : goal.returns
returns c = c.equal.ensures ∙ same-ids c.args.one.now c.args.other.now c.requires.0 c.requires.1
