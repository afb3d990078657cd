-- The id lies within a sound record.
use Rattle.std.proofs.Common.{arith}
use Rattle.client_registry.proofs.Records.{sound-parts, sound-least}
use Rattle.client_registry.proofs.has_id.Goals as goal

pub text-requires : goal.text-requires
text-requires c =
    omega (arith, (sound-parts c.args.r.now c.requires).id.within, sound-least c.args.r.now c.requires)
