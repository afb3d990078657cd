-- The redirect lies within a sound record.
use Rattle.std.proofs.Common.{arith}
use Rattle.client_registry.proofs.Records.{sound-parts}
use Rattle.client_registry.proofs.redirect.Goals as goal

pub text-requires : goal.text-requires
text-requires c =
    let r = c.record_of in
    omega (arith, (sound-parts r.result.now r.ensures.sound).redirect.within)
