-- The stored bytes are those of the time.
use Rattle.std.proofs.Common.{rules, ap, ◌∙◌}
use Rattle.token_store.specs.Store.{decode}
use Rattle.token_store.proofs.Codec.{decode-time}
use Rattle.token_store.proofs.time.set_time.Goals as goal

pub returns : goal.returns
returns c = ap decode c.write_be.ensures ∙ decode-time c.args.store.now c.args.t (search rules) (search rules)
