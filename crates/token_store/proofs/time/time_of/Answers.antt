-- The time stands first.
use Rattle.std.proofs.Common.{sym, ◌∙◌}
use Rattle.token_store.proofs.Codec.{time-at}
use Rattle.token_store.proofs.time.time_of.Goals as goal

pub returns : goal.returns
returns c = c.read_be64.ensures ∙ sym (time-at c.args.store.now)
