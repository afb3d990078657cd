-- The first N bytes of what stands from `at` on are a part.
use Rattle.std.proofs.Common.{◌∙◌}
use Rattle.octets.proofs.Lists.{part-first}
use Rattle.octets.proofs.bytes_at.Goals as goal

pub returns : goal.returns
returns g c = (rw c.unwrap.ensures at c.first_chunk.ensures.cases).same ∙ part-first c.args.s.now c.args.at g.row.N
