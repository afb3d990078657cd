-- The number that std makes of four bytes is their big-endian number.
use Rattle.std.proofs.Common.{arith, ◌∙◌}
use Rattle.octets.proofs.Lists.{length_part}
use Rattle.octets.proofs.BigEndian.{be-from-four}
use Rattle.octets.proofs.read_be32.Goals as goal

pub returns : goal.returns
returns c = c.from_be_bytes.ensures ∙ rw c.bytes_at.ensures (be-from-four _ (length_part c.args.s.now c.args.at 4 (omega arith)))
