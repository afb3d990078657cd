-- The number that std makes of eight bytes is their big-endian number.
use Rattle.std.proofs.Common.{arith, ◌∙◌}
use Rattle.octets.proofs.Lists.{length_part}
use Rattle.octets.proofs.BigEndian.{be-from-eight}
use Rattle.octets.proofs.read_be64.Goals as goal

pub returns : goal.returns
returns c = c.from_be_bytes.ensures ∙ rw c.bytes_at.ensures (be-from-eight _ (length_part c.args.s.now c.args.at 8 (omega arith)))
