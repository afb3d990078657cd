-- The three stores stand one behind the other: the byte 128, the zero bytes, and the number of bits.
use Rattle.std.proofs.Common.{arith, ◌∙◌}
use Rattle.sha256.proofs.Padding.{length-padding, padding-stores}
use Rattle.sha256.proofs.append_padding.Goals as goal

pub returns : goal.returns
returns c =
    let a = c.args in
    record {
      bytes = c.append.ensures.bytes ∙ rw c.clear_at.ensures (padding-stores a.out.now a.at a.n c.to_be_bytes.result c.to_be_bytes.ensures);
      end = rw (length-padding a.n) (omega arith);
    }
