-- std writes the highest byte first.
use Rattle.std.proofs.Common.{◌∙◌}
use Rattle.octets.proofs.BigEndian.{be-to-four}
use Rattle.sha256.proofs.word_bytes.Goals as goal

pub returns : goal.returns
returns c = c.to_be_bytes.ensures ∙ be-to-four c.args.x
