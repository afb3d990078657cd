-- The whole blocks are hashed first, then the rest with the padding: the two parts of the padded message.
use Rattle.sha256.specs.Constants.{initial_hash}
use Rattle.sha256.proofs.Blocks.{hashed-fold}
use Rattle.sha256.proofs.Padding.{digest-parts}
use Rattle.sha256.proofs.digest.Goals as goal

pub returns : goal.returns
unfolding initial_hash
returns c =
    let m = c.args.message.now in
    rw (c.state_bytes.ensures, c.hash_rest.ensures, c.hash_blocks-s.ensures, c.as_chunks.ensures.front, c.as_chunks.ensures.back, hashed-fold) (digest-parts m)
