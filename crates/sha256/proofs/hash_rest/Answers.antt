-- The rest and the padding stand one behind the other at the front of the buffer, and these bytes are whole blocks, which are hashed.
use Rattle.std.proofs.Common.{sym, ◌∙◌, length-take-le}
use Rattle.sha256.proofs.Blocks.{hashed-fold}
use Rattle.sha256.proofs.Padding.{padded-front}
use Rattle.sha256.proofs.hash_rest.Goals as goal

pub slice_bounds-padded-end : goal.slice_bounds-padded-end
slice_bounds-padded-end c = (padded-front _ _ _ _ _ _ c.requires c.append-end.ensures c.append_padding-size.ensures).0

pub slice_bounds-as_chunks-end : goal.slice_bounds-as_chunks-end
slice_bounds-as_chunks-end c =
    sym (length-take-le _ _ (padded-front _ _ _ _ _ _ c.requires c.append-end.ensures c.append_padding-size.ensures).0)

pub returns : goal.returns
returns c =
    let front = (padded-front _ _ _ _ _ _ c.requires c.append-end.ensures c.append_padding-size.ensures).1 in
    c.hash_blocks.ensures ∙ rw (c.as_chunks.ensures.front, front) (hashed-fold _ _ _)
