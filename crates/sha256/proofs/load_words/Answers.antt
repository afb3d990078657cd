-- One word more is the number of the next four bytes, and sixteen words are loaded where no bytes are left.
use Rattle.std.proofs.Common.{◌∙◌, [], slice_index_or}
use Rattle.octets.proofs.BigEndian.{be-from-four}
use Rattle.sha256.proofs.Blocks.{load-next, load-all, length-piece}
use Rattle.sha256.proofs.load_words.Goals as goal

pub loop-t-preserved : goal.loop-t-preserved
loop-t-preserved c =
    let l = c.loop-t in
    let pieces = c.as_chunks.result.0.now in
    let four = length-piece pieces c.args.block.now l.t c.as_chunks.ensures.front c.loop-t-test.true in
    load-next l.w pieces l.t c.from_be_bytes.result c.loop-t-test.true (c.from_be_bytes.ensures ∙ be-from-four (slice_index_or pieces l.t []) four) ∙ l.invariant

pub returns : goal.returns
returns c =
    let l = c.loop-t in
    load-all l.w c.args.w.now c.args.block.now c.as_chunks.result.0.now l.t c.told-block c.as_chunks.ensures.front c.loop-t-test.false l.invariant
