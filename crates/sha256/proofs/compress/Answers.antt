-- The three calls are the steps of the standard: the schedule is loaded and extended, the rounds run over it, and their
-- result is added.
use Rattle.std.proofs.Common.{replicate, refl}
use Rattle.sha256.specs.Digest.{schedule, compressed}
use Rattle.sha256.proofs.Blocks.{loaded}
use Rattle.sha256.proofs.compress.Goals as goal

pub returns : goal.returns
unfolding schedule compressed
returns c =
    rw (
      c.added.ensures,
      c.all_rounds.ensures,
      c.extend_schedule.ensures,
      c.load_words.ensures,
      loaded (replicate 64 0) c.args.block.now refl,
    )
