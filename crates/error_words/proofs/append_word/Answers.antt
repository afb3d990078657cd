-- The word that is written is the row's, and takes at most 25 bytes.
use Rattle.std.proofs.Common.{length, ap, arith}
use Rattle.protocol.proofs.Lengths.{word-length}
use Rattle.error_words.proofs.append_word.Goals as goal

pub append-requires : goal.append-requires
append-requires c = omega (arith, word-length c.args.word, ap length c.row_of.ensures.text, c.requires)
