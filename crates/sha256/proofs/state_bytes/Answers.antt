-- The bytes of each word, one behind the other.
use Rattle.std.proofs.Common.{rules, tests, arith, [], take_all}
use Rattle.octets.specs.BigEndian.{big_endian_bytes}
use Rattle.sha256.specs.Digest.{state_words, state_bytes, words_bytes}
use Rattle.sha256.proofs.Blocks.{mapped, flat-words, length-words-bytes}
use Rattle.sha256.proofs.state_bytes.Goals as goal

pub returns : goal.returns
unfolding state_bytes
returns c =
    let words = state_words c.args.s in
    let items = c.map.ensures.items in
    let each = mapped _ _ words c.map.result 8 (big_endian_bytes 4) 0 [] (λ x r p q k. search (rules, tests)) items in
    let flat = flat-words words c.map.result items.long each in
    rw (c.bytes_at.ensures, c.as_flattened.ensures.value, flat) (take_all 32 (words_bytes words) (omega (arith, length-words-bytes words)))
