-- Each return is one case of the written byte.
use Rattle.std.proofs.Common.{sym}
use Rattle.form_coding.proofs.Coding.{byte-kept, byte-space, byte-escape}
use Rattle.form_coding.proofs.append_byte.Goals as goal

pub returns-then-is_kept : goal.returns-then-is_kept
returns-then-is_kept c = rw (byte-kept c.args.b (sym c.if-is_kept.ensures)) c.append.ensures

pub returns-then-b-eq32 : goal.returns-then-b-eq32
returns-then-b-eq32 c = rw (byte-space c.args.b (sym c.if-is_kept.ensures) c.if-b-eq32.true) c.append-then-b-eq32.ensures

pub returns : goal.returns
returns c =
    rw (byte-escape c.args.b (sym c.if-is_kept.ensures) c.if-b-eq32.false, ← c.hex_digit-2.ensures, ← c.hex_digit.ensures)
    c.append-2.ensures
