-- A length beyond the room ends it. Within the room the scans see the text, as long as its length byte says, and the bytes
-- behind it.
use Rattle.std.proofs.Common.{sym, arith}
use Rattle.client_registry.specs.Registry.{sound_text}
use Rattle.client_registry.proofs.Fields.{field-over, field-tests}
use Rattle.client_registry.proofs.field.Field.is_sound.Goals as goal

pub returns-then-self-used : goal.returns-then-self-used
returns-then-self-used c =
    let f = c.args.self in
    sym (field-over (sound_text f.room f.low f.high f.except) c.args.r.now f.at f.room (omega arith))

pub returns : goal.returns
returns c =
    let f = c.args.self in
    rw (c.all_in_class.ensures, c.all_zero.ensures, c.split_at.ensures.front, c.split_at.ensures.back)
    (field-tests f.room f.low f.high f.except c.args.r.now f.at c.from-used.result c.requires c.from-used.ensures (omega arith))
