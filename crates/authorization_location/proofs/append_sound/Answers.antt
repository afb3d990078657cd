-- A sound state is written behind its name, in at most three bytes to each of its own.
use Rattle.std.proofs.Common.{arith, sym, ◌∙◌}
use Rattle.octets.proofs.Writing.{append-nothing, append-both}
use Rattle.protocol.specs.Authorization.{state_text}
use Rattle.protocol.proofs.Lengths.{sound-length}
use Rattle.authorization_location.proofs.append_sound.Goals as goal

pub returns-then-not-is_sound_state : goal.returns-then-not-is_sound_state
unfolding state_text
returns-then-not-is_sound_state c = rw (← c.is_sound_state.ensures, c.if-not-is_sound_state.true) (append-nothing _ _)

pub append_value-requires : goal.append_value-requires
append_value-requires c =
    let short = sound-length c.args.value.now (sym c.is_sound_state.ensures ∙ c.if-not-is_sound_state.false) in
    omega (arith, c.requires, short, c.append-next.ensures.end)

pub returns : goal.returns
unfolding state_text
returns c = rw (← c.is_sound_state.ensures, c.if-not-is_sound_state.false) (append-both c.append-next.ensures c.append_value.ensures)
