-- The address, what is told and the state stand one behind the other, and the output has room for each.
use Rattle.octets.proofs.Writing.{append-both}
use Rattle.protocol.specs.Authorization.{location}
use Rattle.authorization_location.proofs.Parts.{told-length, parameter-room, state-room}
use Rattle.authorization_location.proofs.write_told.Goals as goal

pub append_told-next-requires : goal.append_told-next-requires
append_told-next-requires c = (c.requires.1, parameter-room c.requires.0 c.write_redirect-at.ensures)

pub append_state-requires : goal.append_state-requires
append_state-requires c =
    let w = c.requires.0 in
    let short = told-length c.args.told c.requires.1 in
    state-room w short c.write_redirect-at.ensures c.append_told-next.ensures

pub returns : goal.returns
unfolding location
returns c = append-both (append-both c.write_redirect-at.ensures c.append_told-next.ensures) c.append_state.ensures
