-- The front of the buffer is the value of a state that came once; of any other nothing is written.
use Rattle.octets.proofs.Writing.{append-nothing}
use Rattle.form.specs.Content.{only_value}
use Rattle.parameters.specs.Fields.{said_by}
use Rattle.parameters.proofs.Buffers.{Front, front-value}
use Rattle.authorization_location.proofs.Parts.{state-unsent, state-once}
use Rattle.authorization_location.proofs.append_state.Goals as goal
use Rattle.authorization_location.proofs.append_state.Goals.{After-value_into-n}

pub returns-then-is_missing-is_repeated : goal.returns-then-is_missing-is_repeated
returns-then-is_missing-is_repeated c =
    let v = said_by c.args.state.now in
    rw (state-unsent v (rw (c.is_missing.ensures, c.is_repeated.ensures) at c.if-is_missing-is_repeated.true)) (append-nothing _ _)

decoded : (c : After-value_into-n) → Front c.value_into-n.new.out c.value_into-n.result (only_value (said_by c.args.state.now))
decoded c = let f = c.args.state.now in front-value f.form.now f.place f.short _ _ c.value_into-n.ensures.count c.value_into-n.ensures.bytes

pub slice_bounds-append_sound-end : goal.slice_bounds-append_sound-end
slice_bounds-append_sound-end c = (decoded (goal.at.slice_bounds-append_sound-end c).After-value_into-n).count

pub slice_bounds-buffer-end : goal.slice_bounds-buffer-end
slice_bounds-buffer-end c = (decoded (goal.at.slice_bounds-buffer-end c).After-value_into-n).fits

pub returns : goal.returns
returns c =
    let v = said_by c.args.state.now in
    let once = state-once v (rw (c.is_missing.ensures, c.is_repeated.ensures) at c.if-is_missing-is_repeated.false) in
    rw once (rw (decoded (goal.at.returns c).After-value_into-n).text at c.append_sound.ensures)
