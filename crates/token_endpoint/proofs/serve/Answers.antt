-- The request is read, granted on the store, and replied to.
use Rattle.std.proofs.Common.{rules}
use Rattle.granting.proofs.Plans.{map-decides}
use Rattle.token_endpoint.proofs.Replies.{token-served}
use Rattle.token_endpoint.proofs.serve.Goals as goal

pub returns : goal.returns
returns c =
    let whole = (rw c.unwrap.ensures at c.as_mut_array.ensures.cases).same in
    let decided = map-decides c.grant-granted.result c.map.result c.map.ensures.variant (search rules) in
    token-served _ _ _ _ _ _ c.read-reading.ensures (rw whole at c.grant-granted.ensures) c.write_reply-length.ensures (rw decided at c.answer.ensures)
