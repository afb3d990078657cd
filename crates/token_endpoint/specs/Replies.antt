-- For contracts inside; the exports' contracts do not cite it.
--
-- The reply to what was granted: protocol's `reply_text`, from what the code keeps of a plan.
use Rattle.std.specs.Prelude.{cond, List, [], ℕ, Result, Ok, Err}
use Rattle.protocol.specs.declared.Refusal.{Refusal}
use Rattle.protocol.specs.Token.{refusal_reply, token_reply, refresh_member}
use Rattle.protocol.specs.Granting.{first_handle, second_handle}
use Rattle.granting.specs.declared.Issued.{Issued}

unfoldable pub reply_to : List ℕ → Result Issued Refusal → List ℕ
reply_to random (Ok issued) = token_reply (first_handle random) (cond issued.refresh (refresh_member (second_handle random)) []) issued.scope
reply_to random (Err refusal) = refusal_reply refusal
