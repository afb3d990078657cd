-- Reasons to refuse, in the order in which they count: the refusals that reading, admitting and granting are made of.
use Rattle.std.specs.Prelude.{Bool, cond, List, [], ◌∷◌, Ok, Err}
use Rattle.protocol.specs.declared.Refusal.{Refusal}
use Rattle.protocol.specs.Answers.{Decision}

-- a refusal, and whether it applies
pub record Reason : Type 0 where
  pub applies : Bool
  pub refusal : Refusal

abbrev pub when : Bool → Refusal → Reason
when applies refusal = record { applies = applies; refusal = refusal }

-- "The first that applies counts."
unfoldable pub first_of : List Reason → Decision
first_of [] = Ok tt
first_of (r ∷ rs) = cond r.applies (Err r.refusal) (first_of rs)
