-- The scope that a value asks for, in the steps in which the code takes it.
-- Assumes nothing.
use mathlib.Core.Path.{◌≡◌, refl}
use mathlib.Core.Bool.{cond}
use Rattle.form.specs.Content.{Value, missing, once, repeated}
use Rattle.scope.specs.Value.{read_scope}
use Rattle.protocol.specs.declared.ScopeAsked.TheVariants.{Everything, Unreadable}
use Rattle.form.specs.Content.{is_missing, is_repeated, only_value}
use Rattle.protocol.specs.Requests.{asked_by, scope_asked}

pub asked_steps : (v : Value) → scope_asked v ≡ cond (is_missing v) Everything (cond (is_repeated v) Unreadable (asked_by (read_scope (only_value v))))
unfolding is_missing is_repeated only_value scope_asked
asked_steps missing = refl
asked_steps (once x) = refl
asked_steps repeated = refl
