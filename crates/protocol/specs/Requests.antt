-- What a call comes to once its arguments are read, before the store is looked at: the scope it asks for, and a request or
-- the refusal that comes before it. The types of requests are those of src/lib.rt.
use Rattle.std.specs.Prelude.{ℕ, Bool, true, false, Option, Some, None, Ok, Err}
use Rattle.form.specs.Content.{Value, missing, once, repeated}
use Rattle.scope.specs.Set.{is_within, of_byte}
use Rattle.scope.specs.Value.{read_scope}
use Rattle.scope.specs.declared.Scope.{Scope}
use Rattle.protocol.specs.declared.Refusal.{Refusal}
use Rattle.protocol.specs.Answers.{Decision}
use Rattle.protocol.specs.declared.ScopeAsked.{ScopeAsked}
use Rattle.protocol.specs.declared.ScopeAsked.TheVariants.{Everything, Only, Unreadable}
use Rattle.protocol.specs.declared.Request.{Request}
use Rattle.protocol.specs.declared.Request.TheVariants.{Refused}
use Rattle.protocol.specs.declared.Reading.{Reading}

-- ---- the scope asked for

unfoldable pub asked_by : Option Scope → ScopeAsked
asked_by (Some s) = Only s.bits
asked_by None = Unreadable

unfoldable pub scope_asked : Value → ScopeAsked
scope_asked missing = Everything
scope_asked (once v) = asked_by (read_scope v)
scope_asked repeated = Unreadable

-- "Scope is within the granted one when none is asked, or a scope value with no name beyond it."
unfoldable pub fits : ScopeAsked → ℕ → Bool
fits Everything granted = true
fits (Only s) granted = is_within (of_byte s) (of_byte granted)
fits Unreadable granted = false

-- the set that is given: the granted one where none is asked
unfoldable pub scope_given : ScopeAsked → ℕ → ℕ
scope_given Everything granted = granted
scope_given (Only s) granted = s
scope_given Unreadable granted = granted

-- ---- farms

-- "Such tokens carry farm 0": the farm of a client's token for itself, which no owner may allow
abbrev pub no_farm : ℕ
no_farm = 0

-- ---- readings

abbrev pub presenting_none : Request → Reading
presenting_none request = record { request = request; presented = None; challenge = None }

abbrev pub refused_reading : Refusal → Reading
refused_reading refusal = presenting_none (Refused refusal)

-- what is read, unless a reason to refuse it came first
unfoldable pub unless_refused : Decision → Reading → Reading
unless_refused (Ok tt) reading = reading
unless_refused (Err refusal) reading = refused_reading refusal
