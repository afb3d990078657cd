-- The texts so far are names, and `set` is theirs: what is left to read gives the value's set, or nothing.
use Rattle.std.proofs.Common.{◌≡◌}
use Rattle.scope.specs.Value.{read_scope}
use Rattle.octets.proofs.Splits.{left}
use Rattle.scope.proofs.Steps.{read_from}
use Rattle.scope.proofs.read.Given as goal

abbrev pub invariant-loop-text : goal.invariant-loop-text
invariant-loop-text l = read_from l.set (left 32 l.text-iterator.done l.text-iterator.rest.now) ≡ read_scope l.v
