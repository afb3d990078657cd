-- The tests are those of the definition, at the names' places: which of them count goes by whether a challenge came.
use Rattle.std.proofs.Math.Bool.{not-not}
use Rattle.protocol.specs.Authorization.{is_bad_challenge}
use Rattle.authorization_query.proofs.Asking.is_bad_challenge.Goals as goal

pub returns-then-is_missing : goal.returns-then-is_missing
unfolding is_bad_challenge
returns-then-is_missing c =
    let a = c.args.self.now in
    rw (
      ← a.read.challenge.value,
      ← c.is_missing.ensures,
      c.if-is_missing.true,
      c.is_missing-then-is_missing.ensures,
      c.is_confidential.ensures,
      a.named.number,
      a.read.method.value,
    )

pub returns : goal.returns
unfolding is_bad_challenge
returns c =
    let read = c.args.self.now.read in
    rw (
      ← read.challenge.value,
      ← c.is_missing.ensures,
      c.if-is_missing.false,
      ← c.challenge_given-given.ensures,
      c.is_none.ensures,
      not-not c.is_none.result,
      c.is_once.ensures,
      read.method.value,
    )
