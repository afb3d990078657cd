-- A query that is too long or malformed is refused; in any other the names stand at their places.
use Rattle.std.proofs.Common.{◌≡◌, Some, None, refl, arith}
use Rattle.std.proofs.lemmas.Result.{err_from_is_err_and}
use Rattle.protocol.specs.declared.PageCause.TheVariants.{Query}
use Rattle.octets.specs.Text.{bytes}
use Rattle.octets.specs.Lists.{every, same, split_on, grow}
use Rattle.form.specs.Places.{Known, distinct}
use Rattle.authorization_query.specs.Reading.{known_names}
use Rattle.authorization_query.proofs.Reasons.{too_long, malformed}
use Rattle.authorization_query.proofs.find_names.Goals as goal

known : Known (bytes "response_type&client_id&redirect_uri&scope&state&code_challenge&code_challenge_method") known_names
unfolding distinct every same split_on grow
known = record { parted = refl; apart = refl; few = refl }

pub returns-then-long : goal.returns-then-long
returns-then-long c = (refl, too_long c.args.query.now c.if-long.true)

pub returns-in_err-places : goal.returns-in_err-places
returns-in_err-places c =
    let none : c.read.result ≡ None = grind arith in
    let refused = err_from_is_err_and c.from_residual.result c.from_residual.ensures.1 in
    let cause : c.in_err-places.field-0.0 ≡ Query = (let said = rw none at c.in_err-places.ensures.value in cc) in
    rw (refused.1, refused.2) (cause, malformed c.args.query.now (c.read.ensures.content.malformed none))

pub names_at-requires : goal.names_at-requires
names_at-requires c =
    let some : c.read.result ≡ Some c.in_ok-places.places = grind arith in
    (omega arith, c.read.ensures.content.stands _ some known_names known)
