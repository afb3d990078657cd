-- What stands between is chosen by whether the address holds a `?`.
use Rattle.std.proofs.Common.{◌≡◌, ◌∙◌, sym}
use lib.Dec.{eqb}
use Rattle.octets.specs.Search.{any}
use Rattle.octets.proofs.Searches.{any-list}
use Rattle.octets.proofs.Writing.{append-both}
use Rattle.protocol.specs.Authorization.{separator}
use Rattle.authorization_location.proofs.write_redirect.Goals as goal
use Rattle.authorization_location.proofs.write_redirect.Goals.{then-contains, else-contains}

pub returns : goal.returns
unfolding separator
returns c =
    let holds : any (λ b. eqb b 63) c.args.redirect.now ≡ c.contains.result = sym (c.contains.ensures.value ∙ any-list (λ b. eqb b 63) c.args.redirect.now) in
    elim c.if-contains.branch [
      | then-contains w ↦ rw (holds, w.if-contains.true) (append-both c.append-end.ensures (rw w.between-is at c.append.ensures))
      | else-contains w ↦ rw (holds, w.if-contains.false) (append-both c.append-end.ensures (rw w.between-is at c.append.ensures))
    ]
