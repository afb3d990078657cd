-- Of kind 0 all bytes are to be zero; of any other kind the tests are the definition's, of the fields that lie there.
use Rattle.std.proofs.Common.{rules, sym, ◌∙◌}
use Rattle.token_store.proofs.Fits.{fit-zero, fit-in-use-bytes}
use Rattle.token_store.proofs.fitness.fit_slot.Goals as goal

pub returns-then-kind-eq-KIND_FREE : goal.returns-then-kind-eq-KIND_FREE
returns-then-kind-eq-KIND_FREE c =
    c.all_zero.ensures
    ∙ fit-zero c.args.slot.now (search rules) c.args.clients (search rules) (sym c.kind_of-kind.ensures ∙ c.if-kind-eq-KIND_FREE.true)

pub returns : goal.returns
returns c =
    let used = rw c.kind_of-kind.ensures at c.if-kind-eq-KIND_FREE.false in
    rw (c.kind_of-kind.ensures, c.fit_link.ensures) (fit-in-use-bytes c.args.slot.now (search rules) c.args.clients used)
