-- Of a token the bytes behind the origin are to be zero; of any other kind but a code with a challenge all of them.
use Rattle.std.proofs.Common.{rules, sym, ◌∙◌}
use Rattle.token_store.proofs.Fits.{fit-link-token, fit-link-other}
use Rattle.token_store.proofs.fitness.fit_link.Goals as goal

pub returns-then-is_token_kind : goal.returns-then-is_token_kind
returns-then-is_token_kind c =
    let token = rw c.kind_of-kind.ensures at (sym c.is_token_kind.ensures ∙ c.if-is_token_kind.true) in
    c.all_zero.ensures ∙ fit-link-token c.args.slot.now (search rules) token

pub returns : goal.returns
returns c =
    let other = rw c.kind_of-kind.ensures at (sym c.is_token_kind.ensures ∙ c.if-is_token_kind.false) in
    rw (c.is_challenged_kind.ensures, c.kind_of-kind.ensures, c.all_zero-2.ensures) (fit-link-other c.args.slot.now (search rules) other)
