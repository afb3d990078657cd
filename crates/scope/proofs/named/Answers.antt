-- The place of the text in the table gives its set; a text that has none is no name.
use Rattle.std.proofs.Common.{◌≡◌, ◌*◌, ◌^◌, ◌%◌, ◌<◌, Some, arith, sym, ◌∙◌, ap}
use native.Mathlib.Nat.{one-mul}
use lib.Dec.{lit<}
use lib.Pow.{shl_exact}
use Rattle.scope.specs.Set.{of_byte}
use Rattle.scope.specs.Value.{set_named}
use Rattle.scope.proofs.Names.{named-at, named-none}
use Rattle.scope.proofs.named.Goals as goal
use Rattle.scope.proofs.named.Goals.{In_ok-k}

found : (c : In_ok-k) → (c.in_ok-k.k < 8) × (set_named c.args.text.now ≡ Some (of_byte (2 ^ c.in_ok-k.k)))
found c = named-at c.args.text.now c.in_ok-k.k (sym c.place_of.ensures ∙ c.in_ok-k.was)

pub returns-in_err-k : goal.returns-in_err-k
returns-in_err-k c = c.from_residual.ensures ∙ sym (named-none c.args.text.now (sym c.place_of.ensures ∙ c.in_err-k.was))

pub overflow_cast-k : goal.overflow_cast-k
overflow_cast-k c = omega (arith, (found (goal.at.overflow_cast-k c).In_ok-k).0)

pub overflow_shl-k : goal.overflow_shl-k
overflow_shl-k c = (found (goal.at.overflow_shl-k c).In_ok-k).0

pub returns : goal.returns
returns c =
    let k = c.in_ok-k.k in
    let f = found (goal.at.returns c).In_ok-k in
    let e : 1 * 2 ^ k % 256 ≡ 2 ^ k = shl_exact 1 k 8 (lit< tt) (omega (arith, f.0)) ∙ one-mul (2 ^ k) in
    ap Some (c.from_byte.ensures ∙ ap of_byte e) ∙ sym f.1
