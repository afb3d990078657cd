-- The handle is copied to the front of zeros.
use Rattle.std.proofs.Common.{rules, arith, ◌≡◌, ◌∙◌, length, replicate, refl}
use lib.Seq.{sets-eq}
use Rattle.token_store.specs.Layout.{handle_size, link_size}
use Rattle.token_store.proofs.fields.link_to.Goals as goal

pub returns : goal.returns
returns c =
    let size : length c.args.origin ≡ handle_size = search rules in
    c.copy_at.ensures ∙ sets-eq c.args.origin (replicate link_size 0) 0 (omega (arith, size)) ∙ rw size refl
