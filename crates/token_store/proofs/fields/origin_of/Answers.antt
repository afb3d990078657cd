-- The origin stands first in the link.
use Rattle.std.proofs.Common.{rules, sym, ap, ◌∙◌, arith}
use lib.Seq.{take-take}
use Rattle.token_store.specs.Layout.{handle_size, link_size}
use Rattle.token_store.specs.Store.{origin_of}
use Rattle.token_store.proofs.Slots.{slot-in}
use Rattle.token_store.proofs.fields.origin_of.Goals as goal

pub returns : goal.returns
returns c =
    sym (ap origin_of (slot-in c.args.slot.now (search rules)) ∙ take-take handle_size link_size _ (omega arith))
