-- The form is well formed as one text where each piece is.
use Rattle.std.proofs.Common.{◌≡◌, Some, refl, sym, ◌∙◌, ap, arith}
use lib.Dec.{leb-zero}
use Rattle.form.specs.Content.{pieces}
use Rattle.form.specs.Places.{all_unseen, places_of}
use Rattle.form.proofs.Pieces.{pieces-well}
use Rattle.form.proofs.Steps.{Told, step-tells}
use Rattle.form.proofs.Entering.{enter-end, enter_step}
use Rattle.form.proofs.Places.{read-malformed, read-well-formed, says_of}
use Rattle.form.proofs.read.Goals as goal
use Rattle.form.proofs.read.Goals.{In-Some}

pub returns-then-not-well_formed : goal.returns-then-not-well_formed
returns-then-not-well_formed c =
    let a = c.args in
    let malformed = pieces-well a.s.now ∙ sym c.well_formed-2.ensures ∙ c.if-not-well_formed.true in
    let e = sym (read-malformed a.names.now a.s.now malformed) in
    record { positions = e; content = says_of a.names.now a.s.now _ e }

pub loop-p-init : goal.loop-p-init
unfolding places_of all_unseen
loop-p-init c = rw (c.new-c.ensures, leb-zero) (omega arith, refl)

-- the step gave the first of the pieces that remain
told : (c : In-Some) → Told c.args.s.now c.loop-p.c.at c.in-Some.p c.in-Some.moved
told c = step-tells c.args.s.now c.loop-p.c.at _ (sym c.in-Some.is ∙ c.next.ensures)

pub enter_piece-next-requires : goal.enter_piece-next-requires
enter_piece-next-requires c = let t = told (goal.at.enter_piece-next-requires c).In-Some in (t.forward, t.within)

pub loop-p-smaller : goal.loop-p-smaller
loop-p-smaller c = let t = told (goal.at.loop-p-smaller c).In-Some in omega arith

pub loop-p-preserved : goal.loop-p-preserved
loop-p-preserved c =
    let a = c.args in
    let l = c.loop-p in
    let t = told (goal.at.loop-p-preserved c).In-Some in
    (omega arith, rw c.enter_piece-next.ensures (enter_step (pieces a.names.now) l.places a.s.now l.c.at c.in-Some.p c.in-Some.moved t ∙ l.invariant.1))

pub returns : goal.returns
returns c =
    let a = c.args in
    let l = c.loop-p in
    let formed = pieces-well a.s.now ∙ sym c.well_formed-2.ensures ∙ c.if-not-well_formed.false in
    let past = step-tells a.s.now l.c.at _ (sym c.in_default.is ∙ c.next.ensures) in
    let done : l.places ≡ places_of (pieces a.names.now) a.s.now = sym (enter-end (pieces a.names.now) l.places a.s.now l.c.at past) ∙ l.invariant.1 in
    let e = ap Some done ∙ sym (read-well-formed a.names.now a.s.now formed) in
    record { positions = e; content = says_of a.names.now a.s.now _ e }
