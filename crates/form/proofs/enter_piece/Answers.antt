-- Each return is one case of `enter`: the value is empty, the name is unknown or past the places, or the value is entered.
use Rattle.std.proofs.Common.{◌≡◌, ℕ, ◌+◌, ◌-◌, ◌<◌, length, take, sym, ◌∙◌, arith}
use Rattle.std.specs.Prelude.{Option, Some, None}
use Rattle.octets.specs.Lists.{part}
use Rattle.form_coding.specs.Coding.{decode}
use Rattle.form.specs.Content.{pieces}
use Rattle.form.specs.Places.{rank, enter, enter_at}
use Rattle.form.proofs.Entering.{Entered, entered, known-at, past-places}
use Rattle.form.proofs.enter_piece.Goals as goal
use Rattle.form.proofs.enter_piece.Goals.{After-index_of-n}

-- the piece's cases, once its first = is found
cases : (c : After-index_of-n)
    → let a = c.args in
    Entered (pieces a.names.now) a.places a.p.start a.p.end c.index_of-n.result (part a.s.now a.p.start (a.p.end - a.p.start))
cases c =
    let a = c.args in
    entered (pieces a.names.now) a.places a.s.now a.p.start a.p.end c.index_of-n.result c.requires c.index_of-n.ensures

pub overflow_add-n : goal.overflow_add-n
overflow_add-n c = let h = cases (goal.at.overflow_add-n c).After-index_of-n in omega (arith, h.within)

pub returns-then-piece-n : goal.returns-then-piece-n
returns-then-piece-n c = sym ((cases (goal.at.returns-then-piece-n c).After-index_of-n).empty c.if-piece-n.true)

-- the value is entered where its name stands, if it is known
full : (c : After-index_of-n)
    → let a = c.args in
    let p = part a.s.now a.p.start (a.p.end - a.p.start) in
    c.index_of-n.result + 1 < length p → (r : Option ℕ) → rank (decode (take c.index_of-n.result p)) (pieces a.names.now) ≡ r
    → enter (pieces a.names.now) a.places a.p.start p ≡ enter_at r a.places (a.p.start + c.index_of-n.result + 1) a.p.end
full c h r e = rw (← e) ((cases c).full h)

pub returns-in_default : goal.returns-in_default
unfolding enter_at
returns-in_default c =
    sym (full (goal.at.returns-in_default c).After-index_of-n c.if-piece-n.false None (sym c.known.ensures ∙ c.in_default.is))

pub returns-then-k-ge-PLACES : goal.returns-then-k-ge-PLACES
returns-then-k-ge-PLACES c =
    let e = full (goal.at.returns-then-k-ge-PLACES c).After-index_of-n c.if-piece-n.false (Some c.in-Some.k) (sym c.known.ensures ∙ c.in-Some.is) in
    sym (e ∙ past-places c.in-Some.k c.args.places _ c.args.p.end c.if-k-ge-PLACES.true)

pub returns : goal.returns
returns c =
    let e = full (goal.at.returns c).After-index_of-n c.if-piece-n.false (Some c.in-Some.k) (sym c.known.ensures ∙ c.in-Some.is) in
    rw c.seen_again.ensures (sym (e ∙ known-at c.in-Some.k c.args.places _ c.args.p.end c.if-k-ge-PLACES.false))
