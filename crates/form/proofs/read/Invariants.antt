-- To enter the pieces that remain at the cursor into the places so far gives the places of the whole form.
use Rattle.std.proofs.Common.{◌≡◌, ◌+◌, ◌-◌, ◌≤◌, length}
use Rattle.octets.proofs.Pieces.{remaining}
use Rattle.form.specs.Content.{pieces}
use Rattle.form.specs.Places.{enter_all, places_of}
use Rattle.form.proofs.read.Given as goal

abbrev pub invariant-loop-p : goal.invariant-loop-p
invariant-loop-p l =
    (l.c.at ≤ length l.s + 1) × (enter_all (pieces l.names) l.places l.c.at (remaining 38 l.s l.c.at) ≡ places_of (pieces l.names) l.s)

abbrev pub decreases-loop-p : goal.decreases-loop-p
decreases-loop-p l = length l.s + 1 - l.c.at
