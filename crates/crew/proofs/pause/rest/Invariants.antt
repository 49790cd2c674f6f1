use Rattle.std.proofs.Common.{◌≡◌}
use Rattle.crew.proofs.pause.rest.Given as goal

abbrev pub invariant-loop-left : goal.invariant-loop-left
invariant-loop-left g l =
    (g.C.Clock.moments l.clock ≡ g.C.Clock.moments l.initial.clock) × (g.H.Halt.yes l.halt ≡ g.H.Halt.yes l.initial.halt)

abbrev pub decreases-loop-left : goal.decreases-loop-left
decreases-loop-left g l = l.left
