use Rattle.std.proofs.Common.{◌≡◌, drop}
use Rattle.event_core.specs.Journal.{is_among}
use Rattle.selectors.proofs.choice.is_among.Given as goal

abbrev pub invariant-loop-i : goal.invariant-loop-i
invariant-loop-i l = is_among l.places l.place ≡ is_among (drop l.i l.places) l.place
