use Rattle.std.proofs.Common.{◌≡◌, ◌++◌, replicate}
use Rattle.agent_outside.proofs.places.add_places.Given as goal

abbrev pub invariant-loop-turn : goal.invariant-loop-turn
invariant-loop-turn l = l.found.items ≡ l.fn.found.items ++ replicate l._turn l.place
