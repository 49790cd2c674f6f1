use Rattle.std.proofs.Common.{◌≡◌, take}
use Rattle.agent_outside.specs.Ends.{places}
use Rattle.agent_outside.proofs.places.listening_places.Given as goal

abbrev pub invariant-loop-place : goal.invariant-loop-place
invariant-loop-place l = l.found.items ≡ places 0 (take l.place l.sources)
