use Rattle.std.proofs.Common.{◌≡◌, take}
use Rattle.event_core.proofs.journal.Batch.copy.Given as goal

abbrev pub invariant-loop-at : goal.invariant-loop-at
invariant-loop-at l = l.events.items ≡ take l.at l.self
