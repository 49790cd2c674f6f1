use Rattle.std.proofs.Common.{◌≡◌, take}
use Rattle.txn_core.proofs.opened.copy_events.Given as goal

abbrev pub invariant-loop-at : goal.invariant-loop-at
invariant-loop-at l = l.copy.items ≡ take l.at l.events.items
