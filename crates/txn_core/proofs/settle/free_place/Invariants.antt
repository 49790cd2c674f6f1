use Rattle.std.proofs.Common.{take}
use Rattle.channel_face.specs.Machine.{entries}
use Rattle.txn_core.specs.Sound.{AreHeld}
use Rattle.txn_core.proofs.settle.free_place.Given as goal

abbrev pub invariant-loop-place : goal.invariant-loop-place
invariant-loop-place l = AreHeld l.opened (entries l.staged) (take l.place l.items)
