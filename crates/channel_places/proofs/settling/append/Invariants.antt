use Rattle.std.proofs.Common.{◌+◌, drop}
use Rattle.channel_places.proofs.Batches.{IsPart}
use Rattle.channel_places.proofs.settling.append.Given as goal

abbrev pub invariant-loop-place : goal.invariant-loop-place
invariant-loop-place l = IsPart l.first l.pointers l.fn.ring (l.first + l.place) (drop l.place l.pointers) l.ring
