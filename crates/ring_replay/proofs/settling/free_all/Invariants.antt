use Rattle.std.proofs.Common.{◌≡◌, take}
use Rattle.ring_replay.specs.Indexing.{freed}
use Rattle.ring_replay.proofs.settling.free_all.Given as goal

abbrev pub invariant-loop-place : goal.invariant-loop-place
invariant-loop-place l = l.ring ≡ record l.fn.ring { live = freed (take l.place l.numbers) l.fn.ring.live }
