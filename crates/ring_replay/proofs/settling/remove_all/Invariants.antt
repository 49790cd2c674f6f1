use Rattle.std.proofs.Common.{◌≡◌, take}
use Rattle.ring_replay.specs.Indexing.{lacking}
use Rattle.ring_replay.proofs.settling.remove_all.Given as goal

abbrev pub invariant-loop-place : goal.invariant-loop-place
invariant-loop-place l = l.ring ≡ record l.fn.ring { live = lacking (take l.place l.numbers) l.fn.ring.live }
