use Rattle.std.proofs.Common.{take}
use Rattle.ring_replay.specs.Indexing.{IsAppended}
use Rattle.ring_replay.proofs.settling.append.Given as goal

abbrev pub invariant-loop-place : goal.invariant-loop-place
invariant-loop-place l = IsAppended l.first (take l.place l.pointers) l.fn.ring l.ring
