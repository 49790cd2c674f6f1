use Rattle.channel_replay.specs.Open.{NoneBefore}
use Rattle.channel_replay.proofs.open.place_of.Given as goal

abbrev pub invariant-loop-place : goal.invariant-loop-place
invariant-loop-place l = NoneBefore l.opened l.txn l.place
