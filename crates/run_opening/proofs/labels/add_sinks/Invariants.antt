use Rattle.std.proofs.Common.{◌≡◌, ◌++◌, map, take}
use Rattle.run_opening.specs.Labels.{sink_user, user_of}
use Rattle.run_opening.proofs.labels.add_sinks.Given as goal

abbrev pub invariant-loop-sink : goal.invariant-loop-sink
invariant-loop-sink l = map user_of l.users.items ≡ map user_of l.fn.users.items ++ map sink_user (take l.sink-index l.sinks)
