use Rattle.std.proofs.Common.{◌≡◌, ◌^◌, ◌-◌, min, take}
use Rattle.std.specs.List.{sum_by}
use Rattle.sink_groups.proofs.run.GroupRun.faults.Given as goal

abbrev pub invariant-loop-member : goal.invariant-loop-member
invariant-loop-member g l = l.sum ≡ min (sum_by g.S.EventSink.faults (take l.member-index l.self.members.items)) (2 ^ 64 - 1)
