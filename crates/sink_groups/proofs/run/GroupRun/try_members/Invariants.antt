use Rattle.std.proofs.Common.{◌≡◌, ◌≤◌, ◌++◌, List, ℕ, length}
use Rattle.std.specs.List.{sum_by}
use Rattle.sink_groups.specs.Deliveries.{AreRefused, all_failed}
use Rattle.sink_groups.proofs.run.GroupRun.try_members.Given as goal

abbrev pub invariant-loop-member : goal.invariant-loop-member
invariant-loop-member g l = record {
  front : List ℕ;
  split : l.initial.self.schedule.due ≡ front ++ l.self.schedule.due;
  refused : AreRefused g.S.EventSink.delivers l.batch l.now front l.initial.self.members.items l.self.members.items;
  group : l.self.schedule ≡ record (all_failed l.initial.self.schedule front l.now) { due = l.self.schedule.due };
  later : sum_by g.S.EventSink.faults l.initial.self.members.items ≤ sum_by g.S.EventSink.faults l.self.members.items;
}

abbrev pub decreases-loop-member : goal.decreases-loop-member
decreases-loop-member g l = length l.self.schedule.due
