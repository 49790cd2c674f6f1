use Rattle.std.proofs.Common.{◌≡◌, ◌≤◌, ◌+◌, ◌++◌, take, vec_len, vec_capacity}
use Rattle.std.specs.List.{filter}
use Rattle.sink_groups.specs.Scheduler.{is_due}
use Rattle.sink_groups.proofs.schedule.add_due.Given as goal

abbrev pub invariant-loop-member : goal.invariant-loop-member
invariant-loop-member l = record {
  added : l.order.items ≡ l.initial.order.items ++ filter (is_due l.members l.now) (take l.member-index l.ranked);
  few : vec_len l.order ≤ vec_len l.initial.order + l.member-index;
  room : vec_capacity l.order ≡ vec_capacity l.initial.order;
}
