use Rattle.std.proofs.Common.{◌≡◌, ◌≤◌, ◌-◌, length}
use Rattle.std.specs.List.{sum_by}
use Rattle.event_core.specs.Content as content
use Rattle.channel_face.specs.Faces.{Gains}
use Rattle.sink_runner.specs.Turns.{HadRoom, AreTaken}
use Rattle.sink_runner.proofs.take.take_events.Given as goal

abbrev pub invariant-loop-from : goal.invariant-loop-from
invariant-loop-from g l = record {
  seen : g.T.Face.seen l.initial.from ≤ g.T.Face.seen l.from;
  kept : g.T.Face.kept l.initial.from l.from;
  same : l.txn ≡ l.initial.txn;
  size : l.size ≡ sum_by content.size l.taken;
  had : HadRoom l.most l.taken;
  calls : Gains (g.T.Face.own l.initial.from) (g.T.Face.own l.from) (λ earlier. AreTaken (g.T.Face.seen l.from) l.initial.txn l.taken);
}

abbrev pub decreases-loop-from : goal.decreases-loop-from
decreases-loop-from g l = l.most - length l.taken
